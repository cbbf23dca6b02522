pub mod UnderName
pub mod Put
pub mod Pcds
pub mod Contents
pub mod Settled
pub mod RecordWellFormed
