pub mod KindSound
pub mod Results
pub mod ErasePlaces
pub mod Named
pub mod PlacesWithin
