-- Equal faults have the same reason. Assumes nothing.
use mathlib.Core.Path.{◌≡◌, ap}
use Rattle.units.specs.declared.Fault.{Fault}

pub same_reason : {a b : Fault} → a ≡ b → a.reason ≡ b.reason
same_reason e = ap (λ (x : Fault). x.reason) e
