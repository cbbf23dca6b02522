-- A refused expression is the answer of a data field, and the buffer stays as it was. Assumes nothing.
use Rattle.std.specs.Prelude.{Err}
use Prim.Native.Nat.{ℕ}
use mathlib.Core.Path.{◌≡◌}
use mathlib.Core.List.{List}
use Rattle.units.specs.declared.Dialect.{Dialect}
use Rattle.units.specs.declared.Refusal.{Refusal}
use Rattle.value.specs.Places.{Memory}
use Rattle.evaluation.specs.Evaluation.{refused, evaluation}
use Rattle.field.specs.Fields.{field_of}

pub refused_field : (m : Memory) (datum : ℕ) (buffer : List ℕ) (δ : Dialect) (r : Refusal) → evaluation m δ ≡ refused r
    → field_of m datum buffer δ ≡ record { answer = Err r; buffer = buffer }
unfolding field_of
refused_field m d b δ r e = rw e
