-- A refusal of a data field that has no place, which is none of 3 to 12, has offset 0 (document 02, order 3). Assumes nothing.
use Rattle.std.specs.Prelude.{Err, Ok, Result}
use Prim.Native.Nat.{ℕ}
use mathlib.Core.Path.{◌≡◌, refl}
use mathlib.Core.Bool.{false}
use mathlib.Core.List.{List}
use lib.ListN.{length}
use lib.Dec.{leb}
use Rattle.units.specs.Refusals.{placed}
use Rattle.units.specs.declared.Dialect.{Dialect}
use Rattle.units.specs.declared.Refusal.{Refusal}
use Rattle.text.proofs.Laws.{pick_case}
use Rattle.value.specs.Places.{Memory}
use Rattle.evaluation.specs.Evaluation.{Evaluation, value, refused, evaluation}
use Rattle.answers.proofs.Unplaced.{offset_zero}
use Rattle.datum.specs.Encoding.{Encoding, unfit, bytes, Field, fitted}
use Rattle.field.specs.Fields.{encoding, written, field_of}

abbrev Zero : Result ℕ Refusal → Type 0
Zero (Ok n) = Unit
Zero (Err r) = placed r.reason ≡ false → r.offset.0 ≡ 0

fitted_zero : (x : Encoding) (b : List ℕ) → Zero (fitted x b).answer
unfolding fitted
fitted_zero (unfit n) b = λ _. refl
fitted_zero (bytes s) b = pick_case (λ (f : Field). Zero f.answer) (leb (length s) (length b)) (λ _. tt) (λ _ _. refl)

written_zero : (x : Evaluation) → ((r : Refusal) → x ≡ refused r → placed r.reason ≡ false → r.offset.0 ≡ 0)
    → (d : ℕ) (b : List ℕ) → Zero (written x d b).answer
written_zero (refused r) h d b = h r refl
written_zero (value v n) h d b = fitted_zero (encoding d v) b

pub field_unplaced : (m : Memory) (datum : ℕ) (buffer : List ℕ) (δ : Dialect) (r : Refusal)
    → (field_of m datum buffer δ).answer ≡ Err r → placed r.reason ≡ false → r.offset.0 ≡ 0
unfolding field_of
field_unplaced m d b δ r e = rw e at (written_zero (evaluation m δ) (offset_zero m δ) d b)
