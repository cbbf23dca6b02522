-- The answer of a data field has line 0, also if it is a refusal. Assumes nothing.
use Prim.Native.Nat.{ℕ}
use mathlib.Core.Path.{◌≡◌, refl}
use mathlib.Core.List.{List}
use lib.ListN.{length}
use lib.Dec.{leb}
use Rattle.units.specs.declared.Dialect.{Dialect}
use Rattle.text.proofs.Laws.{pick_case}
use Rattle.value.specs.Places.{Memory}
use Rattle.evaluation.specs.Evaluation.{Evaluation, value, refused, line_of as line_of_evaluation, evaluation}
use Rattle.answers.proofs.LineZero.{without_line as expression-without-line}
use Rattle.datum.specs.Encoding.{Encoding, unfit, bytes, Field, fitted}
use Rattle.field.specs.Fields.{encoding, written, field_of, line_of}

abbrev LineZero : Field → Type 0
LineZero f = line_of f.answer ≡ 0

fitted_so : (x : Encoding) (b : List ℕ) → LineZero (fitted x b)
unfolding fitted
fitted_so (unfit n) b = refl
fitted_so (bytes s) b = pick_case LineZero (leb (length s) (length b)) (λ _. refl) (λ _. refl)

written_so : (x : Evaluation) → line_of_evaluation x ≡ 0 → (d : ℕ) (b : List ℕ) → LineZero (written x d b)
written_so (refused r) h d b = h
written_so (value v n) h d b = fitted_so (encoding d v) b

pub without_line : (m : Memory) (datum : ℕ) (buffer : List ℕ) (δ : Dialect) → line_of (field_of m datum buffer δ).answer ≡ 0
unfolding field_of
without_line m d b δ = written_so (evaluation m δ) (expression-without-line m δ) d b
