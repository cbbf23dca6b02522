-- The count of operators of a DEFINE line is below 200, the largest number of tokens in an expression. Assumes nothing.
use Prim.Native.Nat.{ℕ, ◌<◌}
use native.Mathlib.Omega.{arith}
use mathlib.Core.Path.{◌≡◌, refl}
use mathlib.Core.Bool.{◌||◌}
use mathlib.Core.List.{List}
use lib.ListN.{length}
use lib.Dec.{ltb, leb}
use Rattle.std.specs.Prelude.{Ok}
use Rattle.units.specs.Dialects.{by_itself}
use Rattle.units.specs.declared.Dialect.{Dialect}
use Rattle.text.proofs.Laws.{pick_case}
use Rattle.own.specs.Own.{Own, scope, has, MAX_OWN}
use Rattle.token.proofs.Reading.{most_tokens}
use Rattle.value.specs.Places.{Memory, over}
use Rattle.value.specs.Values.{Value, number, text, fault}
use Rattle.evaluation.specs.Evaluation.{Evaluation, value, refused, evaluation_in}
use Rattle.evaluation.proofs.FromTree.{counted}
use Rattle.define.specs.Define.{MAX_CONTENT, shaped, macro_of, expression_start, expression_of, Definition, sets, fails, limited, of_number, of_text}
use Rattle.define.specs.Define.{of_answer, definition_of}
use Rattle.define.specs.Settling.{Does}
use Rattle.define.specs.declared.Defined.{Defined}

abbrev pub Small : Definition → Type 0
Small (sets x k) = k < 200
Small (fails f) = Unit

limited_small : (own : List Own) (x : Own) (k : ℕ) → k < 200 → Small (limited own x k)
limited_small own x k h = pick_case Small (has x.name own || ltb (length own) MAX_OWN) (λ _. h) (λ _. tt)

of_answer_lem : (own : List Own) (n : List ℕ) (p : ℕ) (x : Evaluation) → ((v : Value) (k : ℕ) → x ≡ value v k → k < 200) → Small (of_answer own n p x)
unfolding of_answer
of_answer_lem own n p (value (number x) k) h = limited_small own (of_number n x) k (h (number x) k refl)
of_answer_lem own n p (value (text j q s) k) h =
    pick_case Small (leb (length s) MAX_CONTENT) (λ _. limited_small own (of_text n j s) k (h (text j q s) k refl)) (λ _. tt)
of_answer_lem own n p (value (fault f) k) h = tt
of_answer_lem own n p (refused r) h = tt

pub definition_small : (own : List Own) (t l : List ℕ) (δ : Dialect) → Small (definition_of own t l δ)
unfolding definition_of
definition_small own t l δ =
    let m : Memory = over (expression_of l) (scope own t) in
    let ε : Dialect = by_itself δ.old in
    pick_case Small (shaped l)
    (λ _. of_answer_lem own (macro_of l) (expression_start l) (evaluation_in m ε)
    (λ v k e. omega (arith, counted m ε v k e, most_tokens (expression_of l) ε)))
    (λ _. tt)

-- what the code does with a line applies few operators
pub does_few : (d : Definition) (o : List Own) (b : List ℕ) (z : Defined) → Small d → Does d o b (Ok z) → z.count < 200
does_few (sets y j) o b z i k = omega (arith, i, k.0)
does_few (fails e) o b z i k = absurd k
