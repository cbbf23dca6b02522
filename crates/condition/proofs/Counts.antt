-- The count of operators of a condition is below 200, the largest number of tokens in an expression. Assumes nothing.
use Prim.Native.Nat.{ℕ, ◌<◌}
use native.Mathlib.Omega.{arith}
use mathlib.Core.Path.{◌≡◌, refl}
use mathlib.Core.Bool.{Bool, true, false, not}
use mathlib.Core.List.{List}
use lib.Dec.{eqb}
use lib.ListN.{drop}
use Rattle.std.specs.Prelude.{Result}
use Rattle.units.specs.Dialects.{in_directives}
use Rattle.units.specs.declared.Dialect.{Dialect}
use Rattle.units.specs.declared.Fault.{Fault}
use Rattle.text.specs.Bytes.{pick}
use Rattle.text.specs.Runs.{span}
use Rattle.text.specs.declared.runs.Set.TheVariants.{Blanks}
use Rattle.text.proofs.Laws.{pick_case}
use Rattle.token.proofs.Reading.{most_tokens}
use Rattle.value.specs.Places.{over}
use Rattle.value.specs.Values.{Value, number, text, fault}
use Rattle.evaluation.specs.Evaluation.{Evaluation, value, refused, evaluation_in}
use Rattle.evaluation.proofs.FromTree.{counted}
use Rattle.line.specs.declared.Directive.{Directive}
use Rattle.line.specs.declared.Directive.TheVariants.{Plain, If, Ifdef, Ifndef, Elseif, Else, Endif, Unknown}
use Rattle.line.specs.declared.Condition.{Condition}
use Rattle.condition.specs.Conditions.{count_of, spaced, idle, of_answer, of_expression, name_at, tested, alone, present, of_named, of_macro, evaluate}
use Rattle.condition.specs.declared.macros.Named.{Named}

abbrev Small : Result Condition Fault → Type 0
Small c = count_of c < 200

-- an answer whose count is small
of_answer_lem : (x : Evaluation) → ((v : Value) (n : ℕ) → x ≡ value v n → n < 200) → Small (of_answer x)
unfolding of_answer
of_answer_lem (value (number x) n) h =
    pick_case Small (eqb x 1) (λ _. h (number x) n refl)
    (λ _. pick_case Small (eqb x 0) (λ _. h (number x) n refl) (λ _. omega arith))
of_answer_lem (value (text k p s) n) h = omega arith
of_answer_lem (value (fault r) n) h = omega arith
of_answer_lem (refused r) h = omega arith

module _ (t s : List ℕ) (δ : Dialect) where
  answered : (ε : Dialect) (v : Value) (n : ℕ) → evaluation_in (over s t) ε ≡ value v n → n < 200
  answered ε v n e = omega (arith, counted (over s t) ε v n e, most_tokens s ε)

  expression_small : Small (of_expression t s δ)
  unfolding of_expression
  expression_small =
      let free = in_directives δ in
      pick_case Small (spaced s) (λ _. of_answer_lem (evaluation_in (over s t) free) (answered free)) (λ _. omega arith)

tested_small : (b : Bool) → Small (tested b)
tested_small b = pick_case Small b (λ _. omega arith) (λ _. omega arith)

named_small : (t : List ℕ) (wanted : Bool) (s : List ℕ) (n : Named) → Small (of_named t wanted s n)
unfolding of_named
named_small t wanted s n =
    pick_case Small (alone s n) (λ _. tested_small (pick wanted (present t s n) (not (present t s n)))) (λ _. omega arith)

name_small : (t : List ℕ) (wanted : Bool) (s : List ℕ) (δ : Dialect) → Small (of_macro t wanted s δ)
unfolding of_macro
name_small t wanted s δ =
    let m : List ℕ = drop (span Blanks s) s in
    pick_case Small (spaced s) (λ _. named_small t wanted m (name_at m δ)) (λ _. omega arith)

nothing_small : (t s : List ℕ) (δ : Dialect) → Small (evaluate t Else s δ)
unfolding evaluate
nothing_small t s δ = pick_case Small (idle s) (λ _. omega arith) (λ _. omega arith)

pub count_small : (t : List ℕ) (d : Directive) (s : List ℕ) (δ : Dialect) → count_of (evaluate t d s δ) < 200
unfolding evaluate
count_small t If s δ = expression_small t s δ
count_small t Elseif s δ = expression_small t s δ
count_small t Ifdef s δ = name_small t true s δ
count_small t Ifndef s δ = name_small t false s δ
count_small t Else s δ = nothing_small t s δ
count_small t Endif s δ = nothing_small t s δ
count_small t Plain s δ = omega arith
count_small t Unknown s δ = omega arith
