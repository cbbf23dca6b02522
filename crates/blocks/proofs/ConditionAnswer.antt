-- The condition in the text of `!if` and `!elseif` is the answer to that text, in which bars are free. Assumes nothing.
use Prim.Native.Nat.{ℕ}
use mathlib.Core.Path.{◌≡◌, ◌∙◌}
use mathlib.Core.Logic.{◌⊎◌, inl, inr}
use mathlib.Core.Bool.{true, false}
use mathlib.Core.List.{List}
use Rattle.std.specs.Prelude.{Err}
use Rattle.units.specs.Refusals.{unplaced}
use Rattle.units.specs.Dialects.{in_directives}
use Rattle.units.specs.declared.Dialect.{Dialect}
use Rattle.units.specs.declared.Reason.TheVariants.{TextMalformed}
use Rattle.value.specs.Places.{over}
use Rattle.evaluation.specs.Evaluation.{evaluation_in}
use Rattle.line.specs.declared.Directive.{Directive}
use Rattle.line.specs.declared.Directive.TheVariants.{If, Elseif}
use Rattle.condition.specs.Conditions.{spaced, of_answer, of_expression, evaluate}

module _ (t : List ℕ) (d : Directive) (s : List ℕ) (δ : Dialect) (conditional : (d ≡ If) ⊎ (d ≡ Elseif)) where
  by_expression : (d ≡ If) ⊎ (d ≡ Elseif) → evaluate t d s δ ≡ of_expression t s δ
  unfolding evaluate
  by_expression (inl e) = rw e
  by_expression (inr e) = rw e

  pub condition_answer : spaced s ≡ true → evaluate t d s δ ≡ of_answer (evaluation_in (over s t) (in_directives δ))
  unfolding of_expression
  condition_answer h = by_expression conditional ∙ rw h

  pub unspaced : spaced s ≡ false → evaluate t d s δ ≡ Err (unplaced TextMalformed)
  unfolding of_expression
  unspaced h = by_expression conditional ∙ rw h
