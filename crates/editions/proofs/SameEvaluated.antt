-- Where the new edition refuses the text after a word neither with 3 nor with 22, both editions make the same condition of it. Assumes nothing.
use Rattle.std.specs.Prelude.{Err, Ok, Result}
use Prim.Native.Nat.{ℕ}
use mathlib.Core.Path.{◌≡◌, refl, ap}
use mathlib.Core.Bool.{Bool, true, false}
use mathlib.Core.List.{List}
use lib.ListN.{drop}
use Rattle.units.specs.Dialects.{in_new, in_old}
use Rattle.units.specs.declared.Dialect.{Dialect}
use Rattle.units.specs.declared.Fault.{Fault}
use Rattle.text.specs.Runs.{span}
use Rattle.text.specs.declared.runs.Set.TheVariants.{Blanks}
use Rattle.text.proofs.Laws.{pick_both}
use Rattle.line.specs.Directives.{text_start, text_of}
use Rattle.line.specs.declared.Directive.{Directive}
use Rattle.line.specs.declared.Directive.TheVariants.{If, Ifdef, Ifndef, Elseif}
use Rattle.line.specs.declared.Condition.{Condition}
use Rattle.line.specs.declared.Condition.TheVariants.{Holds, Fails}
use Rattle.condition.specs.Conditions.{spaced, of_macro, evaluate, in_line, condition_of}
use Rattle.editions.proofs.SameConditions.{condition_number, Same, same_expression, same_name}

module _ (t : List ℕ) (δ : Dialect) where
  same_macro : (wanted : Bool) (s : List ℕ) → Same (of_macro t wanted s (in_old δ)) (of_macro t wanted s (in_new δ))
  unfolding of_macro
  same_macro wanted s = pick_both Same (spaced s) (λ _. same_name t δ wanted (drop (span Blanks s) s)) (λ _ _. refl)

  same_evaluated : (d : Directive) (s : List ℕ) → Same (evaluate t d s (in_old δ)) (evaluate t d s (in_new δ))
  unfolding evaluate
  same_evaluated If s h = same_expression t δ s h
  same_evaluated Elseif s h = same_expression t δ s h
  same_evaluated Ifdef s h = same_macro true s h
  same_evaluated Ifndef s h = same_macro false s h
  same_evaluated _ s h = refl

  in_line_number : (p : ℕ) (c : Result Condition Fault) → condition_number (in_line p c) ≡ condition_number c
  in_line_number p (Ok (Holds n)) = refl
  in_line_number p (Ok (Fails n)) = refl
  in_line_number p (Err f) = refl

  -- THE THEOREM
  pub same_condition : (d : Directive) (l : List ℕ) → Same (condition_of t d l (in_old δ)) (condition_of t d l (in_new δ))
  same_condition d l h =
      ap (in_line (text_start l)) (same_evaluated d (text_of l) (rw (in_line_number (text_start l) (evaluate t d (text_of l) (in_new δ))) at h))
