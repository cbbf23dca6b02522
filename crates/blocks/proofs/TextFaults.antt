-- The text of a directive is refused with 2 to 7, 9 to 12, 13 or 22 only: never with 8, and with none of 17 to 21, the numbers that lines are
-- refused with whatever their text is. Assumes nothing.
use Prim.Native.Nat.{ℕ, ◌≤◌}
use native.Mathlib.Omega.{arith}
use mathlib.Core.Path.{◌≡◌, refl}
use mathlib.Core.Bool.{Bool, true, false, not, ◌||◌, false≢true}
use mathlib.Core.List.{List}
use lib.ListN.{drop}
use lib.Dec.{eqb}
use Rattle.std.specs.Prelude.{Ok, Err, Result}
use Rattle.units.specs.Refusals.{BAR_OUTSIDE, CONDITION_VALUE, TEXT_MALFORMED, reason_number, fault_at, unplaced}
use Rattle.units.specs.Dialects.{in_directives}
use Rattle.units.specs.declared.Dialect.{Dialect}
use Rattle.units.specs.declared.Fault.{Fault}
use Rattle.units.specs.declared.Reason.{Reason}
use Rattle.units.specs.declared.Reason.TheVariants.{BarOutside, TextMalformed}
use Rattle.text.specs.Bytes.{pick}
use Rattle.text.specs.Runs.{span}
use Rattle.text.specs.declared.runs.Set.TheVariants.{Blanks}
use Rattle.text.proofs.Laws.{pick_case}
use Rattle.value.specs.Places.{over}
use Rattle.value.specs.Values.{number, text, fault}
use Rattle.evaluation.specs.Evaluation.{Evaluation, value, refused, evaluation_in}
use Rattle.answers.proofs.RefusalNumbers.{from_expression, InAnswer, in_answer}
use Rattle.line.specs.Directives.{text_start, text_of}
use Rattle.line.specs.declared.Directive.{Directive}
use Rattle.line.specs.declared.Directive.TheVariants.{Plain, If, Ifdef, Ifndef, Elseif, Else, Endif, Unknown}
use Rattle.condition.specs.Conditions.{spaced, idle, of_answer, of_expression, name_at, alone, present, of_named, of_macro, evaluate}
use Rattle.condition.specs.Conditions.{in_line, condition_of}
use Rattle.line.specs.declared.Condition.{Condition}
use Rattle.line.specs.declared.Condition.TheVariants.{Holds, Fails}
use Rattle.condition.specs.declared.macros.Named.{Named}

abbrev pub from_text : ℕ → Bool
from_text r = from_expression r || (eqb r CONDITION_VALUE || eqb r TEXT_MALFORMED)

pub not_of_lines : (r : ℕ) → from_text r ≡ true → 17 ≤ r → r ≤ 21 → ⊥
not_of_lines r h a b = grind arith

pub not_of_bars : (r : ℕ) → from_text r ≡ true → r ≡ BAR_OUTSIDE → ⊥
not_of_bars r h e = let z : from_text BAR_OUTSIDE ≡ true = rw e at h in false≢true z

abbrev pub InCondition : Result Condition Fault → Type 0
InCondition (Ok c) = Unit
InCondition (Err x) = from_text (reason_number x.reason) ≡ true

of_answer_lem : (x : Evaluation) → InAnswer x → InCondition (of_answer x)
unfolding of_answer
of_answer_lem (value (number x) n) h =
    pick_case InCondition (eqb x 1) (λ _. tt) (λ _. pick_case InCondition (eqb x 0) (λ _. tt) (λ _. refl))
of_answer_lem (value (text k p s) n) h = refl
of_answer_lem (value (fault r) n) h = refl
of_answer_lem (refused r) h = rw h

in_expression : (t : List ℕ) (δ : Dialect) (s : List ℕ) → InCondition (of_expression t s δ)
unfolding of_expression
in_expression t δ s =
    pick_case InCondition (spaced s) (λ _. of_answer_lem (evaluation_in (over s t) (in_directives δ)) (in_answer (over s t) δ)) (λ _. refl)

in_named : (t : List ℕ) (wanted : Bool) (s : List ℕ) (n : Named) → InCondition (of_named t wanted s n)
unfolding of_named
in_named t wanted s n =
    pick_case InCondition (alone s n)
    (λ _. pick_case InCondition (pick wanted (present t s n) (not (present t s n))) (λ _. tt) (λ _. tt)) (λ _. refl)

in_name : (t : List ℕ) (δ : Dialect) (wanted : Bool) (s : List ℕ) → InCondition (of_macro t wanted s δ)
unfolding of_macro
in_name t δ wanted s =
    let m = drop (span Blanks s) s in
    pick_case InCondition (spaced s) (λ _. in_named t wanted m (name_at m δ)) (λ _. refl)

in_nothing : (s : List ℕ) → InCondition (pick (idle s) (Ok (Holds 0)) (Err (unplaced TextMalformed)))
in_nothing s = pick_case InCondition (idle s) (λ _. tt) (λ _. refl)

pub in_condition : (t : List ℕ) (δ : Dialect) (d : Directive) (s : List ℕ) → InCondition (evaluate t d s δ)
unfolding evaluate
in_condition t δ Plain s = tt
in_condition t δ If s = in_expression t δ s
in_condition t δ Ifdef s = in_name t δ true s
in_condition t δ Ifndef s = in_name t δ false s
in_condition t δ Elseif s = in_expression t δ s
in_condition t δ Else s = in_nothing s
in_condition t δ Endif s = in_nothing s
in_condition t δ Unknown s = tt

-- the place in the line does not change the number
in_place : (p : ℕ) (c : Result Condition Fault) → InCondition c → InCondition (in_line p c)
in_place p (Ok (Holds n)) h = tt
in_place p (Ok (Fails n)) h = tt
in_place p (Err x) h = h

pub in_line_lem : (t : List ℕ) (δ : Dialect) (d : Directive) (l : List ℕ) → InCondition (condition_of t d l δ)
in_line_lem t δ d l = in_place (text_start l) (evaluate t d (text_of l) δ) (in_condition t δ d (text_of l))

pub never_own : (t : List ℕ) (δ : Dialect) (d : Directive) (l : List ℕ) (r : Reason)
    → 17 ≤ reason_number r → reason_number r ≤ 21 → condition_of t d l δ ≡ Err (unplaced r) → ⊥
never_own t δ d l r a b e = let h : InCondition (Err (unplaced r)) = rw e at (in_line_lem t δ d l) in not_of_lines (reason_number r) h a b

-- no directive is refused for a bar
pub never_bar : (t : List ℕ) (d : Directive) (s : List ℕ) (δ : Dialect) (o : ℕ) → evaluate t d s δ ≡ Err (fault_at BarOutside o) → ⊥
never_bar t d s δ o e =
    let h : InCondition (Err (fault_at BarOutside o)) = rw e at (in_condition t δ d s) in
    not_of_bars BAR_OUTSIDE h refl
