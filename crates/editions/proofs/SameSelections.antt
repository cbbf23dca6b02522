-- A selection that the new edition refuses neither with 3 nor with 22 is the same in the old one: line by line. Assumes nothing.
use Rattle.std.specs.Prelude.{Err, Ok, Result as Answered}
use Prim.Native.Nat.{ℕ, ◌+◌}
use native.Mathlib.Omega.{arith}
use mathlib.Core.Path.{◌≡◌, refl, ap, ◌∙◌}
use mathlib.Core.List.{List, [], ◌∷◌}
use lib.ListN.{length}
use lib.Dec.{ltb}
use Rattle.units.specs.Dialects.{in_new, in_old}
use Rattle.units.specs.declared.Dialect.{Dialect}
use Rattle.units.specs.declared.Fault.{Fault}
use Rattle.units.specs.Refusals.{reason_number}
use Rattle.text.proofs.Laws.{pick_both}
use Rattle.settings.specs.Table.{well_formed}
use Rattle.own.specs.Own.{scope}
use Rattle.line.specs.Lines.{lines}
use Rattle.line.specs.Directives.{directive_of}
use Rattle.line.specs.declared.Directive.{Directive}
use Rattle.line.specs.declared.Condition.{Condition}
use Rattle.line.specs.declared.Condition.TheVariants.{Holds, Fails}
use Rattle.condition.specs.Conditions.{condition_of}
use Rattle.define.specs.Define.{Definition, sets, fails, definition_of}
use Rattle.groups.specs.Rules.{plan}
use Rattle.groups.specs.Groups.{innermost, State, Outcome, go, stop}
use Rattle.groups.specs.declared.Plan.{Plan}
use Rattle.groups.specs.declared.Plan.TheVariants.{Read, Unread}
use Rattle.select.specs.Step.{MAX_LINE, planned, defines, defined, step}
use Rattle.select.specs.Select.{MAX_FILE, MAX_LINES, Result, accepted, refused, prepend, after, run, start, selection, answer_of, refusal_number}
use Rattle.editions.proofs.SameConditions.{condition_number, Fine}
use Rattle.editions.proofs.SameEvaluated.{same_condition}
use Rattle.editions.proofs.SameDefinitions.{definition_number, same_definition}

-- the number of a refusal, 0 if there is none
abbrev outcome_number : Outcome → ℕ
outcome_number (go m s) = 0
outcome_number (stop x) = reason_number x.reason

abbrev SameOutcome : (x y : Outcome) → Type 0
SameOutcome x y = Fine (outcome_number y) → x ≡ y

abbrev result_number : Result → ℕ
result_number r = refusal_number (answer_of r)

abbrev SameResult : (x y : Result) → Type 0
SameResult x y = Fine (result_number y) → x ≡ y

-- a number that is 0 is fine
fine_0 : Fine 0
fine_0 = (λ e. omega arith, λ e. omega arith)

-- a line that is read and not refused so has a condition that is not refused so
fine_condition : (d : Directive) (n : ℕ) (s : State) (c : Answered Condition Fault)
    → Fine (outcome_number (planned (Ok Read) d c n s)) → Fine (condition_number c)
fine_condition d n s (Ok (Holds k)) h = fine_0
fine_condition d n s (Ok (Fails k)) h = fine_0
fine_condition d n s (Err f) h = h

same_planned : (t : List ℕ) (δ : Dialect) (p : Answered Plan Fault) (d : Directive) (l : List ℕ) (n : ℕ) (s : State)
    → SameOutcome (planned p d (condition_of t d l (in_old δ)) n s) (planned p d (condition_of t d l (in_new δ)) n s)
same_planned t δ (Ok Read) d l n s h = ap (λ c. planned (Ok Read) d c n s) (same_condition t δ d l (fine_condition d n s (condition_of t d l (in_new δ)) h))
same_planned t δ (Ok (Unread r)) d l n s h = refl
same_planned t δ (Err f) d l n s h = refl

-- a DEFINE line that is not refused so says nothing that is refused so
fine_definition : (s : State) (x : Definition) → Fine (outcome_number (defined x s)) → Fine (definition_number x)
fine_definition s (sets x k) h = fine_0
fine_definition s (fails f) h = h

same_defined : (t : List ℕ) (δ : Dialect) (l : List ℕ) (s : State)
    → SameOutcome (defined (definition_of s.own t l (in_old δ)) s) (defined (definition_of s.own t l (in_new δ)) s)
same_defined t δ l s h = ap (λ x. defined x s) (same_definition s.own t l δ (fine_definition s (definition_of s.own t l (in_new δ)) h))

module _ (t : List ℕ) (δ : Dialect) where
  same_step : (n : ℕ) (s : State) (l : List ℕ) → SameOutcome (step t n s l (in_old δ)) (step t n s l (in_new δ))
  unfolding step
  same_step n s l =
      pick_both SameOutcome (ltb MAX_LINE (length l)) (λ _ _. refl)
      (λ _. pick_both SameOutcome (defines s l) (λ _. same_defined t δ l s)
      (λ _. same_planned (scope s.own t) δ (plan (directive_of l) (innermost s.groups)) (directive_of l) l n s))

  -- the number of a result is kept by the marks in front of it
  behind_mark : (m : ℕ) (r : Result) → Fine (result_number (prepend m r)) → Fine (result_number r)
  behind_mark m (accepted ms c) h = h
  behind_mark m (refused x k) h = h

  fine_step : (n : ℕ) (o : Outcome) (rest : State → Result) → Fine (result_number (after o n rest)) → Fine (outcome_number o)
  fine_step n (go m s) rest h = fine_0
  fine_step n (stop x) rest h = h

  same_after : (n : ℕ) (o : Outcome) (old new : State → Result) → ((s : State) → SameResult (old s) (new s)) → SameResult (after o n old) (after o n new)
  same_after n (go m s) old new ih h = ap (prepend m) (ih s (behind_mark m (new s) h))
  same_after n (stop x) old new ih h = refl

  same_run : (n : ℕ) (s : State) (ls : List (List ℕ)) → SameResult (run t n s ls (in_old δ)) (run t n s ls (in_new δ))
  unfolding run
  same_run n s [] h = refl
  same_run n s (l ∷ ls) h =
      let w = same_step n s l (fine_step n (step t n s l (in_new δ)) (λ s'. run t (n + 1) s' ls (in_new δ)) h) in
      rw w (same_after n (step t n s l (in_new δ)) (λ s'. run t (n + 1) s' ls (in_old δ)) (λ s'. run t (n + 1) s' ls (in_new δ))
      (λ s'. same_run (n + 1) s' ls) h)

  -- THE THEOREM
  pub same_selection : (f : List ℕ) (room : ℕ) → SameResult (selection f t room (in_old δ)) (selection f t room (in_new δ))
  unfolding selection
  same_selection f room =
      pick_both SameResult (well_formed t)
      (λ _. pick_both SameResult (ltb MAX_FILE (length f)) (λ _ _. refl)
      (λ _. pick_both SameResult (ltb MAX_LINES (length (lines f))) (λ _ _. refl)
      (λ _. pick_both SameResult (ltb room (length (lines f))) (λ _ _. refl)
      (λ _. same_run 1 start (lines f)))))
      (λ _ _. refl)

  pub same_accepted : (f : List ℕ) (room : ℕ) (ms : List ℕ) (c : ℕ) → selection f t room (in_new δ) ≡ accepted ms c
      → selection f t room (in_old δ) ≡ accepted ms c
  same_accepted f room ms c e = same_selection f room (rw e fine_0) ∙ e
