-- A step by its cases: a line that is too long, a directive that is not read, one that is read; and a bound on the count of a step. Assumes
-- nothing.
use Prim.Native.Nat.{ℕ, ◌+◌, ◌≤◌, ◌<◌}
use native.Mathlib.Omega.{arith}
use native.Mathlib.Nat.{add-zero}
use mathlib.Core.Path.{◌≡◌, refl, sym, ap, ◌∙◌, subst}
use mathlib.Core.Bool.{Bool, true, false}
use mathlib.Core.List.{List}
use lib.ListN.{length}
use lib.Dec.{ltb}
use borrow.Author.Tests.{lt-ltb, le-ltb, ltb-true, ltb-false}
use Rattle.std.specs.Prelude.{Result, Ok, Err}
use Rattle.units.specs.declared.Dialect.{Dialect}
use Rattle.units.specs.declared.Fault.{Fault}
use Rattle.units.specs.Refusals.{unplaced}
use Rattle.text.proofs.Laws.{pick_case}
use Rattle.own.specs.Own.{scope}
use Rattle.line.specs.Directives.{is_define, directive_of, text_start, text_of}
use Rattle.line.specs.declared.Directive.{Directive}
use Rattle.line.specs.declared.Directive.TheVariants.{Plain}
use Rattle.line.specs.declared.Condition.{Condition}
use Rattle.line.proofs.DefineLine.{define_plain}
use Rattle.condition.specs.Conditions.{evaluate, count_of, condition_of}
use Rattle.condition.proofs.Counts.{count_small}
use Rattle.condition.proofs.PlaceWithin.{same_count}
use Rattle.define.specs.Define.{Definition, sets, fails, definition_of}
use Rattle.define.proofs.Counts.{Small, definition_small}
use Rattle.groups.specs.Rules.{DEFINED, plain_mark, plan, conclude}
use Rattle.groups.specs.Groups.{innermost, State, Outcome, go, stop, applied}
use Rattle.groups.specs.Stack.{groups_of, Suits, SuitsIf}
use Rattle.groups.specs.declared.Selection.{Selection}
use Rattle.groups.specs.declared.Innermost.{Innermost}
use Rattle.groups.specs.declared.Transition.{Transition}
use Rattle.groups.specs.declared.Transition.TheVariants.{Stay, Push, Replace, Pop}
use Rattle.groups.specs.declared.Plan.{Plan}
use Rattle.groups.specs.declared.Plan.TheVariants.{Read, Unread}
use Rattle.groups.proofs.Stacks.{same_depth}
use Rattle.groups.proofs.Plans.{Above, Below, Suitable, suitable, Shows, applied_shows}
use Rattle.select.specs.Step.{planned, decided, defines, defined, step}
use Rattle.units.specs.declared.Reason.TheVariants.{LineLong}

-- a directive that is read is not plain
pub other_read : (d : Directive) (v : Innermost) → plan d v ≡ Ok Read → d ≡ Plain → ⊥
unfolding plan
other_read d v h e = let k : plan Plain v ≡ Ok Read = rw e at h in let z : ◌≡◌ {A = ℕ} 0 1 = cc in omega arith

-- an outcome that is a refusal
abbrev pub Stops : Outcome → Type 0
Stops (go m s') = ⊥
Stops (stop x) = Unit

module _ (t : List ℕ) (δ : Dialect) (n : ℕ) (s : State) (l : List ℕ) where
  -- the condition of the line, over the table and the settings so far, and what it says if it is a DEFINE line
  abbrev pub said : Result Condition Fault
  said = condition_of (scope s.own t) (directive_of l) l δ

  abbrev pub told : Definition
  told = definition_of s.own t l δ

  pub said_small : count_of said < 200
  said_small = rw (same_count (text_start l) (evaluate (scope s.own t) (directive_of l) (text_of l) δ))
      (count_small (scope s.own t) (directive_of l) (text_of l) δ)

  pub long_step : 1024 < length l → step t n s l δ ≡ stop (unplaced LineLong)
  unfolding step
  long_step h = rw (lt-ltb 1024 (length l) h)

  -- a kept line with the first word `DEFINE`, and any other line
  pub defined_step : length l ≤ 1024 → defines s l ≡ true → step t n s l δ ≡ defined told s
  unfolding step
  defined_step h e = rw (le-ltb 1024 (length l) h, e)

  pub decided_step : length l ≤ 1024 → defines s l ≡ false → step t n s l δ ≡ decided (directive_of l) said n s
  unfolding step
  decided_step h e = rw (le-ltb 1024 (length l) h, e)

  -- a line that is not plain is another line
  pub other_line : (directive_of l ≡ Plain → ⊥) → defines s l ≡ false
  other_line h = by (is_define l) refl
    where
      by : (b : Bool) → is_define l ≡ b → defines s l ≡ false
      by true e = absurd (h (define_plain l e))
      by false e = rw e

  -- by the plan of its directive
  pub planned_step : (p : Result Plan Fault) → length l ≤ 1024 → defines s l ≡ false → plan (directive_of l) (innermost s.groups) ≡ p
      → step t n s l δ ≡ planned p (directive_of l) said n s
  planned_step p h f e = decided_step h f ∙ rw e

  -- a plain line that sets no macro does not change the state
  pub plain_step : length l ≤ 1024 → defines s l ≡ false → directive_of l ≡ Plain → step t n s l δ ≡ go (plain_mark (innermost s.groups)) s
  unfolding plan
  plain_step h f e = decided_step h f ∙ rw (e, add-zero s.count)

  -- a line with any other outcome is not too long
  pub short_step : (o : Outcome) → step t n s l δ ≡ o → (o ≡ stop (unplaced LineLong) → ⊥) → length l ≤ 1024
  short_step o e h = by (ltb 1024 (length l)) refl
    where
      by : (b : Bool) → ltb 1024 (length l) ≡ b → length l ≤ 1024
      by true q = absurd (h (sym e ∙ long_step (ltb-true 1024 (length l) q)))
      by false q = ltb-false 1024 (length l) q

  -- the mark and the count of a step, by the plan of its directive
  abbrev pub Marked : Result Plan Fault → Outcome → Type 0
  Marked (Ok Read) o = Shows Above (s.count + count_of said) o
  Marked (Ok (Unread r)) o = Shows Below (s.count + 0) o
  Marked (Err f) o = Stops o

  planned_marked : (p : Result Plan Fault) → Suitable (directive_of l) (innermost s.groups) p → Marked p (planned p (directive_of l) said n s)
  planned_marked (Ok Read) h = applied_shows Above (conclude (directive_of l) (innermost s.groups) said) n (count_of said) s (h said).marks
  planned_marked (Ok (Unread r)) h = applied_shows Below (Ok r) n 0 s h.marks
  planned_marked (Err f) h = tt

  stop_marked : (p : Result Plan Fault) (x : Fault) → Marked p (stop x)
  stop_marked (Ok Read) x = tt
  stop_marked (Ok (Unread r)) x = tt
  stop_marked (Err f) x = tt

  pub step_marked : defines s l ≡ false → Marked (plan (directive_of l) (innermost s.groups)) (step t n s l δ)
  unfolding step
  step_marked f =
      let p : Result Plan Fault = plan (directive_of l) (innermost s.groups) in
      pick_case (Marked p) (ltb 1024 (length l)) (λ _. stop_marked p (unplaced LineLong))
      (λ _. rw f (planned_marked p (suitable (directive_of l) (innermost s.groups))))

  -- a line that sets a macro has the mark 6, and its count is small
  abbrev pub Defines : Outcome → Type 0
  Defines (go m s') = (m ≡ DEFINED) × (s'.groups ≡ s.groups) × (s'.count < s.count + 200)
  Defines (stop x) = Unit

  defined_so : (d : Definition) → Small d → Defines (defined d s)
  defined_so (sets x k) h = (refl, refl, omega arith)
  defined_so (fails f) h = tt

  pub step_defines : defines s l ≡ true → Defines (step t n s l δ)
  unfolding step
  step_defines e =
      pick_case Defines (ltb 1024 (length l)) (λ _. tt) (λ _. rw e (defined_so told (definition_small s.own t l δ)))

  -- a line that sets no macro leaves the settings
  abbrev OwnAs : Outcome → Type 0
  OwnAs (go m s') = s'.own ≡ s.own
  OwnAs (stop x) = Unit

  applied_own : (r : Result Transition Fault) (k : ℕ) → OwnAs (applied r n k s)
  applied_own (Ok (Stay m)) k = refl
  applied_own (Ok (Push m f)) k = refl
  applied_own (Ok (Replace m f)) k = refl
  applied_own (Ok (Pop m)) k = refl
  applied_own (Err f) k = tt

  planned_own : (p : Result Plan Fault) → OwnAs (planned p (directive_of l) said n s)
  planned_own (Ok Read) = applied_own (conclude (directive_of l) (innermost s.groups) said) (count_of said)
  planned_own (Ok (Unread r)) = applied_own (Ok r) 0
  planned_own (Err f) = tt

  step_own : defines s l ≡ false → OwnAs (step t n s l δ)
  unfolding step
  step_own f =
      pick_case OwnAs (ltb 1024 (length l)) (λ _. tt) (λ _. rw f (planned_own (plan (directive_of l) (innermost s.groups))))

  pub same_own : defines s l ≡ false → (m : ℕ) (s' : State) → step t n s l δ ≡ go m s' → s'.own ≡ s.own
  same_own f m s' e = rw e at (step_own f)

  pub step_small : (m : ℕ) (s' : State) → step t n s l δ ≡ go m s' → s'.count < s.count + 200
  step_small m s' e = which (defines s l) refl
    where
      by : (p : Result Plan Fault) → Marked p (go m s') → s'.count < s.count + 200
      by (Ok Read) h = omega (arith, h.1, said_small)
      by (Ok (Unread r)) h = omega (arith, h.1)
      by (Err f) h = absurd h

      which : (b : Bool) → defines s l ≡ b → s'.count < s.count + 200
      which true f = let h : Defines (go m s') = rw e at (step_defines f) in h.2
      which false f = by (plan (directive_of l) (innermost s.groups)) (rw e at (step_marked f))

-- the code's plan of a directive, from its selection x, suits the number of open groups
module _ (x : Selection) (d : Directive) (v : Innermost) (asked : v ≡ innermost (groups_of x)) where
  depth_asked : v.depth ≡ x.depth
  depth_asked = ap (λ (i : Innermost). i.depth) asked ∙ same_depth x.depth x.states x.lines

  pub unread_suits : (r : Transition) → Ok (Unread r) ≡ plan d v → Suits r x.depth
  unread_suits r h =
      let z : Suitable d v (Ok (Unread r)) = rw (← h) at (suitable d v) in
      subst (Suits r) depth_asked z.suits

  pub read_suits : (r : Result Transition Fault) (c : Result Condition Fault) → Ok Read ≡ plan d v → r ≡ conclude d v c → SuitsIf r x.depth
  read_suits r c h e =
      let z : Suitable d v (Ok Read) = rw (← h) at (suitable d v) in
      let k : SuitsIf r v.depth = rw (← e) at (z c).suits in
      subst (SuitsIf r) depth_asked k

  -- the plan of the line
  pub line_planned : (l : List ℕ) (q : Result Plan Fault) → d ≡ directive_of l → q ≡ plan d v → plan (directive_of l) (innermost (groups_of x)) ≡ q
  line_planned l q e h = rw (← e, ← asked) (sym h)
