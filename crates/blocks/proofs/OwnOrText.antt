-- A line is refused for itself, and then its refusal has no place, for its condition, or, if it is a kept DEFINE line, for what it sets.
-- Assumes nothing.
use Prim.Native.Nat.{ℕ, ◌≤◌}
use native.Mathlib.Omega.{arith}
use mathlib.Core.Path.{◌≡◌, refl}
use mathlib.Core.Logic.{◌⊎◌, inl, inr}
use mathlib.Core.Bool.{true, false, not, ◌&&◌, ◌||◌}
use mathlib.Core.List.{List}
use lib.ListN.{length}
use lib.Dec.{eqb, leb, ltb}
use Rattle.std.specs.Prelude.{Ok, Err, Result}
use Rattle.units.specs.Refusals.{reason_number, unplaced}
use Rattle.units.specs.declared.Dialect.{Dialect}
use Rattle.units.specs.declared.Fault.{Fault}
use Rattle.units.specs.declared.Reason.{Reason}
use Rattle.units.specs.declared.Reason.TheVariants.{DirectiveStray, LineLong, NestingDeep, WordUnknown}
use Rattle.text.proofs.Laws.{pick_case}
use Rattle.line.specs.Directives.{directive_of}
use Rattle.line.specs.declared.Directive.{Directive}
use Rattle.line.specs.declared.Directive.TheVariants.{Plain, If, Ifdef, Ifndef, Elseif, Else, Endif, Unknown}
use Rattle.line.specs.declared.Condition.{Condition}
use Rattle.line.specs.declared.Condition.TheVariants.{Holds, Fails}
use Rattle.define.specs.Define.{Definition, sets, fails}
use Rattle.groups.specs.Rules.{MAX_GROUPS, was_taken, opening, plan, settled, conclude}
use Rattle.groups.specs.Groups.{innermost, State, Outcome, go, stop, applied}
use Rattle.groups.specs.declared.Innermost.{Innermost}
use Rattle.groups.specs.declared.Transition.{Transition}
use Rattle.groups.specs.declared.Transition.TheVariants.{Stay, Push, Replace, Pop}
use Rattle.groups.specs.declared.Plan.{Plan}
use Rattle.groups.specs.declared.Plan.TheVariants.{Read, Unread}
use Rattle.select.specs.Step.{planned, decided, defines, defined, step}
use Rattle.select.proofs.Steps.{said, told}

-- a fault that is not of a text: 1, or a number from 14 to 21, with no place
abbrev pub Bare : Fault → Type 0
Bare x = ((reason_number x.reason ≡ 1) ⊎ ((14 ≤ reason_number x.reason) × (reason_number x.reason ≤ 21))) × (x.at.0 ≡ 0)

pub bare : (r : Reason) → 14 ≤ reason_number r → reason_number r ≤ 21 → Bare (unplaced r)
bare r h k = (inr (h, k), refl)

-- the fault of a directive that its plan refuses
abbrev BarePlan : Result Plan Fault → Type 0
BarePlan (Ok p) = Unit
BarePlan (Err x) = Bare x

deep : Bare (unplaced NestingDeep)
deep = bare NestingDeep (omega arith) (omega arith)

stray : Bare (unplaced DirectiveStray)
stray = bare DirectiveStray (omega arith) (omega arith)

opening_bare : (v : Innermost) → BarePlan (opening v)
opening_bare v =
    pick_case BarePlan (leb MAX_GROUPS v.depth) (λ _. deep) (λ _. pick_case BarePlan v.flags.taken (λ _. tt) (λ _. tt))

plan_bare : (d : Directive) (v : Innermost) → BarePlan (plan d v)
unfolding plan
plan_bare Plain v = tt
plan_bare If v = opening_bare v
plan_bare Ifdef v = opening_bare v
plan_bare Ifndef v = opening_bare v
plan_bare Elseif v =
    pick_case BarePlan (eqb v.depth 0 || v.flags.last) (λ _. stray)
    (λ _. pick_case BarePlan (v.flags.around && not (was_taken v.flags)) (λ _. tt) (λ _. tt))
plan_bare Else v =
    pick_case BarePlan (eqb v.depth 0 || v.flags.last) (λ _. stray) (λ _. pick_case BarePlan v.flags.around (λ _. tt) (λ _. tt))
plan_bare Endif v = pick_case BarePlan (eqb v.depth 0) (λ _. stray) (λ _. pick_case BarePlan v.flags.around (λ _. tt) (λ _. tt))
plan_bare Unknown v = bare WordUnknown (omega arith) (omega arith)

-- where the fault of an outcome comes from, if the line sets no macro
abbrev From : Result Condition Fault → Outcome → Type 0
From c (go m s) = Unit
From c (stop x) = Bare x ⊎ (c ≡ Err x)

module _ (n : ℕ) (s : State) where
  -- a transition refuses nothing
  applied_from : (c : Result Condition Fault) (r : Transition) (k : ℕ) → From c (applied (Ok r) n k s)
  applied_from c (Stay m) k = tt
  applied_from c (Push m f) k = tt
  applied_from c (Replace m f) k = tt
  applied_from c (Pop m) k = tt

  concluded_from : (d : Directive) (v : Innermost) (c : Result Condition Fault) (k : ℕ) → From c (applied (conclude d v c) n k s)
  concluded_from d v (Ok (Holds j)) k = applied_from (Ok (Holds j)) (settled d v.flags true) k
  concluded_from d v (Ok (Fails j)) k = applied_from (Ok (Fails j)) (settled d v.flags false) k
  concluded_from d v (Err x) k = inr refl

  planned_from : (p : Result Plan Fault) (d : Directive) (c : Result Condition Fault) → BarePlan p → From c (planned p d c n s)
  planned_from (Ok Read) d c h = concluded_from d (innermost s.groups) c _
  planned_from (Ok (Unread r)) d c h = applied_from c r 0
  planned_from (Err x) d c h = inl h

module _ (t : List ℕ) (δ : Dialect) (n : ℕ) (s : State) (l : List ℕ) where
  -- where the fault of a step comes from
  abbrev pub FromLine : Outcome → Type 0
  FromLine (go m s') = Unit
  FromLine (stop x) = (Bare x ⊎ (said t δ n s l ≡ Err x)) ⊎ ((defines s l ≡ true) × (told t δ n s l ≡ fails x))

  from_definition : defines s l ≡ true → (d : Definition) → told t δ n s l ≡ d → FromLine (defined d s)
  from_definition h (sets x k) e = tt
  from_definition h (fails x) e = inr (h, e)

  from_condition : (o : Outcome) → From (said t δ n s l) o → FromLine o
  from_condition (go m s') h = tt
  from_condition (stop x) h = inl h

  pub step_from : FromLine (step t n s l δ)
  unfolding step
  step_from =
      let v : Innermost = innermost s.groups in
      pick_case FromLine (ltb 1024 (length l)) (λ _. inl (inl (bare LineLong (omega arith) (omega arith))))
      (λ _. pick_case FromLine (defines s l) (λ h. from_definition h (told t δ n s l) refl)
      (λ _. from_condition (decided (directive_of l) (said t δ n s l) n s)
      (planned_from n s (plan (directive_of l) v) (directive_of l) (said t δ n s l) (plan_bare (directive_of l) v))))
