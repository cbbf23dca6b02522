-- A line that is passed has mark 6 exactly if it is a kept DEFINE line. Assumes nothing.
use Prim.Native.Nat.{ℕ, ◌+◌, ◌≤◌}
use native.Mathlib.Omega.{arith}
use mathlib.Core.Path.{◌≡◌, refl, sym, ◌∙◌}
use mathlib.Core.Logic.{◌↔◌}
use mathlib.Core.Bool.{Bool, true, false, not}
use mathlib.Core.List.{List}
use lib.ListN.{length}
use Rattle.std.specs.Prelude.{Result, Ok, Err}
use Rattle.units.specs.declared.Dialect.{Dialect}
use Rattle.units.specs.declared.Fault.{Fault}
use Rattle.line.specs.Directives.{directive_of}
use Rattle.line.specs.declared.Directive.{Directive}
use Rattle.line.specs.declared.Directive.TheVariants.{Plain, If, Ifdef, Ifndef, Elseif, Else, Endif, Unknown}
use Rattle.line.specs.declared.Condition.{Condition}
use Rattle.line.specs.declared.Condition.TheVariants.{Holds, Fails}
use Rattle.condition.specs.Conditions.{count_of}
use Rattle.groups.specs.Rules.{ENDED, DEFINED, was_taken, plan, branch_mark, settled, conclude}
use Rattle.groups.specs.Groups.{innermost, State, go, applied}
use Rattle.groups.specs.declared.Flags.{Flags}
use Rattle.groups.specs.declared.Innermost.{Innermost}
use Rattle.groups.specs.declared.Transition.{Transition}
use Rattle.groups.specs.declared.Plan.{Plan}
use Rattle.groups.specs.declared.Plan.TheVariants.{Read, Unread}
use Rattle.groups.proofs.Plans.{Marks, Below, Shows, applied_shows}
use Rattle.select.specs.Step.{defines, step}
use Rattle.select.proofs.Steps.{Stops, said, planned_step, short_step, step_marked, Defines, step_defines}

abbrev Low : ℕ → Type 0
Low m = m ≤ ENDED

branch_low : (b : Bool) → Low (branch_mark b)
branch_low true = omega arith
branch_low false = omega arith

-- a directive that is read has mark 5 at most
settled_low : (d : Directive) (f : Flags) (b : Bool) → Marks Low (Ok (settled d f b))
unfolding settled
settled_low If f b = branch_low b
settled_low Ifdef f b = branch_low b
settled_low Ifndef f b = branch_low b
settled_low Elseif f b = branch_low b
settled_low Else f b = branch_low (not (was_taken f))
settled_low Endif f b = omega arith
settled_low Plain f b = omega arith
settled_low Unknown f b = omega arith

concluded_low : (d : Directive) (v : Innermost) (c : Result Condition Fault) → Marks Low (conclude d v c)
concluded_low d v (Ok (Holds n)) = settled_low d v.flags true
concluded_low d v (Ok (Fails n)) = settled_low d v.flags false
concluded_low d v (Err f) = tt

module _ (t : List ℕ) (δ : Dialect) (n : ℕ) (s : State) (l : List ℕ) (m : ℕ) (s' : State) (e : step t n s l δ ≡ go m s') where
  short : length l ≤ 1024
  short = short_step t δ n s l (go m s') e (λ q. let z : ◌≡◌ {A = ℕ} 0 1 = cc in omega arith)

  other_low : defines s l ≡ false → Low m
  other_low f = by (plan (directive_of l) (innermost s.groups)) refl
    where
      by : (p : Result Plan Fault) → plan (directive_of l) (innermost s.groups) ≡ p → Low m
      by (Ok Read) q =
          let c : Result Condition Fault = said t δ n s l in
          let r : Result Transition Fault = conclude (directive_of l) (innermost s.groups) c in
          let o : applied r n (count_of c) s ≡ go m s' = sym (planned_step t δ n s l (Ok Read) short f q) ∙ e in
          let h : Shows Low (s.count + count_of c) (go m s') = rw o at
          (applied_shows Low r n (count_of c) s (concluded_low (directive_of l) (innermost s.groups) c)) in
          h.0
      by (Ok (Unread r)) q = let h : Shows Below (s.count + 0) (go m s') = rw (q, e) at (step_marked t δ n s l f) in omega (arith, h.0)
      by (Err x) q = let h : Stops (go m s') = rw (q, e) at (step_marked t δ n s l f) in absurd h

  pub define_mark : (defines s l ≡ true) ↔ (m ≡ DEFINED)
  define_mark = (λ f. let h : Defines t δ n s l (go m s') = rw e at (step_defines t δ n s l f) in h.0, λ q. by (defines s l) refl q)
    where
      by : (b : Bool) → defines s l ≡ b → m ≡ DEFINED → defines s l ≡ true
      by true f q = f
      by false f q = absurd (omega (arith, other_low f))
