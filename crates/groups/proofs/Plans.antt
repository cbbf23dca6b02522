-- Every plan suits the number of open groups, and the mark of a line shows whether its directive was read: 3 or more if it was, else 2 or
-- less. Assumes nothing.
use Prim.Native.Nat.{ℕ, ◌+◌, ◌≤◌, ◌<◌}
use native.Mathlib.Omega.{arith}
use mathlib.Core.Path.{◌≡◌, refl, sym}
use mathlib.Core.Bool.{Bool, true, false, not, ◌&&◌, ◌||◌, false≢true}
use lib.Dec.{eqb, leb}
use borrow.Author.Tests.{leb-false, eqb-false}
use Rattle.std.specs.Prelude.{Result, Ok, Err}
use Rattle.units.specs.Refusals.{unplaced}
use Rattle.units.specs.declared.Fault.{Fault}
use Rattle.units.specs.declared.Reason.TheVariants.{DirectiveStray, NestingDeep}
use Rattle.text.specs.Bytes.{pick}
use Rattle.text.proofs.Laws.{pick_case}
use Rattle.line.specs.declared.Directive.{Directive}
use Rattle.line.specs.declared.Directive.TheVariants.{Plain, If, Ifdef, Ifndef, Elseif, Else, Endif, Unknown}
use Rattle.line.specs.declared.Condition.{Condition}
use Rattle.line.specs.declared.Condition.TheVariants.{Holds, Fails}
use Rattle.groups.specs.Rules.{MAX_GROUPS, UNREAD, first_branch, was_taken, next_branch, opening, plan, branch_mark, settled, conclude}
use Rattle.groups.specs.Groups.{Outcome, go, stop, State, applied}
use Rattle.groups.specs.Stack.{SuitsIf}
use Rattle.groups.specs.declared.Innermost.{Innermost}
use Rattle.groups.specs.declared.Transition.{Transition}
use Rattle.groups.specs.declared.Transition.TheVariants.{Stay, Push, Replace, Pop}
use Rattle.groups.specs.declared.Plan.{Plan}
use Rattle.groups.specs.declared.Plan.TheVariants.{Read, Unread}

-- the mark in a transition, if there is one
abbrev pub Marks : (ℕ → Type 0) → Result Transition Fault → Type 0
Marks P (Ok (Stay m)) = P m
Marks P (Ok (Push m f)) = P m
Marks P (Ok (Replace m f)) = P m
Marks P (Ok (Pop m)) = P m
Marks P (Err r) = Unit

-- what a line does that is read, and any other line
pub record Suited (P : ℕ → Type 0) (r : Result Transition Fault) (depth : ℕ) : Type 0 where
  pub suits : SuitsIf r depth
  pub marks : Marks P r

abbrev pub Above : ℕ → Type 0
Above m = 3 ≤ m

abbrev pub Below : ℕ → Type 0
Below m = m ≤ 2

abbrev pub Suitable : Directive → Innermost → Result Plan Fault → Type 0
Suitable d s (Ok Read) = (c : Result Condition Fault) → Suited Above (conclude d s c) s.depth
Suitable d s (Ok (Unread r)) = Suited Below (Ok r) s.depth
Suitable d s (Err f) = Unit

settles : (d : Directive) (s : Innermost) → ((b : Bool) → Suited Above (Ok (settled d s.flags b)) s.depth) → Suitable d s (Ok Read)
settles d s h (Ok (Holds n)) = h true
settles d s h (Ok (Fails n)) = h false
settles d s h (Err r) = record { suits = tt; marks = tt }

branch_above : (b : Bool) → Above (branch_mark b)
branch_above true = omega arith
branch_above false = omega arith

-- a plan that is refused by a test, or read if another test holds
module _ (d : Directive) (s : Innermost) where
  tested : (f : Fault) (a b : Bool) (r : Transition) → (a ≡ false → Suitable d s (Ok Read)) → (a ≡ false → Suited Below (Ok r) s.depth)
      → Suitable d s (pick a (Err f) (pick b (Ok Read) (Ok (Unread r))))
  tested f a b r h i = pick_case (Suitable d s) a (λ _. tt) (λ e. pick_case (Suitable d s) b (λ _. h e) (λ _. i e))

-- a group is open
open_some : (k : ℕ) (b : Bool) → (eqb k 0 || b) ≡ false → 0 < k
open_some k b e = by (eqb k 0) (eqb-false k 0) e
  where
    by : (a : Bool) → (a ≡ false → k ≡ 0 → ⊥) → (a || b) ≡ false → 0 < k
    by true f e = absurd (false≢true (sym e))
    by false f e = let h = f refl in omega arith

pushes : (b : Bool) (k : ℕ) → k < MAX_GROUPS → Suited Above (Ok (Push (branch_mark b) (first_branch true b))) k
pushes b k h = record { suits = h; marks = branch_above b }

opening_suitable : (d : Directive) (s : Innermost) → ((b : Bool) → s.depth < MAX_GROUPS → Suited Above (Ok (settled d s.flags b)) s.depth)
    → Suitable d s (opening s)
opening_suitable d s h =
    tested d s (unplaced NestingDeep) (leb MAX_GROUPS s.depth) s.flags.taken (Push UNREAD (first_branch false false))
    (λ e. settles d s (λ b. h b (leb-false MAX_GROUPS s.depth e)))
    (λ e. record { suits = leb-false MAX_GROUPS s.depth e; marks = omega arith })

plain_below : (b : Bool) → Below (pick b 1 0)
plain_below true = omega arith
plain_below false = omega arith

pub suitable : (d : Directive) (s : Innermost) → Suitable d s (plan d s)
unfolding plan settled
suitable Plain s = record { suits = tt; marks = plain_below s.flags.taken }
suitable If s = opening_suitable If s (λ b. pushes b s.depth)
suitable Ifdef s = opening_suitable Ifdef s (λ b. pushes b s.depth)
suitable Ifndef s = opening_suitable Ifndef s (λ b. pushes b s.depth)
suitable Elseif s =
    tested Elseif s (unplaced DirectiveStray) (eqb s.depth 0 || s.flags.last) (s.flags.around && not (was_taken s.flags))
    (Replace UNREAD (next_branch s.flags false false))
    (λ e. settles Elseif s (λ b. record { suits = open_some s.depth s.flags.last e; marks = branch_above b }))
    (λ e. record { suits = open_some s.depth s.flags.last e; marks = omega arith })
suitable Else s =
    tested Else s (unplaced DirectiveStray) (eqb s.depth 0 || s.flags.last) s.flags.around (Replace UNREAD (next_branch s.flags false true))
    (λ e. settles Else s (λ b. record { suits = open_some s.depth s.flags.last e; marks = branch_above (not (was_taken s.flags)) }))
    (λ e. record { suits = open_some s.depth s.flags.last e; marks = omega arith })
suitable Endif s =
    tested Endif s (unplaced DirectiveStray) (eqb s.depth 0) s.flags.around (Pop UNREAD)
    (λ e. settles Endif s (λ b. record { suits = open_some s.depth false (rw e); marks = omega arith }))
    (λ e. record { suits = open_some s.depth false (rw e); marks = omega arith })
suitable Unknown s = tt

-- the mark and the count in an outcome
abbrev pub Shows : (ℕ → Type 0) → (count : ℕ) → Outcome → Type 0
Shows P k (go m s) = P m × (s.count ≡ k)
Shows P k (stop r) = Unit

pub applied_shows : (P : ℕ → Type 0) (r : Result Transition Fault) (n k : ℕ) (s : State) → Marks P r → Shows P (s.count + k) (applied r n k s)
applied_shows P (Ok (Stay m)) n k s h = (h, refl)
applied_shows P (Ok (Push m f)) n k s h = (h, refl)
applied_shows P (Ok (Replace m f)) n k s h = (h, refl)
applied_shows P (Ok (Pop m)) n k s h = (h, refl)
applied_shows P (Err r) n k s h = tt
