-- How the code holds the open groups: their flags as the bits of a number, four for each group, with the innermost group lowest, and their
-- lines in an array, the outermost group first. Contracts between layers cite this; no promise about a selection does.
use Rattle.std.specs.Prelude.{ℕ, zero, suc, ◌+◌, ◌*◌, ◌/◌, ◌%◌, ◌≤◌, ◌<◌, ◌≡◌, Bool, List, [], ◌∷◌, get_or, eqb, Result, Ok, Err}
use Rattle.units.specs.declared.Fault.{Fault}
use Rattle.text.specs.Bytes.{pick}
use Rattle.own.specs.Own.{Own}
use Rattle.groups.specs.Rules.{MAX_GROUPS}
use Rattle.groups.specs.Groups.{Group, group, State, state, Outcome, go, stop}
use Rattle.groups.specs.declared.Flags.{Flags}
use Rattle.groups.specs.declared.Transition.{Transition}
use Rattle.groups.specs.declared.Transition.TheVariants.{Stay, Push, Replace, Pop}
use Rattle.groups.specs.declared.Selection.{Selection}
use Rattle.groups.specs.declared.Step.{Step}

abbrev pub bit : Bool → ℕ
bit b = pick b 1 0

-- the four lowest bits of a number from flags, and flags from these
unfoldable pub digit : Flags → ℕ
digit f = bit f.around + bit f.earlier * 2 + bit f.taken * 4 + bit f.last * 8

unfoldable pub flags_in : ℕ → Flags
flags_in w =
    record {
      around = eqb (w % 2) 1;
      earlier = eqb (w / 2 % 2) 1;
      taken = eqb (w / 4 % 2) 1;
      last = eqb (w / 8 % 2) 1;
    }

-- this many groups, from the digits of a number and the lines of their `!if`
abbrev pub groups_in : (depth states : ℕ) → (lines : List ℕ) → List Group
groups_in zero w ls = []
groups_in (suc d) w ls = group (flags_in w) (get_or ls d 0) ∷ groups_in d (w / 16) ls

-- the open groups of a selection
abbrev pub groups_of : Selection → List Group
groups_of x = groups_in x.depth x.states x.lines

-- every selection means a state, with the settings that the code holds apart from it
abbrev pub denote_selection : Selection → List Own → State
denote_selection x own = state (groups_of x) x.count own

-- the selection x of the code represents this state
pub record Represents (x : Selection) (s : State) : Type 0 where
  pub shallow : x.depth ≤ MAX_GROUPS
  pub means : denote_selection x s.own ≡ s

-- a transition suits this number of open groups
abbrev pub Suits : Transition → (depth : ℕ) → Type 0
Suits (Stay m) k = Unit
Suits (Push m f) k = k < MAX_GROUPS
Suits (Replace m f) k = 0 < k
Suits (Pop m) k = 0 < k

-- the same of a transition that may be refused
abbrev pub SuitsIf : Result Transition Fault → (depth : ℕ) → Type 0
SuitsIf (Ok r) k = Suits r k
SuitsIf (Err f) k = Unit

-- the step of the code has this outcome
abbrev pub Meets : Result Step Fault → Outcome → Type 0
Meets (Ok z) (go m s) = (z.mark ≡ m) × Represents z.next s
Meets (Err g) (stop f) = g ≡ f
Meets (Ok z) (stop f) = ⊥
Meets (Err g) (go m s) = ⊥
