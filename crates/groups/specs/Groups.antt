-- The open groups of a run, the innermost first, and a transition applied to them.
use Rattle.std.specs.Prelude.{ℕ, ◌+◌, true, List, [], ◌∷◌, length, Result, Ok, Err}
use Rattle.units.specs.declared.Fault.{Fault}
use Rattle.own.specs.Own.{Own}
use Rattle.groups.specs.Rules.{first_branch}
use Rattle.groups.specs.declared.Flags.{Flags}
use Rattle.groups.specs.declared.Innermost.{Innermost}
use Rattle.groups.specs.declared.Transition.{Transition}
use Rattle.groups.specs.declared.Transition.TheVariants.{Stay, Push, Replace, Pop}

-- an open group: its flags, and the line of its `!if`
pub record Group : Type 0 where
  pub flags : Flags
  pub line : ℕ

abbrev pub group : Flags → (line : ℕ) → Group
group f n = record { flags = f; line = n }

-- what the rules know of the open groups; outside all groups a branch counts as taken
abbrev pub innermost : List Group → Innermost
innermost [] = record { depth = 0; flags = first_branch true true }
innermost (g ∷ gs) = record { depth = length (g ∷ gs); flags = g.flags }

-- the open groups, the number of operators that were applied so far, and the settings that lines so far made
pub record State : Type 0 where
  pub groups : List Group
  pub count : ℕ
  pub own : List Own

abbrev pub state : List Group → ℕ → List Own → State
state gs k own = record { groups = gs; count = k; own = own }

-- a line's mark and the state after it, or its refusal
pub data Outcome : Type 0 where
  go : (mark : ℕ) → State → Outcome
  stop : Fault → Outcome

-- the open groups with other flags of the innermost one, and without it
abbrev pub replace : Flags → List Group → List Group
replace f [] = []
replace f (g ∷ gs) = group f g.line ∷ gs

abbrev pub pop : List Group → List Group
pop [] = []
pop (g ∷ gs) = gs

-- a transition at line n, whose condition applied k operators, or its refusal
abbrev pub applied : Result Transition Fault → (n k : ℕ) → State → Outcome
applied (Ok (Stay m)) n k s = go m (state s.groups (s.count + k) s.own)
applied (Ok (Push m f)) n k s = go m (state (group f n ∷ s.groups) (s.count + k) s.own)
applied (Ok (Replace m f)) n k s = go m (state (replace f s.groups) (s.count + k) s.own)
applied (Ok (Pop m)) n k s = go m (state (pop s.groups) (s.count + k) s.own)
applied (Err f) n k s = stop f
