-- Parts of a run. Contracts of private functions cite this; no promise about a selection does.
use Rattle.std.specs.Prelude.{ℕ, ◌+◌, ◌≤◌, ◌≡◌, true, List, [], ◌∷◌, ◌++◌, length, drop, Result, Ok, Err}
use Rattle.units.specs.declared.Dialect.{Dialect}
use Rattle.units.specs.Refusals.{unplaced}
use Rattle.settings.specs.Table.{well_formed}
use Rattle.line.specs.Lines.{lines}
use Rattle.groups.specs.Rules.{plain_mark}
use Rattle.groups.specs.Groups.{Group, innermost}
use Rattle.groups.specs.Stack.{groups_of}
use Rattle.groups.specs.declared.Selection.{Selection}
use Rattle.select.specs.Select.{MAX_LINES, accepted, refused, run, start, selection, Answer, answer_of}
use Rattle.units.specs.declared.Reason.{Reason}
use Rattle.units.specs.declared.Reason.TheVariants.{FileUnfinished}

-- the answer after n lines, with these groups open
abbrev pub ends : (n : ℕ) → List Group → (count : ℕ) → Answer
ends n [] c = Ok (record { lines = record { 0 = n }; count = c })
ends n (g ∷ gs) c = Err (record { reason = FileUnfinished; line = record { 0 = g.line }; offset = record { 0 = 0 } })

-- the mark of a plain line, from the selection x of the code
abbrev pub MarksPlain : (x : Selection) → (mark : ℕ) → Type 0
MarksPlain x mark = mark ≡ plain_mark (innermost (groups_of x))

-- a selection of the code after k more operators
abbrev pub counted_more : Selection → (k : ℕ) → Selection
counted_more x k = record { depth = x.depth; count = x.count + k; states = x.states; lines = x.lines }

-- the answer of a run over all lines, and the marks after it if it is accepted
pub record Runs (f t marks : List ℕ) (r : Answer) (marks' : List ℕ) (δ : Dialect) : Type 0 where
  pub answer : r ≡ answer_of (run t 1 start (lines f) δ)
  pub marked : (ms : List ℕ) (c : ℕ) → run t 1 start (lines f) δ ≡ accepted ms c → marks' ≡ ms ++ drop (length ms) marks

-- the checks before any line have passed: then the selection is the run over the lines
pub record WithinLimits (f t : List ℕ) (room : ℕ) (δ : Dialect) : Type 0 where
  pub is_well_formed : well_formed t ≡ true
  pub few : length (lines f) ≤ MAX_LINES
  pub enough : length (lines f) ≤ room
  pub runs : selection f t room δ ≡ run t 1 start (lines f) δ

-- the refusal before any line, if there is one
abbrev pub ChecksLimits : (f t : List ℕ) → (room : ℕ) → Result Unit Reason → Dialect → Type 0
ChecksLimits f t room (Err k) δ = selection f t room δ ≡ refused (unplaced k) 0
ChecksLimits f t room (Ok u) δ = WithinLimits f t room δ

-- the answer of a selection, and the marks after it if it is accepted
pub record SelectsSome (f t marks : List ℕ) (r : Answer) (marks' : List ℕ) (δ : Dialect) : Type 0 where
  pub answer : r ≡ answer_of (selection f t (length marks) δ)
  pub marked : (ms : List ℕ) (c : ℕ) → selection f t (length marks) δ ≡ accepted ms c → marks' ≡ ms ++ drop (length ms) marks
  pub as_long : length marks' ≡ length marks
