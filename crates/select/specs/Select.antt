-- The selection of a file (document 01, "Lines and directives"): a mark for each line and the sum of the counts of operators, or a refusal
-- with its line and its place there. 1, 14, 15 and 16 come before any line and have line 0; 21 comes after the last line and has the line of the innermost open
-- `!if`.
use Rattle.std.specs.Prelude.{ℕ, ◌+◌, ◌≡◌, List, [], ◌∷◌, ◌++◌, length, drop, replicate, ltb, Result as Answered, Ok, Err}
use Rattle.units.specs.declared.Dialect.{Dialect}
use Rattle.units.specs.declared.Fault.{Fault}
use Rattle.units.specs.declared.Refusal.{Refusal}
use Rattle.units.specs.Refusals.{reason_number, unplaced}
use Rattle.text.specs.Bytes.{pick}
use Rattle.settings.specs.Table.{well_formed}
use Rattle.line.specs.Lines.{lines}
use Rattle.groups.specs.Groups.{Group, State, state, Outcome, go, stop}
use Rattle.select.specs.Step.{step}
use Rattle.select.specs.declared.Selected.{Selected}
use Rattle.units.specs.declared.Reason.TheVariants.{FileLong, FileUnfinished, LinesMany, MarksShort, TableMalformed}

-- the largest number of bytes and of lines in a file
abbrev pub MAX_FILE : ℕ
MAX_FILE = 65536

abbrev pub MAX_LINES : ℕ
MAX_LINES = 4096

-- the marks of the lines and the sum of counts, or a refusal, with its place in its line, and that line
pub data Result : Type 0 where
  accepted : (marks : List ℕ) → (count : ℕ) → Result
  refused : Fault → (line : ℕ) → Result

-- a line's mark in front of those of the lines after it
abbrev pub prepend : ℕ → Result → Result
prepend m (accepted ms c) = accepted (m ∷ ms) c
prepend m (refused x n) = refused x n

-- at the end no group may be open
abbrev pub at_end : List Group → (count : ℕ) → Result
at_end [] c = accepted [] c
at_end (g ∷ gs) c = refused (unplaced FileUnfinished) g.line

-- the outcome of line n, and then the lines after it
abbrev pub after : Outcome → (n : ℕ) → (State → Result) → Result
after (go m s) n rest = prepend m (rest s)
after (stop x) n rest = refused x n

-- the lines from line n on
unfoldable pub run : (t : List ℕ) → (n : ℕ) → State → List (List ℕ) → Dialect → Result
run t n s [] δ = at_end s.groups s.count
run t n s (l ∷ ls) δ = after (step t n s l δ) n (λ s'. run t (n + 1) s' ls δ)

-- no group is open, no operator was applied, and no line made a setting
abbrev pub start : State
start = state [] 0 []

-- the selection of a file f over a table t, with room for this many marks
unfoldable pub selection : (f t : List ℕ) → (room : ℕ) → Dialect → Result
selection f t room δ =
    pick (well_formed t)
    (pick (ltb MAX_FILE (length f)) (refused (unplaced FileLong) 0)
    (pick (ltb MAX_LINES (length (lines f))) (refused (unplaced LinesMany) 0)
    (pick (ltb room (length (lines f))) (refused (unplaced MarksShort) 0)
    (run t 1 start (lines f) δ))))
    (refused (unplaced TableMalformed) 0)

-- what a call answers: the number of lines and the sum of counts, or the refusal
abbrev pub Answer : Type 0
Answer = Answered Selected Refusal

-- the answer: the number of lines and the count, or the refusal
abbrev pub answer_of : Result → Answer
answer_of (accepted ms c) = Ok (record { lines = record { 0 = length ms }; count = c })
answer_of (refused x n) = Err (record { reason = x.reason; line = record { 0 = n }; offset = x.at })

-- The parts of an answer (document 01; document 02, order 3). A refusal has its number, its line and its place there, no lines and a count of
-- 0; an accepted selection has 0 for the refusal number, for the line and for the place.
abbrev pub refusal_number : Answer → ℕ
refusal_number (Ok a) = 0
refusal_number (Err r) = reason_number r.reason

abbrev pub line_of : Answer → ℕ
line_of (Ok a) = 0
line_of (Err r) = r.line.0

abbrev pub offset_of : Answer → ℕ
offset_of (Ok a) = 0
offset_of (Err r) = r.offset.0

abbrev pub number_of_lines : Answer → ℕ
number_of_lines (Ok a) = a.lines.0
number_of_lines (Err r) = 0

abbrev pub count_of : Answer → ℕ
count_of (Ok a) = a.count
count_of (Err r) = 0

-- the lent marks after the call: marks past the last line keep their values; after a refusal every mark is 255
abbrev pub marks_of : (lent : List ℕ) → Result → List ℕ
marks_of m (accepted ms c) = ms ++ drop (length ms) m
marks_of m (refused x n) = replicate (length m) 255

-- the answer of a call and the marks after it
pub record Selects (f t marks : List ℕ) (r : Answer) (marks' : List ℕ) (δ : Dialect) : Type 0 where
  pub answer : r ≡ answer_of (selection f t (length marks) δ)
  pub marks_are : marks' ≡ marks_of marks (selection f t (length marks) δ)
