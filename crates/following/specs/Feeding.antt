-- Following a file line by line (document 02, order 2): a running selection takes one line after the other, each with the table, and may be
-- asked at any time what the file would give if it ended there.
use Rattle.std.specs.Prelude.{ℕ, ◌+◌, ◌-◌, Bool, false, ◌||◌, List, [], ◌∷◌, length, take, eqb, ltb, leb}
use Rattle.units.specs.declared.Dialect.{Dialect}
use Rattle.units.specs.declared.Fault.{Fault}
use Rattle.units.specs.Refusals.{unplaced}
use Rattle.units.specs.declared.Reason.TheVariants.{FileLong, LinesMany, PieceMalformed, TableMalformed}
use Rattle.text.specs.Bytes.{byte, pick}
use Rattle.settings.specs.Table.{well_formed}
use Rattle.line.specs.Lines.{lines}
use Rattle.line.specs.Cutting.{opened}
use Rattle.groups.specs.Groups.{State, Outcome, go, stop}
use Rattle.select.specs.Step.{step}
use Rattle.select.specs.Select.{MAX_FILE, MAX_LINES, Result, refused, at_end, start}

-- a running selection: the state after the lines so far, how many bytes and how many lines there were, and whether the last had no LF
pub record Progress : Type 0 where
  pub state : State
  pub bytes : ℕ
  pub lines : ℕ
  pub ended : Bool

abbrev pub progress : State → (bytes lines : ℕ) → (ended : Bool) → Progress
progress s b n e = record { state = s; bytes = b; lines = n; ended = e }

-- before the first line
abbrev pub fresh : Progress
fresh = progress start 0 0 false

-- an LF is among these bytes
unfoldable pub has_lF : List ℕ → Bool
has_lF [] = false
has_lF (b ∷ s) = eqb b (byte "\n") || has_lF s

-- 35: an empty piece, or an LF before its last byte
unfoldable pub malformed : List ℕ → Bool
malformed p = eqb (length p) 0 || has_lF (take (length p - 1) p)

-- the line of a piece, without its end; a piece that is not malformed has just one
abbrev pub first_of : List (List ℕ) → List ℕ
first_of [] = []
first_of (l ∷ ls) = l

abbrev pub line_of : (piece : List ℕ) → List ℕ
line_of p = first_of (lines p)

-- the last byte is no LF
abbrev pub unended : (piece : List ℕ) → Bool
unended p = opened p (length p)

-- the mark of a line and the running selection after it, or a refusal, with its place in the line, and its line
pub data Fed : Type 0 where
  fed : (mark : ℕ) → Progress → Fed
  unfed : Fault → (line : ℕ) → Fed

-- the line of a piece by its outcome in the state so far
abbrev pub onward : Outcome → (piece : List ℕ) → Progress → Fed
onward (go m s) piece p = fed m (progress s (p.bytes + length piece) (p.lines + 1) (unended piece))
onward (stop x) piece p = unfed x (p.lines + 1)

-- a piece is fed, with a table t: 1 and 35 have line 0, as any refusal of a whole call; 14 and 15 come at the line that passes the limit,
-- before its other checks
unfoldable pub feeding : (t : List ℕ) → Progress → (piece : List ℕ) → Dialect → Fed
feeding t p piece δ =
    pick (well_formed t)
    (pick (malformed piece || p.ended) (unfed (unplaced PieceMalformed) 0)
    (pick (ltb MAX_FILE (p.bytes + length piece)) (unfed (unplaced FileLong) (p.lines + 1))
    (pick (leb MAX_LINES p.lines) (unfed (unplaced LinesMany) (p.lines + 1))
    (onward (step t (p.lines + 1) p.state (line_of piece) δ) piece p))))
    (unfed (unplaced TableMalformed) 0)

-- The file ends here, with a table t: accepted with the count so far, its marks being those of the lines that were fed; or refused with 1, or
-- with 21 at the innermost open `!if`.
unfoldable pub ending : (t : List ℕ) → Progress → Result
ending t p = pick (well_formed t) (at_end p.state.groups p.state.count) (refused (unplaced TableMalformed) 0)
