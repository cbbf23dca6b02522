-- A file cut into its lines, from the front. Contracts between layers cite this; no promise about a file does.
use Rattle.std.specs.Prelude.{ℕ, ◌+◌, ◌-◌, ◌≤◌, ◌<◌, ◌≡◌, Bool, not, ◌&&◌, List, ◌∷◌, length, get_or, take, drop, eqb, ltb}
use Rattle.std.specs.Borrow.{Bor}
use Rattle.text.specs.Bytes.{byte, pick}
use Rattle.text.specs.Runs.{span}
use Rattle.text.specs.declared.runs.Set.TheVariants.{NotLineFeed}
use Rattle.line.specs.Lines.{lines}
use Rattle.line.specs.Directives.{text_start, text_of, directive_of}
use Rattle.line.specs.declared.cut.Cut.{Cut}
use Rattle.line.specs.declared.Head.{Head}
use Rattle.line.specs.declared.Directive.TheVariants.{Plain}

-- The line that starts at a byte is cut off: its bytes are those up to `end`. The other lines start at `after`: the byte after the LF, or
-- one past the end of the file if there is no LF.
pub record Cuts (f : List ℕ) (from : ℕ) (r : Cut) : Type 0 where
  pub first : lines (drop from f) ≡ take (r.end.0 - from) (drop from f) ∷ lines (drop r.after.0 f)
  pub starts : from ≤ r.end.0
  pub within : r.end.0 ≤ length f
  pub onward : from < r.after.0
  pub after_is : r.after.0 ≡ from + span NotLineFeed (drop from f) + 1

-- The directive of a line, and for a line that is not plain the start of the text after its word.
pub record ReadsHead (l : List ℕ) (r : Head) : Type 0 where
  pub directive : r.directive ≡ directive_of l
  pub within : r.text.0 ≤ length l
  pub starts : (directive_of l ≡ Plain → ⊥) → r.text.0 ≡ text_start l

-- The text after the word is handed on as a part of the line: its bytes, and its place in memory if the word ends within the line.
pub record HandsText (l r : Bor (List ℕ)) : Type 0 where
  pub bytes : r.now ≡ text_of l.now
  pub block : r.ref_ptr.0 ≡ l.ref_ptr.0
  pub offset : text_start l.now ≤ length l.now → r.ref_ptr.1 ≡ l.ref_ptr.1 + text_start l.now

-- The end of the line that starts at byte `from` and whose LF, or else the end of the file, is at byte `lf`: a CR of the line directly before
-- an LF is dropped.
unfoldable pub line_end : List ℕ → ℕ → ℕ → ℕ
line_end f from lf = pick (ltb lf (length f) && (ltb from lf && eqb (get_or f (lf - 1) 0) (byte "\r"))) (lf - 1) lf

-- Whether there is a byte before byte i and it is no LF, so that a line began before byte i and has not ended.
unfoldable pub opened : List ℕ → ℕ → Bool
opened f i = ltb 0 i && not (eqb (get_or f (i - 1) 0) (byte "\n"))
