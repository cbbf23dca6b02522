-- The lines of a file (document 01, "Lines and directives"). A line ends at an LF; the LF, and a CR directly before it, are no part of the
-- line. The bytes after the last LF are a line too, if there are any.
use Rattle.std.specs.Prelude.{ℕ, Bool, false, ◌&&◌, List, [], ◌∷◌, eqb}
use Rattle.text.specs.Bytes.{byte, pick}

-- a byte in front of the first line
unfoldable pub onto : ℕ → List (List ℕ) → List (List ℕ)
onto b [] = (b ∷ []) ∷ []
onto b (l ∷ ls) = (b ∷ l) ∷ ls

-- the next byte is an LF
unfoldable pub ends_line : List ℕ → Bool
ends_line [] = false
ends_line (b ∷ s) = eqb b (byte "\n")

unfoldable pub lines : List ℕ → List (List ℕ)
lines [] = []
lines (b ∷ s) = pick (eqb b (byte "\n")) ([] ∷ lines s) (pick (eqb b (byte "\r") && ends_line s) (lines s) (onto b (lines s)))
