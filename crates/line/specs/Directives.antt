-- The directive of a line, by its word (document 01, "Lines and directives"); a line whose first byte that is no blank
-- is not `!` is plain. The word is the run of letters after this `!`.
use Rattle.std.specs.Prelude.{ℕ, ◌+◌, Bool, List, [], ◌∷◌, get_or, take, drop, eqb}
use Prim.Native.String.{String}
use Rattle.text.specs.Bytes.{byte, bytes, pick}
use Rattle.text.specs.Order.{equal}
use Rattle.text.specs.Runs.{span}
use Rattle.text.specs.declared.runs.Set.TheVariants.{Blanks, Letters, Word as WordSet}
use Rattle.line.specs.declared.Directive.{Directive}
use Rattle.line.specs.declared.Directive.TheVariants.{Plain, If, Ifdef, Ifndef, Elseif, Else, Endif, Unknown}

-- a word and its directive
pub record Word : Type 0 where
  pub text : List ℕ
  pub directive : Directive

abbrev word : String → Directive → Word
word s d = record { text = bytes s; directive = d }

-- `elif` is `elseif`; `include` and `error` leave a line plain
abbrev pub words : List Word
words =
    word "if" If
    ∷ word "ifdef" Ifdef
    ∷ word "ifndef" Ifndef
    ∷ word "elseif" Elseif
    ∷ word "elif" Elseif
    ∷ word "else" Else
    ∷ word "endif" Endif
    ∷ word "include" Plain
    ∷ word "error" Plain
    ∷ []

-- any other word is unknown, an empty one too
unfoldable pub named : List Word → List ℕ → Directive
named [] w = Unknown
named (x ∷ xs) w = pick (equal w x.text) x.directive (named xs w)

-- the start of the word in a line that has one, and the start of the text after it
unfoldable pub word_start : List ℕ → ℕ
word_start l = span Blanks l + 1

unfoldable pub text_start : List ℕ → ℕ
text_start l = word_start l + span Letters (drop (word_start l) l)

abbrev pub word_of : List ℕ → List ℕ
word_of l = take (span Letters (drop (word_start l) l)) (drop (word_start l) l)

-- the text after the word, up to the line's end
abbrev pub text_of : List ℕ → List ℕ
text_of l = drop (text_start l) l

-- the first word of a line (document 02, order 6): the whole run of letters, digits and `_` at its first byte that is no blank; there is none
-- where that byte is a `!`
abbrev pub first_word : List ℕ → List ℕ
first_word l =
    let s : List ℕ = drop (span Blanks l) l in
    take (span WordSet s) s

-- the first word is `DEFINE`; such a line is plain
unfoldable pub is_define : List ℕ → Bool
is_define l = equal (first_word l) (bytes "DEFINE")

unfoldable pub directive_of : List ℕ → Directive
directive_of l = pick (eqb (get_or l (span Blanks l) 0) (byte "!")) (named words (word_of l)) Plain
