-- DEFINE lines as texts (document 02, order 6): what the tests by places in Define.antt decide.
use Rattle.std.specs.Prelude.{ℕ, ◌≤◌, ◌≡◌, true, false, ◌||◌, List, [], ◌∷◌, ◌++◌, length}
use Rattle.text.specs.Bytes.{bytes, digit, initial, blank}
use Rattle.text.specs.Names.{macro_name}

-- blanks and nothing else, or no bytes
abbrev pub AllBlank : List ℕ → Type 0
AllBlank [] = Unit
AllBlank (b ∷ s) = (blank b ≡ true) × AllBlank s

-- no bytes, or a first one that is no letter, no digit and no `_`
abbrev pub EndsWord : List ℕ → Type 0
EndsWord [] = Unit
EndsWord (b ∷ s) = (initial b || digit b) ≡ false

-- a line has the first word `DEFINE`, and then r
pub record DefineFirst (l r : List ℕ) : Type 0 where
  pub indent : List ℕ
  pub text : l ≡ indent ++ (bytes "DEFINE" ++ r)
  pub indented : AllBlank indent
  pub ends : EndsWord r

-- A line is `DEFINE`, blanks, the name of a macro, `=` and an expression e. Blanks may come before `DEFINE` and before the `=`; those after the
-- `=` belong to e.
pub record DefineText (l name e : List ℕ) : Type 0 where
  pub indent : List ℕ
  pub gap : List ℕ
  pub free : List ℕ
  pub text : l ≡ indent ++ (bytes "DEFINE" ++ (gap ++ (name ++ (free ++ (bytes "=" ++ e)))))
  pub indented : AllBlank indent
  pub some_gap : 1 ≤ length gap
  pub gap_blank : AllBlank gap
  pub free_blank : AllBlank free
  pub some : 1 ≤ length name
  pub whole : macro_name name ≡ length name

-- such a line whose name has at most 64 bytes
pub record DefineLine (l name e : List ℕ) : Type 0 where
  pub shape : DefineText l name e
  pub short : length name ≤ 64
