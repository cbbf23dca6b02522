-- What `$(NAME)` after `!ifdef` and `!ifndef` is (document 02, order 5), as a text.
use Rattle.std.specs.Prelude.{ℕ, ◌<◌, ◌≡◌, true, List, ◌++◌, length, drop}
use Rattle.text.specs.Bytes.{bytes}
use Rattle.text.specs.Runs.{span}
use Rattle.text.specs.Names.{macro_name}
use Rattle.text.specs.declared.runs.Set.TheVariants.{Blanks}
use Rattle.condition.specs.Conditions.{idle}

-- a text without the blanks at its front
abbrev pub past_blanks : List ℕ → List ℕ
past_blanks s = drop (span Blanks s) s

-- one blank or more, and nothing else
pub record SomeBlanks (b : List ℕ) : Type 0 where
  pub some : 0 < length b
  pub blanks : span Blanks b ≡ length b

-- the whole name of a macro
pub record Name (w : List ℕ) : Type 0 where
  pub some : 0 < length w
  pub whole : macro_name w ≡ length w

-- `$(NAME)` and what follows
abbrev pub used : (w r : List ℕ) → List ℕ
used w r = bytes "$(" ++ (w ++ (bytes ")" ++ r))

-- a text is `$(NAME)`, with the name w, before blanks and an optional comment r
pub record Uses (s w r : List ℕ) : Type 0 where
  pub text : s ≡ used w r
  pub name : Name w
  pub rest : idle r ≡ true
