-- Isolation (document 00, demand 3; document 01, "For demand 3"; document 02, order 6): an accepted selection depends on the lines that it
-- reads, which are directives and kept DEFINE lines, on the records under the names in these, and on the words of the lines; on nothing else
-- in the file or the table. This file defines when a second file and table are comparable; proofs/SelectionIsolated.antt shows that they give
-- the same selection.
use Rattle.std.specs.Prelude.{ℕ, ◌≤◌, ◌<◌, ◌≡◌, ◌⊎◌, true, false, List, [], length, get_or, take, drop}
use Rattle.units.specs.Dialects.{by_itself, in_directives}
use Rattle.units.specs.declared.Dialect.{Dialect}
use Rattle.text.specs.Runs.{span}
use Rattle.text.specs.declared.runs.Set.TheVariants.{Blanks}
use Rattle.settings.specs.Table.{well_formed}
use Rattle.lookup.specs.Setting.{record_under}
use Rattle.answers.specs.Names.{Names}
use Rattle.line.specs.Lines.{lines}
use Rattle.line.specs.Directives.{is_define, directive_of, text_of}
use Rattle.line.specs.declared.Directive.{Directive}
use Rattle.line.specs.declared.Directive.TheVariants.{Plain, If, Ifdef, Ifndef, Elseif, Else, Endif, Unknown}
use Rattle.condition.specs.Conditions.{name_at}
use Rattle.condition.specs.declared.macros.Named.{Named}
use Rattle.define.specs.Define.{expression_of}
use Rattle.groups.specs.Rules.{KEPT}
use Rattle.select.specs.Select.{MAX_FILE}

-- the macro's name in a text that begins with blanks
abbrev pub macro_in : List ℕ → Dialect → List ℕ
macro_in s δ =
    let m : List ℕ = drop (span Blanks s) s in
    let n : Named = name_at m δ in
    take n.len (drop n.start.0 m)

-- A directive that is read, with the text s, names n: a condition names all its macros and PCDs, those of skipped operands too; an `!ifdef`
-- or `!ifndef` names its one macro.
abbrev pub Mentions : Directive → (s n : List ℕ) → Dialect → Type 0
Mentions If s n δ = Names s n (in_directives δ)
Mentions Elseif s n δ = Names s n (in_directives δ)
Mentions Ifdef s n δ = n ≡ macro_in s δ
Mentions Ifndef s n δ = n ≡ macro_in s δ
Mentions Else s n δ = ⊥
Mentions Endif s n δ = ⊥
Mentions Plain s n δ = ⊥
Mentions Unknown s n δ = ⊥

-- A DEFINE line that is read names all macros and PCDs of its expression, those of skipped operands too.
pub record DefineMentions (l n : List ℕ) (δ : Dialect) : Type 0 where
  pub define : is_define l ≡ true
  pub names : Names (expression_of l) n (by_itself δ.old)

-- A line that is read names what it names as a directive or as a DEFINE line; no line is both.
abbrev pub LineMentions : (l n : List ℕ) → Dialect → Type 0
LineMentions l n δ = Mentions (directive_of l) (text_of l) n δ ⊎ DefineMentions l n δ

-- the tables have the same record under each name that the line names, byte for byte, or both have none
abbrev pub SameRecords : (t₁ t₂ l : List ℕ) → Dialect → Type 0
SameRecords t₁ t₂ l δ = (n : List ℕ) → LineMentions l n δ → record_under t₁ n ≡ record_under t₂ n

-- A directive that is read has mark 3, 4 or 5, a kept DEFINE line has mark 6 and counts as read, and any other line has a lower mark.
-- blocks/specs/Reading.antt defines which lines are read, by the structure of the file; `marks_show_reading` of the page of theorems is that
-- the marks show exactly these.
abbrev pub Read : (mark : ℕ) → Type 0
Read m = 3 ≤ m

-- Line l₂ of the second file agrees with line l₁ of the same number, which has the mark m in the first selection. Both are plain, or both
-- have the same word, where `elif` and `elseif` are one. If the line was read, both have the same bytes, and the tables have the same records
-- under the names in it. A plain line that was kept does not become a DEFINE line, well shaped or not; a line that was dropped may.
pub record Agrees (t₁ t₂ : List ℕ) (m : ℕ) (l₁ l₂ : List ℕ) (δ : Dialect) : Type 0 where
  pub word : directive_of l₂ ≡ directive_of l₁
  pub bytes : Read m → l₂ ≡ l₁
  pub records : Read m → SameRecords t₁ t₂ l₁ δ
  pub kept : m ≡ KEPT → is_define l₂ ≡ false

-- The second file and table, with this many marks, are comparable with the first ones, whose selection has the marks ms.
pub record Comparable (f₁ t₁ : List ℕ) (ms : List ℕ) (f₂ t₂ : List ℕ) (room : ℕ) (δ : Dialect) : Type 0 where
  pub as_many : length (lines f₂) ≡ length (lines f₁)
  pub agrees : (i : ℕ) → i < length (lines f₁) → Agrees t₁ t₂ (get_or ms i 0) (get_or (lines f₁) i []) (get_or (lines f₂) i []) δ
  pub is_well_formed : well_formed t₂ ≡ true
  pub small : length f₂ ≤ MAX_FILE
  pub short : (i : ℕ) → i < length (lines f₂) → length (get_or (lines f₂) i []) ≤ 1024
  pub enough : length (lines f₂) ≤ room
