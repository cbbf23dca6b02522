-- What a DEFINE line says (document 02, order 6), if it is kept: `DEFINE`, blanks, the name of a macro, at most 64 bytes, `=` and an expression;
-- blanks round the `=` are free. It sets the macro, or is refused: 22, then the refusals of the expression, then 28, then 27. `δ` is the dialect.
use Rattle.std.specs.Prelude.{ℕ, ◌+◌, Bool, ◌&&◌, ◌||◌, List, length, get_or, take, drop, eqb, ltb, leb}
use Rattle.units.specs.Refusals.{fault_at, unplaced, placed}
use Rattle.units.specs.Dialects.{by_itself}
use Rattle.units.specs.declared.Dialect.{Dialect}
use Rattle.units.specs.declared.Fault.{Fault}
use Rattle.units.specs.declared.Refusal.{Refusal}
use Rattle.units.specs.declared.Reason.TheVariants.{DefinedLong, DefinedMany, TextMalformed}
use Rattle.text.specs.Bytes.{byte, pick, blank}
use Rattle.text.specs.Names.{macro_name}
use Rattle.text.specs.Numbers.{lowest_bytes}
use Rattle.text.specs.Runs.{span}
use Rattle.text.specs.declared.runs.Set.TheVariants.{Blanks}
use Rattle.own.specs.Own.{Own, scope, has, MAX_OWN}
use Rattle.lookup.specs.declared.TextKind.{TextKind}
use Rattle.value.specs.Places.{over}
use Rattle.value.specs.Kinds.{kind_number, of_text as kind_of_text}
use Rattle.value.specs.Values.{number, text, fault}
use Rattle.evaluation.specs.Evaluation.{Evaluation, value, refused, evaluation_in}

-- The parts of a line with the first word `DEFINE`, by their places: the end of this word, the name of a macro after blanks, the end of the
-- name, and the place of the `=` after more blanks.
abbrev pub after_word : List ℕ → ℕ
after_word l = span Blanks l + 6

abbrev pub name_start : List ℕ → ℕ
name_start l = after_word l + span Blanks (drop (after_word l) l)

abbrev pub name_length : List ℕ → ℕ
name_length l = macro_name (drop (name_start l) l)

abbrev pub name_end : List ℕ → ℕ
name_end l = name_start l + name_length l

abbrev pub equals_at : List ℕ → ℕ
equals_at l = name_end l + span Blanks (drop (name_end l) l)

-- the largest number of bytes in a name, and in the content of a record
abbrev pub MAX_NAME : ℕ
MAX_NAME = 64

abbrev pub MAX_CONTENT : ℕ
MAX_CONTENT = 56

-- a blank follows the word, a name of 1 to 64 bytes comes after the blanks, and then the `=`
unfoldable pub shaped : List ℕ → Bool
shaped l = blank (get_or l (after_word l) 0) && (ltb 0 (name_length l) && (leb (name_length l) MAX_NAME && eqb (get_or l (equals_at l) 0) (byte "=")))

-- the name of the macro, and the expression: all that follows the `=`
abbrev pub macro_of : List ℕ → List ℕ
macro_of l = take (name_length l) (drop (name_start l) l)

abbrev pub expression_start : List ℕ → ℕ
expression_start l = equals_at l + 1

abbrev pub expression_of : List ℕ → List ℕ
expression_of l = drop (expression_start l) l

-- the setting that a line makes and the number of operators that were applied, or the refusal of the line
pub data Definition : Type 0 where
  sets : Own → (count : ℕ) → Definition
  fails : Fault → Definition

-- a macro with a number, and one with a string
abbrev pub of_number : (name : List ℕ) → ℕ → Own
of_number n x = record { name = n; kind = 0; content = lowest_bytes 8 x }

abbrev pub of_text : (name : List ℕ) → TextKind → List ℕ → Own
of_text n k s = record { name = n; kind = kind_number (kind_of_text k); content = s }

-- 27: no name besides those of the settings so far, if these are 64
abbrev pub limited : List Own → Own → (count : ℕ) → Definition
limited own x k = pick (has x.name own || ltb (length own) MAX_OWN) (sets x k) (fails (unplaced DefinedMany))

-- 28: no string of more than 56 bytes
abbrev pub limited_text : List Own → Own → (count : ℕ) → Definition
limited_text own x k = pick (leb (length x.content) MAX_CONTENT) (limited own x k) (fails (unplaced DefinedLong))

-- the refusal of an expression that starts at this byte of its line: its place in the expression becomes a place in the line
abbrev pub in_line : (start : ℕ) → Refusal → Fault
in_line p r = fault_at r.reason (pick (placed r.reason) (p + r.offset.0) 0)

-- a name and the answer to an expression that starts at this byte of the line (the value of an answer is never a
-- fault: any refusal would do there)
unfoldable pub of_answer : List Own → (name : List ℕ) → (start : ℕ) → Evaluation → Definition
of_answer own n p (value (number x) k) = limited own (of_number n x) k
of_answer own n p (value (text j q s) k) = limited_text own (of_text n j s) k
of_answer own n p (value (fault f) k) = fails (unplaced DefinedLong)
of_answer own n p (refused r) = fails (in_line p r)

-- the line l with the settings that lines before it made, over a table t; bars as in a data field
unfoldable pub definition_of : List Own → (t l : List ℕ) → Dialect → Definition
definition_of own t l δ =
    pick (shaped l) (of_answer own (macro_of l) (expression_start l) (evaluation_in (over (expression_of l) (scope own t)) (by_itself δ.old)))
    (fails (unplaced TextMalformed))
