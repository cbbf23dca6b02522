-- What the exported calls answer: a number, which is 0 or the number of a refusal, and numbers in lent arrays. The dialect of a call is a number.
use Rattle.std.specs.Prelude.{ℕ, ◌%◌, ◌≡◌, List, [], ◌∷◌, length, eqb, Option, Some, None, Err, Ok, Result}
use Rattle.units.specs.Dialects.{by_itself}
use Rattle.units.specs.declared.Dialect.{Dialect}
use Rattle.units.specs.Refusals.{TABLE_MALFORMED}
use Rattle.text.specs.Bytes.{pick}
use Rattle.text.specs.Parts.{stored}
use Rattle.settings.specs.Table.{well_formed}
use Rattle.lookup.specs.Setting.{setting_under}
use Rattle.lookup.specs.declared.Home.{Home}
use Rattle.lookup.specs.declared.Home.TheVariants.{Expression, Table}
use Rattle.lookup.specs.declared.Value.{Value}
use Rattle.lookup.specs.declared.Value.TheVariants.{Number, Text}
use Rattle.value.specs.Places.{over}
use Rattle.value.specs.Kinds.{kind_number, of_text}
use Rattle.token.specs.Tokens.{Reading, ending_number, Stored}
use Rattle.evaluation.specs.Evaluation.{Evaluation, refusal_number, offset_of as refusal_offset, kind_number_of, number_of, count_of, place_of, evaluation}
use Rattle.select.specs.Select.{selection, answer_of, refusal_number as selection_number, line_of}
use Rattle.select.specs.Select.{offset_of, number_of_lines, count_of as selection_count, marks_of, Answer}
use Rattle.field.specs.Fields.{written_number, field_of}
use Rattle.units.specs.declared.Offset.{Offset}
use Rattle.units.specs.declared.Refusal.{Refusal}

-- the dialect of a call, by its number (document 02, order 5): bit 0 is the edition, 1 for the old one; the other bits are ignored
abbrev pub dialect_of : ℕ → Dialect
dialect_of n = by_itself (eqb (n % 2) 1)

-- a setting as three numbers: its kind, its number or the start of its string, and the string's length; 255 if the name is not set
abbrev pub value_shown : Value → List ℕ
value_shown (Number x) = 0 ∷ x ∷ 0 ∷ []
value_shown (Text k p) = kind_number (of_text k) ∷ p.start.0 ∷ p.len ∷ []

abbrev pub setting_shown : Option Value → List ℕ
setting_shown None = 255 ∷ 0 ∷ 0 ∷ []
setting_shown (Some v) = value_shown v

-- a lookup: 0 and the setting under the name; or 1 for a malformed table, and the array keeps its entries
pub record Shows (t n out : List ℕ) (r : ℕ) (out' : List ℕ) : Type 0 where
  pub refused : r ≡ pick (well_formed t) 0 TABLE_MALFORMED
  pub written : out' ≡ pick (well_formed t) (stored (setting_shown (setting_under t n)) out) out

-- the offset of the refusal, 0 if nothing was refused
abbrev pub ending_offset : Result Offset Refusal → ℕ
ending_offset (Ok end) = 0
ending_offset (Err r) = r.offset.0

-- the tokens: the arrays hold the refusal number of the reading, the number of tokens that were read, the offset of the refusal, and the tokens
pub record Lists (read : Reading) (out codes starts lens values out' codes' starts' lens' values' : List ℕ) : Type 0 where
  pub head : out' ≡ stored (ending_number read.ending ∷ length read.tokens ∷ ending_offset read.ending ∷ []) out
  pub tokens : Stored read codes starts lens values codes' starts' lens' values'

-- the home of a string as a number
abbrev pub home_number : Home → ℕ
home_number Expression = 0
home_number Table = 1

-- The answer to an expression as seven numbers: the kind, the number, the count of operators, the place of a string, which is 1 for the table
-- and 0 for the expression, its start and its length, and the offset of a refusal. The line of the answer is always 0 and is not among them.
abbrev pub answer_shown : Evaluation → List ℕ
answer_shown a =
    kind_number_of a ∷ number_of a ∷ count_of a ∷ home_number (place_of a).home ∷ (place_of a).start.0 ∷ (place_of a).len ∷ refusal_offset a ∷ []

-- the answer to an expression e over a table t in the dialect δ: the number of the refusal, 0 with a value, and the array
pub record Answers (e t : List ℕ) (δ : Dialect) (out : List ℕ) (r : ℕ) (out' : List ℕ) : Type 0 where
  pub refused_with : r ≡ refusal_number (evaluation (over e t) δ)
  pub written : out' ≡ stored (answer_shown (evaluation (over e t) δ)) out

-- the length of the field, 0 with a refusal
abbrev pub written_length : Result ℕ Refusal → ℕ
written_length (Ok n) = n
written_length (Err r) = 0

-- the offset of the refusal, 0 if the field was written
abbrev pub written_offset : Result ℕ Refusal → ℕ
written_offset (Ok n) = 0
written_offset (Err r) = r.offset.0

-- the answer of a data field as two numbers: its length and the offset of a refusal
abbrev pub field_shown : Result ℕ Refusal → List ℕ
field_shown w = written_length w ∷ written_offset w ∷ []

-- the field of an expression e over a table t in the dialect δ: the number, the array with the length and the offset, and the buffer
pub record Fills (e t : List ℕ) (datum : ℕ) (δ : Dialect) (buffer out : List ℕ) (r : ℕ) (buffer' out' : List ℕ) : Type 0 where
  pub refused_with : r ≡ written_number (field_of (over e t) datum buffer δ).answer
  pub shown : out' ≡ stored (field_shown (field_of (over e t) datum buffer δ).answer) out
  pub buffer_is : buffer' ≡ (field_of (over e t) datum buffer δ).buffer

-- the answer of a selection as four numbers: the line of a refusal, the number of lines, the sum of counts, the offset of a refusal in its line
abbrev pub selection_shown : Answer → List ℕ
selection_shown a = line_of a ∷ number_of_lines a ∷ selection_count a ∷ offset_of a ∷ []

-- the selection of a file f over a table t in the dialect δ
pub record Marks (f t : List ℕ) (δ : Dialect) (marks out : List ℕ) (r : ℕ) (marks' out' : List ℕ) : Type 0 where
  pub refused_with : r ≡ selection_number (answer_of (selection f t (length marks) δ))
  pub shown : out' ≡ stored (selection_shown (answer_of (selection f t (length marks) δ))) out
  pub marks_are : marks' ≡ marks_of marks (selection f t (length marks) δ)
