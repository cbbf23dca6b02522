-- The data field of the value of an expression (document 01, "Field bytes"). The refusals of the expression come before those of the datum
-- and the buffer. The answer is a length; the count of operators is no part of it.
use Rattle.std.specs.Prelude.{ℕ, List, Err, Ok, Result}
use Rattle.units.specs.Refusals.{reason_number}
use Rattle.units.specs.declared.Dialect.{Dialect}
use Rattle.lookup.specs.declared.TextKind.TheVariants.{String, Wide}
use Rattle.value.specs.Places.{Memory}
use Rattle.value.specs.Values.{Value, number, text, fault}
use Rattle.evaluation.specs.Evaluation.{Evaluation, value, refused, evaluation}
use Rattle.datum.specs.Encoding.{Encoding, unfit, terminated, widened, number_field, string_field, Field, fitted}
use Rattle.units.specs.declared.Refusal.{Refusal}

-- the bytes of a value in a datum, by its kind (the value of an answer is never a fault)
abbrev pub encoding : (datum : ℕ) → Value → Encoding
encoding d (number x) = number_field d x
encoding d (text String p s) = string_field d (terminated s)
encoding d (text Wide p s) = string_field d (widened s)
encoding d (fault f) = unfit f.reason

-- the refusal of the expression, which leaves the buffer as it was, or the bytes of its value at the front of the buffer
abbrev pub written : Evaluation → (datum : ℕ) → (buffer : List ℕ) → Field
written (refused r) d b = record { answer = Err r; buffer = b }
written (value v n) d b = fitted (encoding d v) b

-- the field of an expression over a table, in a dialect δ
unfoldable pub field_of : Memory → (datum : ℕ) → (buffer : List ℕ) → Dialect → Field
field_of m d b δ = written (evaluation m δ) d b

-- the number of the refusal, 0 if the field was written
abbrev pub written_number : Result ℕ Refusal → ℕ
written_number (Ok n) = 0
written_number (Err r) = reason_number r.reason

-- the line of an answer, 0 if there is no refusal
abbrev pub line_of : Result ℕ Refusal → ℕ
line_of (Ok n) = 0
line_of (Err r) = r.line.0
