-- The bytes of one PCD data field (document 01, "Field bytes") for a number, a string and a wide string, and the refusals 23 to 26.
use Rattle.std.specs.Prelude.{ℕ, ◌^◌, ◌≡◌, List, [], ◌∷◌, ◌++◌, length, eqb, ltb, leb, Err, Ok, Result}
use Rattle.units.specs.Refusals.{refusal}
use Rattle.text.specs.Bytes.{pick}
use Rattle.text.specs.Numbers.{lowest_bytes}
use Rattle.text.specs.Parts.{stored}
use Rattle.units.specs.declared.Reason.{Reason}
use Rattle.units.specs.declared.Reason.TheVariants.{BufferShort, DatumKind, DatumRange, DatumUnknown}
use Rattle.units.specs.declared.Refusal.{Refusal}

-- the datum codes
abbrev pub VOID : ℕ
VOID = 0

abbrev pub BOOLEAN : ℕ
BOOLEAN = 1

abbrev pub UINT8 : ℕ
UINT8 = 2

abbrev pub UINT16 : ℕ
UINT16 = 3

abbrev pub UINT32 : ℕ
UINT32 = 4

abbrev pub UINT64 : ℕ
UINT64 = 5

-- the bytes of a field, or why there are none
pub data Encoding : Type 0 where
  bytes : List ℕ → Encoding
  unfit : Reason → Encoding

-- the number of bytes of a datum that takes numbers
unfoldable pub width_of : ℕ → ℕ
width_of d = pick (eqb d UINT16) 2 (pick (eqb d UINT32) 4 (pick (eqb d UINT64) 8 1))

-- the least number that is too large
unfoldable pub limit_of : ℕ → ℕ
limit_of d = pick (eqb d BOOLEAN) 2 (256 ^ width_of d)

-- a string and a zero byte
abbrev pub terminated : List ℕ → List ℕ
terminated s = s ++ 0 ∷ []

-- a wide string: a zero byte after each byte, and two zero bytes at the end
unfoldable pub widened : List ℕ → List ℕ
widened [] = 0 ∷ 0 ∷ []
widened (b ∷ s) = b ∷ 0 ∷ widened s

-- the field of a number, and of a string's bytes, by the datum: 23 before 24 before 25
abbrev pub number_field : (datum : ℕ) → ℕ → Encoding
number_field d x =
    pick (ltb UINT64 d) (unfit DatumUnknown)
    (pick (eqb d VOID) (unfit DatumKind)
    (pick (leb (limit_of d) x) (unfit DatumRange)
    (bytes (lowest_bytes (width_of d) x))))

abbrev pub string_field : (datum : ℕ) → List ℕ → Encoding
string_field d s = pick (ltb UINT64 d) (unfit DatumUnknown) (pick (eqb d VOID) (bytes s) (unfit DatumKind))

-- the answer, and the buffer after the call
pub record Field : Type 0 where
  pub answer : Result ℕ Refusal
  pub buffer : List ℕ

-- a refusal changes no byte of the buffer
abbrev pub refused_field : Reason → List ℕ → Field
refused_field n b = record { answer = Err (refusal n); buffer = b }

-- the bytes at the front of the buffer, the rest unchanged; 26 if they have no room
unfoldable pub fitted : Encoding → (buffer : List ℕ) → Field
fitted (unfit n) b = refused_field n b
fitted (bytes s) b = pick (leb (length s) (length b)) (record { answer = Ok (length s); buffer = stored s b }) (refused_field BufferShort b)

-- the contract of a call that writes a field: its answer and its buffer
pub record Writes (f : Field) (r : Result ℕ Refusal) (b : List ℕ) : Type 0 where
  pub answer : r ≡ f.answer
  pub buffer : b ≡ f.buffer
