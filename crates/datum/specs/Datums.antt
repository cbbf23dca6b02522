-- What the functions on datums promise each other. No promise about a field cites this.
use Rattle.std.specs.Prelude.{ℕ, ◌≡◌, ltb}
use Rattle.units.specs.Refusals.{refusal}
use Rattle.units.specs.declared.Reason.TheVariants.{DatumRange}
use Rattle.units.specs.declared.Refusal.{Refusal}
use Rattle.text.specs.Bytes.{pick}
use Rattle.text.specs.Numbers.{lowest_bytes}
use Rattle.datum.specs.Encoding.{VOID, BOOLEAN, UINT8, UINT16, UINT32, UINT64, Encoding, bytes, unfit}
use Rattle.datum.specs.declared.types.Datum.{Datum}
use Rattle.datum.specs.declared.types.Datum.TheVariants.{Void, Boolean, Uint8, Uint16, Uint32, Uint64}

-- the code of a datum
abbrev pub code_of : Datum → ℕ
code_of Void = VOID
code_of Boolean = BOOLEAN
code_of Uint8 = UINT8
code_of Uint16 = UINT16
code_of Uint32 = UINT32
code_of Uint64 = UINT64

-- the field of a number, where the datum takes numbers of a width up to a largest one
abbrev pub within : (width largest : ℕ) → ℕ → Encoding
within w m x = pick (ltb m x) (unfit DatumRange) (bytes (lowest_bytes w x))

-- a refusal of each value
abbrev pub Unfits : {A : Type 0} → (A → Encoding) → Refusal → Type 0
Unfits {A} f r = (r ≡ refusal r.reason) × ((x : A) → f x ≡ unfit r.reason)
