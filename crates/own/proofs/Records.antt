-- The records of settings, one after the other: their lengths, and that they are the first records of the scope. Assumes nothing.
use Prim.Native.Nat.{ℕ, ◌*◌}
use native.Mathlib.Omega.{arith}
use mathlib.Core.Path.{◌≡◌, refl, ◌∙◌}
use mathlib.Core.List.{List, [], ◌∷◌, ◌++◌, map, append_assoc}
use lib.ListN.{length, length-append}
use Rattle.settings.specs.Table.{records_in, records}
use Rattle.settings.proofs.TableRecords.{records_more}
use Rattle.own.specs.Own.{Own, padded, record_of, records_of, scope}
use Rattle.own.specs.Putting.{IsSetting}
use Rattle.own.proofs.Padded.{padded_length}

-- a record has 128 bytes
pub record_length : (x : Own) → length (record_of x) ≡ 128
unfolding record_of
record_length x =
    let name : List ℕ = padded 64 x.name in
    let marks : List ℕ = padded 8 (x.kind ∷ length x.content ∷ []) in
    let content : List ℕ = padded 56 x.content in
    omega (
      arith,
      length-append name (marks ++ content),
      length-append marks content,
      padded_length 64 x.name,
      padded_length 8 (x.kind ∷ length x.content ∷ []),
      padded_length 56 x.content,
    )

-- the record of a setting by its fields
pub setting_record : (x : Own) (n : List ℕ) (k l : ℕ) (c : List ℕ) → IsSetting x n k l c
    → padded 64 n ++ (padded 8 (k ∷ l ∷ []) ++ c) ≡ record_of x
unfolding record_of
setting_record x n k l c s = rw (← s.its_content, ← s.its_name, ← s.its_kind, ← s.its_length)

pub records_length : (o : List Own) → length (records_of o) ≡ 128 * length o
unfolding records_of
records_length [] = refl
records_length (x ∷ o) = omega (arith, length-append (record_of x) (records_of o), record_length x, records_length o)

-- a record in front is the first of the records
first_record : (x : Own) (s : List ℕ) → records (record_of x ++ s) ≡ record_of x ∷ records s
first_record x s = records_more (record_of x) s (record_length x)

pub own_records : (o : List Own) → records (records_of o) ≡ map record_of o
unfolding records_in records_of
own_records [] = refl
own_records (x ∷ o) = first_record x (records_of o) ∙ rw (own_records o)

-- the records of the scope: those of the settings, and then the table's
pub scope_records : (o : List Own) (t : List ℕ) → records (scope o t) ≡ map record_of o ++ records t
unfolding records_of
scope_records [] t = refl
scope_records (x ∷ o) t = rw (append_assoc (record_of x) (records_of o) t) (first_record x (scope o t) ∙ rw (scope_records o t))
