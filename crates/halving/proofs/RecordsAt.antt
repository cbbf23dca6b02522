-- The records of a table by their places. Assumes nothing.
use Prim.Native.Nat.{ℕ, zero, suc, ◌+◌, ◌-◌, ◌*◌, ◌/◌, ◌<◌}
use native.Mathlib.Omega.{arith}
use mathlib.Core.Path.{◌≡◌, refl}
use mathlib.Core.List.{List, []}
use lib.ListN.{length, get_or, take, drop}
use lib.Seq.{drop-drop}
use Rattle.settings.specs.Table.{records_in, records, unpadded}
use Rattle.settings.proofs.TableRecords as TableRecords
use Rattle.settings.proofs.TableRecords.{field}
use Rattle.halving.specs.Halving.{name_of_record}

pub records_length : (m : ℕ) (t : List ℕ) → length (records_in m t) ≡ m
records_length = TableRecords.records_length

pub record_at : (m i : ℕ) (t : List ℕ) → i < m → get_or (records_in m t) i [] ≡ take 128 (drop (128 * i) t)
unfolding records_in
record_at zero i t h = absurd (omega arith)
record_at (suc m) zero t h = refl
record_at (suc m) (suc i) t h =
    let e : 128 * suc i ≡ 128 + 128 * i = omega arith in
    rw (e, ← drop-drop (128 * i) 128 t) (record_at m i (drop 128 t) (omega arith))

-- the name of a record in the table
pub name_at : (t : List ℕ) (i : ℕ) → i < length t / 128
    → name_of_record (records t) i ≡ unpadded (take (128 * i + 64 - 128 * i) (drop (128 * i) t))
name_at t i h = rw (record_at (length t / 128) i t h, field t (128 * i))
