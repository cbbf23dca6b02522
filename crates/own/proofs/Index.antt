-- The index of the first record with a name, one record at a time from the front. Assumes nothing.
use Prim.Native.Nat.{ℕ, zero, suc, ◌*◌, ◌/◌, ◌≤◌}
use native.Mathlib.Omega.{arith}
use mathlib.Core.Path.{◌≡◌, refl}
use mathlib.Core.Bool.{Bool, true, false, cond}
use mathlib.Core.List.{List, [], ◌∷◌}
use lib.ListN.{length, take, drop, length-take}
use lib.Dec.{ltb}
use borrow.Author.Tests.{ltb-false}
use Rattle.std.proofs.Common.{Option, Some, None}
use Rattle.std.specs.List.{position_or_len}
use Rattle.std.specs.Option.{unwrap_or}
use Rattle.text.specs.Bytes.{pick}
use Rattle.text.specs.Order.{equal}
use Rattle.settings.specs.Table.{records_in, records, name_of}
use Rattle.settings.proofs.TableRecords.{records_length}
use Rattle.own.specs.Index.{index_among, place_among}

-- the index as `position` has it
index_position : (rs : List (List ℕ)) (n : List ℕ) → position_or_len (λ r. equal (name_of r) n) rs ≡ index_among rs n
unfolding index_among
index_position [] n = refl
index_position (r ∷ rs) n = by (equal (name_of r) n) refl (index_position rs n)
  where
    by : (t : Bool) → equal (name_of r) n ≡ t → position_or_len (λ q. equal (name_of q) n) rs ≡ index_among rs n
        → position_or_len (λ q. equal (name_of q) n) (r ∷ rs) ≡ pick t 0 (suc (index_among rs n))
    by true e h = rw e
    by false e h = rw (e, h) (omega arith)

pub place_position : (rs : List (List ℕ)) (n : List ℕ)
    → cond (ltb (position_or_len (λ r. equal (name_of r) n) rs) (length rs)) (Some (position_or_len (λ r. equal (name_of r) n) rs)) None
    ≡ place_among rs n
place_position rs n = rw (index_position rs n) (by (ltb (index_among rs n) (length rs)))
  where
    by : (t : Bool) → cond t (Some (index_among rs n)) None ≡ pick t (Some (index_among rs n)) None
    by true = refl
    by false = refl

-- there are no more records than bytes for them
index_fits : (m : ℕ) (t n : List ℕ) → index_among (records_in m t) n ≤ m
unfolding records_in index_among
index_fits zero t n = omega arith
index_fits (suc m) t n = by (equal (name_of (take 128 t)) n) (index_fits m (drop 128 t) n)
  where
    by : (b : Bool) {k : ℕ} → k ≤ m → pick b 0 (suc k) ≤ suc m
    by true h = omega arith
    by false h = omega arith

-- the index in the first `used` bytes of a buffer, or after the last record
module _ (used i : ℕ) (b n : List ℕ) (r : Option ℕ) (few : used ≤ length b) (e : r ≡ place_among (records (take used b)) n)
    (u : i ≡ unwrap_or r (used / 128)) where
  abbrev number : ℕ
  number = length (take used b) / 128

  pub index_or : i ≡ index_among (records (take used b)) n
  index_or = by (ltb (index_among (records (take used b)) n) (length (records (take used b)))) refl (rw e at u)
    where
      by : (t : Bool) → ltb (index_among (records (take used b)) n) (length (records (take used b))) ≡ t
          → i ≡ unwrap_or (pick t (Some (index_among (records (take used b)) n)) None) (used / 128) → i ≡ index_among (records (take used b)) n
      by true g q = q
      by false g q =
          let after = ltb-false (index_among (records (take used b)) n) (length (records (take used b))) g in
          omega (arith, q, after, index_fits number (take used b) n, records_length number (take used b), length-take used b)

  pub index_within : 128 * i ≤ used
  index_within = omega (arith, index_or, index_fits number (take used b) n, length-take used b)
