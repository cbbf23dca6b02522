-- The setting under a name where whole records stand in front of a table: the first of them with this name, else the table's, whose place
-- is behind them. Assumes nothing.
use Prim.Native.Nat.{ℕ, suc, ◌+◌, ◌*◌, ◌/◌, ◌%◌, ◌≤◌, ◌<◌}
use native.Mathlib.Omega.{arith}
use native.Mathlib.Nat.{zero-add}
use mathlib.Core.Path.{◌≡◌, refl, sym, ap, ◌∙◌}
use mathlib.Core.Bool.{Bool, true, false}
use mathlib.Core.List.{List, [], ◌∷◌, ◌++◌}
use lib.ListN.{length, get_or, take, drop}
use lib.Dec.{eqb, ltb}
use borrow.Author.Tests.{ltb-true, ltb-false}
use Rattle.std.specs.Prelude.{Option, Some, None}
use Rattle.std.proofs.lemmas.Option.{none-some, same_Some}
use Rattle.text.specs.Bytes.{pick}
use Rattle.text.specs.Order.{equal}
use Rattle.text.proofs.Laws.{pick_case, pick_both}
use Rattle.settings.specs.Table.{records, name_of, kind_byte, length_byte}
use Rattle.settings.proofs.InFront.{records_in_front}
use Rattle.halving.proofs.RecordsAt.{records_length, record_at}
use Rattle.own.specs.Index.{index_among, place_among}
use Rattle.lookup.specs.Setting.{value_of, value_at, setting_under_at, setting_under, moved, behind, Recorded}
use Rattle.lookup.specs.declared.Value.{Value}
use Rattle.lookup.proofs.RecordUnderName.{clipped_most}

-- the first record with the name
module _ (n : List ℕ) where
  first_found : (rs us : List (List ℕ)) (at : ℕ) → index_among rs n < length rs
      → setting_under_at at (rs ++ us) n ≡ Some (value_at (at + 128 * index_among rs n) (get_or rs (index_among rs n) []))
  unfolding setting_under_at index_among
  first_found [] us at h = absurd (omega arith)
  first_found (r ∷ rs) us at h = by (equal (name_of r) n) refl (first_found rs us (at + 128))
    where
      by : (b : Bool) → equal (name_of r) n ≡ b
          → (index_among rs n < length rs
          → setting_under_at (at + 128) (rs ++ us) n ≡ Some (value_at (at + 128 + 128 * index_among rs n) (get_or rs (index_among rs n) [])))
          → setting_under_at at (r ∷ rs ++ us) n ≡ Some (value_at (at + 128 * index_among (r ∷ rs) n) (get_or (r ∷ rs) (index_among (r ∷ rs) n) []))
      by true e f = let z : at + 128 * 0 ≡ at = omega arith in rw (e, z)
      by false e f =
          let k : suc (index_among rs n) < suc (length rs) = rw e at h in
          let z : at + 128 * suc (index_among rs n) ≡ at + 128 + 128 * index_among rs n = omega arith in
          rw (e, z) (f (omega (arith, k)))

  -- none of them has it
  none_found : (rs us : List (List ℕ)) (at : ℕ) → length rs ≤ index_among rs n → setting_under_at at (rs ++ us) n ≡ setting_under_at (at + 128 * length rs) us n
  unfolding setting_under_at index_among
  none_found [] us at h = let z : at + 128 * 0 ≡ at = omega arith in rw z
  none_found (r ∷ rs) us at h = by (equal (name_of r) n) refl (none_found rs us (at + 128))
    where
      by : (b : Bool) → equal (name_of r) n ≡ b
          → (length rs ≤ index_among rs n → setting_under_at (at + 128) (rs ++ us) n ≡ setting_under_at (at + 128 + 128 * length rs) us n)
          → setting_under_at at (r ∷ rs ++ us) n ≡ setting_under_at (at + 128 * length (r ∷ rs)) us n
      by true e f = let k : suc (length rs) ≤ 0 = rw e at h in absurd (omega (arith, k))
      by false e f =
          let k : suc (length rs) ≤ suc (index_among rs n) = rw e at h in
          let z : at + 128 * suc (length rs) ≡ at + 128 + 128 * length rs = omega arith in
          rw (e, z) (f (omega (arith, k)))

index_most : (rs : List (List ℕ)) (n : List ℕ) → index_among rs n ≤ length rs
unfolding index_among
index_most [] n = omega arith
index_most (r ∷ rs) n =
    let h = index_most rs n in
    pick_case (λ i. i ≤ suc (length rs)) (equal (name_of r) n) (λ _. omega arith) (λ _. omega (arith, h))

-- records that begin further on
value_moved : (k at : ℕ) (r : List ℕ) → value_at (at + k) r ≡ moved k (value_at at r)
unfolding value_at
value_moved k at r =
    let z : at + k + 72 ≡ at + 72 + k = omega arith in
    rw z
    (pick_both (λ (v w : Value). v ≡ moved k w) (eqb (kind_byte r) 0) (λ _. refl)
    (λ _. pick_both (λ (v w : Value). v ≡ moved k w) (eqb (kind_byte r) 1) (λ _. refl)
    (λ _. pick_both (λ (v w : Value). v ≡ moved k w) (eqb (kind_byte r) 2) (λ _. refl) (λ _. refl))))

setting_moved : (n : List ℕ) (k at : ℕ) (rs : List (List ℕ)) → setting_under_at (at + k) rs n ≡ behind k (setting_under_at at rs n)
unfolding setting_under_at
setting_moved n k at [] = refl
setting_moved n k at (r ∷ rs) =
    let z : at + k + 128 ≡ at + 128 + k = omega arith in
    pick_both (λ (s u : Option Value). s ≡ behind k u) (equal (name_of r) n) (λ _. ap Some (value_moved k at r))
    (λ _. rw z (setting_moved n k (at + 128) rs))

-- in bytes
module _ (o t n : List ℕ) (whole : length o % 128 ≡ 0) where
  abbrev first : ℕ
  first = index_among (records o) n

  many : length (records o) ≡ length o / 128
  many = records_length (length o / 128) o

  -- the record with number i has the name
  module _ (i : ℕ) (e : place_among (records o) n ≡ Some i) where
    place : (first < length (records o)) × (first ≡ i)
    place = by (ltb first (length (records o))) refl e
      where
        by : (b : Bool) → ltb first (length (records o)) ≡ b → ◌≡◌ {A = Option ℕ} (pick b (Some first) None) (Some i)
            → (first < length (records o)) × (first ≡ i)
        by true g h = (ltb-true first (length (records o)) g, same_Some first i h)
        by false g h = absurd (none-some i h)

    pub own_inside : 128 * i + 128 ≤ length o
    own_inside = omega (arith, place.0, place.1, many)

    pub in_front : setting_under (o ++ t) n ≡ Some (value_at (128 * i) (take 128 (drop (128 * i) o)))
    unfolding setting_under
    in_front =
        let inside : i < length o / 128 = omega (arith, own_inside) in
        let there = first_found n (records o) (records t) 0 place.0 in
        rw (records_in_front o t whole, ← record_at (length o / 128) i o inside) (rw (zero-add (128 * first), place.1) at there)

  pub not_in_front : place_among (records o) n ≡ None → setting_under (o ++ t) n ≡ behind (length o) (setting_under t n)
  unfolding setting_under
  not_in_front e =
      let none : length (records o) ≤ first = by (ltb first (length (records o))) refl e in
      let long : 0 + 128 * length (records o) ≡ 0 + length o = rw many (omega (arith, whole)) in
      rw (records_in_front o t whole) (none_found n (records o) (records t) 0 none ∙ rw long (setting_moved n (length o) 0 (records t)))
    where
      by : (b : Bool) → ltb first (length (records o)) ≡ b → ◌≡◌ {A = Option ℕ} (pick b (Some first) None) None → length (records o) ≤ first
      by true g h = absurd (none-some first (sym h))
      by false g h = ltb-false first (length (records o)) g

-- the place of a string of a record is within the record
value_recorded : (at : ℕ) (r : List ℕ) → at % 128 ≡ 0 → Recorded (value_at at r)
unfolding value_at
value_recorded at r h =
    let few = clipped_most (length_byte r) in
    pick_case Recorded (eqb (kind_byte r) 0) (λ _. tt)
    (λ _. pick_case Recorded (eqb (kind_byte r) 1) (λ _ _. (omega (arith, h), few))
    (λ _. pick_case Recorded (eqb (kind_byte r) 2) (λ _ _. (omega (arith, h), few)) (λ _. tt)))

recorded_at : (n : List ℕ) (at : ℕ) (rs : List (List ℕ)) → at % 128 ≡ 0 → Recorded (value_of (setting_under_at at rs n))
unfolding setting_under_at
recorded_at n at [] h = tt
recorded_at n at (r ∷ rs) h =
    pick_case (λ (s : Option Value). Recorded (value_of s)) (equal (name_of r) n) (λ _. value_recorded at r h)
    (λ _. recorded_at n (at + 128) rs (omega (arith, h)))

pub setting_recorded : (t n : List ℕ) → Recorded (value_of (setting_under t n))
unfolding setting_under
setting_recorded t n = recorded_at n 0 (records t) (omega arith)
