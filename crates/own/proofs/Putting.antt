-- A setting that is put to others: where its record goes. Assumes nothing.
use Prim.Native.Nat.{ℕ, suc, ◌+◌, ◌*◌, ◌<◌}
use native.Mathlib.Omega.{arith}
use mathlib.Core.Path.{◌≡◌, refl, sym, ap}
use mathlib.Core.Bool.{Bool, true, false, ◌||◌, false≢true}
use mathlib.Core.List.{List, [], ◌∷◌, ◌++◌, map, append_assoc}
use lib.ListN.{length, take, drop}
use lib.Seq.{drop_at, take-append-add, drop-append-add}
use Rattle.text.specs.Bytes.{pick}
use Rattle.text.specs.Order.{equal}
use Rattle.own.specs.Own.{Own, record_of, name_in, records_of, put, has}
use Rattle.own.specs.Index.{index_among}
use Rattle.own.proofs.Records.{record_length}

-- the index of the setting with a name among settings
abbrev pub index_in : List Own → (n : List ℕ) → ℕ
index_in o n = index_among (map record_of o) n

-- a setting with the name is there: the index is that of a setting
pub index_there : (o : List Own) (n : List ℕ) → has n o ≡ true → index_in o n < length o
unfolding index_among has
index_there [] n h = absurd (false≢true h)
index_there (y ∷ o) n h = by (equal (name_in y) n) h (index_there o n)
  where
    by : (t : Bool) → (t || has n o) ≡ true → (has n o ≡ true → index_in o n < length o) → pick t 0 (suc (index_in o n)) < suc (length o)
    by true g r = omega arith
    by false g r = omega (arith, r g)

-- no setting with the name is there: the index is their number
pub index_absent : (o : List Own) (n : List ℕ) → has n o ≡ false → index_in o n ≡ length o
unfolding index_among has
index_absent [] n h = refl
index_absent (y ∷ o) n h = by (equal (name_in y) n) h (index_absent o n)
  where
    by : (t : Bool) → (t || has n o) ≡ false → (has n o ≡ false → index_in o n ≡ length o) → pick t 0 (suc (index_in o n)) ≡ suc (length o)
    by true g r = absurd (false≢true (sym g))
    by false g r = ap suc (r g)

module _ (x : Own) where
  -- bytes with the record of x in the place of record i
  abbrev pub over : ℕ → List ℕ → List ℕ
  over i s = take (128 * i) s ++ (record_of x ++ drop (128 * i + 128) s)

  -- over the record with the same name, or after the last
  pub put_bytes : (o : List Own) → records_of (put x o) ≡ over (index_in o x.name) (records_of o)
  unfolding index_among records_of put
  put_bytes [] = refl
  put_bytes (y ∷ o) = by (equal (name_in y) x.name) (put_bytes o)
    where
      by : (t : Bool) → records_of (put x o) ≡ over (index_in o x.name) (records_of o)
          → records_of (pick t (x ∷ o) (y ∷ put x o)) ≡ over (pick t 0 (suc (index_in o x.name))) (record_of y ++ records_of o)
      by true h = rw (drop_at (record_of y) (records_of o) 128 (record_length y))
      by false h =
          let i : ℕ = index_in o x.name in
          let to : 128 * suc i ≡ length (record_of y) + 128 * i = omega (arith, record_length y) in
          let from : 128 * suc i + 128 ≡ length (record_of y) + (128 * i + 128) = omega (arith, record_length y) in
          rw (
            h,
            from,
            to,
            take-append-add (record_of y) (records_of o) (128 * i),
            drop-append-add (record_of y) (records_of o) (128 * i + 128),
            append_assoc (record_of y) (take (128 * i) (records_of o)) (record_of x ++ drop (128 * i + 128) (records_of o)),
          )

  pub put_length : (o : List Own) → length (put x o) ≡ pick (has x.name o) (length o) (length o + 1)
  unfolding put has
  put_length [] = refl
  put_length (y ∷ o) = by (equal (name_in y) x.name) (has x.name o) (put_length o)
    where
      by : (t u : Bool) → length (put x o) ≡ pick u (length o) (length o + 1)
          → length (pick t (x ∷ o) (y ∷ put x o)) ≡ pick (t || u) (suc (length o)) (suc (length o) + 1)
      by true u h = refl
      by false true h = ap suc h
      by false false h = omega arith
