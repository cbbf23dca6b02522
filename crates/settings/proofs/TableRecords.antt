-- The records of a table, one at a time from the front. Assumes nothing.
use Prim.Native.Nat.{ℕ, zero, suc, ◌+◌, ◌-◌, ◌/◌, ◌≤◌, ◌<◌}
use native.Mathlib.Omega.{arith}
use mathlib.Core.Path.{◌≡◌, refl, sym, ap, subst, ◌∙◌}
use mathlib.Core.Bool.{Bool, true, false, ◌&&◌, ◌||◌, false≢true}
use mathlib.Core.List.{List, [], ◌∷◌, ◌++◌, map}
use lib.ListN.{length, take, drop, length-append, length-take}
use lib.Seq.{drop-drop, take-take, take_at, drop_at}
use lib.Dec.{eqb, ltb, leb, lit≤}
use borrow.Author.Tests.{ltb-true, ltb-false, eqb-true, leb-true}
use Rattle.std.specs.List.{list_all}
use Rattle.std.specs.declared.slice.ChunksExact.{ChunksExact}
use Rattle.std.specs.Slice.Iter.{chunks_exact_rest, chunks_exact_size, chunks_exact_steps}
use Rattle.std.specs.Iterator.{AlwaysYields}
use Rattle.std.proofs.lemmas.Iterator.{YieldsList}
use Rattle.text.specs.Bytes.{pick}
use Rattle.text.specs.Order.{compared, less}
use Rattle.text.proofs.Laws.{part_from}
use Rattle.settings.specs.Table.{records_in, records, name_field, kind_byte, length_byte, zeros, well_formed_name, ordered_names}
use Rattle.settings.specs.Table.{plain_kind, plain_record, plain_records}

-- the records from byte `at` on
abbrev pub rest : List ℕ → ℕ → List (List ℕ)
rest t at = records_in ((length t - at) / 128) (drop at t)

-- at the front these are all records
pub rest_all : (t : List ℕ) → records t ≡ rest t 0
rest_all t = let e : length t - 0 ≡ length t = omega arith in rw e

-- as `chunks_exact` goes over them: a whole record in front, or fewer bytes than a record
pub records_more : (x t : List ℕ) → length x ≡ 128 → records (x ++ t) ≡ x ∷ records t
unfolding records_in
records_more x t h =
    let e : length (x ++ t) / 128 ≡ suc (length t / 128) = omega (arith, length-append x t, h) in
    rw (e, take_at x t 128 h, drop_at x t 128 h)

pub records_none : (t : List ℕ) → length t < 128 → records t ≡ []
unfolding records_in
records_none t h = let e : length t / 128 ≡ 0 = omega arith in rw e

module _ (t : List ℕ) (at : ℕ) where
  pub next : at + 128 ≤ length t → rest t at ≡ take 128 (drop at t) ∷ rest t (at + 128)
  unfolding records_in
  next h =
      let e : (length t - at) / 128 ≡ suc ((length t - (at + 128)) / 128) = omega arith in
      rw (e, drop-drop 128 at t)

  pub none : length t < at + 128 → rest t at ≡ []
  unfolding records_in
  none h = let e : (length t - at) / 128 ≡ 0 = omega arith in rw e

-- how many records there are
pub records_length : (m : ℕ) (t : List ℕ) → length (records_in m t) ≡ m
unfolding records_in
records_length zero t = refl
records_length (suc m) t = ap suc (records_length m (drop 128 t))

-- `chunks_exact(128)` yields the records
yields_in : (n : ℕ) (s : ChunksExact ℕ) → chunks_exact_size s ≡ 128 → length (chunks_exact_rest s) / 128 ≡ n
    → AlwaysYields chunks_exact_steps (λ r. r.now) s (records_in n (chunks_exact_rest s))
unfolding records_in
yields_in zero s z e = λ x j k. absurd (omega (arith, z, k.1.1, ap length k.1.0, length-append x.now (chunks_exact_rest j)))
yields_in (suc n) s z e = (
  λ j k. absurd (omega (arith, z, k.1.0)),
  λ x j k.
      let h : length x.now ≡ 128 = k.1.1 ∙ z in
      let first : take 128 (chunks_exact_rest s) ≡ x.now = rw k.1.0 (take_at x.now (chunks_exact_rest j) 128 h) in
      let others : drop 128 (chunks_exact_rest s) ≡ chunks_exact_rest j = rw k.1.0 (drop_at x.now (chunks_exact_rest j) 128 h) in
      let number : length (chunks_exact_rest j) / 128 ≡ n = omega (arith, h, ap length k.1.0, length-append x.now (chunks_exact_rest j)) in
      (sym first, rw others (yields_in n j (k.0 ∙ z) number)),
)

pub yields_records : {s : ChunksExact ℕ} (t : List ℕ) → chunks_exact_rest s ≡ t → chunks_exact_size s ≡ 128
    → YieldsList chunks_exact_steps (λ r. r.now) s (records t)
yields_records {s} t e z =
    record {
      runs = subst (λ (r : List ℕ). AlwaysYields chunks_exact_steps (λ r. r.now) s (records r)) e
          (yields_in (length (chunks_exact_rest s) / 128) s z refl);
    }

-- every record is plain
pub plain_all : (rs : List (List ℕ)) → list_all plain_record rs ≡ plain_records rs
unfolding plain_records
plain_all [] = refl
plain_all (r ∷ rs) = rw (plain_all rs)

module _ (t : List ℕ) (at : ℕ) where
  -- a record's name field in the table
  pub field : name_field (take 128 (drop at t)) ≡ take (at + 64 - at) (drop at t)
  field = take-take 64 128 (drop at t) (lit≤ tt) ∙ sym (part_from t at 64)

-- names that are well formed and ascend, the first of them greater than the field b
abbrev pub ordered_after : (b : List ℕ) → List (List ℕ) → Bool
ordered_after b [] = true
ordered_after b (f ∷ fs) = less b f && ordered_names (f ∷ fs)

first_name : (f : List ℕ) (fs : List (List ℕ)) → ordered_names (f ∷ fs) ≡ (well_formed_name f && ordered_after f fs)
unfolding ordered_names
first_name f [] = by (well_formed_name f)
  where
    by : (u : Bool) → u ≡ (u && true)
    by true = refl
    by false = refl
first_name f (g ∷ fs) = refl

-- the name of the record in front, and the others
pub names_more : (b x t : List ℕ) → length x ≡ 128
    → ordered_after b (map name_field (records (x ++ t)))
    ≡ (less b (take 64 x) && (well_formed_name (take 64 x) && ordered_after (take 64 x) (map name_field (records t))))
names_more b x t h = rw (records_more x t h, first_name (take 64 x) (map name_field (records t)))

pub names_end : (b t : List ℕ) → length t < 128 → ordered_after b (map name_field (records t)) ≡ true
names_end b t h = rw (records_none t h)

-- the empty list is less than a name field
less_field : (f : List ℕ) → 0 < length f → less [] f ≡ true
unfolding compared
less_field [] h = absurd (omega arith)
less_field (b ∷ f) h = refl

-- so at the front of a table nothing is asked of the first name
pub names_all : (t : List ℕ) → ordered_after [] (map name_field (records t)) ≡ ordered_names (map name_field (records t))
unfolding ordered_names
names_all t = by (ltb (length t) 128) refl
  where
    by : (b : Bool) → ltb (length t) 128 ≡ b → ordered_after [] (map name_field (records t)) ≡ ordered_names (map name_field (records t))
    by true h = rw (records_none t (ltb-true (length t) 128 h))
    by false h =
        let whole = ltb-false (length t) 128 h in
        let size : length (take 64 (take 128 t)) ≡ 64 = omega (arith, length-take 64 (take 128 t), length-take 128 t, whole) in
        rw (rest_all t ∙ next t 0 (omega arith), less_field (take 64 (take 128 t)) (omega (arith, size)))

-- what each exit of a loop over the names needs
pub ruleset ordering = (names_all, names_more, names_end)

-- the content of a plain kind is at most 56 bytes
pub content_fits : (k n : ℕ) → plain_kind k n ≡ true → n ≤ 56
unfolding plain_kind
content_fits k n h = by (eqb k 0) (eqb k 1 || eqb k 2) h
  where
    by : (a b : Bool) → pick a (eqb n 8) (pick b (leb n 56) false) ≡ true → n ≤ 56
    by true b g = omega (arith, eqb-true n 8 g)
    by false true g = omega (arith, leb-true n 56 g)
    by false false g = absurd (false≢true g)

-- a record with the length byte n
module _ (r : List ℕ) (n : ℕ) (e : n ≡ length_byte r) (k : plain_kind (kind_byte r) (length_byte r) ≡ true)
    (z : zeros (take 6 (drop 66 r)) ≡ true) where
  -- with a plain kind and length, the content is within the record
  pub roomy : n ≤ 56
  roomy = omega (arith, e, content_fits (kind_byte r) (length_byte r) k)
