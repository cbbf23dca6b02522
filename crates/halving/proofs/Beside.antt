-- A name beside a name field, byte by byte from the front. Assumes nothing.
use Prim.Native.Nat.{ℕ, zero, suc, ◌+◌, ◌≤◌, ◌<◌}
use native.Mathlib.Omega.{arith}
use native.Mathlib.Numerals.{add-one}
use mathlib.Core.Path.{◌≡◌, refl, sym, ap, ◌∙◌}
use mathlib.Core.Bool.{Bool, true, false, false≢true}
use mathlib.Core.List.{List, [], ◌∷◌}
use lib.ListN.{length, get_or, take, drop, drop_of_length-le}
use lib.Seq.{drop-cons, get_or-take}
use lib.Dec.{eqb, ltb}
use borrow.Author.Tests.{eq-eqb, ne_eqb, eqb-true, eqb-false, lt-ltb, le-ltb, ltb-true, ltb-false}
use Rattle.text.specs.Bytes.{pick}
use Rattle.text.specs.Runs.{holds, span}
use Rattle.text.specs.Order.{compared}
use Rattle.text.specs.declared.runs.Set.{Set}
use Rattle.text.specs.declared.runs.Set.TheVariants.{NonZero}
use Rattle.text.proofs.Laws.{inside, span_fits}
use Rattle.settings.specs.Table.{unpadded}
use Rattle.std.specs.declared.cmp.Ordering.TheVariants.{Equal, Greater, Less}

-- the run at the front of a list's beginning is no longer than that of the list
pub span_take : (k : Set) (m : ℕ) (s : List ℕ) → span k (take m s) ≤ span k s
unfolding span
span_take k zero s = omega arith
span_take k (suc m) [] = omega arith
span_take k (suc m) (b ∷ s) = by (holds k b) (span_take k m s)
  where
    by : (t : Bool) → span k (take m s) ≤ span k s → pick t (suc (span k (take m s))) zero ≤ pick t (suc (span k s)) zero
    by true h = omega arith
    by false h = omega arith

module _ (f : List ℕ) (i : ℕ) where
  -- a zero, or no byte: there the name in the field ends
  field_ends : get_or f i 0 ≡ 0 → unpadded (drop i f) ≡ []
  unfolding span
  field_ends e = by (ltb i (length f)) refl
    where
      by : (t : Bool) → ltb i (length f) ≡ t → unpadded (drop i f) ≡ []
      by true h = rw (drop-cons f i 0 (ltb-true i (length f) h), eq-eqb (get_or f i 0) 0 e)
      by false h = rw (drop_of_length-le f (ltb-false i (length f) h))

  field_goes : (get_or f i 0 ≡ 0 → ⊥) → unpadded (drop i f) ≡ get_or f i 0 ∷ unpadded (drop (i + 1) f)
  unfolding span
  field_goes z = rw (drop-cons f i 0 (inside f i z), ne_eqb (get_or f i 0) 0 z, add-one i)

module _ (n f : List ℕ) (i : ℕ) where
  -- the name has a byte at i
  module _ (h : i < length n) where
    pub same_byte : (get_or f i 0 ≡ 0 → ⊥) → get_or n i 0 ≡ get_or f i 0
        → compared (drop i n) (unpadded (drop i f)) ≡ compared (drop (i + 1) n) (unpadded (drop (i + 1) f))
    unfolding compared
    same_byte z e =
        rw (
          field_goes f i z,
          drop-cons n i 0 h,
          le-ltb (get_or n i 0) (get_or f i 0) (omega arith),
          le-ltb (get_or f i 0) (get_or n i 0) (omega arith),
          add-one i,
        )

    pub less_byte : get_or n i 0 < get_or f i 0 → compared (drop i n) (unpadded (drop i f)) ≡ Less
    unfolding compared
    less_byte l = rw (field_goes f i (λ z. omega arith), drop-cons n i 0 h, lt-ltb (get_or n i 0) (get_or f i 0) l)

    pub field_over : get_or f i 0 ≡ 0 → compared (drop i n) (unpadded (drop i f)) ≡ Greater
    unfolding compared
    field_over e = rw (field_ends f i e, drop-cons n i 0 h)

    pub greater_byte : get_or f i 0 < get_or n i 0 → compared (drop i n) (unpadded (drop i f)) ≡ Greater
    unfolding compared
    greater_byte l = by (eqb (get_or f i 0) 0) refl
      where
        by : (t : Bool) → eqb (get_or f i 0) 0 ≡ t → compared (drop i n) (unpadded (drop i f)) ≡ Greater
        by true e = rw (field_ends f i (eqb-true (get_or f i 0) 0 e), drop-cons n i 0 h)
        by false e =
            rw (
              field_goes f i (eqb-false (get_or f i 0) 0 e),
              drop-cons n i 0 h,
              le-ltb (get_or n i 0) (get_or f i 0) (omega arith),
              lt-ltb (get_or f i 0) (get_or n i 0) l,
            )

  -- the name ends before i
  pub both_over : length n ≤ i → get_or f i 0 ≡ 0 → compared (drop i n) (unpadded (drop i f)) ≡ Equal
  unfolding compared
  both_over h e = rw (field_ends f i e, drop_of_length-le n h)

  pub name_over : length n ≤ i → (get_or f i 0 ≡ 0 → ⊥) → compared (drop i n) (unpadded (drop i f)) ≡ Less
  unfolding compared
  name_over h z = rw (field_goes f i z, drop_of_length-le n h)

-- the bytes of a run are of its set
span_holds : (k : Set) (s : List ℕ) (i : ℕ) → i < span k s → holds k (get_or s i 0) ≡ true
unfolding span
span_holds k [] i h = absurd (omega arith)
span_holds k (b ∷ s) i h = by (holds k b) refl i h (λ j. span_holds k s j)
  where
    by : (t : Bool) → holds k b ≡ t → (i : ℕ) → i < pick t (suc (span k s)) zero → ((j : ℕ) → j < span k s → holds k (get_or s j 0) ≡ true)
        → holds k (get_or (b ∷ s) i 0) ≡ true
    by true e zero l r = e
    by true e (suc j) l r = r j (omega arith)
    by false e j l r = absurd (omega arith)

-- equal beginnings without a zero leave the order to the rest
module _ (n f : List ℕ) (r : ℕ) (h : r ≤ span NonZero n) (e : take r n ≡ take r f) where
  filled_byte : (i : ℕ) → i < r → get_or n i 0 ≡ 0 → ⊥
  filled_byte i l z = false≢true (sym (ap (holds NonZero) z) ∙ span_holds NonZero n i (omega arith))

  same_at : (i : ℕ) → i < r → get_or n i 0 ≡ get_or f i 0
  same_at i l = sym (get_or-take r n i 0 l) ∙ ap (λ s. get_or s i 0) e ∙ get_or-take r f i 0 l

  same_to : (i : ℕ) → i ≤ r → compared n (unpadded f) ≡ compared (drop i n) (unpadded (drop i f))
  same_to zero l = refl
  same_to (suc i) l =
      let m : i < r = omega arith in
      let there : i < length n = omega (arith, span_fits NonZero n) in
      rw (← add-one i) (same_to i (omega arith) ∙ same_byte n f i there (λ z. filled_byte i m (same_at i m ∙ z)) (same_at i m))

  pub same_beginning : compared n (unpadded f) ≡ compared (drop r n) (unpadded (drop r f))
  same_beginning = same_to r (omega arith)

-- what each exit of a comparison needs
pub ruleset beside = (same_byte, less_byte, greater_byte, field_over, both_over, name_over, same_beginning, span_fits)
