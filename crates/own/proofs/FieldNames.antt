-- The name in a name field: which name it is, by its bytes and the zero after them. Assumes nothing.
use Prim.Native.Nat.{ℕ, zero, suc}
use native.Mathlib.Omega.{arith}
use mathlib.Core.Path.{◌≡◌, refl, sym, ap, ◌∙◌}
use mathlib.Core.Bool.{Bool, true, false, not, ◌&&◌, ◌||◌, false≢true}
use mathlib.Core.List.{List, [], ◌∷◌}
use lib.ListN.{length, get_or, take}
use lib.Seq.{length-take-le}
use lib.Dec.{eqb, leb}
use Rattle.std.specs.List.{list_any}
use borrow.Author.Tests.{eq-eqb, ne_eqb, eqb-true, eqb-false, leb-false}
use Rattle.std.proofs.lemmas.Bool.Decides.{nat_tests}
use Rattle.text.specs.Bytes.{pick}
use Rattle.text.specs.Order.{is_equal, equal}
use Rattle.text.specs.Runs.{holds, span}
use Rattle.text.specs.declared.runs.Set.{Set}
use Rattle.text.specs.declared.runs.Set.TheVariants.{NonZero}
use Rattle.text.proofs.Laws.{span_fits}
use Rattle.text.proofs.Orders.{same_equal, equals, differs}
use Rattle.settings.specs.Table.{unpadded}

-- after a run without zeros comes a zero, or the end
span_over : (s : List ℕ) → get_or s (span NonZero s) 0 ≡ 0
unfolding span
span_over [] = refl
span_over (b ∷ s) = by (eqb b 0) refl (span_over s)
  where
    by : (t : Bool) → eqb b 0 ≡ t → get_or s (span NonZero s) 0 ≡ 0 → get_or (b ∷ s) (pick (not t) (suc (span NonZero s)) zero) 0 ≡ 0
    by true e h = eqb-true b 0 e
    by false e h = h

-- a run is a run of its own
span_itself : (k : Set) (s : List ℕ) → span k (take (span k s) s) ≡ span k s
unfolding span
span_itself k [] = refl
span_itself k (b ∷ s) = by (holds k b) refl (span_itself k s)
  where
    by : (t : Bool) → holds k b ≡ t → span k (take (span k s) s) ≡ span k s
        → span k (take (pick t (suc (span k s)) zero) (b ∷ s)) ≡ pick t (suc (span k s)) zero
    by true e h = rw e (ap suc h)
    by false e h = refl

module _ (f : List ℕ) where
  pub unpadded_length : length (unpadded f) ≡ span NonZero f
  unpadded_length = length-take-le (span NonZero f) f (span_fits NonZero f)

-- the name that a field has
module _ (f n : List ℕ) (e : unpadded f ≡ n) where
  its_length : span NonZero f ≡ length n
  its_length = sym (unpadded_length f) ∙ ap length e

  zero_after : get_or f (length n) 0 ≡ 0
  zero_after = rw (← its_length) (span_over f)

  its_bytes : take (length n) f ≡ n
  its_bytes = rw (← its_length) e

  no_zero : span NonZero n ≡ length n
  no_zero = ap (span NonZero) (sym e) ∙ span_itself NonZero f ∙ its_length

-- texts with another byte at some place are not equal
pub other_byte : (a b : List ℕ) (i : ℕ) {x y : ℕ} → x ≡ get_or a i 0 → y ≡ get_or b i 0 → (x ≡ y → ⊥) → eqb x y ≡ equal a b
other_byte a b i {x} {y} f g h = ne_eqb x y h ∙ sym (differs a b (λ e. h (f ∙ ap (λ l. get_or l i 0) e ∙ sym g)))

-- a field has the name if its bytes, none of them zero, are at the front, and a zero or nothing comes after them
span_to : (n f : List ℕ) → take (length n) f ≡ n → get_or f (length n) 0 ≡ 0 → span NonZero n ≡ length n → span NonZero f ≡ length n
unfolding span
span_to [] [] e z h = refl
span_to [] (b ∷ f) e z h = rw (eq-eqb b 0 z)
span_to (x ∷ n) [] e z h = cc
span_to (x ∷ n) (b ∷ f) e z h = by (eqb x 0) refl h (span_to n f (cc) z)
  where
    by : (t : Bool) → eqb x 0 ≡ t → pick (not t) (suc (span NonZero n)) zero ≡ suc (length n) → (span NonZero n ≡ length n → span NonZero f ≡ length n)
        → span NonZero (b ∷ f) ≡ suc (length n)
    by true g k r = absurd (omega arith)
    by false g k r = let first : b ≡ x = cc in rw (first, g) (ap suc (r (omega arith)))

-- no byte of a name is zero
no_zeros : (n : List ℕ) → not (list_any (λ b. eqb b 0) n) ≡ eqb (span NonZero n) (length n)
unfolding span
no_zeros [] = refl
no_zeros (b ∷ n) = by (eqb b 0) (no_zeros n)
  where
    by : (t : Bool) → not (list_any (λ c. eqb c 0) n) ≡ eqb (span NonZero n) (length n)
        → not (t || list_any (λ c. eqb c 0) n) ≡ eqb (pick (not t) (suc (span NonZero n)) zero) (suc (length n))
    by true h = sym (ne_eqb 0 (suc (length n)) (λ e. omega (arith, e)))
    by false h = h ∙ grind (arith, nat_tests)

-- the name of a field is n by the tests of the code
module _ (f n : List ℕ) where
  by_tests : (t u v w : Bool) → leb (length n) (length f) ≡ t → eqb (get_or f (length n) 0) 0 ≡ u → equal (take (length n) f) n ≡ v
      → eqb (span NonZero n) (length n) ≡ w → equal (unpadded f) n ≡ (t && (u && (v && w)))
  by_tests false u v w a b c d =
      differs (unpadded f) n (λ e. omega (arith, leb-false (length n) (length f) a, its_length f n e, span_fits NonZero f))
  by_tests true false v w a b c d = differs (unpadded f) n (λ e. eqb-false (get_or f (length n) 0) 0 b (zero_after f n e))
  by_tests true true false w a b c d = differs (unpadded f) n (λ e. false≢true (sym c ∙ rw (its_bytes f n e) (ap is_equal (same_equal n))))
  by_tests true true true false a b c d = differs (unpadded f) n (λ e. eqb-false (span NonZero n) (length n) d (no_zero f n e))
  by_tests true true true true a b c d =
      let bytes = equals (take (length n) f) n c in
      rw (span_to n f bytes (eqb-true (get_or f (length n) 0) 0 b) (eqb-true (span NonZero n) (length n) d), bytes) (ap is_equal (same_equal n))

  pub name_tests : equal (unpadded f) n
      ≡ (leb (length n) (length f) && (eqb (get_or f (length n) 0) 0 && (equal (take (length n) f) n && not (list_any (λ b. eqb b 0) n))))
  name_tests = by_tests (leb (length n) (length f)) (eqb (get_or f (length n) 0) 0) (equal (take (length n) f) n)
      (not (list_any (λ b. eqb b 0) n)) refl refl refl (sym (no_zeros n))
