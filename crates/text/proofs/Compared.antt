-- The order of byte strings in std's words: what `cmp` and `==` of slices give. Assumes nothing.
use Prim.Native.Nat.{ℕ, suc, ◌+◌, ◌<◌}
use native.Mathlib.Omega.{arith}
use mathlib.Core.Path.{◌≡◌, refl, sym, ap, ◌∙◌}
use mathlib.Core.List.{List, [], ◌∷◌}
use mathlib.Core.Bool.{Bool, true, false, ◌&&◌, false≢true}
use lib.ListN.{length, get_or, drop, drop_of_length-le}
use lib.Seq.{drop-cons}
use lib.Dec.{eqb}
use borrow.Author.Tests.{eqb-true, eq-eqb}
use Rattle.std.specs.Ordering.{nat_cmp, is_eq}
use Rattle.std.specs.Str.{bytes_eq}
use Rattle.std.specs.Cmp.Lexicographic.{slice_cmp}
use Rattle.std.specs.declared.cmp.Ordering.{Ordering}
use Rattle.std.specs.declared.cmp.Ordering.TheVariants.{Less, Equal, Greater}
use Rattle.std.proofs.lemmas.Bool.Decides.{nat_tests}
use Rattle.std.proofs.lemmas.Map.Text.{is_eq-slice_cmp}
use Rattle.text.specs.Order.{compared, equal, is_equal}
use Rattle.text.proofs.Laws.{and_left, and_right}
use Rattle.text.proofs.Orders.{equals, same_equal}

pub compared_cmp : (a b : List ℕ) → slice_cmp nat_cmp a b ≡ compared a b
unfolding compared
compared_cmp [] [] = refl
compared_cmp [] (y ∷ b) = refl
compared_cmp (x ∷ a) [] = refl
compared_cmp (x ∷ a) (y ∷ b) = let h = compared_cmp a b in grind (arith, nat_tests, h)

eq_equal : (o : Ordering) → is_eq o ≡ is_equal o
eq_equal Less = refl
eq_equal Equal = refl
eq_equal Greater = refl

pub equal_bytes_eq : (a b : List ℕ) → bytes_eq a b ≡ equal a b
equal_bytes_eq a b = sym (is_eq-slice_cmp a b) ∙ eq_equal (slice_cmp nat_cmp a b) ∙ ap is_equal (compared_cmp a b)

-- a list has the bytes of a text from an index on
abbrev pub has_bytes : List ℕ → ℕ → List ℕ → Bool
has_bytes s i [] = true
has_bytes s i (c ∷ p) = eqb (get_or s i 0) c && has_bytes s (suc i) p

same_from : (s p : List ℕ) (i : ℕ) → length s ≡ i + length p → has_bytes s i p ≡ true → drop i s ≡ p
same_from s [] i l h = drop_of_length-le s (omega arith)
same_from s (c ∷ p) i l h = rw (
  drop-cons s i 0 (omega arith),
  same_from s p (suc i) (omega arith) (and_right (eqb (get_or s i 0) c) _ h),
  eqb-true _ _ (and_left (eqb (get_or s i 0) c) _ h),
)

has_of : (s p : List ℕ) (i : ℕ) → ((k : ℕ) → k < length p → get_or s (i + k) 0 ≡ get_or p k 0) → has_bytes s i p ≡ true
has_of s [] i f = refl
has_of s (c ∷ p) i f =
    let z : i + 0 ≡ i = omega arith in
    let h : get_or s i 0 ≡ c = rw z at (f 0 (omega arith)) in
    rw (eq-eqb _ _ h) (has_of s p (suc i) (λ k l. let y : suc i + k ≡ i + suc k = omega arith in rw y (f (suc k) (omega arith))))

-- A list equals a text exactly if the lengths agree and each byte of the text is there: what the arms of `match w { b"or" => .. }` know.
pub equal_reads : (s p : List ℕ) → equal s p ≡ (eqb (length s) (length p) && has_bytes s 0 p)
equal_reads s p = by (equal s p) refl (eqb (length s) (length p)) refl (has_bytes s 0 p) refl
  where
    by : (t : Bool) → equal s p ≡ t → (u : Bool) → eqb (length s) (length p) ≡ u → (v : Bool) → has_bytes s 0 p ≡ v → t ≡ (u && v)
    by true e u f v g =
        let q : s ≡ p = equals s p e in
        let hu : u ≡ true = sym f ∙ eq-eqb _ _ (ap length q) in
        let hv : v ≡ true = sym g ∙ has_of s p 0 (λ k l. let z : 0 + k ≡ k = omega arith in rw z (ap (λ x. get_or x k 0) q)) in
        rw (hu, hv)
    by false e true f true g =
        let q : s ≡ p = same_from s p 0 (omega (arith, eqb-true _ _ f)) g in
        absurd (false≢true (sym e ∙ (ap (λ x. equal s x) (sym q) ∙ ap is_equal (same_equal s))))
    by false e true f false g = refl
    by false e false f v g = refl
