-- Bytes are equal exactly if the numbers in them are. Assumes nothing.
use Prim.Native.Nat.{ℕ, zero, suc, ◌+◌, ◌≤◌, ◌<◌}
use native.Mathlib.Omega.{arith}
use mathlib.Core.Path.{◌≡◌, refl, sym, ap, ◌∙◌}
use mathlib.Core.List.{List}
use mathlib.Core.Bool.{Bool, true, false}
use lib.ListN.{length, get_or, take, drop}
use lib.Seq.{ext_get_or, get_or-take, get_or-drop}
use lib.Dec.{eqb}
use borrow.Author.Tests.{eqb-true, eqb-false}
use Rattle.std.proofs.Common.{Fits, w8}
use Rattle.text.specs.Order.{is_equal, equal}
use Rattle.text.specs.Numbers.{little_endian, AreBytes}
use Rattle.text.proofs.Orders.{same_equal, differs}

-- numbers that fit a byte are bytes
pub are_bytes : (n i : ℕ) (s : List ℕ) → ((k : ℕ) → Fits w8 (get_or s k 0)) → AreBytes n i s
are_bytes zero i s f = tt
are_bytes (suc n) i s f = let h = f i in (omega arith, are_bytes n (suc i) s f)

-- the bytes of a number, one by one
same_bytes : (n i : ℕ) (a b : List ℕ) → AreBytes n i a → AreBytes n i b → little_endian n i a ≡ little_endian n i b
    → (k : ℕ) → k < n → get_or a (i + k) 0 ≡ get_or b (i + k) 0
unfolding little_endian
same_bytes zero i a b p q e k h = absurd (omega arith)
same_bytes (suc n) i a b p q e zero h = let z : i + 0 ≡ i = omega arith in rw z (omega (arith, p.0, q.0, e))
same_bytes (suc n) i a b p q e (suc k) h =
    let z : i + suc k ≡ suc i + k = omega arith in
    rw z (same_bytes n (suc i) a b p.1 q.1 (omega (arith, p.0, q.0, e)) k (omega arith))

module _ (a b : List ℕ) (n : ℕ) (la : length a ≡ n) (lb : length b ≡ n) (p : AreBytes n 0 a) (q : AreBytes n 0 b) where
  same_lists : little_endian n 0 a ≡ little_endian n 0 b → a ≡ b
  same_lists e =
      ext_get_or 0 a b (la ∙ sym lb)
      (λ i h. let z : 0 + i ≡ i = omega arith in rw (← z) (same_bytes n 0 a b p q e i (omega (arith, h, la))))

  pub equal_by_numbers : eqb (little_endian n 0 a) (little_endian n 0 b) ≡ equal a b
  equal_by_numbers = by (eqb (little_endian n 0 a) (little_endian n 0 b)) refl
    where
      by : (t : Bool) → eqb (little_endian n 0 a) (little_endian n 0 b) ≡ t → t ≡ equal a b
      by true e = sym (ap (λ s. equal a s) (sym (same_lists (eqb-true _ _ e))) ∙ ap is_equal (same_equal a))
      by false e = sym (differs a b (λ s. eqb-false _ _ e (ap (little_endian n 0) s)))

-- the number in the bytes of a part
pub number_in_part : (n i k m : ℕ) (s : List ℕ) → i + n ≤ m → little_endian n (k + i) s ≡ little_endian n i (take m (drop k s))
unfolding little_endian
number_in_part zero i k m s h = refl
number_in_part (suc n) i k m s h =
    let e : suc (k + i) ≡ k + suc i = omega arith in
    rw (get_or-take m (drop k s) i 0 (omega arith), get_or-drop k s i 0, e, number_in_part n (suc i) k m s (omega arith))
