-- The values of digits and of literals. Assumes nothing.
use Prim.Native.Nat.{ℕ, zero, suc, ◌+◌, ◌*◌, ◌^◌, ◌≤◌, ◌<◌}
use native.Mathlib.Omega.{arith}
use native.Mathlib.Numerals.{add-one}
use native.Mathlib.Nat.{le-mul_of_pos_right}
use mathlib.Core.Path.{◌≡◌}
use mathlib.Core.List.{List, [], ◌∷◌}
use lib.ListN.{length, get_or, drop, drop_of_length-le}
use lib.Seq.{drop-cons}
use borrow.Author.Tests.{lt-ltb, le-ltb}
use Rattle.std.specs.Prelude.{None, Some}
use Rattle.std.proofs.lemmas.Bool.Decides.{nat_tests}
use Rattle.literal.specs.Literal.{digit_of, value_in}
use Rattle.literal.specs.Sizes.{bounded}

-- digits never make a number smaller
pub value_grows : (base high : ℕ) (s : List ℕ) → 0 < base → high ≤ value_in base high s
unfolding value_in
value_grows base high [] p = omega arith
value_grows base high (b ∷ s) p = omega (arith, value_grows base (high * base + digit_of b) s p, le-mul_of_pos_right high p)

module _ (base high : ℕ) (s : List ℕ) (i : ℕ) where
  pub value_next : i < length s → value_in base high (drop i s) ≡ value_in base (high * base + digit_of (get_or s i 0)) (drop (i + 1) s)
  unfolding value_in
  value_next h = rw (add-one i, drop-cons s i 0 h)

  pub value_end : length s ≤ i → value_in base high (drop i s) ≡ high
  unfolding value_in
  value_end h = rw (drop_of_length-le s h)

digit_small : (b : ℕ) → digit_of b ≤ 15
unfolding digit_of
digit_small b = grind (arith, nat_tests)

-- A value from 2^64 on stays so. In base 0 there is none, since a digit is at most 15.
pub value_large : (base high b : ℕ) (s : List ℕ) → 2 ^ 64 ≤ high * base + digit_of b
    → bounded (value_in base (high * base + digit_of b) s) ≡ None
unfolding bounded
value_large zero high b s h = absurd (omega (arith, h, digit_small b))
value_large (suc base) high b s h =
    let v : ℕ = high * suc base + digit_of b in
    rw (le-ltb (value_in (suc base) v s) (2 ^ 64) (omega (arith, h, value_grows (suc base) v s (omega arith))))

pub bounded_small : (v : ℕ) → v < 2 ^ 64 → bounded v ≡ Some v
unfolding bounded
bounded_small v h = rw (lt-ltb v (2 ^ 64) h)

-- what the loop over the digits needs
pub ruleset digits = (value_next, value_end, value_large, bounded_small)
