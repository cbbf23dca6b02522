-- Numbers of 64 bits: when a shift fits, and the bitwise operators digit by digit. Assumes nothing.
use Prim.Native.Nat.{ℕ, zero, suc, ◌+◌, ◌*◌, ◌/◌, ◌%◌, ◌^◌, ◌≤◌, ◌<◌}
use mathlib.Core.Path.{◌≡◌, refl}
use native.Mathlib.Nat.{le_trans, lt_of_lt_of_le, le_of_eq, mul-le-mul_right}
use native.Mathlib.Numerals.{add-one}
use native.Mathlib.Omega.{arith}
use borrow.Author.Tests.{lt-ltb, le-ltb}
use lib.Arith.{lt-one}
use lib.Pow.{pow_mono, pow-add, shl_lt, shr_lt}
use lib.Count.{count_leading_zeros, leading_top}
use lib.Bits.{bit_and, bit_or, bit_xor, and_step, or_step, xor_step, differ}
use Rattle.std.specs.Prelude.{Err, Ok}
use Rattle.units.specs.declared.Reason.TheVariants.{ResultRange}
use Rattle.arithmetic.specs.Digits.{and_digits, xor_digits, or_digits}
use Rattle.arithmetic.specs.Operators.{in_range}

pub ranged_in : (v : ℕ) → v < 2 ^ 64 → Ok v ≡ in_range v
ranged_in v h = rw (lt-ltb v (2 ^ 64) h)

pub ranged_out : (v : ℕ) → 2 ^ 64 ≤ v → Err ResultRange ≡ in_range v
ranged_out v h = rw (le-ltb v (2 ^ 64) h)

-- a shift of a number other than 0, by its leading zeros
module _ (x y : ℕ) (p : 0 < x) (f : x < 2 ^ 64) where
  pub shift_in : y ≤ count_leading_zeros 64 x → x * 2 ^ y < 2 ^ 64
  shift_in h =
      let t = leading_top 64 x p f in
      let g : suc t.0 + y ≤ 64 = omega arith in
      lt_of_lt_of_le (shl_lt (suc t.0) y t.3) (pow_mono g)

  pub shift_out : count_leading_zeros 64 x < y → 2 ^ 64 ≤ x * 2 ^ y
  shift_out h =
      let t = leading_top 64 x p f in
      let g : 64 ≤ t.0 + y = omega arith in
      le_trans (pow_mono g) (le_trans (le_of_eq (pow-add 2 t.0 y)) (mul-le-mul_right (2 ^ y) t.2))

half : (k x : ℕ) → x < 2 ^ suc k → x / 2 < 2 ^ k
half k x h = shr_lt k 1 (rw add-one h)

-- the logic's own operators on numbers of k binary digits work digit by digit
pub and_digits_lem : (k x y : ℕ) → x < 2 ^ k → y < 2 ^ k → bit_and x y ≡ and_digits k x y
unfolding and_digits
and_digits_lem zero x y h g = rw (lt-one h)
and_digits_lem (suc k) x y h g = rw (and_step x y, and_digits_lem k (x / 2) (y / 2) (half k x h) (half k y g))

differ_digit : (a b : ℕ) → a < 2 → b < 2 → differ a b ≡ (a + b) % 2
differ_digit zero b h g = omega arith
differ_digit (suc zero) zero h g = refl
differ_digit (suc zero) (suc zero) h g = refl
differ_digit (suc zero) (suc (suc b)) h g = absurd (omega arith)
differ_digit (suc (suc a)) b h g = absurd (omega arith)

pub xor_digits_lem : (k x y : ℕ) → x < 2 ^ k → y < 2 ^ k → bit_xor x y ≡ xor_digits k x y
unfolding xor_digits
xor_digits_lem zero x y h g = rw (lt-one h, lt-one g)
xor_digits_lem (suc k) x y h g =
    rw (xor_step x y, xor_digits_lem k (x / 2) (y / 2) (half k x h) (half k y g), differ_digit (x % 2) (y % 2) (omega arith) (omega arith))

pub or_digits_lem : (k x y : ℕ) → x < 2 ^ k → y < 2 ^ k → bit_or x y ≡ or_digits k x y
unfolding or_digits
or_digits_lem zero x y h g = rw (lt-one h, lt-one g)
or_digits_lem (suc k) x y h g = rw (or_step x y, or_digits_lem k (x / 2) (y / 2) (half k x h) (half k y g))

pub ruleset digit_by_digit = (and_digits_lem, xor_digits_lem, or_digits_lem)
