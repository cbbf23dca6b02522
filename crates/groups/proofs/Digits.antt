-- Flags as four bits: a digit below 16, which gives the flags back whatever bits are above it. Assumes nothing.
use Prim.Native.Nat.{ℕ, ◌+◌, ◌*◌, ◌/◌, ◌%◌, ◌≤◌, ◌<◌}
use native.Mathlib.Omega.{arith}
use mathlib.Core.Path.{◌≡◌}
use mathlib.Core.Bool.{Bool, true, false}
use lib.Dec.{eqb}
use Rattle.groups.specs.Stack.{bit, digit, flags_in}
use Rattle.groups.specs.declared.Flags.{Flags}

pub bit_small : (b : Bool) → bit b ≤ 1
bit_small true = omega arith
bit_small false = omega arith

pub digit_small : (f : Flags) → digit f < 16
unfolding digit
digit_small f = omega (arith, bit_small f.around, bit_small f.earlier, bit_small f.taken, bit_small f.last)

-- a bit that is set or not
bit_set : (b : Bool) (n : ℕ) → n ≡ bit b → eqb n 1 ≡ b
bit_set true n e = rw e
bit_set false n e = rw e

pub flags_back : (v : ℕ) (f : Flags) → flags_in (v * 16 + digit f) ≡ f
unfolding flags_in digit
flags_back v f =
    let a = bit_small f.around in
    let b = bit_small f.earlier in
    let c = bit_small f.taken in
    let d = bit_small f.last in
    rw (
      bit_set f.around ((v * 16 + digit f) % 2) (omega arith),
      bit_set f.earlier ((v * 16 + digit f) / 2 % 2) (omega arith),
      bit_set f.taken ((v * 16 + digit f) / 4 % 2) (omega arith),
      bit_set f.last ((v * 16 + digit f) / 8 % 2) (omega arith),
    )

-- bits above the four lowest
pub flags_low : (v e : ℕ) → flags_in (v * 16 + e) ≡ flags_in e
unfolding flags_in
flags_low v e =
    let p : (v * 16 + e) / 2 ≡ v * 8 + e / 2 = omega arith in
    let q : (v * 16 + e) / 4 ≡ v * 4 + e / 4 = omega arith in
    let r : (v * 16 + e) / 8 ≡ v * 2 + e / 8 = omega arith in
    let a : (v * 16 + e) % 2 ≡ e % 2 = omega arith in
    let b : (v * 8 + e / 2) % 2 ≡ e / 2 % 2 = omega arith in
    let c : (v * 4 + e / 4) % 2 ≡ e / 4 % 2 = omega arith in
    let d : (v * 2 + e / 8) % 2 ≡ e / 8 % 2 = omega arith in
    rw (p, q, r, a, b, c, d)
