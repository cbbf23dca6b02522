-- The lowest bytes of a number: how many they are, and that reading them gives the number back. Assumes nothing.
use Prim.Native.Nat.{ℕ, zero, suc, ◌*◌, ◌/◌, ◌%◌, ◌^◌, ◌<◌}
use native.Mathlib.Omega.{arith}
use native.Mathlib.Nat.{pow-suc}
use mathlib.Core.Path.{◌≡◌, refl, ap}
use mathlib.Core.List.{List, ◌∷◌}
use lib.ListN.{length}
use Rattle.text.specs.Numbers.{little_endian, lowest_bytes}

pub low_length : (n x : ℕ) → length (lowest_bytes n x) ≡ n
unfolding lowest_bytes
low_length zero x = refl
low_length (suc n) x = ap suc (low_length n (x / 256))

-- the number in the bytes after the first
number_after : (n i b : ℕ) (s : List ℕ) → little_endian n (suc i) (b ∷ s) ≡ little_endian n i s
unfolding little_endian
number_after zero i b s = refl
number_after (suc n) i b s = rw (number_after n (suc i) b s)

pub low_number : (n x : ℕ) → x < 256 ^ n → little_endian n 0 (lowest_bytes n x) ≡ x
unfolding little_endian lowest_bytes
low_number zero x h = omega arith
low_number (suc n) x h =
    let k : x < 256 ^ n * 256 = rw (pow-suc 256 n) at h in
    rw (number_after n 0 (x % 256) (lowest_bytes n (x / 256)), low_number n (x / 256) (omega arith)) (omega arith)
