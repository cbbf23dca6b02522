-- The bytes of a number as `to_le_bytes` has them. Assumes nothing.
use Prim.Native.Nat.{ℕ}
use native.Mathlib.Omega.{arith}
use mathlib.Core.Path.{◌≡◌}
use Rattle.std.proofs.Common.{w64}
use Rattle.std.specs.Int.{to_le_bytes}
use Rattle.text.specs.Numbers.{lowest_bytes}

pub bytes_lowest : (x : ℕ) → to_le_bytes w64 x ≡ lowest_bytes 8 x
unfolding lowest_bytes
bytes_lowest x = grind arith
