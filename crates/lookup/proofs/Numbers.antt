-- The number of a record whose kind is that of numbers. Assumes nothing.
use Prim.Native.Nat.{ℕ}
use mathlib.Core.Path.{◌≡◌, sym}
use mathlib.Core.List.{List}
use lib.ListN.{take, drop}
use lib.Dec.{lit≤}
use Rattle.text.specs.Numbers.{little_endian}
use Rattle.text.proofs.EightBytes.{number_in_part}

-- the eight bytes from 72 on
pub number_there : (r : List ℕ) → little_endian 8 0 (take 8 (drop 72 r)) ≡ little_endian 8 72 r
number_there r = sym (number_in_part 8 0 72 8 r (lit≤ tt))
