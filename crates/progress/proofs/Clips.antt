-- A number that is not above its limit is read as it is. Assumes nothing.
use Prim.Native.Nat.{ℕ, ◌≤◌}
use native.Mathlib.Omega.{arith}
use mathlib.Core.Path.{◌≡◌, refl}
use mathlib.Core.Bool.{Bool, true, false}
use lib.Dec.{ltb}
use borrow.Author.Tests.{le-ltb, ltb-false}
use Rattle.text.specs.Bytes.{pick}
use Rattle.progress.specs.Reading.{clip}

pub clip_within : (l n : ℕ) → clip l n ≤ l
clip_within l n = by (ltb l n) refl
  where
    by : (t : Bool) → ltb l n ≡ t → pick t l n ≤ l
    by true e = omega arith
    by false e = ltb-false l n e

pub clip_fits : (l n : ℕ) → n ≤ l → clip l n ≡ n
clip_fits l n h = rw (le-ltb l n h)
