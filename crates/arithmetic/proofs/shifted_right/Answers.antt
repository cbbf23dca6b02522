-- A shift of a number below 2^64 by 64 or more is 0.
use Prim.Native.Nat.{◌≤◌, ◌<◌, ◌^◌}
use mathlib.Core.Path.{sym}
use native.Mathlib.Nat.{div-eq_of_lt, lt_of_lt_of_le}
use lib.Pow.{pow_mono}
use Rattle.std.proofs.Common.{rules}
use Rattle.arithmetic.proofs.shifted_right.Goals as goal

pub returns-else-y-lt64 : goal.returns-else-y-lt64
returns-else-y-lt64 c = let h : 64 ≤ c.args.y = search rules in
    let f : c.args.x < 2 ^ 64 = search rules in
    sym (div-eq_of_lt (lt_of_lt_of_le f (pow_mono h)))
