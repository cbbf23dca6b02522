-- The leading zeros decide whether the shifted number fits.
use native.Mathlib.Nat.{mod-eq_of_lt}
use Rattle.std.proofs.Common.{rules}
use Rattle.arithmetic.proofs.Bits64.{ranged_in, ranged_out, shift_in, shift_out}
use Rattle.arithmetic.proofs.shifted_left.Goals as goal

pub returns-then-y-from : goal.returns-then-y-from
returns-then-y-from c = let h = shift_in c.args.x c.args.y (search rules) (search rules) (search rules) in
    rw (mod-eq_of_lt h) (ranged_in _ h)

pub returns-else-y-from : goal.returns-else-y-from
returns-else-y-from c = ranged_out _ (shift_out c.args.x c.args.y (search rules) (search rules) (search rules))
