-- A record has 128 bytes, of which the name field is the first 64.
use native.Mathlib.Omega.{arith}
use lib.ListN.{length-take}
use Rattle.own.proofs.has_name.Goals as goal

pub slice_bounds-field-end : goal.slice_bounds-field-end
slice_bounds-field-end c = omega (arith, c.requires, length-take 64 c.args.r.now)
