-- A record has 128 bytes, of which the name field is the first 64.
use native.Mathlib.Omega.{arith}
use mathlib.Core.Path.{◌∙◌}
use lib.ListN.{length-take}
use Rattle.settings.proofs.has_ordered_names.Goals as goal

pub slice_bounds-name-end : goal.slice_bounds-name-end
slice_bounds-name-end c = omega (arith, c.in-Some.ensures.steps.1.1 ∙ c.loop-r.invariant.0, length-take 64 c.in-Some.r.now)
