-- The measure decreases at each call: tokens are read, or the level is tighter. The invariant is that of `Climbing`.
use Rattle.std.proofs.Common.{◌≡◌, ◌+◌, ◌-◌, ◌*◌}
use Rattle.syntax.proofs.Climbing.{Grown}
use Rattle.syntax.proofs.descent.+level_primary_unary_whole.Given as goal

abbrev pub decreases-level : goal.decreases-level
decreases-level l = 16 * (l.codes.n.0 - l.i.0) + 2 + l.k

abbrev pub decreases-primary : goal.decreases-primary
decreases-primary l = 16 * (l.codes.n.0 - l.i.0)

abbrev pub decreases-unary : goal.decreases-unary
decreases-unary l = 16 * (l.codes.n.0 - l.i.0) + 1

abbrev pub decreases-whole : goal.decreases-whole
decreases-whole l = 16 * (l.codes.n.0 - l.i.0) + 15

abbrev pub invariant-level-loop-low : goal.invariant-level-loop-low
invariant-level-loop-low l =
    Grown l.codes.codes.now l.codes.n.0 l.k l.initial.at.0 l.initial.order.filled l.initial.order.entries.now l.low l.at.0 l.order.filled l.order.entries.now
    × (l.order.entries.ghost_name ≡ l.initial.order.entries.ghost_name)

abbrev pub decreases-level-loop-low : goal.decreases-level-loop-low
decreases-level-loop-low l = l.codes.n.0 - l.at.0
