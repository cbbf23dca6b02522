-- Invariant: the search that is left, after the rounds that were made, is the whole search.
use Prim.Native.Nat.{◌+◌, ◌-◌, ◌/◌, ◌≤◌}
use mathlib.Core.Path.{◌≡◌}
use lib.ListN.{length}
use Rattle.settings.specs.Table.{records}
use Rattle.halving.specs.Halving.{halve, halving}
use Rattle.halving.proofs.Steps.{after}
use Rattle.halving.proofs.search.Given as goal

abbrev pub invariant-loop-low : goal.invariant-loop-low
invariant-loop-low l = (l.high ≤ length l.table / 128) × (l.rounds + (l.high - l.low) ≤ length l.table / 128)
    × (halving (records l.table) l.name ≡ after l.rounds (halve (length l.table / 128 - l.rounds) l.low l.high (records l.table) l.name))

abbrev pub decreases-loop-low : goal.decreases-loop-low
decreases-loop-low l = l.high - l.low
