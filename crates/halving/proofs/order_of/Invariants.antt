-- Invariant: the bytes before the index are equal and not zero, so the rest decides. Each exit is a case of the definition.
use Prim.Native.Nat.{◌≤◌}
use mathlib.Core.Path.{◌≡◌}
use lib.ListN.{length, drop}
use Rattle.text.specs.Order.{compared}
use Rattle.settings.specs.Table.{unpadded}
use Rattle.halving.proofs.order_of.Given as goal

abbrev pub invariant-loop-i : goal.invariant-loop-i
invariant-loop-i l = (l.i ≤ length l.name) × (l.i-end ≡ length l.name)
    × (compared l.name (unpadded l.field) ≡ compared (drop l.i l.name) (unpadded (drop l.i l.field)))
