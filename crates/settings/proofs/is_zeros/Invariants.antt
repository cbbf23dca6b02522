-- Invariant: the largest byte so far and the other bytes are zero exactly if all bytes are.
use mathlib.Core.Path.{◌≡◌}
use mathlib.Core.Bool.{◌&&◌}
use lib.ListN.{drop}
use lib.Dec.{eqb}
use Rattle.settings.specs.Table.{zeros}
use Rattle.settings.proofs.is_zeros.Given as goal

abbrev pub invariant-loop-b : goal.invariant-loop-b
invariant-loop-b l = (eqb l.most 0 && zeros (drop l.b-index l.s)) ≡ zeros l.s
