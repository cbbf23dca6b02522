-- `high` is the value of the digits before the index.
use Rattle.std.proofs.Common.{◌≡◌, ◌<◌, ◌^◌, drop}
use Rattle.literal.specs.Literal.{value_in}
use Rattle.literal.proofs.value.Given as goal

abbrev pub invariant-loop-b : goal.invariant-loop-b
invariant-loop-b g l = (l.high < 2 ^ 64) × (value_in g.row.BASE 0 l.digits ≡ value_in g.row.BASE l.high (drop l.b-index l.digits))
