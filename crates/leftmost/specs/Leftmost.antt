-- The places of refusals 8 and 9 (document 02, order 3): the leftmost bar outside parentheses, unless the dialect allows it there, and the
-- leftmost PCD that the table does not have.
use Rattle.std.specs.Prelude.{List, None, Option}
use Rattle.units.specs.declared.Dialect.{Dialect}
use Rattle.units.specs.declared.Offset.{Offset}
use Rattle.text.specs.Bytes.{pick}
use Rattle.token.specs.Tokens.{Token, first_place}
use Rattle.grammar.specs.Bars.{bars_outside}
use Rattle.value.specs.Places.{Memory}
use Rattle.value.specs.Values.{missing_pcds}
use Rattle.expression.specs.Meaning.{code_of}

abbrev pub bar_at : List Token → Dialect → Option Offset
bar_at ts δ = pick δ.bars None (first_place (bars_outside code_of 0 ts))

abbrev pub pcd_at : Memory → List Token → Option Offset
pcd_at m ts = first_place (missing_pcds m ts)
