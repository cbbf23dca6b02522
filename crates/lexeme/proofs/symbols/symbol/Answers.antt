-- The first two bytes decide.
use Rattle.std.proofs.Common.{arith}
use Rattle.std.proofs.lemmas.Bool.Decides.{nat_tests}
use Rattle.lexeme.proofs.Spellings.{symbol_hit}
use Rattle.lexeme.proofs.symbols.symbol.Goals as goal

pub returns-in-40-default : goal.returns-in-40-default
returns-in-40-default c = rw (symbol_hit c.args.s.now) (grind (arith, nat_tests))

pub returns-in_default-2 : goal.returns-in_default-2
returns-in_default-2 c = rw (symbol_hit c.args.s.now) (grind (arith, nat_tests))
