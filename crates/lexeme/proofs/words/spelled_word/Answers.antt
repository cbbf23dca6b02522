-- Only words of its own length can spell a run.
use Rattle.std.proofs.Common.{arith}
use Rattle.std.proofs.lemmas.Bool.Decides.{nat_tests}
use Rattle.lexeme.proofs.Spellings.{read_2, read_3}
use Rattle.lexeme.proofs.words.spelled_word.Goals as goal

pub returns-in-OR : goal.returns-in-OR
returns-in-OR c = rw (read_2 c.args.w.now (grind arith)) (grind (arith, nat_tests))

pub returns-in-XOR : goal.returns-in-XOR
returns-in-XOR c = rw (read_3 c.args.w.now (grind arith)) (grind (arith, nat_tests))

pub returns-in-NOT : goal.returns-in-NOT
returns-in-NOT c = rw (read_3 c.args.w.now (grind arith)) (grind (arith, nat_tests))

pub returns-in_default-8 : goal.returns-in_default-8
returns-in_default-8 c = rw (read_2 c.args.w.now (grind arith)) (grind (arith, nat_tests))
