-- The whole expression from token 0 on, with no entry before it.
use Rattle.std.proofs.Common.{rules}
use Rattle.syntax.proofs.Orders.{whole_order}
use Rattle.syntax.proofs.descent.write_postfix.Goals as goal

pub returns : goal.returns
returns c = whole_order c.requires.0 c.in_ok-end.ensures.part (search rules)
