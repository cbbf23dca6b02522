-- The operand goes to the place.
use Rattle.operands.proofs.Piles.{stored}
use Rattle.operands.proofs.stack.store.Goals as goal

pub returns : goal.returns
returns c = λ m. stored m c.args.waiting.now c.args.at c.args.a c.requires
