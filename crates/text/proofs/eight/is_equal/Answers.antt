-- Equal numbers have equal bytes.
use Rattle.text.proofs.EightBytes.{equal_by_numbers}
use Rattle.text.proofs.eight.is_equal.Goals as goal

pub returns : goal.returns
returns c =
    rw (c.number.ensures.0, c.number-2.ensures.0)
    (equal_by_numbers c.args.a.now c.args.b.now 8 c.requires.0 c.requires.1 c.number.ensures.1 c.number-2.ensures.1)
