-- The sum is the definition for eight bytes.
use Rattle.std.proofs.Common.{arith}
use Rattle.text.specs.Numbers.{little_endian}
use Rattle.text.proofs.EightBytes.{are_bytes}
use Rattle.text.proofs.eight.number.Goals as goal

pub returns : goal.returns
unfolding little_endian
returns c = (omega arith, are_bytes 8 0 c.args.s.now c.type_inv.s)
