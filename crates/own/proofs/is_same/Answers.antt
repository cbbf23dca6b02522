-- Texts with another byte at some place are not equal.
use Rattle.own.proofs.FieldNames.{other_byte}
use Rattle.own.proofs.is_same.Goals as goal

pub returns-else-byte_at : goal.returns-else-byte_at
returns-else-byte_at c = other_byte c.args.a.now c.args.b.now _ c.byte_at.ensures c.byte_at-2.ensures c.if-byte_at.false
