-- The value of the record that the search finds is that of the setting.
use Rattle.std.proofs.Common.{rules}
use Rattle.lookup.proofs.Halved.{something}
use Rattle.lookup.proofs.lookup.Goals as goal

pub returns : goal.returns
returns c = rw c.value_of_record.ensures (something c.args.table.now c.args.name.now c.find.result c.find.ensures c.in_ok-i.i (search rules))
