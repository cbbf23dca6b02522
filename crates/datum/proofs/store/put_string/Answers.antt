use Rattle.datum.proofs.Storing.{stored_string}
use Rattle.datum.proofs.store.put_string.Goals as goal

pub returns : goal.returns
returns c = rw c.copy.ensures (stored_string c.args.s.now c.args.buffer.now c.requires)
