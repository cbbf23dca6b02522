-- The stored bytes and the rest are the wide string and its zeros.
use Rattle.std.proofs.Common.{◌*◌, drop}
use Rattle.datum.specs.Encoding.{widened}
use Rattle.datum.proofs.Storing.{Storing}
use Rattle.datum.proofs.store.put_wide.Given as goal

abbrev pub invariant-loop-i : goal.invariant-loop-i
invariant-loop-i l = Storing (widened l.s) (widened (drop l.i l.s)) l.initial.buffer l.buffer (2 * l.i)
