-- Invariant: the bytes before the index are copied.
use Rattle.std.proofs.Common.{◌≡◌, length}
use lib.ListN.{take}
use Rattle.text.proofs.copies.copy.Given as goal

abbrev pub invariant-loop-i : goal.invariant-loop-i
invariant-loop-i l = (length l.to ≡ length l.from) × (take l.i l.to ≡ take l.i l.from)
