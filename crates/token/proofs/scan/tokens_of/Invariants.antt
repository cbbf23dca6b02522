-- Invariant: what was stored and counted, with the reading of the rest, is the whole.
use Rattle.std.proofs.Common.{◌-◌, length}
use Rattle.token.proofs.Storing.{Underway}
use Rattle.token.proofs.scan.tokens_of.Given as goal

abbrev pub invariant-loop-at : goal.invariant-loop-at
invariant-loop-at l =
    Underway l.expr l.dialect l.initial.codes l.initial.starts l.initial.lens l.initial.values l.codes l.starts l.lens l.values l.read.0 l.at.0 l.after l.depth

abbrev pub decreases-loop-at : goal.decreases-loop-at
decreases-loop-at l = length l.expr - l.at.0
