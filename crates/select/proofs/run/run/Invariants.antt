-- Each turn takes one line; the mark of plain lines is that of the current state.
use Rattle.std.proofs.Common.{length, ◌-◌, ◌≡◌, ◌≤◌}
use Rattle.select.specs.Running.{MarksPlain}
use Rattle.select.proofs.RunInvariant.{Underway}
use Rattle.select.proofs.run.run.Given as goal

abbrev pub invariant-loop-at : goal.invariant-loop-at
invariant-loop-at l =
    Underway l.file l.table l.dialect l.initial.marks l.x l.own l.used l.at.0 l.n.0 l.marks
    × (length l.marks ≡ length l.initial.marks)
    × MarksPlain l.x l.mark
    × (length l.own ≡ 8192)
    × (l.used ≤ 8192)

abbrev pub decreases-loop-at : goal.decreases-loop-at
decreases-loop-at l = length l.file - l.at.0
