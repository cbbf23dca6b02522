-- The entries of the operators from `at` on are appended.
use Rattle.std.proofs.Common.{◌≡◌, ◌+◌, ◌-◌, ◌≤◌, ◌++◌, length, take}
use Rattle.syntax.specs.Descent.{back}
use Rattle.syntax.proofs.descent.Postfix.push_run.Given as goal

abbrev pub invariant-loop-at : goal.invariant-loop-at
invariant-loop-at l =
    (l.fn.i.0 ≤ l.at) × (l.self.filled ≡ l.initial.self.filled + (l.fn.j.0 - l.at)) × (length l.self.entries.now ≡ 200)
    × (take l.self.filled l.self.entries.now ≡ take l.initial.self.filled l.initial.self.entries.now ++ back (l.fn.j.0 - l.at) l.at)
    × (l.self.entries.ghost_name ≡ l.initial.self.entries.ghost_name)
