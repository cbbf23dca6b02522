-- The tokens before the index are a run.
use Rattle.syntax.specs.Descent.{Run}
use Rattle.syntax.proofs.tokens.Codes.run_end.Given as goal

abbrev pub invariant-loop-j : goal.invariant-loop-j
invariant-loop-j l = Run l.self.codes.now l.self.n.0 l.fn.i.0 l.j
