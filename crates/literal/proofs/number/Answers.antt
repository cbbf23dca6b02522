-- A run is within its text.
use Rattle.std.proofs.Common.{arith, sym}
use lib.Seq.{length-take-le}
use Rattle.text.specs.declared.runs.Set.TheVariants.{Word}
use Rattle.text.proofs.Laws.{span_fits}
use Rattle.literal.proofs.number.Goals as goal

pub slice_bounds-run-end : goal.slice_bounds-run-end
slice_bounds-run-end c = sym (length-take-le _ c.args.s.now (omega (arith, c.run_end-n.ensures, span_fits Word c.args.s.now)))

pub slice_bounds-literal-end : goal.slice_bounds-literal-end
slice_bounds-literal-end c = omega (arith, c.run_end-n.ensures, span_fits Word c.args.s.now)
