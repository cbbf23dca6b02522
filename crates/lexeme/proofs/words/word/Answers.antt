-- A run is within its text.
use Rattle.std.proofs.Common.{arith, sym}
use lib.Seq.{length-take-le}
use Rattle.text.specs.declared.runs.Set.TheVariants.{Word}
use Rattle.text.proofs.Laws.{span_fits}
use Rattle.lexeme.proofs.words.word.Goals as goal

pub slice_bounds-spelled_word-end : goal.slice_bounds-spelled_word-end
slice_bounds-spelled_word-end c = sym (length-take-le _ c.args.s.now (omega (arith, c.run_end-n.ensures, span_fits Word c.args.s.now)))
