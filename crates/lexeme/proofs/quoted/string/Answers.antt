-- The string ends after the run of bytes inside it, if the same quote follows.
use Rattle.std.proofs.Common.{◌+◌, arith}
use Rattle.text.proofs.Laws.{span_fits_at}
use Rattle.lexeme.proofs.quoted.string.Goals as goal

pub overflow_add-end : goal.overflow_add-end
overflow_add-end c = omega (arith, c.run_end-end.ensures, span_fits_at c.string_set.result c.args.s.now (c.args.at.0 + 1) (omega arith))
