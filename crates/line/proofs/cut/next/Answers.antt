-- The run up to the LF, or up to the file's end, and the line's end before it give the first line; the next starts one byte further.
use native.Mathlib.Omega.{arith}
use Rattle.line.proofs.FirstLine.{lf_fits, cuts}
use Rattle.line.proofs.cut.next.Goals as goal

pub line_end-end-requires : goal.line_end-end-requires
line_end-end-requires c = lf_fits c.args.file.now c.args.from.0 c.lf_from-lf.result.0 (omega arith) c.lf_from-lf.ensures

pub overflow_add-after : goal.overflow_add-after
overflow_add-after c = omega (arith, lf_fits c.args.file.now c.args.from.0 c.lf_from-lf.result.0 (omega arith) c.lf_from-lf.ensures)

pub returns : goal.returns
returns c =
    cuts c.args.file.now c.args.from.0 c.lf_from-lf.result.0 (omega arith) c.lf_from-lf.ensures c.line_end-end.result.0 c.line_end-end.ensures
