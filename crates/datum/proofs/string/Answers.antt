-- The datum decides first, then the room in the buffer.
use Rattle.std.proofs.Common.{Err, arith}
use Rattle.std.proofs.lemmas.Result.{err_from_is_err_and}
use mathlib.Core.Path.{sym, ap, ◌∙◌}
use Rattle.datum.specs.Encoding.{terminated}
use Rattle.datum.proofs.Storing.{string_length}
use Rattle.datum.proofs.Fitting.{refuses, short, stores}
use Rattle.datum.proofs.string.Goals as goal

pub returns-in_err-check_string : goal.returns-in_err-check_string
returns-in_err-check_string c =
    let failed = err_from_is_err_and c.from_residual.result c.from_residual.ensures.1 in
    let why = c.in_err-check_string.ensures in
    refuses c.args.buffer.now (why.1 (terminated c.args.s.now)) (failed.1 ∙ ap Err (failed.2 ∙ why.0))

pub returns-then-buffer-s : goal.returns-then-buffer-s
returns-then-buffer-s c =
    let v = terminated c.args.s.now in
    short c.args.buffer.now (c.in_ok-check_string.ensures v) (omega (arith, string_length c.args.s.now)) (ap Err c.into.ensures)

pub returns : goal.returns
returns c =
    let v = terminated c.args.s.now in
    let n = string_length c.args.s.now in
    stores c.args.buffer.now (c.in_ok-check_string.ensures v) (omega (arith, n)) (sym n) c.put_string.ensures
