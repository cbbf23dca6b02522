-- The tests are those of the definition, in order.
use Rattle.std.proofs.Common.{Err, arith}
use Rattle.std.proofs.lemmas.Result.{err_from_is_err_and}
use mathlib.Core.Path.{sym, ap, ◌∙◌}
use borrow.Author.Tests.{lt-ltb, le-ltb}
use Rattle.text.specs.Numbers.{lowest_bytes}
use Rattle.text.proofs.LowestBytes.{low_length}
use Rattle.datum.proofs.Storing.{stored_number}
use Rattle.datum.proofs.Fitting.{refuses, short, stores}
use Rattle.datum.proofs.number.Goals as goal

pub returns-in_err-width : goal.returns-in_err-width
returns-in_err-width c =
    let failed = err_from_is_err_and c.from_residual.result c.from_residual.ensures.1 in
    let why = c.in_err-width.ensures in
    refuses c.args.buffer.now (why.1 c.args.x) (failed.1 ∙ ap Err (failed.2 ∙ why.0))

pub returns-then-largest-x : goal.returns-then-largest-x
returns-then-largest-x c =
    refuses c.args.buffer.now (c.in_ok-width.ensures.1 c.args.x ∙ rw (lt-ltb _ _ c.if-largest-x.true)) (ap Err c.into.ensures)

pub returns-then-buffer-width : goal.returns-then-buffer-width
returns-then-buffer-width c =
    let w = c.in_ok-width.field-0.width in
    let n = low_length w c.args.x in
    let field = c.in_ok-width.ensures.1 c.args.x in
    short c.args.buffer.now {v = lowest_bytes w c.args.x} (field ∙ rw (le-ltb _ _ c.if-largest-x.false)) (omega (arith, n))
    (ap Err c.into-then-buffer-width.ensures)

pub returns : goal.returns
returns c =
    let w = c.in_ok-width.field-0.width in
    let n = low_length w c.args.x in
    let stored = stored_number w c.args.x c.args.buffer.now (c.in_ok-width.ensures.0) c.if-buffer-width.false in
    stores c.args.buffer.now {v = lowest_bytes w c.args.x} (c.in_ok-width.ensures.1 c.args.x ∙ rw (le-ltb _ _ c.if-largest-x.false)) (omega (arith, n)) (sym n)
    (rw (c.copy.ensures, c.to_le_bytes.ensures) stored)
