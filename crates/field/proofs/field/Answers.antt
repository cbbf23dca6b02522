-- The variant of the answer and its kind decide; the part that is passed on holds the bytes of the string.
use Rattle.std.proofs.Common.{refl}
use Rattle.std.proofs.lemmas.Result.{err_from_is_err_and}
use Rattle.field.specs.Fields.{field_of}
use Rattle.field.proofs.field.Goals as goal

pub returns-in_err-x : goal.returns-in_err-x
unfolding field_of
returns-in_err-x c =
    let a = rw c.in_err-x.was at c.evaluate-answer.ensures in
    let failed = err_from_is_err_and c.from_residual.result c.from_residual.ensures.1 in
    rw (failed.1, failed.2, ← a) (record { answer = refl; buffer = refl })

pub returns-in-Number : goal.returns-in-Number
unfolding field_of
returns-in-Number c =
    let a = rw (c.in_ok-x.was, c.in-Number.is) at c.evaluate-answer.ensures in
    rw (← a) c.number.ensures

pub returns-in-String : goal.returns-in-String
unfolding field_of
returns-in-String c =
    let a = rw (c.in_ok-x.was, c.in-Text.is) at c.evaluate-answer.ensures in
    let z = rw (c.in_ok-x.was, c.in-Text.is) at c.string-s.ensures.bytes in
    rw (← a, ← z, c.in-String.is) c.string.ensures

pub returns-in-Wide : goal.returns-in-Wide
unfolding field_of
returns-in-Wide c =
    let a = rw (c.in_ok-x.was, c.in-Text.is) at c.evaluate-answer.ensures in
    let z = rw (c.in_ok-x.was, c.in-Text.is) at c.string-s.ensures.bytes in
    rw (← a, ← z, c.in-Wide.is) c.wide.ensures
