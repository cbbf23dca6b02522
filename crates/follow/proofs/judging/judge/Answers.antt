-- A plain line that sets no macro needs its mark only; one that sets a macro is obeyed; the step decides any other.
use Rattle.std.proofs.Common.{◌≡◌, ◌≤◌, length, take, false, arith, sym, ap, ◌∙◌}
use Rattle.std.proofs.lemmas.Result.{err_from_is_err_and}
use lib.Seq.{length-take-le}
use borrow.Author.Tests.{le-leb}
use Rattle.own.specs.Own.{records_of}
use Rattle.groups.specs.Stack.{denote_selection}
use Rattle.select.specs.Step.{defines}
use Rattle.select.proofs.Marks.{first_fails, defining}
use Rattle.progress.specs.Reading.{own_in}
use Rattle.progress.proofs.Settings.{reads}
use Rattle.follow.proofs.LineCases.{plain_judged, step_judged, step_refused}
use Rattle.follow.proofs.judging.judge.Goals as goal

pub returns-then-is_passed : goal.returns-then-is_passed
returns-then-is_passed c =
    let a = c.args in
    let plain = c.is_passed.ensures c.if-is_passed.true in
    plain_judged a.x a.used a.own.now a.table.now a.line.now a.dialect a.n.0 c.plain_mark-mark.result
    c.requires.2 c.plain_mark-mark.ensures plain.0 plain.1 plain.2

pub shared_ref_as_front-settings : goal.shared_ref_as_front-settings
shared_ref_as_front-settings c =
    let read = reads c.args.used c.args.own.now c.used_of-held.ensures.b_len in
    omega (arith, c.used_of-held.ensures.value, read.few)

pub invariant_of-settings : goal.invariant_of-settings
invariant_of-settings c =
    let a = c.args in
    let long = c.used_of-held.ensures.b_len in
    let same = c.used_of-held.ensures.value in
    let read = reads a.used a.own.now long in
    let size = length-take-le c.used_of-held.result a.own.now (omega (arith, same, long, read.few)) in
    record {
      looked = record {
        whole = omega (arith, size, same, read.held.size);
        few = omega (arith, size, same, read.few);
        in_order = c.requires.0;
      };
    }

pub returns-in_err-step : goal.returns-in_err-step
returns-in_err-step c =
    let a = c.args in
    let own = own_in a.used a.own.now in
    let read = reads a.used a.own.now c.used_of-held.ensures.b_len in
    let lent : take c.used_of-held.result a.own.now ≡ records_of own =
    ap (λ k. take k a.own.now) c.used_of-held.ensures.value ∙ read.held.bytes in
    let failed = err_from_is_err_and c.from_residual.result c.from_residual.ensures.1 in
    rw (failed.1, failed.2)
    (step_refused a.x a.used a.own.now a.table.now a.line.now a.dialect a.n.0 _ (c.in_err-step.ensures own lent))

pub returns : goal.returns
returns c =
    let a = c.args in
    let own = own_in a.used a.own.now in
    let read = reads a.used a.own.now c.used_of-held.ensures.b_len in
    let lent : take c.used_of-held.result a.own.now ≡ records_of own =
    ap (λ k. take k a.own.now) c.used_of-held.ensures.value ∙ read.held.bytes in
    let other : length a.line.now ≤ 1024 → defines (denote_selection a.x own) a.line.now ≡ false =
    λ short. sym (defining a.x own c.plain_mark-mark.result c.plain_mark-mark.ensures a.line.now)
    ∙ first_fails _ _ (sym c.is_defining.ensures ∙ c.if-is_defining.false) (le-leb (length a.line.now) 1024 short) in
    step_judged a.x a.used a.own.now a.table.now a.line.now a.dialect a.n.0 c.in_ok-step.step other (c.in_ok-step.ensures own lent)
