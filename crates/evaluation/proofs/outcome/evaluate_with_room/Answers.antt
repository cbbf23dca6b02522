-- The scan left the tokens in the arrays, so the answer to the arrays is the answer to the tokens.
use Rattle.std.proofs.Common.{sym, ◌∙◌, arith}
use Rattle.std.proofs.lemmas.Result.{err_from_is_err_and}
use Rattle.value.specs.Lent.{memory_of}
use Rattle.evaluation.specs.Evaluation.{evaluation_in}
use Rattle.evaluation.proofs.Arrays.{answers}
use Rattle.evaluation.proofs.outcome.evaluate_with_room.Goals as goal

pub returns-in_err-end : goal.returns-in_err-end
unfolding evaluation_in
returns-in_err-end g c =
    let failed = err_from_is_err_and c.from_residual.result c.from_residual.ensures.1 in
    rw (failed.1, failed.2, ← c.tokens-scan.ensures.ending, c.in_err-end.was)

pub returns : goal.returns
returns g c =
    let few = c.requires.roomy in
    let learnt = c.tokens-scan.ensures in
    let same = answers (memory_of c.args.m) c.args.dialect learnt.tokens
    (record {
      codes_hold = omega (arith, few, c.requires.small);
      starts_hold = omega (arith, few);
      lens_hold = omega (arith, few);
      values_hold = omega (arith, few);
    }) _ _ learnt.count (sym learnt.ending ∙ c.in_ok-end.was) in
    c.answer_tokens.ensures ∙ same
