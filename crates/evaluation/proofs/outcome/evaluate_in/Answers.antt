-- A short expression has no more tokens than bytes, and any expression at most 200.
use Rattle.std.proofs.Common.{arith}
use Rattle.token.proofs.Reading.{tokens_of_bytes, most_tokens}
use Rattle.evaluation.proofs.outcome.evaluate_in.Goals as goal

pub evaluate_with_room-requires-clause-roomy : goal.evaluate_with_room-requires-clause-roomy
evaluate_with_room-requires-clause-roomy c = omega (arith, tokens_of_bytes c.args.m.expr.now c.args.dialect, c.if-m-le-SHORT.true)

pub evaluate_with_room-requires-else-m-le-SHORT-clause-roomy : goal.evaluate_with_room-requires-else-m-le-SHORT-clause-roomy
evaluate_with_room-requires-else-m-le-SHORT-clause-roomy c = most_tokens c.args.m.expr.now c.args.dialect
