-- What was stored and counted, with the reading of the rest, is the whole.
use Rattle.std.specs.Prelude.{Err, Ok}
use Rattle.std.proofs.Common.{ap}
use Rattle.units.specs.Refusals.{refusal_at}
use Rattle.token.specs.Tokens.{check_depth}
use Rattle.token.proofs.Storing.{gone, done}
use Rattle.token.proofs.scan.tokens_of.Goals as goal

pub returns-in-Ok-End : goal.returns-in-Ok-End
returns-in-Ok-End c = done c.loop-at.invariant (Ok c.loop-at.at) _ (rw c.in-Ok-End.field-0-is at c.in-Ok-End.ensures) c.ended.ensures

pub returns-in-Err : goal.returns-in-Err
unfolding check_depth
returns-in-Err c =
    done c.loop-at.invariant (Err (refusal_at c.in-Err.reason c.loop-at.at.0)) _ c.in-Err.ensures (ap Err c.refuse_at.ensures)

pub loop-at-preserved : goal.loop-at-preserved
loop-at-preserved c =
    let onward = rw c.in-Ok-Token.field-0-is at c.in-Ok-Token.ensures in
    rw c.is_equality-after.ensures (gone c.loop-at.invariant _ _ onward c.deepened-depth.ensures)
