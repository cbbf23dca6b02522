-- What is read from the struct decides.
use Rattle.std.proofs.Common.{sym, ◌∙◌}
use Rattle.follow.proofs.Feeds.{ends_bad, ends_good}
use Rattle.follow.proofs.feeding.end.Goals as goal

pub returns-then-not-is_well_formed : goal.returns-then-not-is_well_formed
returns-then-not-is_well_formed c = λ b.
    ends_bad c.args.x b c.args.table.now c.into.result (sym c.is_well_formed.ensures ∙ c.if-not-is_well_formed.true) c.into.ensures

pub returns : goal.returns
returns c = λ b.
    ends_good c.args.x b c.args.table.now c.finish.result c.read-y.result (sym c.is_well_formed.ensures ∙ c.if-not-is_well_formed.false)
    c.read-y.ensures c.finish.ensures
