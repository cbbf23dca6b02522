-- A table that is well formed is in order, and there is room for the marks.
use Rattle.settings.proofs.Ordered.{in_order}
use Rattle.select.proofs.selection.checked_run.Goals as goal

pub run-requires : goal.run-requires
run-requires c =
    let fit = c.in_ok-check_limits.ensures c.args.dialect in
    (in_order c.args.table.now fit.is_well_formed, fit.enough, fit.few)
