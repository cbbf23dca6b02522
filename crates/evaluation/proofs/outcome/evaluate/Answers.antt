-- The check of the table decides.
use Rattle.std.proofs.Common.{sym, ◌∙◌, arith}
use Rattle.settings.proofs.Ordered.{in_order}
use Rattle.evaluation.specs.Evaluation.{evaluation}
use Rattle.evaluation.proofs.outcome.evaluate.Goals as goal

pub returns-then-not-is_well_formed : goal.returns-then-not-is_well_formed
unfolding evaluation
returns-then-not-is_well_formed c = rw (c.into.ensures, sym c.if-not-is_well_formed.ensures)

-- nothing stands in front of the table
pub invariant_of-settings : goal.invariant_of-settings
invariant_of-settings c =
    record { looked = record { whole = omega arith; few = omega arith; in_order = in_order _ (sym c.if-not-is_well_formed.ensures) } }

pub returns : goal.returns
unfolding evaluation
returns c = c.evaluate_in.ensures ∙ rw (sym c.if-not-is_well_formed.ensures)
