-- The result of the descent is that of the grammar's parser; a token after the expression is refused.
use Rattle.std.proofs.Common.{◌∙◌, arith}
use Rattle.grammar.proofs.Steps.{whole_bad, whole_rest, whole_made}
use Rattle.value.specs.Lent.{memory_of}
use Rattle.evaluation.proofs.outcome.answer_tokens.Goals as goal
use Rattle.evaluation.proofs.outcome.answer_tokens.Goals.{in-Ok-2-2, in-Ok-2}

pub returns-in-Ok : goal.returns-in-Ok
returns-in-Ok c =
    c.check_then_answer.ensures (memory_of c.args.m)
    ∙ rw (c.bar_at-bar.ensures, c.pcd_at-pcd.ensures, whole_made c.in-Ok.ensures (omega (arith, c.if-next-tokens.true)))

pub returns-in-Ok-2 : goal.returns-in-Ok-2
returns-in-Ok-2 c =
    elim c.in-Ok-2-1.branch [
      | in-Ok-2-2 w ↦
          rw (c.refuse_at.ensures, c.start_at-place.ensures, w.at-is, whole_rest w.in-Ok.ensures (λ e. omega (arith, e, w.if-next-tokens.false)))
      | in-Ok-2 w ↦ rw (c.refuse_at.ensures, c.start_at-place.ensures, w.at-is, whole_bad w.in-Ok-2.ensures)
    ]
