-- Each exit of a function is a case of a step of the grammar's parser, and follows from the lemma on that case.
use Rattle.std.proofs.Common.{◌≡◌, refl, suc, ◌+◌, ◌-◌, ◌<◌, sym, ap, ◌∙◌, true, [], ◌∷◌, ◌++◌, append-nil, length, take, arith}
use Rattle.std.proofs.lemmas.Result.{err_from_is_err_and}
use Rattle.codes.specs.Codes.{QUESTION, COLON}
use Rattle.codes.specs.Levels.{level_of}
use Rattle.grammar.specs.Grammar.{is_primary}
use Rattle.grammar.proofs.Inside.{code_inside, primary_inside, level_inside}
use Rattle.grammar.proofs.Steps.{primary_leaf, primary_none, parentheses_bad, parentheses_open, parentheses_closed, unary_none}
use Rattle.grammar.proofs.Steps.{expression_bad, choice_none, choice_bad_first, choice_no_colon, choice_bad_second, choice_made}
use Rattle.grammar.proofs.Climb.{found_bad}
use Rattle.syntax.specs.Order.{code_at, FILLER}
use Rattle.syntax.specs.Descent.{back}
use Rattle.syntax.proofs.Orders.{ended, put, put_long, both, passed, extra, onward, chosen, applied, wrong}
use Rattle.syntax.proofs.Climbing.{read, begun, stays, room, refused, extended}
use Rattle.syntax.proofs.descent.+level_primary_unary_whole.Goals as goal

pub level-returns-in_err-at-clause-part : goal.level-returns-in_err-at-clause-part
level-returns-in_err-at-clause-part t c =
    let bad = c.in_err-at.ensures.part in
    let failed = err_from_is_err_and c.from_residual.result c.from_residual.ensures.1 in
    rw (failed.1, failed.2) (found_bad (ended c.args.codes.codes.now _) _ (c.args.k - 1) 1 _ (omega (arith, c.requires.1)) (omega arith) _ bad)

pub level-loop-low-init : goal.level-loop-low-init
level-loop-low-init t c =
    let first = c.in_ok-at.ensures.part in
    (begun c.requires.1 (passed first (omega arith)).1 first.long, refl)

pub level-returns-then-l-low-clause-part : goal.level-returns-then-l-low-clause-part
level-returns-then-l-low-clause-part t c =
    let first = c.in_ok-at.ensures.part in
    let here = read c.code_at-o.ensures (c.from-l.ensures ∙ c.level_of.ensures) in
    stays c.requires.2 first c.loop-low.invariant.0 c.requires.0 (λ x f h q. omega (arith, q, here, c.then-l-low.either))

pub level-level-requires : goal.level-level-requires
level-level-requires t c =
    let first = c.in_ok-at.ensures.part in
    let grown = c.loop-low.invariant.0 in
    let top = c.requires.2 in
    let below = c.if-k-l.false in
    let above = c.if-l-low.false in
    let ends = ended c.args.codes.codes.now c.args.codes.n.0 in
    let here = read c.code_at-o.ensures (c.from-l.ensures ∙ c.level_of.ensures) in
    let follows : level_of (code_at c.args.codes.codes.now c.args.codes.n.0 c.loop-low.at.0) ≡ suc (c.from-l.result - 1) = omega (arith, here, above) in
    let inside = level_inside ends _ (c.from-l.result - 1) (omega (arith, below, top)) follows in (
      omega (arith, c.decreases, inside, below, top, grown.on, passed first (omega arith)),
      (room top first grown c.requires.0 inside, omega (arith, above, grown.some), omega (arith, below, top)),
    )

pub level-returns-in_err-next-clause-part : goal.level-returns-in_err-next-clause-part
level-returns-in_err-next-clause-part t c =
    let first = c.in_ok-at.ensures.part in
    let above = c.if-l-low.false in
    let below = c.if-k-l.false in
    let here = read c.code_at-o.ensures (c.from-l.ensures ∙ c.level_of.ensures) in
    let follows : level_of (code_at c.args.codes.codes.now c.args.codes.n.0 c.loop-low.at.0) ≡ suc (c.from-l.result - 1) = omega (arith, here, above) in
    let bad = c.in_err-next.ensures.part in
    let failed = err_from_is_err_and c.from_residual-in_err-next.result c.from_residual-in_err-next.ensures.1 in
    rw (failed.1, failed.2) (refused c.requires.2 first c.loop-low.invariant.0 (omega (arith, above)) (omega (arith, above, below)) follows _ bad)

pub level-push-requires : goal.level-push-requires
level-push-requires t c =
    let first = c.in_ok-at.ensures.part in
    let second = c.in_ok-next.ensures.part in
    let on = passed second (omega (arith, c.if-k-l.false, c.requires.2)) in
    omega (arith, second.most, on, c.loop-low.invariant.0.most, first.most, c.requires.0.room, c.requires.0.few)

pub level-loop-low-smaller : goal.level-loop-low-smaller
level-loop-low-smaller t c =
    let second = c.in_ok-next.ensures.part in
    omega (arith, passed second (omega (arith, c.if-k-l.false, c.requires.2)))

pub level-loop-low-preserved : goal.level-loop-low-preserved
level-loop-low-preserved t c =
    let first = c.in_ok-at.ensures.part in
    let second = c.in_ok-next.ensures.part in
    let above = c.if-l-low.false in
    let below = c.if-k-l.false in
    let here = read c.code_at-o.ensures (c.from-l.ensures ∙ c.level_of.ensures) in
    let follows : level_of (code_at c.args.codes.codes.now c.args.codes.n.0 c.loop-low.at.0) ≡ suc (c.from-l.result - 1) = omega (arith, here, above) in
    let on = passed second (omega (arith, below, c.requires.2)) in
    let space : c.level.new.order.filled < 200 =
    omega (arith, second.most, on, c.loop-low.invariant.0.most, first.most, c.requires.0.room, c.requires.0.few) in (
      extended c.requires.2 first c.loop-low.invariant.0 (omega (arith, above)) (omega (arith, above, below)) follows
          second space c.push.ensures.entries c.push.ensures.filled,
      c.push.ensures.same ∙ c.level.ensures.same ∙ c.loop-low.invariant.1,
    )

pub primary-push-requires : goal.primary-push-requires
primary-push-requires t c =
    let is_leaf : is_primary (code_at c.args.codes.codes.now c.args.codes.n.0 c.args.i.0) ≡ true =
    ap is_primary (sym c.code_at-o.ensures) ∙ sym c.if-is_primary.ensures in
    let inside = primary_inside (ended c.args.codes.codes.now c.args.codes.n.0) _ is_leaf in
    omega (arith, inside, c.requires.room, c.requires.few)

pub primary-returns-then-is_primary-clause-part : goal.primary-returns-then-is_primary-clause-part
primary-returns-then-is_primary-clause-part t c =
    let is_leaf : is_primary (code_at c.args.codes.codes.now c.args.codes.n.0 c.args.i.0) ≡ true =
    ap is_primary (sym c.code_at-o.ensures) ∙ sym c.if-is_primary.ensures in
    let codes = c.args.codes.codes.now in
    let fit = c.requires in
    let inside = primary_inside (ended codes c.args.codes.n.0) _ is_leaf in
    let order = c.args.order.now.entries.now in
    let filled = c.args.order.now.filled in
    let space : filled < length order = omega (arith, fit.long, inside, fit.room, fit.few) in
    let nothing = sym (append-nil (take filled order)) in
    record {
      entries = c.args.i.0 ∷ [];
      made = primary_leaf (ended codes _) _ is_leaf;
      held = put order (take filled order) [] filled _ c.push.ensures.entries c.push.ensures.filled space nothing;
      most = omega (arith, c.push.ensures.filled);
      long = put_long order filled _ c.push.ensures.entries fit.long;
    }

pub primary-returns-then-o-ne-OPEN-clause-part : goal.primary-returns-then-o-ne-OPEN-clause-part
primary-returns-then-o-ne-OPEN-clause-part t c =
    let code = c.code_at-o.ensures in
    let other = ap is_primary (sym code) ∙ sym c.if-is_primary.ensures in
    primary_none (ended c.args.codes.codes.now _) _ other (λ z. c.if-o-ne-OPEN.true (code ∙ z))

pub primary-returns-in_err-a-clause-part : goal.primary-returns-in_err-a-clause-part
primary-returns-in_err-a-clause-part t c =
    let is_open = sym c.code_at-o.ensures ∙ c.if-o-ne-OPEN.false in
    let failed = err_from_is_err_and c.from_residual.result c.from_residual.ensures.1 in
    rw (failed.1, failed.2) (parentheses_bad (ended c.args.codes.codes.now _) _ is_open _ c.in_err-a.ensures.part)

pub primary-returns-then-code_at-ne-CLOSE-clause-part : goal.primary-returns-then-code_at-ne-CLOSE-clause-part
primary-returns-then-code_at-ne-CLOSE-clause-part t c =
    let is_open = sym c.code_at-o.ensures ∙ c.if-o-ne-OPEN.false in
    let part = c.in_ok-a.ensures.part in
    parentheses_open (ended c.args.codes.codes.now _) _ is_open part.entries _ part.made
    (λ z. c.if-code_at-ne-CLOSE.true (c.code_at.ensures ∙ z))

pub primary-returns-clause-part : goal.primary-returns-clause-part
primary-returns-clause-part t c =
    let is_open = sym c.code_at-o.ensures ∙ c.if-o-ne-OPEN.false in
    let part = c.in_ok-a.ensures.part in
    let closed = sym c.code_at.ensures ∙ c.if-code_at-ne-CLOSE.false in
    record {
      entries = part.entries;
      made = parentheses_closed (ended c.args.codes.codes.now _) _ is_open part.entries _ part.made closed;
      held = part.held;
      most = omega (arith, part.most);
      long = part.long;
    }

pub unary-returns-in_err-next-clause-part : goal.unary-returns-in_err-next-clause-part
unary-returns-in_err-next-clause-part t c =
    let last = c.run_end-j.result.0 in
    let passes = c.run_end-j.ensures.run in
    let bad = unary_none (ended c.args.codes.codes.now _) last c.run_end-j.ensures.result_value _ c.in_err-next.ensures.part in
    let failed = err_from_is_err_and c.from_residual.result c.from_residual.ensures.1 in
    rw (failed.1, failed.2) (wrong c.args.codes.codes.now _ _ (last - c.args.i.0) _ last (omega (arith, passes.from)) passes.each bad)

pub unary-push_run-requires : goal.unary-push_run-requires
unary-push_run-requires t c =
    let fit = c.requires in
    let passes = c.run_end-j.ensures.run in
    let part = c.in_ok-next.ensures.part in (
      passes.from,
      omega (arith, passes.to, fit.few),
      omega (arith, part.most, fit.room, fit.few, passed part (omega arith), passes.from),
      part.long,
    )

pub unary-returns-clause-part : goal.unary-returns-clause-part
unary-returns-clause-part t c =
    let codes = c.args.codes.codes.now in
    let first = c.args.i.0 in
    let last = c.run_end-j.result.0 in
    let passes = c.run_end-j.ensures.run in
    let part = c.in_ok-next.ensures.part in
    let own = unary_none (ended codes _) last c.run_end-j.ensures.result_value _ part.made in
    let added = c.push_run.ensures.appended in
    record {
      entries = part.entries ++ back (last - first) first;
      made = applied codes _ part.entries _ (last - first) first last (omega (arith, passes.from)) passes.each own;
      held = both part (back (last - first) first) added.held;
      most = omega (arith, added.most, part.most, passes.from);
      long = added.long;
    }

pub whole-returns-in_err-c-clause-part : goal.whole-returns-in_err-c-clause-part
whole-returns-in_err-c-clause-part t c =
    let failed = err_from_is_err_and c.from_residual.result c.from_residual.ensures.1 in
    rw (failed.1, failed.2) (expression_bad (ended c.args.codes.codes.now _) _ _ c.in_err-c.ensures.part)

pub whole-returns-then-code_at-ne-QUESTION-clause-part : goal.whole-returns-then-code_at-ne-QUESTION-clause-part
whole-returns-then-code_at-ne-QUESTION-clause-part t c =
    let part = c.in_ok-c.ensures.part in
    record {
      entries = part.entries;
      made = choice_none (ended c.args.codes.codes.now _) _ part.entries _ part.made (λ z. c.if-code_at-ne-QUESTION.true (c.code_at.ensures ∙ z));
      held = part.held;
      most = part.most;
      long = part.long;
    }

pub whole-whole-requires : goal.whole-whole-requires
whole-whole-requires t c =
    let part = c.in_ok-c.ensures.part in
    let is_question = sym c.code_at.ensures ∙ c.if-code_at-ne-QUESTION.false in
    let inside = code_inside (ended c.args.codes.codes.now c.args.codes.n.0) _ QUESTION (omega arith) is_question in
    (omega (arith, c.decreases, passed part (omega arith), inside), onward part c.requires inside)

pub whole-returns-in_err-a-clause-part : goal.whole-returns-in_err-a-clause-part
whole-returns-in_err-a-clause-part t c =
    let part = c.in_ok-c.ensures.part in
    let is_question = sym c.code_at.ensures ∙ c.if-code_at-ne-QUESTION.false in
    let bad = c.in_err-a.ensures.part in
    let failed = err_from_is_err_and c.from_residual-in_err-a.result c.from_residual-in_err-a.ensures.1 in
    rw (failed.1, failed.2) (choice_bad_first (ended c.args.codes.codes.now _) _ part.entries _ part.made is_question _ bad)

pub whole-returns-then-code_at-ne-COLON-clause-part : goal.whole-returns-then-code_at-ne-COLON-clause-part
whole-returns-then-code_at-ne-COLON-clause-part t c =
    let part = c.in_ok-c.ensures.part in
    let is_question = sym c.code_at.ensures ∙ c.if-code_at-ne-QUESTION.false in
    let arm = c.in_ok-a.ensures.part in
    choice_no_colon (ended c.args.codes.codes.now _) _ part.entries _ part.made is_question arm.entries _ arm.made
    (λ z. c.if-code_at-ne-COLON.true (c.code_at-2.ensures ∙ z))

pub whole-whole-requires-2 : goal.whole-whole-requires-2
whole-whole-requires-2 t c =
    let part = c.in_ok-c.ensures.part in
    let arm = c.in_ok-a.ensures.part in
    let is_question = sym c.code_at.ensures ∙ c.if-code_at-ne-QUESTION.false in
    let is_colon = sym c.code_at-2.ensures ∙ c.if-code_at-ne-COLON.false in
    let inside = code_inside (ended c.args.codes.codes.now c.args.codes.n.0) _ QUESTION (omega arith) is_question in
    let within = code_inside (ended c.args.codes.codes.now c.args.codes.n.0) _ COLON (omega arith) is_colon in (
      omega (arith, c.decreases, passed part (omega arith), passed arm tt, within),
      onward arm (onward part c.requires inside) within,
    )

pub whole-returns-in_err-b-clause-part : goal.whole-returns-in_err-b-clause-part
whole-returns-in_err-b-clause-part t c =
    let part = c.in_ok-c.ensures.part in
    let arm = c.in_ok-a.ensures.part in
    let is_question = sym c.code_at.ensures ∙ c.if-code_at-ne-QUESTION.false in
    let is_colon = sym c.code_at-2.ensures ∙ c.if-code_at-ne-COLON.false in
    let bad = c.in_err-b.ensures.part in
    let failed = err_from_is_err_and c.from_residual-in_err-b.result c.from_residual-in_err-b.ensures.1 in
    rw (failed.1, failed.2) (choice_bad_second (ended c.args.codes.codes.now _) _ part.entries _ part.made is_question arm.entries _ arm.made is_colon _ bad)

pub whole-push-requires : goal.whole-push-requires
whole-push-requires t c =
    let fit = c.requires in
    let part = c.in_ok-c.ensures.part in
    let arm = c.in_ok-a.ensures.part in
    let other = c.in_ok-b.ensures.part in
    omega (arith, passed other tt, passed arm tt, passed part (omega arith), other.most, arm.most, part.most, fit.room, fit.few)

pub whole-push-requires-2 : goal.whole-push-requires-2
whole-push-requires-2 t c =
    let fit = c.requires in
    let part = c.in_ok-c.ensures.part in
    let arm = c.in_ok-a.ensures.part in
    let other = c.in_ok-b.ensures.part in
    let space : c.whole-2.new.order.filled + 1 < 200 =
    omega (arith, passed other tt, passed arm tt, passed part (omega arith), other.most, arm.most, part.most, fit.room, fit.few) in
    omega (arith, c.push.ensures.filled, space)

pub whole-returns-clause-part : goal.whole-returns-clause-part
whole-returns-clause-part t c =
    let codes = c.args.codes.codes.now in
    let fit = c.requires in
    let is_question = sym c.code_at.ensures ∙ c.if-code_at-ne-QUESTION.false in
    let is_colon = sym c.code_at-2.ensures ∙ c.if-code_at-ne-COLON.false in
    let part = c.in_ok-c.ensures.part in
    let arm = c.in_ok-a.ensures.part in
    let other = c.in_ok-b.ensures.part in
    let fits : c.whole-2.new.order.filled + 1 < 200 =
    omega (arith, passed other tt, passed arm tt, passed part (omega arith), other.most, arm.most, part.most, fit.room, fit.few) in
    let q = c.in_ok-c.c.0 in
    let entry = c.push.ensures in
    let filler = c.push-2.ensures in
    let order = c.push.new.self.entries.now in
    let filled = c.push.new.self.filled in
    let before = take c.args.order.now.filled c.args.order.now.entries.now in
    let after_condition = take c.level.new.order.filled c.level.new.order.entries.now in
    let after_first = take c.whole.new.order.filled c.whole.new.order.entries.now in
    let long = put_long c.whole-2.new.order.entries.now c.whole-2.new.order.filled q entry.entries other.long in
    let held = extra other q (omega (arith, fits)) entry.entries entry.filled in
    let space : filled < length order = omega (arith, entry.filled, long, fits) in
    let full = put order after_first (other.entries ++ (q ∷ [])) filled FILLER filler.entries filler.filled space held in
    record {
      entries = part.entries ++ (arm.entries ++ (other.entries ++ (q ∷ FILLER ∷ [])));
      made = choice_made (ended codes _) _ part.entries q part.made is_question arm.entries _ arm.made is_colon _ _ other.made;
      held = chosen before after_condition after_first part.entries arm.entries other.entries q part.held arm.held full;
      most = omega (arith, entry.filled, filler.filled, other.most, arm.most, part.most);
      long = put_long order filled FILLER filler.entries long;
    }
