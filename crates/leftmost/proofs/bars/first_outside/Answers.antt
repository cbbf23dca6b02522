-- A token is the first bar outside parentheses, or the bars after it decide.
use mathlib.Core.Path.{sym, ap, ◌∙◌}
use Rattle.std.proofs.Common.{get_or, arith}
use borrow.Author.Tests.{lt-ltb}
use Rattle.token.specs.Tokens.{Token}
use Rattle.expression.specs.Lent.{token_of}
use Rattle.leftmost.proofs.Outside.{here, on, over, deeper_most}
use Rattle.leftmost.proofs.bars.first_outside.Goals as goal

pub returns-then-is_outside : goal.returns-then-is_outside
returns-then-is_outside c =
    let tok = token_of c.args.tokens in
    let inside = lt-ltb _ _ c.loop-i-test.true in
    let bar = sym c.is_outside.ensures ∙ c.if-is_outside.true in
    let found = here tok c.args.tokens.count.0 c.loop-i.i c.loop-i.depth c.loop-i-test.true (rw inside bar) in
    let place = c.place.ensures.result_value ∙ ap (λ (t : Token). t.start) c.at.ensures in
    rw place (sym (c.loop-i.invariant.same ∙ found))

pub loop-i-preserved : goal.loop-i-preserved
loop-i-preserved c =
    let tok = token_of c.args.tokens in
    let inside = lt-ltb _ _ c.loop-i-test.true in
    let other = sym c.is_outside.ensures ∙ c.if-is_outside.false in
    let turn = on tok c.args.tokens.count.0 c.loop-i.i c.loop-i.depth c.loop-i-test.true (rw inside other) in
    record {
      few = omega (arith, c.deeper-depth.ensures, deeper_most c.loop-i.depth (get_or c.args.tokens.codes.now c.loop-i.i 0));
      same = c.loop-i.invariant.same ∙ turn ∙ rw (inside, c.deeper-depth.ensures);
    }

pub returns : goal.returns
returns c = sym (c.loop-i.invariant.same ∙ over (token_of c.args.tokens) c.args.tokens.count.0 c.loop-i.i c.loop-i.depth c.loop-i-test.false)
