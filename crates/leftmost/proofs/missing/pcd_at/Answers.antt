-- A token is the first PCD that is missing, or the PCDs after it decide.
use mathlib.Core.Path.{sym, ap, ◌∙◌}
use Rattle.std.proofs.Common.{◌≡◌, true, false}
use Rattle.token.specs.Tokens.{Token}
use Rattle.value.specs.Lent.{memory_of}
use Rattle.value.specs.Values.{is_missing_pcd}
use Rattle.expression.specs.Lent.{token_of}
use Rattle.leftmost.proofs.MissingFrom.{here, on, over}
use Rattle.leftmost.proofs.missing.pcd_at.Goals as goal

pub returns-then-is_missing_pcd : goal.returns-then-is_missing_pcd
returns-then-is_missing_pcd c =
    let m = memory_of c.args.m in
    let tok = token_of c.args.tokens in
    let lacking : is_missing_pcd m (tok c.loop-i.i) ≡ true = cc in
    let place = c.place.ensures.result_value ∙ ap (λ (t : Token). t.start) c.at.ensures in
    rw place (sym (c.loop-i.invariant ∙ here m tok c.args.tokens.count.0 c.loop-i.i c.loop-i-test.true lacking))

pub loop-i-preserved : goal.loop-i-preserved
loop-i-preserved c =
    let m = memory_of c.args.m in
    let tok = token_of c.args.tokens in
    let present : is_missing_pcd m (tok c.loop-i.i) ≡ false = cc in
    c.loop-i.invariant ∙ on m tok c.args.tokens.count.0 c.loop-i.i c.loop-i-test.true present

pub returns : goal.returns
returns c = sym (c.loop-i.invariant ∙ over (memory_of c.args.m) (token_of c.args.tokens) c.args.tokens.count.0 c.loop-i.i c.loop-i-test.false)
