-- The token at the front is that of the definition, and is within the expression.
use Prim.Native.Nat.{suc}
use Rattle.std.specs.Prelude.{Ok}
use Rattle.std.proofs.Common.{◌≡◌, ◌+◌, ◌-◌, ◌≤◌, length, drop, length-drop, arith}
use Rattle.std.proofs.lemmas.Result.{err_from_is_err_and}
use Rattle.lexeme.proofs.Within.{Within, lexeme_in}
use Rattle.token.proofs.Reading.{front_lexeme, at_full, at_wrong, at_found}
use Rattle.token.proofs.scan.token_at.Goals as goal

pub returns-then-read-ge-MAX_TOKENS : goal.returns-then-read-ge-MAX_TOKENS
returns-then-read-ge-MAX_TOKENS c =
    let p = c.requires in
    let z : 200 - c.args.read.0 ≡ 0 = omega arith in
    rw z (at_full c.args.expr.now c.args.at.0 c.args.after c.args.dialect p.0 c.args.class p.1 p.2)

pub returns-in_err-found : goal.returns-in_err-found
returns-in_err-found c =
    let e = c.args.expr.now in
    let at = c.args.at.0 in
    let n = c.args.read.0 in
    let after = c.args.after in
    let δ = c.args.dialect in
    let k = c.args.class in
    let p = c.requires in
    let failed = err_from_is_err_and c.from_residual.result c.from_residual.ensures.1 in
    let x = front_lexeme e at after δ k _ p.0 p.1 c.in_err-found.ensures in
    let r : 200 - n ≡ suc (200 - (n + 1)) = omega arith in
    rw (failed.1, failed.2) (rw r (at_wrong e at after δ p.0 k p.1 p.2 (200 - (n + 1)) _ x))

pub returns : goal.returns
returns c =
    let e = c.args.expr.now in
    let at = c.args.at.0 in
    let n = c.args.read.0 in
    let after = c.args.after in
    let δ = c.args.dialect in
    let k = c.args.class in
    let p = c.requires in
    let x = front_lexeme e at after δ k _ p.0 p.1 c.in_ok-found.ensures in
    let r : 200 - n ≡ suc (200 - (n + 1)) = omega arith in
    let w : Within (drop at e) (Ok c.in_ok-found.field-0) = rw x at (lexeme_in after (drop at e) δ) in
    let ends : at + c.in_ok-found.field-0.len ≤ length e = omega (arith, p.0, w.1, length-drop at e) in
    record { goes = rw r (at_found e at after δ p.0 k p.1 p.2 (200 - (n + 1)) _ x w.0 ends); room = omega arith; onward = w.0; ends = ends }
