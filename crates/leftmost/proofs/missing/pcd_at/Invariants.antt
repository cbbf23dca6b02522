-- The first PCD that is missing is the first from token i on.
use Rattle.std.proofs.Common.{◌-◌, ◌≡◌}
use Rattle.value.specs.Lent.{memory_of}
use Rattle.expression.specs.Lent.{token_of}
use Rattle.leftmost.specs.Tokens.{tokens_from}
use Rattle.leftmost.specs.Leftmost.{pcd_at}
use Rattle.leftmost.proofs.missing.pcd_at.Given as goal

abbrev pub invariant-loop-i : goal.invariant-loop-i
invariant-loop-i l =
    let m = memory_of l.m in
    let tok = token_of l.tokens in
    let n = l.tokens.count.0 in
    pcd_at m (tokens_from tok 0 n) ≡ pcd_at m (tokens_from tok l.i (n - l.i))
