-- The first bar outside parentheses is the first from token i on, with the current number of open parentheses.
use Rattle.std.proofs.Common.{◌-◌, ◌≡◌, ◌≤◌}
use Rattle.token.specs.Tokens.{first_place}
use Rattle.grammar.specs.Bars.{bars_outside}
use Rattle.expression.specs.Meaning.{code_of}
use Rattle.expression.specs.Lent.{token_of}
use Rattle.leftmost.specs.Tokens.{tokens_from}
use Rattle.leftmost.proofs.bars.first_outside.Given as goal

abbrev pub invariant-loop-i : goal.invariant-loop-i
invariant-loop-i l =
    let tok = token_of l.tokens in
    let n = l.tokens.count.0 in
    record {
      few : l.depth ≤ l.i;
      same : first_place (bars_outside code_of 0 (tokens_from tok 0 n)) ≡ first_place (bars_outside code_of l.depth (tokens_from tok l.i (n - l.i)));
    }
