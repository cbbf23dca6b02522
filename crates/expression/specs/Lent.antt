-- What the code lends to the evaluation of an expression. Contracts between layers cite this; no promise about an expression does.
use Rattle.std.specs.Prelude.{ℕ}
use Rattle.token.specs.Tokens.{Token}
use Rattle.value.specs.declared.Memory.{Memory as LentMemory}
use Rattle.expression.specs.Parsing.{token_at}
use Rattle.expression.specs.Postfix.{Input}
use Rattle.expression.specs.declared.arrays.Tokens.{Tokens}

-- token i of the arrays; past the tokens one that nothing derives
abbrev pub token_of : Tokens → ℕ → Token
token_of t i = token_at t.codes.now t.starts.now t.lens.now t.values.now t.count.0 i

abbrev pub input_of : LentMemory → Tokens → Input
input_of m t =
    record {
      expr = m.expr.now;
      own = m.settings.own.now;
      table = m.settings.table.now;
      codes = t.codes.now;
      starts = t.starts.now;
      lens = t.lens.now;
      values = t.values.now;
      n = t.count.0;
    }
