-- The arrays have room for as many tokens as an expression can have, and three numbers fill the first.
use Rattle.std.proofs.Common.{arith, ◌∷◌, []}
use Rattle.token.proofs.Reading.{most_tokens}
use Rattle.marshal.proofs.Shown.{stored_all}
use Rattle.marshal.proofs.tokens.list.Goals as goal

pub tokens-scan-requires : goal.tokens-scan-requires
tokens-scan-requires c =
    let most = most_tokens c.args.expr.now c.dialect_of-rules.result in
    record { codes_hold = omega (arith, most); starts_hold = omega (arith, most); lens_hold = omega (arith, most); values_hold = omega (arith, most) }

pub returns : goal.returns
returns c =
    let read = c.tokens-scan.ensures in
    let shown = c.from.result ∷ c.tokens-scan.result.tokens.0 ∷ c.offset_of-offset.result ∷ [] in
    let filled = stored_all shown c.args.out.now (omega arith) in
    rw (← c.dialect_of-rules.ensures) (record {
      head = cc (filled, c.from.ensures, c.number_of-number.ensures, c.offset_of-offset.ensures, read.count, read.ending);
      tokens = read.tokens;
    })
