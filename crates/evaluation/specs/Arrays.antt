-- The answer to the tokens in the scanner's arrays. Contracts between layers cite this; no promise does.
use Rattle.std.specs.Prelude.{ℕ, ◌≡◌, List, ltb, Option, Some, None, Result, Ok, Err}
use Rattle.units.specs.Refusals.{refusal_at}
use Rattle.units.specs.declared.Offset.{Offset}
use Rattle.units.specs.declared.Reason.{Reason}
use Rattle.units.specs.declared.Refusal.{Refusal}
use Rattle.units.specs.declared.Dialect.{Dialect}
use Rattle.text.specs.Bytes.{pick}
use Rattle.token.specs.Tokens.{Token}
use Rattle.grammar.specs.Parse.{parse}
use Rattle.value.specs.Places.{Memory}
use Rattle.expression.specs.Meaning.{code_of, meaning}
use Rattle.leftmost.specs.Tokens.{tokens_from}
use Rattle.leftmost.specs.Leftmost.{bar_at, pcd_at}
use Rattle.evaluation.specs.Evaluation.{Evaluation, answer_tokens}

-- the answer to n tokens of an expression that ends at this byte
abbrev pub of_arrays : Memory → (tok : ℕ → Token) → (n end : ℕ) → Dialect → Evaluation
of_arrays m tok n end δ =
    let ts : List Token = tokens_from tok 0 n in
    answer_tokens (λ i. pick (ltb i n) (tok i).start end) (bar_at ts δ) (pcd_at m ts) (parse code_of (meaning m) tok n)

-- the refusal for a reason at a place, if there is one
abbrev pub Checks : Option Offset → Reason → Result Unit Refusal → Type 0
Checks None k r = r ≡ Ok tt
Checks (Some o) k r = r ≡ Err (refusal_at k o.0)
