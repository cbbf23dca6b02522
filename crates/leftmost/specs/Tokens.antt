-- The tokens of the scanner's arrays as a list. Contracts between layers cite this; no promise does.
use Rattle.std.specs.Prelude.{ℕ, zero, suc, ◌+◌, List, [], ◌∷◌}
use Rattle.token.specs.Tokens.{Token}

-- the tokens from token i on, n of them
unfoldable pub tokens_from : (ℕ → Token) → (i n : ℕ) → List Token
tokens_from tok i zero = []
tokens_from tok i (suc n) = tok i ∷ tokens_from tok (i + 1) n
