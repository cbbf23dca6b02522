-- The expression that the tokens in the scanner's arrays derive. Contracts between layers cite this; no promise about an expression does.
use Rattle.std.specs.Prelude.{ℕ, ◌≤◌, List, length, get_or, ltb, Result as Returned, Ok, Err}
use Rattle.units.specs.declared.TokenNumber.{TokenNumber}
use Rattle.text.specs.Bytes.{pick}
use Rattle.token.specs.Tokens.{Token}
use Rattle.grammar.specs.Grammar.{expression}
use Rattle.grammar.specs.Parse.{Result, bad, got, find, Yields}
use Rattle.syntax.specs.Order.{code_at}
use Rattle.value.specs.Places.{Memory}
use Rattle.value.specs.Attributes.{Attributes}
use Rattle.value.specs.Denote.{denote_attributes}
use Rattle.value.specs.declared.Attributes.{Attributes as CodedAttributes}
use Rattle.expression.specs.Meaning.{code_of, meaning}

-- an entry of token i, of n tokens; 0 past them
abbrev pub entry_at : List ℕ → ℕ → ℕ → ℕ
entry_at xs n i = pick (ltb i n) (get_or xs i 0) 0

-- token i in the four arrays; past the n tokens one that nothing derives
abbrev pub token_at : (cs ss ls vs : List ℕ) → ℕ → ℕ → Token
token_at cs ss ls vs n i = record { code = code_at cs n i; start = entry_at ss n i; len = entry_at ls n i; value = entry_at vs n i }

abbrev pub found : Memory → Returned (CodedAttributes × TokenNumber) TokenNumber → Result Attributes
found m (Err i) = bad i.0
found m (Ok p) = got (denote_attributes m p.0) p.1.0

-- the answer is what the grammar's parser finds from the first token on
abbrev pub Parses : (m : Memory) (cs ss ls vs : List ℕ) (n : ℕ) → Returned (CodedAttributes × TokenNumber) TokenNumber → Type 0
Parses m cs ss ls vs n r = Yields code_of (meaning m) (token_at cs ss ls vs n) n (find expression 0) (found m r)

-- the arrays have n tokens, at most 200
pub record Holding (cs ss ls vs : List ℕ) (n : ℕ) : Type 0 where
  pub few : n ≤ 200
  pub codes : n ≤ length cs
  pub starts : n ≤ length ss
  pub lens : n ≤ length ls
  pub values : n ≤ length vs
