-- Where tokens that derive nothing go wrong (document 02, order 3, refusal 7): at the first token after which no continuation derives. This
-- is defined on derivations alone. proofs/FirstBad.antt proves that a list has one such token at most, and that the parser refuses a list there.
use Rattle.std.specs.Prelude.{ℕ, ◌+◌, ◌≤◌, ◌<◌, ◌≡◌, List, ◌++◌, length, take}
use Rattle.grammar.specs.Grammar.{Tree, expression, Derives}

module _ {K : Type 0} (code : K → ℕ) where
  -- A list is a good beginning if it derives with some continuation after it. A continuation is any list of tokens, of any length and depth.
  abbrev pub Begins : List K → Type 0
  Begins w = (v : List K) × (t : Tree K) × Derives code expression (w ++ v) t

  -- The first token of a list after which no continuation derives is the one with the number e, from 0: the beginnings that end before it
  -- are good, and the one that ends with it is not. If the whole list is a good beginning, e is its length.
  pub record FirstBad (ts : List K) (e : ℕ) : Type 0 where
    pub within : e ≤ length ts
    pub good : (i : ℕ) → i ≤ e → Begins (take i ts)
    pub wrong : e < length ts → Begins (take (e + 1) ts) → ⊥

  -- There is a token with every code. Without a token for `)`, say, `( 1` could not be continued.
  pub record Supply : Type 0 where
    pub token : ℕ → K
    pub coded : (c : ℕ) → code (token c) ≡ c
