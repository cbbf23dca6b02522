-- Where the parentheses are too deep (document 02, order 3, refusal 6), by a plain count.
use Rattle.std.specs.Prelude.{ℕ, suc, ◌+◌, ◌≤◌, ◌<◌, ◌≡◌, List, [], ◌∷◌, map, length, get_or, take, eqb}
use Rattle.text.specs.Bytes.{pick}
use Rattle.codes.specs.Codes.{OPEN, CLOSE}
use Rattle.token.specs.Tokens.{Token}

-- how many of the tokens have this code
unfoldable pub count : (code : ℕ) → List Token → ℕ
count c [] = 0
count c (t ∷ ts) = pick (eqb t.code c) 1 0 + count c ts

-- the opening parentheses among the tokens outnumber the closing ones by more than 16
abbrev pub Over : List Token → Type 0
Over ts = 16 + count CLOSE ts < count OPEN ts

-- the token that starts at byte o is the first with which the tokens are over 16; `index` of them come before it
pub record FirstOver (ts : List Token) (o : ℕ) : Type 0 where
  pub index : ℕ
  pub inside : index < length ts
  pub place : o ≡ get_or (map (λ t. t.start) ts) index 0
  pub over : Over (take (suc index) ts)
  pub not_before : (j : ℕ) → j ≤ index → Over (take j ts) → ⊥
