-- Lists of tokens that derive nothing, and the first token after which no continuation derives. A token is its code.
use Rattle.std.specs.Prelude.{ℕ, ◌≡◌, refl, List, [], ◌∷◌, map, length, get_or}
use Rattle.codes.specs.Codes.{NUMBER, OPEN, CLOSE, QUESTION, COLON, NOT, PLUS, MINUS, TIMES, OR}
use Rattle.codes.specs.Levels.{is_unary, level_of}
use Rattle.grammar.specs.Grammar.{Tree, expression, Derives, is_primary}
use Rattle.grammar.specs.Parse.{END, run, Outcome, refused, parse}
use Rattle.grammar.specs.Decides.{trees}
use Rattle.beginnings.specs.Beginnings.{FirstBad}

-- the tokens, and the number of the bad one
pub record Example : Type 0 where
  pub tokens : List ℕ
  pub bad : ℕ

abbrev wrong : List ℕ → ℕ → Example
wrong cs e = record { tokens = cs; bad = e }

-- each after its expression in a comment
abbrev pub examples : List Example
examples =
    -- the empty list
    wrong [] 0
    -- 1 +
    ∷ wrong (NUMBER ∷ PLUS ∷ []) 2
    -- (1
    ∷ wrong (OPEN ∷ NUMBER ∷ []) 2
    -- 1 ? 2
    ∷ wrong (NUMBER ∷ QUESTION ∷ NUMBER ∷ []) 3
    -- - NOT +
    ∷ wrong (MINUS ∷ NOT ∷ PLUS ∷ []) 3
    -- 1 ? 2 : 3 OR
    ∷ wrong (NUMBER ∷ QUESTION ∷ NUMBER ∷ COLON ∷ NUMBER ∷ OR ∷ []) 6
    -- 1 ? 2 ? 3 : 4
    ∷ wrong (NUMBER ∷ QUESTION ∷ NUMBER ∷ QUESTION ∷ NUMBER ∷ COLON ∷ NUMBER ∷ []) 7
    -- )
    ∷ wrong (CLOSE ∷ []) 0
    -- * 1
    ∷ wrong (TIMES ∷ NUMBER ∷ []) 0
    -- ? 1 : 2
    ∷ wrong (QUESTION ∷ NUMBER ∷ COLON ∷ NUMBER ∷ []) 0
    -- ( )
    ∷ wrong (OPEN ∷ CLOSE ∷ []) 1
    -- 1 2
    ∷ wrong (NUMBER ∷ NUMBER ∷ []) 1
    -- 1 ) + 2
    ∷ wrong (NUMBER ∷ CLOSE ∷ PLUS ∷ NUMBER ∷ []) 1
    -- 1 ( 2 )
    ∷ wrong (NUMBER ∷ OPEN ∷ NUMBER ∷ CLOSE ∷ []) 1
    -- 1 NOT 2
    ∷ wrong (NUMBER ∷ NOT ∷ NUMBER ∷ []) 1
    -- 1 : 2
    ∷ wrong (NUMBER ∷ COLON ∷ NUMBER ∷ []) 1
    -- 1 + * 2
    ∷ wrong (NUMBER ∷ PLUS ∷ TIMES ∷ NUMBER ∷ []) 2
    -- - NOT )
    ∷ wrong (MINUS ∷ NOT ∷ CLOSE ∷ []) 2
    -- 1 ? 2 )
    ∷ wrong (NUMBER ∷ QUESTION ∷ NUMBER ∷ CLOSE ∷ []) 3
    -- ( 1 + 2 3 )
    ∷ wrong (OPEN ∷ NUMBER ∷ PLUS ∷ NUMBER ∷ NUMBER ∷ CLOSE ∷ []) 4
    -- ( ( 1 ) : 2
    ∷ wrong (OPEN ∷ OPEN ∷ NUMBER ∷ CLOSE ∷ COLON ∷ NUMBER ∷ []) 4
    -- ( 1 ? 2 ) : 3
    ∷ wrong (OPEN ∷ NUMBER ∷ QUESTION ∷ NUMBER ∷ CLOSE ∷ COLON ∷ NUMBER ∷ []) 4
    -- 1 ? 2 : 3 : 4
    ∷ wrong (NUMBER ∷ QUESTION ∷ NUMBER ∷ COLON ∷ NUMBER ∷ COLON ∷ NUMBER ∷ []) 5
    ∷ []

-- the outcome of the parser on a list of codes
abbrev pub outcome : List ℕ → Outcome (Tree ℕ)
outcome cs = parse (λ c. c) trees (λ i. get_or cs i END) (length cs)

-- the parser refuses every example at that token
pub examples_hold : map (λ x. outcome x.tokens) examples ≡ map (λ x. refused x.bad) examples
unfolding is_primary is_unary level_of run parse
examples_hold = refl

-- The same without the parser: the tokens derive no tree, and the token is the first bad one. proofs/Examples.antt proves it of every example.
abbrev pub Located : List ℕ → ℕ → Type 0
Located cs e = ((t : Tree ℕ) → Derives (λ c. c) expression cs t → ⊥) × FirstBad (λ c. c) cs e

-- the same of every example in a list
abbrev pub AllLocated : List Example → Type 0
AllLocated [] = Unit
AllLocated (x ∷ xs) = Located x.tokens x.bad × AllLocated xs
