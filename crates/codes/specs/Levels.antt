-- The levels of operators (document 01, "Precedence"), by the codes of their tokens.
use Rattle.std.specs.Prelude.{ℕ, Bool, ◌&&◌, List, [], ◌∷◌, map, eqb, ltb}
use Rattle.text.specs.Bytes.{pick, among}
use Rattle.codes.specs.Spellings.{Spelling, spellings, those}

-- level 1: the unary operators, which precede their operand
abbrev pub unaries : List ℕ
unaries = map (λ x. x.code) (those (λ x. eqb x.level 1) spellings)

unfoldable pub is_unary : ℕ → Bool
is_unary c = among unaries c

-- level 6: the equality operators
abbrev pub equalities : List ℕ
equalities = map (λ x. x.code) (those (λ x. eqb x.level 6) spellings)

unfoldable pub is_equality : ℕ → Bool
is_equality c = among equalities c

-- the level of the first spelling of a list with this code; 99 if there is none
abbrev pub level_among : List Spelling → ℕ → ℕ
level_among [] c = 99
level_among (x ∷ xs) c = pick (eqb c x.code) x.level (level_among xs c)

-- levels 2 to 12: the binary operators, the tightest first; 99 for any other token
unfoldable pub level_of : ℕ → ℕ
level_of c = level_among (those (λ x. ltb 1 x.level && ltb x.level 13) spellings) c
