-- Wrong kinds (document 02, order 3, refusal 10): the operators to blame are those that are wrong while none of their operands is, in the
-- order of the tokens. `alg` computes the attributes of a tree from those of its operands, and `wrong` tells whether attributes are wrong.
use Rattle.std.specs.Prelude.{Bool, not, ◌&&◌, List, [], ◌∷◌, ◌++◌, map}
use Rattle.grammar.specs.Grammar.{Tree, Leaf, Unary, Binary, Choice}
use Rattle.grammar.specs.Fold.{Algebra, fold}
use Rattle.blame.specs.Nodes.{root, some, passing}

-- the operands of a node
abbrev pub operands : {K : Type 0} → Tree K → List (Tree K)
operands (Leaf k) = []
operands (Unary o a) = a ∷ []
operands (Binary o l r) = l ∷ r ∷ []
operands (Choice q c a b) = c ∷ a ∷ b ∷ []

-- the operator nodes of a tree, in the order of their tokens: a unary operator comes before its operand, a binary one between its operands,
-- and a `?` after its test
unfoldable pub operators : {K : Type 0} → Tree K → List (Tree K)
operators (Leaf k) = []
operators (Unary o a) = Unary o a ∷ operators a
operators (Binary o l r) = operators l ++ Binary o l r ∷ operators r
operators (Choice q c a b) = operators c ++ Choice q c a b ∷ operators a ++ operators b

module _ {K A : Type 0} (alg : Algebra K A) (wrong : A → Bool) where
  -- a node is wrong
  abbrev pub is_wrong : Tree K → Bool
  is_wrong n = wrong (fold alg n)

  -- it is wrong, and none of its operands is
  abbrev pub is_blamed : Tree K → Bool
  is_blamed n = is_wrong n && not (some is_wrong (operands n))

  -- the tokens of the operators to blame, in the order of the tokens
  abbrev pub to_blame : Tree K → List K
  to_blame t = map root (passing is_blamed (operators t))
