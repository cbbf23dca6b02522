-- Nodes of a tree, and lists of them that pass a test.
use Rattle.std.specs.Prelude.{Bool, false, ◌||◌, List, [], ◌∷◌, ◌++◌}
use Rattle.text.specs.Bytes.{pick}
use Rattle.grammar.specs.Grammar.{Tree, Leaf, Unary, Binary, Choice}

-- the token of a tree's root: of an operator node its operator, of a choice the `?`
abbrev pub root : {K : Type 0} → Tree K → K
root (Leaf k) = k
root (Unary o a) = o
root (Binary o l r) = o
root (Choice q c a b) = q

-- some node of a list passes a test
abbrev pub some : {K : Type 0} → (Tree K → Bool) → List (Tree K) → Bool
some p [] = false
some p (n ∷ ns) = p n || some p ns

-- the nodes of a list that pass a test, in the order of the list
unfoldable pub passing : {K : Type 0} → (Tree K → Bool) → List (Tree K) → List (Tree K)
passing p [] = []
passing p (n ∷ ns) = pick (p n) (n ∷ []) [] ++ passing p ns
