-- Faults of evaluation (document 02, order 3, refusals 11 and 12): the operators that meet a fault, in the order of evaluation. `alg` computes
-- the attributes of a tree from those of its operands; `skips` tells whether a binary operator with this left operand skips its right one,
-- `takes_first` whether a choice with this test takes its first arm, and `fails` whether attributes are a refusal.
use Rattle.std.specs.Prelude.{Bool, not, ◌&&◌, List, [], ◌∷◌, ◌++◌}
use Rattle.text.specs.Bytes.{pick}
use Rattle.grammar.specs.Grammar.{Tree, Leaf, Unary, Binary, Choice}
use Rattle.grammar.specs.Fold.{Algebra, fold}
use Rattle.blame.specs.Nodes.{some, passing}

module _ {K A : Type 0} (alg : Algebra K A) (skips : K → A → Bool) (takes_first : A → Bool) where
  -- the operands of a node that are evaluated, in this order: not a skipped right operand, and of a choice the test and the chosen arm only
  abbrev pub evaluated : Tree K → List (Tree K)
  evaluated (Leaf k) = []
  evaluated (Unary o a) = a ∷ []
  evaluated (Binary o l r) = l ∷ pick (skips o (fold alg l)) [] (r ∷ [])
  evaluated (Choice q c a b) = c ∷ pick (takes_first (fold alg c)) a b ∷ []

  -- The operator nodes of a tree that are evaluated, in the order of evaluation: those of the evaluated operands, then the node itself.
  -- Evaluation stops at the first that fails, so those after it do not matter.
  unfoldable pub applied : Tree K → List (Tree K)
  applied (Leaf k) = []
  applied (Unary o a) = applied a ++ Unary o a ∷ []
  applied (Binary o l r) = applied l ++ pick (skips o (fold alg l)) [] (applied r) ++ Binary o l r ∷ []
  applied (Choice q c a b) = applied c ++ pick (takes_first (fold alg c)) (applied a) (applied b) ++ Choice q c a b ∷ []

  module _ (fails : A → Bool) where
    -- a node fails
    abbrev pub is_failed : Tree K → Bool
    is_failed n = fails (fold alg n)

    -- it fails, and none of its evaluated operands does
    abbrev pub meets_fault : Tree K → Bool
    meets_fault n = is_failed n && not (some is_failed (evaluated n))

    -- the operator nodes that meet a fault, in the order of evaluation
    abbrev pub faulty_nodes : Tree K → List (Tree K)
    faulty_nodes t = passing meets_fault (applied t)
