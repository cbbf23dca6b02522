-- The string of an answer, if it is one of the table, is within one record. Assumes nothing.
use Prim.Native.Nat.{ℕ}
use mathlib.Core.Path.{◌≡◌, sym, subst}
use Rattle.units.specs.declared.Dialect.{Dialect}
use Rattle.token.specs.Tokens.{Token}
use Rattle.grammar.specs.Grammar.{Tree, Leaf, Unary, Binary, Choice}
use Rattle.grammar.specs.Fold.{fold}
use Rattle.value.specs.Places.{Memory}
use Rattle.value.specs.Values.{Value}
use Rattle.value.specs.Denote.{InOneRecord}
use Rattle.value.proofs.OneRecord.{primary_recorded, unary_recorded, binary_recorded, choice_recorded}
use Rattle.expression.specs.Meaning.{meaning}
use Rattle.evaluation.specs.Evaluation.{value, evaluation_in}
use Rattle.evaluation.proofs.FromTree.{from_tree}

tree_recorded : (m : Memory) (s : Tree Token) → InOneRecord (fold (meaning m) s).value
unfolding fold
tree_recorded m (Leaf k) = primary_recorded m k
tree_recorded m (Unary o a) = unary_recorded o.code o.start (fold (meaning m) a).value
tree_recorded m (Binary o a b) = binary_recorded o.code o.start (fold (meaning m) a).value (fold (meaning m) b).value
tree_recorded m (Choice q c a b) =
    choice_recorded q.start (fold (meaning m) c).value (fold (meaning m) a).value (fold (meaning m) b).value (tree_recorded m a) (tree_recorded m b)

pub answer_recorded : (m : Memory) (δ : Dialect) (v : Value) (n : ℕ) → evaluation_in m δ ≡ value v n → InOneRecord v
answer_recorded m δ v n e =
    let tree = from_tree m δ v n e in
    subst InOneRecord (sym tree.2.value) (tree_recorded m tree.0)
