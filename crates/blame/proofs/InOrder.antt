-- The operators to blame are among the tokens of a derivation, in the same order: the operator nodes of a tree are listed in the order of
-- their tokens, by induction on the derivation.
use Prim.Native.Nat.{ℕ}
use mathlib.Core.Path.{refl}
use mathlib.Core.Bool.{Bool}
use mathlib.Core.List.{List, [], ◌∷◌, map, map-append, append-nil}
use mathlib.Core.List.Sublistᴰ
use mathlib.Core.List.{Sublistᴰ}
use Rattle.grammar.specs.Grammar.{Tree, Nonterminal, Derives, leaf, parentheses, unary, binary, looser, choice, plain}
use Rattle.grammar.specs.Fold.{Algebra}
use Rattle.blame.specs.Nodes.{root}
use Rattle.blame.specs.Blame.{operators, is_blamed}
use Rattle.blame.proofs.Carried.{InOrder}
use Rattle.blame.proofs.Passing.{tokens_among}

module _ {K : Type 0} {code : K → ℕ} where
  operators_in_order : {x : Nonterminal} {w : List K} {t : Tree K} → Derives code x w t → Sublistᴰ (map root (operators t)) w
  unfolding operators
  operators_in_order (leaf {a} h) = Sublistᴰ.nil-sublist (a ∷ [])
  operators_in_order (parentheses {c} x d y) =
      Sublistᴰ.cons (rw append-nil at (Sublistᴰ.append (operators_in_order d) (Sublistᴰ.nil-sublist (c ∷ []))))
  operators_in_order (unary h d) = Sublistᴰ.cons-cons refl (operators_in_order d)
  operators_in_order (binary p b d h f) =
      rw (map-append root) (Sublistᴰ.append (operators_in_order d) (Sublistᴰ.cons-cons refl (operators_in_order f)))
  operators_in_order (looser b d) = operators_in_order d
  operators_in_order (choice {s} x y d f g) =
      rw (map-append root, map-append root)
      (Sublistᴰ.append (Sublistᴰ.append (operators_in_order d) (Sublistᴰ.cons-cons refl (operators_in_order f))) (Sublistᴰ.cons {a = s} (operators_in_order g)))
  operators_in_order (plain d) = operators_in_order d

pub in_order : {K A : Type 0} (code : K → ℕ) (alg : Algebra K A) (wrong : A → Bool) → InOrder code alg wrong
in_order code alg wrong x w t d = Sublistᴰ.trans (tokens_among (is_blamed alg wrong) (operators t)) (operators_in_order d)
