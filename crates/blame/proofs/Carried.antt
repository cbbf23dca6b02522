-- Attributes may carry the place of the token that a tree is refused for, and with it what the tree is refused with. If each form hands these on
-- as stated here, they are those of the first operator to blame, or of the first that meets a fault. `at` is the place of a token.
use Prim.Native.Nat.{ℕ}
use mathlib.Core.Path.{◌≡◌}
use mathlib.Core.Bool.{Bool, true, false}
use mathlib.Core.List.{List, [], ◌∷◌, Sublistᴰ}
use Rattle.grammar.specs.Grammar.{Tree, Leaf, Unary, Binary, Choice, Nonterminal, Derives}
use Rattle.grammar.specs.Fold.{Algebra, fold}
use Rattle.blame.specs.Nodes.{root}
use Rattle.blame.specs.Blame.{to_blame}
use Rattle.blame.specs.Applied.{faulty_nodes}

-- where the test holds there are such tokens, and the place is that of the first; else there are none
pub record Leads {K : Type 0} (at : K → ℕ) (test : Bool) (tokens : List K) (place : ℕ) : Type 0 where
  pub first : test ≡ true → (k : K) × (ks : List K) × (tokens ≡ k ∷ ks) × (place ≡ at k)
  pub none : test ≡ false → tokens ≡ []

-- `place` reads the place from attributes
module _ {K A : Type 0} (alg : Algebra K A) (wrong : A → Bool) (place : A → ℕ) (at : K → ℕ) where
  -- wrong, with the place of a wrong operand
  abbrev pub Inherits : (operand made : A) → Type 0
  Inherits a m = (wrong m ≡ true) × (place m ≡ place a)

  -- wrong kinds: the place of the first wrong operand, from left to right, else the operator's own
  pub record CarriesBlame : Type 0 where
    pub leaf : (k : K) → wrong (alg.leaf k) ≡ false
    pub unary_operand : (o : K) (a : A) → wrong a ≡ true → Inherits a (alg.unary o a)
    pub unary_own : (o : K) (a : A) → wrong a ≡ false → wrong (alg.unary o a) ≡ true → place (alg.unary o a) ≡ at o
    pub binary_left : (o : K) (a b : A) → wrong a ≡ true → Inherits a (alg.binary o a b)
    pub binary_right : (o : K) (a b : A) → wrong a ≡ false → wrong b ≡ true → Inherits b (alg.binary o a b)
    pub binary_own : (o : K) (a b : A) → wrong a ≡ false → wrong b ≡ false → wrong (alg.binary o a b) ≡ true → place (alg.binary o a b) ≡ at o
    pub choice_test : (q : K) (c a b : A) → wrong c ≡ true → Inherits c (alg.choice q c a b)
    pub choice_first : (q : K) (c a b : A) → wrong c ≡ false → wrong a ≡ true → Inherits a (alg.choice q c a b)
    pub choice_second : (q : K) (c a b : A) → wrong c ≡ false → wrong a ≡ false → wrong b ≡ true → Inherits b (alg.choice q c a b)
    pub choice_own : (q : K) (c a b : A) → wrong c ≡ false → wrong a ≡ false → wrong b ≡ false → wrong (alg.choice q c a b) ≡ true
        → place (alg.choice q c a b) ≡ at q

  -- so the place is that of the first operator to blame
  abbrev pub Blamed : Tree K → Type 0
  Blamed t = Leads at (wrong (fold alg t)) (to_blame alg wrong t) (place (fold alg t))

-- the operators to blame are among the tokens that derive the tree, in the same order, so that the first is the leftmost
abbrev pub InOrder : {K A : Type 0} → (K → ℕ) → Algebra K A → (A → Bool) → Type 0
InOrder {K} code alg wrong = (x : Nonterminal) (w : List K) (t : Tree K) → Derives code x w t → Sublistᴰ (to_blame alg wrong t) w

-- `what` is the part of attributes that tells the fault, all of it, and `place` reads the place from that
module _ {K A B : Type 0} (alg : Algebra K A) (skips : K → A → Bool) (takes_first : A → Bool) (fails : A → Bool) (what : A → B) (place : B → ℕ)
    (at : K → ℕ) where
  -- the attributes of a node; it fails, or it does not
  abbrev pub made : Tree K → A
  made n = fold alg n

  abbrev pub Fails : Tree K → Type 0
  Fails n = fails (made n) ≡ true

  abbrev pub Passes : Tree K → Type 0
  Passes n = fails (made n) ≡ false

  -- a node fails with the fault of an operand, or if it fails then with the place of its own token
  abbrev pub FailsWith : (operand node : Tree K) → Type 0
  FailsWith a n = Fails n × (what (made n) ≡ what (made a))

  abbrev pub FailsAt : K → Tree K → Type 0
  FailsAt o n = Fails n → place (what (made n)) ≡ at o

  -- a choice fails exactly if its chosen arm does, and with the same fault
  abbrev pub Follows : (arm node : Tree K) → Type 0
  Follows a n = (Fails a → FailsWith a n) × (Passes a → Passes n)

  -- A fault is that of the first evaluated operand that fails, else it has the place of the operator. The trees may be of some sort only, as those whose
  -- kinds are not wrong; with a tree its operands are of that sort.
  pub record CarriesFault (Sort : Tree K → Type 0) : Type 0 where
    pub unary_sort : (o : K) (a : Tree K) → Sort (Unary o a) → Sort a
    pub binary_sort : (o : K) (l r : Tree K) → Sort (Binary o l r) → Sort l × Sort r
    pub choice_sort : (q : K) (c a b : Tree K) → Sort (Choice q c a b) → Sort c × Sort a × Sort b
    pub leaf : (k : K) → Sort (Leaf k) → Passes (Leaf k)
    pub unary_operand : (o : K) (a : Tree K) → Sort (Unary o a) → Fails a → FailsWith a (Unary o a)
    pub unary_own : (o : K) (a : Tree K) → Sort (Unary o a) → Passes a → FailsAt o (Unary o a)
    pub binary_left : (o : K) (l r : Tree K) → Sort (Binary o l r) → Fails l → FailsWith l (Binary o l r)
    pub binary_skipped : (o : K) (l r : Tree K) → Sort (Binary o l r) → Passes l → skips o (made l) ≡ true → Passes (Binary o l r)
    pub binary_right : (o : K) (l r : Tree K) → Sort (Binary o l r) → Passes l → skips o (made l) ≡ false → Fails r → FailsWith r (Binary o l r)
    pub binary_own : (o : K) (l r : Tree K) → Sort (Binary o l r) → Passes l → skips o (made l) ≡ false → Passes r → FailsAt o (Binary o l r)
    pub choice_test : (q : K) (c a b : Tree K) → Sort (Choice q c a b) → Fails c → FailsWith c (Choice q c a b)
    pub choice_first : (q : K) (c a b : Tree K) → Sort (Choice q c a b) → Passes c → takes_first (made c) ≡ true → Follows a (Choice q c a b)
    pub choice_second : (q : K) (c a b : Tree K) → Sort (Choice q c a b) → Passes c → takes_first (made c) ≡ false → Follows b (Choice q c a b)

  -- so a tree fails with the fault of the first node that meets one, at the place of its token; a tree that does not fail has no such node
  pub record Met (t : Tree K) : Type 0 where
    pub first : Fails t
        → (n : Tree K) × (ns : List (Tree K)) × (faulty_nodes alg skips takes_first fails t ≡ n ∷ ns) × (what (made n) ≡ what (made t))
        × (place (what (made t)) ≡ at (root n))
    pub none : Passes t → faulty_nodes alg skips takes_first fails t ≡ []
