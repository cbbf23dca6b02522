-- The place of wrong attributes is that of the first operator to blame, by induction on the tree: if no operand is wrong, none has an operator
-- to blame; else the first wrong one has the first such operator.
use Prim.Native.Nat.{ℕ}
use mathlib.Core.Path.{◌≡◌, refl, ◌∙◌}
use mathlib.Core.Bool.{Bool, true, false, not, ◌&&◌, ◌||◌, false≢true}
use mathlib.Core.List.{List, [], ◌∷◌, ◌++◌}
use Rattle.text.specs.Bytes.{pick}
use Rattle.grammar.specs.Grammar.{Tree, Leaf, Unary, Binary, Choice}
use Rattle.grammar.specs.Fold.{Algebra, fold}
use Rattle.blame.specs.Nodes.{root, passing}
use Rattle.blame.specs.Blame.{operators, is_wrong, is_blamed}
use Rattle.blame.proofs.Carried.{CarriesBlame, Blamed}
use Rattle.blame.proofs.Passing.{passing_append, passing_cons, passing_none, Says, leads, front}

-- an operator node o, before those of its operand, between those of two, and after those of the first of three; x, y and v tell whether an
-- operand is wrong, z whether the node is, and m is the place that the node carries
module _ {N : Type 0} (at : N → ℕ) (o : N) where
  -- the operator alone, if it is to blame
  abbrev own : Bool → List N
  own t = pick t (o ∷ []) []

  unary_says : (x z : Bool) (ks : List N) (p m : ℕ) → (x ≡ true → (z ≡ true) × (m ≡ p)) → (x ≡ false → z ≡ true → m ≡ at o)
      → Says at x ks p
      → Says at z (own (z && not (x || false)) ++ ks) m
  unary_says true true ks p m h e s = (s.0, s.1, s.2, (h refl).1 ∙ s.3)
  unary_says true false ks p m h e s = absurd (false≢true (h refl).0)
  unary_says false true ks p m h e s = (o, [], rw s, e refl refl)
  unary_says false false ks p m h e s = s

  binary_says : (x y z : Bool) (ks js : List N) (p q m : ℕ) → (x ≡ true → (z ≡ true) × (m ≡ p)) → (x ≡ false → y ≡ true → (z ≡ true) × (m ≡ q))
      → (x ≡ false → y ≡ false → z ≡ true → m ≡ at o) → Says at x ks p → Says at y js q
      → Says at z (ks ++ (own (z && not (x || (y || false))) ++ js)) m
  binary_says true y true ks js p q m h i e s u = front at s _ (h refl).1
  binary_says true y false ks js p q m h i e s u = absurd (false≢true (h refl).0)
  binary_says false true true ks js p q m h i e s u = (u.0, u.1, rw (s, u.2), (i refl refl).1 ∙ u.3)
  binary_says false true false ks js p q m h i e s u = absurd (false≢true (i refl refl).0)
  binary_says false false true ks js p q m h i e s u = (o, [], rw (s, u), e refl refl refl)
  binary_says false false false ks js p q m h i e s u = rw (s, u)

  choice_says : (x y v z : Bool) (ks js ls : List N) (p q r m : ℕ) → (x ≡ true → (z ≡ true) × (m ≡ p)) → (x ≡ false → y ≡ true → (z ≡ true) × (m ≡ q))
      → (x ≡ false → y ≡ false → v ≡ true → (z ≡ true) × (m ≡ r)) → (x ≡ false → y ≡ false → v ≡ false → z ≡ true → m ≡ at o)
      → Says at x ks p → Says at y js q → Says at v ls r
      → Says at z ((ks ++ (own (z && not (x || (y || (v || false)))) ++ js)) ++ ls) m
  choice_says true y v true ks js ls p q r m h i g e s u w = front at (front at s _ (h refl).1) ls refl
  choice_says true y v false ks js ls p q r m h i g e s u w = absurd (false≢true (h refl).0)
  choice_says false true v true ks js ls p q r m h i g e s u w = (u.0, u.1 ++ ls, rw (s, u.2), (i refl refl).1 ∙ u.3)
  choice_says false true v false ks js ls p q r m h i g e s u w = absurd (false≢true (i refl refl).0)
  choice_says false false true true ks js ls p q r m h i g e s u w = (w.0, w.1, rw (s, u, w.2), (g refl refl refl).1 ∙ w.3)
  choice_says false false true false ks js ls p q r m h i g e s u w = absurd (false≢true (g refl refl refl).0)
  choice_says false false false true ks js ls p q r m h i g e s u w = (o, [], rw (s, u, w), e refl refl refl refl)
  choice_says false false false false ks js ls p q r m h i g e s u w = rw (s, u, w)

module _ {K A : Type 0} {alg : Algebra K A} {wrong : A → Bool} {place : A → ℕ} {at : K → ℕ} (carries : CarriesBlame alg wrong place at) where
  abbrev test : Tree K → Bool
  test = is_blamed alg wrong

  -- the place of a node's token
  abbrev there : Tree K → ℕ
  there n = at (root n)

  says : (t : Tree K) → Says there (is_wrong alg wrong t) (passing test (operators t)) (place (fold alg t))
  unfolding fold operators
  says (Leaf k) = rw (carries.leaf k, passing_none test)
  says (Unary o t) =
      let a = fold alg t in
      rw (passing_cons test)
      (unary_says there (Unary o t) (wrong a) (wrong (alg.unary o a)) _ _ _ (carries.unary_operand o a) (carries.unary_own o a) (says t))
  says (Binary o l r) =
      let a = fold alg l in
      let b = fold alg r in
      rw (passing_append test, passing_cons test)
      (binary_says there (Binary o l r) (wrong a) (wrong b) (wrong (alg.binary o a b)) _ _ _ _ _ (carries.binary_left o a b) (carries.binary_right o a b)
      (carries.binary_own o a b) (says l) (says r))
  says (Choice q c a b) =
      let x = fold alg c in
      let y = fold alg a in
      let z = fold alg b in
      rw (passing_append test, passing_append test, passing_cons test)
      (choice_says there (Choice q c a b) (wrong x) (wrong y) (wrong z) (wrong (alg.choice q x y z)) _ _ _ _ _ _ _ (carries.choice_test q x y z)
      (carries.choice_first q x y z) (carries.choice_second q x y z) (carries.choice_own q x y z) (says c) (says a) (says b))

  pub blamed : (t : Tree K) → Blamed alg wrong place at t
  blamed t = leads at (passing test (operators t)) (says t)
