-- A fault is that of the first operator that meets one, by induction on the tree: if no evaluated operand fails, none has an operator that meets
-- a fault; else the first that fails has the first such operator.
use Prim.Native.Nat.{ℕ}
use mathlib.Core.Path.{◌≡◌, refl, ap, sym, ◌∙◌}
use mathlib.Core.Bool.{Bool, true, false, not, ◌&&◌, ◌||◌, or-false, false≢true}
use mathlib.Core.List.{List, [], ◌∷◌, ◌++◌, append-nil}
use Rattle.text.specs.Bytes.{pick}
use Rattle.grammar.specs.Grammar.{Tree, Leaf, Unary, Binary, Choice}
use Rattle.grammar.specs.Fold.{Algebra, fold}
use Rattle.blame.specs.Nodes.{root, some, passing}
use Rattle.blame.specs.Applied.{applied, is_failed, meets_fault}
use Rattle.blame.proofs.Carried.{CarriesFault, FailsWith, Follows, Passes, Met}
use Rattle.blame.proofs.Passing.{passing_append, passing_one, passing_none, passing_pick, Says, front}

-- an operator node o after those of its evaluated operands; x and y tell whether an operand fails, z whether the node does, and m is what the
-- node carries
module _ {N C : Type 0} (at : N → C) (o : N) where
  -- the node alone, if it meets a fault
  abbrev own : Bool → List N
  own t = pick t (o ∷ []) []

  unary_says : (x z : Bool) (ks : List N) (p m : C) → (x ≡ true → (z ≡ true) × (m ≡ p)) → (x ≡ false → z ≡ true → m ≡ at o)
      → Says at x ks p
      → Says at z (ks ++ own (z && not (x || false))) m
  unary_says true true ks p m h e s = front at s [] (h refl).1
  unary_says true false ks p m h e s = absurd (false≢true (h refl).0)
  unary_says false true ks p m h e s = (o, [], rw s, e refl refl)
  unary_says false false ks p m h e s = rw s

  -- two operands, of which the second may be skipped
  binary_says : (x d y z : Bool) (ks js : List N) (p q m : C) → (x ≡ true → (z ≡ true) × (m ≡ p)) → (x ≡ false → d ≡ true → z ≡ false)
      → (x ≡ false → d ≡ false → y ≡ true → (z ≡ true) × (m ≡ q)) → (x ≡ false → d ≡ false → y ≡ false → z ≡ true → m ≡ at o)
      → Says at x ks p → Says at y js q
      → Says at z ((ks ++ pick d [] js) ++ own (z && not (x || (not d && y)))) m
  binary_says true d y true ks js p q m h g i e s u = front at (front at s _ (h refl).1) _ refl
  binary_says true d y false ks js p q m h g i e s u = absurd (false≢true (h refl).0)
  binary_says false true y true ks js p q m h g i e s u = absurd (false≢true (sym (g refl refl)))
  binary_says false true y false ks js p q m h g i e s u = rw s
  binary_says false false true true ks js p q m h g i e s u = (u.0, u.1, rw (s, u.2, append-nil), (i refl refl refl).1 ∙ u.3)
  binary_says false false true false ks js p q m h g i e s u = absurd (false≢true (i refl refl refl).0)
  binary_says false false false true ks js p q m h g i e s u = (o, [], rw (s, u), e refl refl refl refl)
  binary_says false false false false ks js p q m h g i e s u = rw (s, u)

  -- a test and the chosen arm
  choice_says : (x y z : Bool) (ks js : List N) (p q m : C) → (x ≡ true → (z ≡ true) × (m ≡ p))
      → (x ≡ false → (y ≡ true → (z ≡ true) × (m ≡ q)) × (y ≡ false → z ≡ false))
      → Says at x ks p → Says at y js q
      → Says at z ((ks ++ js) ++ own (z && not (x || (y || false)))) m
  choice_says true y true ks js p q m h i s u = front at (front at s _ (h refl).1) _ refl
  choice_says true y false ks js p q m h i s u = absurd (false≢true (h refl).0)
  choice_says false true true ks js p q m h i s u = (u.0, u.1, rw (s, u.2, append-nil), ((i refl).0 refl).1 ∙ u.3)
  choice_says false true false ks js p q m h i s u = absurd (false≢true ((i refl).0 refl).0)
  choice_says false false true ks js p q m h i s u = absurd (false≢true (sym ((i refl).1 refl)))
  choice_says false false false ks js p q m h i s u = rw (s, u)

-- a test of the right operand, which may be skipped
some_pick : {K : Type 0} (p : Tree K → Bool) (d : Bool) (r : Tree K) → some p (pick d [] (r ∷ [])) ≡ (not d && p r)
some_pick p true r = refl
some_pick p false r = or-false (p r)

module _ {K A B : Type 0} {alg : Algebra K A} {skips : K → A → Bool} {takes_first : A → Bool} {fails : A → Bool} {what : A → B} {place : B → ℕ} {at : K → ℕ}
    {Sort : Tree K → Type 0} (carries : CarriesFault alg skips takes_first fails what place at Sort) where
  abbrev nodes : Tree K → List (Tree K)
  nodes = applied alg skips takes_first

  abbrev test : Tree K → Bool
  test = meets_fault alg skips takes_first fails

  abbrev failed : Tree K → Bool
  failed = is_failed alg skips takes_first fails

  -- what a tree carries: its fault and the place in it
  abbrev carried : Tree K → B × ℕ
  carried t = (what (fold alg t), place (what (fold alg t)))

  -- what a node that meets a fault has: the fault and the place of its token
  abbrev has : Tree K → B × ℕ
  has n = (what (fold alg n), at (root n))

  abbrev SaysOf : Tree K → List (Tree K) → Type 0
  SaysOf t ns = Says has (failed t) (passing test ns) (carried t)

  -- with the fault its place is handed on
  handed : (a n : Tree K) → FailsWith alg skips takes_first fails what place at a n → (failed n ≡ true) × (carried n ≡ carried a)
  handed a n h = (h.0, ap (λ b. (b, place b)) h.1)

  own_place : (n : Tree K) → place (what (fold alg n)) ≡ at (root n) → carried n ≡ has n
  own_place n e = ap (λ p. (what (fold alg n), p)) e

  -- the chosen arm
  follows_arm : (q : K) (c a b : Tree K) → Sort (Choice q c a b) → Passes alg skips takes_first fails what place at c → (f : Bool) → takes_first (fold alg c)
      ≡ f
      → Follows alg skips takes_first fails what place at (pick f a b) (Choice q c a b)
  follows_arm q c a b g h true e = carries.choice_first q c a b g h e
  follows_arm q c a b g h false e = carries.choice_second q c a b g h e

  arm_says : (f : Bool) (a b : Tree K) (ns ms : List (Tree K)) → SaysOf a ns → SaysOf b ms → SaysOf (pick f a b) (pick f ns ms)
  arm_says true a b ns ms s u = s
  arm_says false a b ns ms s u = u

  says : (t : Tree K) → Sort t → SaysOf t (nodes t)
  unfolding applied
  says (Leaf k) g = rw (carries.leaf k g, passing_none test)
  says (Unary o a) g =
      let n = Unary o a in
      rw (passing_append test, passing_one test)
      (unary_says has n (failed a) (failed n) _ _ _ (λ h. handed a n (carries.unary_operand o a g h)) (λ h i. own_place n (carries.unary_own o a g h i))
      (says a (carries.unary_sort o a g)))
  says (Binary o l r) g =
      let n = Binary o l r in
      let d = skips o (fold alg l) in
      let sorts = carries.binary_sort o l r g in
      rw (passing_append test, passing_append test, passing_one test, passing_pick test, passing_none test, some_pick failed)
      (binary_says has n (failed l) d (failed r) (failed n) _ _ _ _ _ (λ h. handed l n (carries.binary_left o l r g h)) (carries.binary_skipped o l r g)
      (λ h e i. handed r n (carries.binary_right o l r g h e i)) (λ h e i j. own_place n (carries.binary_own o l r g h e i j))
      (says l sorts.0) (says r sorts.1))
  says (Choice q c a b) g =
      let n = Choice q c a b in
      let f = takes_first (fold alg c) in
      let arm = pick f a b in
      let sorts = carries.choice_sort q c a b g in
      rw (passing_append test, passing_append test, passing_one test)
      (choice_says has n (failed c) (failed arm) (failed n) _ _ _ _ _ (λ h. handed c n (carries.choice_test q c a b g h))
      (λ h. let k = follows_arm q c a b g h f refl in (λ i. handed arm n (k.0 i), k.1))
      (says c sorts.0) (arm_says f a b _ _ (says a sorts.1) (says b sorts.2)))

  pub met : (t : Tree K) → Sort t → Met alg skips takes_first fails what place at t
  met t g = by (failed t) refl (says t g)
    where
      by : (z : Bool) → failed t ≡ z → Says has z (passing test (nodes t)) (carried t) → Met alg skips takes_first fails what place at t
      by true e s =
          record {
            first = λ _. (s.0, s.1, s.2, sym (ap (λ c. c.0) s.3), ap (λ c. c.1) s.3);
            none = λ h. absurd (false≢true (sym h ∙ e));
          }
      by false e s = record { first = λ h. absurd (false≢true (sym e ∙ h)); none = λ _. s }
