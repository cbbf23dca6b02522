-- The steps of the parser at a goal, as a tree: one constructor for each case of a step, failures included. A property of results is then
-- shown by induction on this tree, without fuel.
use Prim.Native.Nat.{ℕ, zero, suc, ◌+◌, ◌≤◌, ◌<◌}
use native.Mathlib.Omega.{arith}
use mathlib.Core.Path.{◌≡◌}
use mathlib.Core.Bool.{true, false}
use lib.Dec.{eqb}
use borrow.Author.Tests.{eqb-true, eqb-false}
use Rattle.text.proofs.Laws.{pick_case}
use Rattle.codes.specs.Codes.{OPEN, CLOSE, QUESTION, COLON}
use Rattle.codes.specs.Levels.{is_unary, level_of}
use Rattle.grammar.specs.Grammar.{level, expression, is_primary}
use Rattle.grammar.specs.Fold.{Algebra}
use Rattle.grammar.specs.Parse.{Ends, Goal, find, extend, Result, bad, got, and_then, run, size}
use Rattle.grammar.specs.Decides.{InTable}
use Rattle.grammar.proofs.Inside.{code_inside, primary_inside, unary_inside, level_inside}

module _ {K A : Type 0} (code : K → ℕ) (alg : Algebra K A) (tok : ℕ → K) where
  -- at this goal the parser comes to this result
  pub data Traces : Goal A → Result A → Type 0 where
    leaf : {i : ℕ} → is_primary (code (tok i)) ≡ true → Traces (find (level 0) i) (got (alg.leaf (tok i)) (i + 1))
    none : {i : ℕ} → is_primary (code (tok i)) ≡ false → (code (tok i) ≡ OPEN → ⊥) → Traces (find (level 0) i) (bad i)
    enclosed_bad : {i z : ℕ} → code (tok i) ≡ OPEN → Traces (find expression (i + 1)) (bad z) → Traces (find (level 0) i) (bad z)
    unclosed : {i j : ℕ} {a : A} → code (tok i) ≡ OPEN → Traces (find expression (i + 1)) (got a j) → (code (tok j) ≡ CLOSE → ⊥)
        → Traces (find (level 0) i) (bad j)
    closed : {i j : ℕ} {a : A} → code (tok i) ≡ OPEN → Traces (find expression (i + 1)) (got a j) → code (tok j) ≡ CLOSE
        → Traces (find (level 0) i) (got a (j + 1))
    unary_bad : {i z : ℕ} → is_unary (code (tok i)) ≡ true → Traces (find (level 1) (i + 1)) (bad z) → Traces (find (level 1) i) (bad z)
    unary : {i j : ℕ} {a : A} → is_unary (code (tok i)) ≡ true → Traces (find (level 1) (i + 1)) (got a j)
        → Traces (find (level 1) i) (got (alg.unary (tok i) a) j)
    operand : {i : ℕ} {r : Result A} → is_unary (code (tok i)) ≡ false → Traces (find (level 0) i) r → Traces (find (level 1) i) r
    level_bad : {k i z : ℕ} → suc k < 12 → Traces (find (level (suc k)) i) (bad z) → Traces (find (level (suc (suc k))) i) (bad z)
    extended : {k i j : ℕ} {a : A} {r : Result A} → suc k < 12 → Traces (find (level (suc k)) i) (got a j) → Traces (extend (suc k) a j) r
        → Traces (find (level (suc (suc k))) i) r
    done : {k j : ℕ} {a : A} → (level_of (code (tok j)) ≡ suc k → ⊥) → Traces (extend k a j) (got a j)
    right_bad : {k j z : ℕ} {a : A} → 0 < k → k < 12 → level_of (code (tok j)) ≡ suc k → Traces (find (level k) (j + 1)) (bad z) → Traces (extend k a j) (bad z)
    longer : {k j q : ℕ} {a b : A} {r : Result A} → 0 < k → k < 12 → level_of (code (tok j)) ≡ suc k → Traces (find (level k) (j + 1)) (got b q)
        → Traces (extend k (alg.binary (tok j) a b) q) r → Traces (extend k a j) r
    test_bad : {i z : ℕ} → Traces (find (level 12) i) (bad z) → Traces (find expression i) (bad z)
    plain : {i j : ℕ} {c : A} → Traces (find (level 12) i) (got c j) → (code (tok j) ≡ QUESTION → ⊥) → Traces (find expression i) (got c j)
    first_bad : {i j z : ℕ} {c : A} → Traces (find (level 12) i) (got c j) → code (tok j) ≡ QUESTION → Traces (find expression (j + 1)) (bad z)
        → Traces (find expression i) (bad z)
    no_colon : {i j q : ℕ} {c a : A} → Traces (find (level 12) i) (got c j) → code (tok j) ≡ QUESTION → Traces (find expression (j + 1)) (got a q)
        → (code (tok q) ≡ COLON → ⊥) → Traces (find expression i) (bad q)
    second_bad : {i j q z : ℕ} {c a : A} → Traces (find (level 12) i) (got c j) → code (tok j) ≡ QUESTION → Traces (find expression (j + 1)) (got a q)
        → code (tok q) ≡ COLON → Traces (find expression (q + 1)) (bad z) → Traces (find expression i) (bad z)
    choice : {i j q s : ℕ} {c a b : A} → Traces (find (level 12) i) (got c j) → code (tok j) ≡ QUESTION → Traces (find expression (j + 1)) (got a q)
        → code (tok q) ≡ COLON → Traces (find expression (q + 1)) (got b s) → Traces (find expression i) (got (alg.choice (tok j) c a b) s)

-- the token at which a goal starts, and the last token that was read for its result
abbrev pub start : {A : Type 0} → Goal A → ℕ
start (find x i) = i
start (extend k a j) = j

abbrev pub reach : {A : Type 0} → Result A → ℕ
reach (bad e) = e
reach (got a j) = j

-- the goals that occur, over n tokens
abbrev pub Asked : {A : Type 0} → ℕ → Goal A → Type 0
Asked n (find x i) = InTable x × (i ≤ n)
Asked n (extend k a j) = (0 < k) × (k < 12) × (j ≤ n)

module _ {K A : Type 0} {code : K → ℕ} {alg : Algebra K A} {tok : ℕ → K} where
  -- a result names no token before the goal's start
  pub onward : {g : Goal A} {r : Result A} → Traces code alg tok g r → start g ≤ reach r
  onward (leaf h) = omega arith
  onward (none h e) = omega arith
  onward (enclosed_bad h d) = omega (arith, onward d)
  onward (unclosed h d e) = omega (arith, onward d)
  onward (closed h d e) = omega (arith, onward d)
  onward (unary_bad h d) = omega (arith, onward d)
  onward (unary h d) = omega (arith, onward d)
  onward (operand h d) = onward d
  onward (level_bad h d) = onward d
  onward (extended h d f) = omega (arith, onward d, onward f)
  onward (done h) = omega arith
  onward (right_bad p h e d) = omega (arith, onward d)
  onward (longer p h e d f) = omega (arith, onward d, onward f)
  onward (test_bad d) = onward d
  onward (plain d h) = onward d
  onward (first_bad d h f) = omega (arith, onward d, onward f)
  onward (no_colon d h f e) = omega (arith, onward d, onward f)
  onward (second_bad d h f e g) = omega (arith, onward d, onward f, onward g)
  onward (choice d h f e g) = omega (arith, onward d, onward f, onward g)

  module _ {n : ℕ} (ends : Ends code tok n) where
    -- nor one past the end
    pub inside : {g : Goal A} {r : Result A} → Traces code alg tok g r → start g ≤ n → reach r ≤ n
    inside (leaf {i} h) l = omega (arith, primary_inside ends i h)
    inside (none h e) l = l
    inside (enclosed_bad {i} h d) l = inside d (omega (arith, code_inside ends i OPEN (omega arith) h))
    inside (unclosed {i} h d e) l = inside d (omega (arith, code_inside ends i OPEN (omega arith) h))
    inside (closed {j} h d e) l = omega (arith, code_inside ends j CLOSE (omega arith) e)
    inside (unary_bad {i} h d) l = inside d (omega (arith, unary_inside ends i h))
    inside (unary {i} h d) l = inside d (omega (arith, unary_inside ends i h))
    inside (operand h d) l = inside d l
    inside (level_bad h d) l = inside d l
    inside (extended h d f) l = inside f (inside d l)
    inside (done h) l = l
    inside (right_bad {k} {j} p h e d) l = inside d (omega (arith, level_inside ends j k h e))
    inside (longer {k} {j} p h e d f) l = inside f (inside d (omega (arith, level_inside ends j k h e)))
    inside (test_bad d) l = inside d l
    inside (plain d h) l = inside d l
    inside (first_bad {j} d h f) l = inside f (omega (arith, code_inside ends j QUESTION (omega arith) h))
    inside (no_colon {j} d h f e) l = inside f (omega (arith, code_inside ends j QUESTION (omega arith) h))
    inside (second_bad {q} d h f e g) l = inside g (omega (arith, code_inside ends q COLON (omega arith) e))
    inside (choice {q} d h f e g) l = inside g (omega (arith, code_inside ends q COLON (omega arith) e))

    -- the step after a result, and a failure that stays
    goes_on : (P : Result A → Type 0) (g : Goal A) (r : Result A) {f : A → ℕ → Result A} → Traces code alg tok g r
        → ((z : ℕ) → Traces code alg tok g (bad z) → P (bad z)) → ((a : A) (j : ℕ) → Traces code alg tok g (got a j) → P (f a j)) → P (and_then r f)
    goes_on P g (bad z) d h k = h z d
    goes_on P g (got a j) d h k = k a j d

    -- with enough fuel, a run is one of these trees
    pub traced : (fuel : ℕ) (g : Goal A) → Asked n g → size n g < fuel → Traces code alg tok g (run code alg tok fuel g)
    unfolding run
    traced zero g v l = absurd (omega arith)
    traced (suc fuel) (find (level zero) i) v l =
        let P = Traces code alg tok (find (level 0) i) in
        pick_case P (is_primary (code (tok i))) leaf
        (λ h. pick_case P (eqb (code (tok i)) OPEN)
        (λ e. let o = eqb-true _ _ e in let b = code_inside ends i OPEN (omega arith) o in
        goes_on P _ _ (traced fuel (find expression (i + 1)) (tt, (omega arith)) (omega arith))
        (λ z d. enclosed_bad o d)
        (λ a j d. pick_case P (eqb (code (tok j)) CLOSE) (λ f. closed o d (eqb-true _ _ f)) (λ f. unclosed o d (eqb-false _ _ f))))
        (λ e. none h (eqb-false _ _ e)))
    traced (suc fuel) (find (level (suc zero)) i) v l =
        let P = Traces code alg tok (find (level 1) i) in
        pick_case P (is_unary (code (tok i)))
        (λ h. let b = unary_inside ends i h in
        goes_on P _ _ (traced fuel (find (level 1) (i + 1)) ((omega arith), (omega arith)) (omega arith))
        (λ z d. unary_bad h d)
        (λ a j d. unary h d))
        (λ h. operand h (traced fuel (find (level 0) i) ((omega arith), (omega arith)) (omega arith)))
    traced (suc fuel) (find (level (suc (suc k))) i) v l =
        let P = Traces code alg tok (find (level (suc (suc k))) i) in
        goes_on P _ _ (traced fuel (find (level (suc k)) i) ((omega arith), (omega arith)) (omega arith))
        (λ z d. level_bad (omega arith) d)
        (λ a j d. let b = onward d in let c = inside d (omega arith) in
        extended (omega arith) d (traced fuel (extend (suc k) a j) ((omega arith), (omega arith), (omega arith)) (omega arith)))
    traced (suc fuel) (find expression i) v l =
        let P = Traces code alg tok (find expression i) in
        goes_on P _ _ (traced fuel (find (level 12) i) ((omega arith), (omega arith)) (omega arith))
        (λ z d. test_bad d)
        (λ c j d. pick_case P (eqb (code (tok j)) QUESTION)
        (λ e. let o = eqb-true _ _ e in let b = code_inside ends j QUESTION (omega arith) o in let m = onward d in
        goes_on P _ _ (traced fuel (find expression (j + 1)) (tt, (omega arith)) (omega arith))
        (λ z f. first_bad d o f)
        (λ a q f. pick_case P (eqb (code (tok q)) COLON)
        (λ e'. let o' = eqb-true _ _ e' in let b' = code_inside ends q COLON (omega arith) o' in let m' = onward f in
        goes_on P _ _ (traced fuel (find expression (q + 1)) (tt, (omega arith)) (omega arith))
        (λ z g. second_bad d o f o' g)
        (λ b s g. choice d o f o' g))
        (λ e'. no_colon d o f (eqb-false _ _ e'))))
        (λ e. plain d (eqb-false _ _ e)))
    traced (suc fuel) (extend k a j) v l =
        let P = Traces code alg tok (extend k a j) in
        pick_case P (eqb (level_of (code (tok j))) (suc k))
        (λ e. let o = eqb-true _ _ e in let b = level_inside ends j k (omega arith) o in
        goes_on P _ _ (traced fuel (find (level k) (j + 1)) ((omega arith), (omega arith)) (omega arith))
        (λ z d. right_bad (omega arith) (omega arith) o d)
        (λ c q d. let m = onward d in let m' = inside d (omega arith) in
        longer (omega arith) (omega arith) o d
        (traced fuel (extend k (alg.binary (tok j) a c) q) ((omega arith), (omega arith), (omega arith)) (omega arith))))
        (λ e. done (eqb-false _ _ e))
