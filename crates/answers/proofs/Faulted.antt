-- A fault of evaluation, its number and its place, is that of the operator that meets one first in the order of evaluation, if the kinds do not
-- clash (document 02, order 3, refusals 11 and 12). Assumes nothing.
use Rattle.std.specs.Prelude.{Err, Ok, Result}
use Prim.Native.Nat.{ℕ}
use mathlib.Core.Path.{◌≡◌, refl, sym, ap, ◌∙◌}
use mathlib.Core.Bool.{Bool, true, false, false≢true}
use mathlib.Core.List.{List, [], ◌∷◌}
use lib.Dec.{eqb}
use borrow.Author.Tests.{not-true, not-false}
use Rattle.units.specs.declared.Fault.{Fault}
use Rattle.units.specs.declared.Reason.{Reason}
use Rattle.text.proofs.Laws.{pick_case}
use Rattle.token.specs.Tokens.{Token}
use Rattle.arithmetic.specs.Operators.{unary_of, binary_of}
use Rattle.grammar.specs.Grammar.{Tree}
use Rattle.grammar.specs.Fold.{fold}
use Rattle.blame.specs.Nodes.{root}
use Rattle.blame.specs.Applied.{faulty_nodes}
use Rattle.blame.proofs.Carried.{CarriesFault}
use Rattle.blame.proofs.FirstFault.{met}
use Rattle.value.specs.Places.{Memory}
use Rattle.value.specs.Kinds.{of_text, is_number, compares, suits, clashes, unary_kind}
use Rattle.value.specs.Values.{Value, number, text, fault, HasKind, primary_value, result_of, unary_value, skips, both_values, binary_value, choice_value}
use Rattle.value.specs.Attributes.{first_arm}
use Rattle.value.specs.declared.Kind.{Kind}
use Rattle.value.proofs.Clashes.{a_clash}
use Rattle.soundness.proofs.KindSound.{suited, suited_arms, no_number}
use Rattle.soundness.proofs.PlacesWithin.{Faultless, primary_faultless}
use Rattle.expression.specs.Meaning.{meaning}
use Rattle.answers.specs.Tests.{is_fault, fails, skips_right, takes_first}
use Rattle.answers.proofs.AnswersExact.{kind_sound}

-- the place that a value carries, 0 if it is no fault
abbrev carried : Value → ℕ
carried (number x) = 0
carried (text k p s) = 0
carried (fault f) = f.at.0

-- a value that fails as another does, with the same fault, and one that fails at a place if it does
abbrev FailsAs : (v w : Value) → Type 0
FailsAs v w = (is_fault w ≡ true) × (w ≡ v)

abbrev FailsAt : ℕ → Value → Type 0
FailsAt at w = is_fault w ≡ true → carried w ≡ at

-- a primary
passes : (v : Value) → Faultless v → is_fault v ≡ false
passes (number x) h = refl
passes (text k p s) h = refl
passes (fault f) h = absurd h

-- operators
result_at : (at : ℕ) (r : Result ℕ Reason) → FailsAt at (result_of at r)
result_at at (Ok x) h = absurd (false≢true h)
result_at at (Err n) h = refl

unary_as : (o at : ℕ) (v : Value) → is_fault v ≡ true → FailsAs v (unary_value o at v)
unfolding unary_value
unary_as o at (number x) h = absurd (false≢true h)
unary_as o at (text k p s) h = absurd (false≢true h)
unary_as o at (fault f) h = (refl, refl)

unary_at : (o at : ℕ) (v : Value) → is_fault v ≡ false → FailsAt at (unary_value o at v)
unfolding unary_value
unary_at o at (number x) h = result_at at (unary_of o x)
unary_at o at (text k p s) h = λ _. refl
unary_at o at (fault f) h = absurd (false≢true (sym h))

left_as : (o at : ℕ) (v w : Value) → is_fault v ≡ true → FailsAs v (binary_value o at v w)
unfolding binary_value both_values
left_as o at (number x) w h = absurd (false≢true h)
left_as o at (text k p s) w h = absurd (false≢true h)
left_as o at (fault f) w h = (refl, refl)

skipped_passes : (o at : ℕ) (v w : Value) → skips o v ≡ true → is_fault (binary_value o at v w) ≡ false
unfolding binary_value
skipped_passes o at v w h = rw h

both_as : (o at : ℕ) (v w : Value) → is_fault v ≡ false → is_fault w ≡ true → FailsAs w (both_values o at v w)
unfolding both_values
both_as o at v (number y) h i = absurd (false≢true i)
both_as o at v (text k q t) h i = absurd (false≢true i)
both_as o at (number x) (fault f) h i = (refl, refl)
both_as o at (text j p s) (fault f) h i = (refl, refl)
both_as o at (fault e) (fault f) h i = absurd (false≢true (sym h))

right_as : (o at : ℕ) (v w : Value) → is_fault v ≡ false → skips o v ≡ false → is_fault w ≡ true → FailsAs w (binary_value o at v w)
unfolding binary_value
right_as o at v w h s i = rw s (both_as o at v w h i)

both_at : (o at : ℕ) (v w : Value) → is_fault v ≡ false → is_fault w ≡ false → FailsAt at (both_values o at v w)
unfolding both_values
both_at o at (number x) (number y) h i =
    pick_case (FailsAt at) (compares o) (λ _ e. absurd (false≢true e)) (λ _. result_at at (binary_of o x y))
both_at o at (number x) (text k q t) h i = λ _. refl
both_at o at (number x) (fault f) h i = absurd (false≢true (sym i))
both_at o at (text j p s) (number y) h i = λ _. refl
both_at o at (text j p s) (text k q t) h i =
    pick_case (FailsAt at) (suits o (of_text j) (of_text k)) (λ _ e. absurd (false≢true e)) (λ _ _. refl)
both_at o at (text j p s) (fault f) h i = absurd (false≢true (sym i))
both_at o at (fault f) w h i = absurd (false≢true (sym h))

own_at : (o at : ℕ) (v w : Value) → is_fault v ≡ false → skips o v ≡ false → is_fault w ≡ false → FailsAt at (binary_value o at v w)
unfolding binary_value
own_at o at v w h s i = rw s (both_at o at v w h i)

-- a choice
test_as : (at : ℕ) (u v w : Value) → is_fault u ≡ true → FailsAs u (choice_value at u v w)
unfolding choice_value
test_as at (number x) v w h = absurd (false≢true h)
test_as at (text k p s) v w h = absurd (false≢true h)
test_as at (fault f) v w h = (refl, refl)

chosen_first : (at : ℕ) (u v w : Value) → first_arm u ≡ true → choice_value at u v w ≡ v
unfolding choice_value
chosen_first at (number x) v w h = rw (not-true (eqb x 0) h)
chosen_first at (text k p s) v w h = absurd (false≢true h)
chosen_first at (fault f) v w h = absurd (false≢true h)

chosen_second : (at : ℕ) (u v w : Value) (k : Kind) → HasKind k u → is_number k ≡ true → is_fault u ≡ false → first_arm u ≡ false → choice_value at u v w ≡ w
unfolding choice_value
chosen_second at (number x) v w k g n i h = rw (not-false (eqb x 0) h)
chosen_second at (text j p s) v w k g n i h = absurd (no_number j k g n)
chosen_second at (fault f) v w k g n i h = absurd (false≢true (sym i))

module _ (m : Memory) where
  -- kinds do not clash in a tree
  abbrev Suits : Tree Token → Type 0
  Suits t = clashes (fold (meaning m) t).kind ≡ false

  abbrev value_of : Tree Token → Value
  value_of t = (fold (meaning m) t).value

  unary_suits : (at : ℕ) (k : Kind) → clashes (unary_kind at k) ≡ false → clashes k ≡ false
  unfolding unary_kind
  unary_suits at k h = by (clashes k) refl
    where
      by : (b : Bool) → clashes k ≡ b → clashes k ≡ false
      by false e = e
      by true e = absurd (false≢true (sym h ∙ (rw (a_clash k _ e) e)))

  follows : (arm node : Value) → node ≡ arm → (is_fault arm ≡ true → FailsAs arm node) × (is_fault arm ≡ false → is_fault node ≡ false)
  follows arm node e = rw e (λ h. (h, refl), λ h. h)

  carries : CarriesFault (meaning m) skips_right takes_first fails (λ a. a.value) carried (λ k. k.start) Suits
  unfolding fold
  carries =
      record {
        unary_sort = λ o a h. unary_suits o.start (fold (meaning m) a).kind h;
        binary_sort = λ o l r h.
            let u = suited o.code o.start (fold (meaning m) l).kind (fold (meaning m) r).kind h in
            (u.left, u.right);
        choice_sort = λ q c a b h.
            let u = suited_arms q.start (fold (meaning m) c).kind (fold (meaning m) a).kind (fold (meaning m) b).kind h in
            (u.test, u.first, u.second);
        leaf = λ k _. passes (primary_value m k) (primary_faultless m k);
        unary_operand = λ o a _. unary_as o.code o.start (value_of a);
        unary_own = λ o a _. unary_at o.code o.start (value_of a);
        binary_left = λ o l r _. left_as o.code o.start (value_of l) (value_of r);
        binary_skipped = λ o l r _ _. skipped_passes o.code o.start (value_of l) (value_of r);
        binary_right = λ o l r _. right_as o.code o.start (value_of l) (value_of r);
        binary_own = λ o l r _. own_at o.code o.start (value_of l) (value_of r);
        choice_test = λ q c a b _. test_as q.start (value_of c) (value_of a) (value_of b);
        choice_first = λ q c a b _ _ h.
            follows (value_of a) (choice_value q.start (value_of c) (value_of a) (value_of b))
            (chosen_first q.start (value_of c) (value_of a) (value_of b) h);
        choice_second = λ q c a b s p h.
            let u = suited_arms q.start (fold (meaning m) c).kind (fold (meaning m) a).kind (fold (meaning m) b).kind s in
            let k : Kind = (fold (meaning m) c).kind in
            follows (value_of b) (choice_value q.start (value_of c) (value_of a) (value_of b))
            (chosen_second q.start (value_of c) (value_of a) (value_of b) k (kind_sound m c u.test) u.number p h);
      }

  -- THE THEOREM: a fault is that of the first operator that meets one, with its place, and without a fault no operator meets one
  pub fault_met : (s : Tree Token) → Suits s → (f : Fault) → value_of s ≡ fault f
      → (n : Tree Token) × (ns : List (Tree Token)) × (faulty_nodes (meaning m) skips_right takes_first fails s ≡ n ∷ ns) × (value_of n ≡ fault f)
      × (f.at.0 ≡ (root n).start)
  fault_met s h f e =
      let l = (met carries s h).first (ap is_fault e) in
      (l.0, l.1, l.2, l.3 ∙ e, sym (ap carried e) ∙ l.4)

  pub no_fault_met : (s : Tree Token) → Suits s → is_fault (value_of s) ≡ false → faulty_nodes (meaning m) skips_right takes_first fails s ≡ []
  no_fault_met s h e = (met carries s h).none e
