-- What a kept DEFINE line says, by its text: a line of the right shape says what the rules of specs/Outcomes.antt give, which is one thing only;
-- a line of another shape, or with a name of more than 64 bytes, is refused with 22. Assumes nothing.
use Prim.Native.Nat.{ℕ, ◌+◌, ◌-◌, ◌≤◌, ◌<◌}
use native.Mathlib.Omega.{arith}
use mathlib.Core.Path.{◌≡◌, refl, sym, ◌∙◌}
use mathlib.Core.Logic.{inl, inr}
use mathlib.Core.Bool.{Bool, true, false, ◌||◌, false≢true}
use mathlib.Core.List.{List}
use lib.ListN.{length}
use lib.Dec.{ltb, leb}
use borrow.Author.Tests.{lt-ltb, le-ltb, ltb-true, ltb-false, le-leb, lt-leb, leb-true, leb-false}
use Rattle.units.specs.Refusals.{fault_at, unplaced, placed}
use Rattle.units.specs.Dialects.{by_itself}
use Rattle.units.specs.declared.Dialect.{Dialect}
use Rattle.units.specs.declared.Fault.{Fault}
use Rattle.units.specs.declared.Refusal.{Refusal}
use Rattle.units.specs.declared.Reason.TheVariants.{TextMalformed}
use Rattle.text.specs.Bytes.{pick}
use Rattle.text.proofs.Laws.{pick_case}
use Rattle.own.specs.Own.{Own, scope, has, MAX_OWN}
use Rattle.value.specs.Places.{Memory, over}
use Rattle.value.specs.Values.{number, text, fault}
use Rattle.evaluation.specs.Evaluation.{Evaluation, value, refused, evaluation_in}
use Rattle.evaluation.proofs.FromTree.{never, from_tree}
use Rattle.line.specs.Directives.{is_define}
use Rattle.define.specs.Define.{MAX_CONTENT, shaped, macro_of, expression_start, expression_of, Definition, fails, of_text, limited}
use Rattle.define.specs.Define.{in_line, of_answer, definition_of}
use Rattle.define.specs.Lines.{DefineText, DefineLine}
use Rattle.define.specs.Outcomes.{Room, Full, Says, refused_there, refused_so, number_set, number_many, text_set, text_long, text_many}
use Rattle.define.proofs.Shapes.{long_name}
use Rattle.define.proofs.LineParts.{name_run, line_parts, parts_line}

-- the value of an answer is no fault
no_fault : (m : Memory) (δ : Dialect) (f : Fault) (k : ℕ) → evaluation_in m δ ≡ value (fault f) k → ⊥
no_fault m δ f k e = never (fault f) k _ (from_tree m δ (fault f) k e).2.given

module _ (own : List Own) (name : List ℕ) where
  abbrev roomy : Bool
  roomy = has name own || ltb (length own) MAX_OWN

  room : roomy ≡ true → Room own name
  room = by (has name own) (ltb (length own) MAX_OWN) refl refl
    where
      by : (a b : Bool) → has name own ≡ a → ltb (length own) MAX_OWN ≡ b → (a || b) ≡ true → Room own name
      by true b p q h = inl p
      by false true p q h = inr (ltb-true (length own) MAX_OWN q)
      by false false p q h = absurd (false≢true h)

  full : roomy ≡ false → Full own name
  full = by (has name own) (ltb (length own) MAX_OWN) refl refl
    where
      by : (a b : Bool) → has name own ≡ a → ltb (length own) MAX_OWN ≡ b → (a || b) ≡ false → Full own name
      by true b p q h = absurd (false≢true (sym h))
      by false true p q h = absurd (false≢true (sym h))
      by false false p q h = (p, ltb-false (length own) MAX_OWN q)

  roomed : Room own name → roomy ≡ true
  roomed (inl h) = rw h
  roomed (inr h) = by (has name own) (lt-ltb (length own) MAX_OWN h)
    where
      by : (a : Bool) {b : Bool} → b ≡ true → (a || b) ≡ true
      by true e = refl
      by false e = e

  filled : Full own name → roomy ≡ false
  filled h = rw (h.0, le-ltb (length own) MAX_OWN h.1)

  module _ (p : ℕ) where
    refused_says : (r : Refusal) → Says own name p (refused r) (fails (in_line p r))
    refused_says r = by (placed r.reason) refl
      where
        by : (b : Bool) → placed r.reason ≡ b → Says own name p (refused r) (fails (fault_at r.reason (pick b (p + r.offset.0) 0)))
        by true q = refused_there r q
        by false q = refused_so r q

    says : (x : Evaluation) → ((f : Fault) (k : ℕ) → x ≡ value (fault f) k → ⊥) → Says own name p x (of_answer own name p x)
    unfolding of_answer
    says (value (number v) k) h =
        pick_case (Says own name p (value (number v) k)) roomy (λ q. number_set v k (room q)) (λ q. number_many v k (full q))
    says (value (text j q s) k) h =
        pick_case (Says own name p (value (text j q s) k)) (leb (length s) MAX_CONTENT) (λ g. by (leb-true (length s) MAX_CONTENT g))
        (λ g. text_long j q s k (leb-false (length s) MAX_CONTENT g))
      where
        by : length s ≤ 56 → Says own name p (value (text j q s) k) (limited own (of_text name j s) k)
        by g = pick_case (Says own name p (value (text j q s) k)) roomy (λ u. text_set j q s k g (room u)) (λ u. text_many j q s k g (full u))
    says (value (fault f) k) h = absurd (h f k refl)
    says (refused r) h = refused_says r

    one : {x : Evaluation} {d : Definition} → Says own name p x d → of_answer own name p x ≡ d
    unfolding of_answer
    one (refused_there r h) = rw h
    one (refused_so r h) = rw h
    one (number_set v k h) = rw (roomed h)
    one (number_many v k h) = rw (filled h)
    one (text_set j q s k f h) = rw (le-leb (length s) MAX_CONTENT f, roomed h)
    one (text_long j q s k f) = rw (lt-leb (length s) MAX_CONTENT f)
    one (text_many j q s k f h) = rw (le-leb (length s) MAX_CONTENT f, filled h)

    -- THE FIRST THEOREM: the rules give one thing at most
    pub says_once : {x : Evaluation} {d d' : Definition} → Says own name p x d → Says own name p x d' → d ≡ d'
    says_once u v = sym (one u) ∙ one v

module _ (own : List Own) (t l : List ℕ) (δ : Dialect) where
  abbrev answer : List ℕ → Evaluation
  answer e = evaluation_in (over e (scope own t)) (by_itself δ.old)

  alike : (n n' e e' : List ℕ) (p p' : ℕ) → n ≡ n' → e ≡ e' → p ≡ p' → of_answer own n p (answer e) ≡ of_answer own n' p' (answer e')
  alike n n' e e' p p' a b c = rw (a, b, c)

  -- THE SECOND THEOREM
  pub line_says : (name e : List ℕ) → DefineLine l name e
      → Says own name (length l - length e) (evaluation_in (over e (scope own t)) (by_itself δ.old)) (definition_of own t l δ)
  unfolding definition_of
  line_says name e d =
      let w = line_parts l name e d in
      let start : expression_start l ≡ length l - length e = omega (arith, w.4) in
      rw (w.1, alike (macro_of l) name (expression_of l) e (expression_start l) (length l - length e) w.2 w.3 start)
      (says own name (length l - length e) (answer e) (no_fault (over e (scope own t)) (by_itself δ.old)))

  -- THE THIRD THEOREM
  pub other_shape : is_define l ≡ true → ((name e : List ℕ) → DefineLine l name e → ⊥) → definition_of own t l δ ≡ fails (unplaced TextMalformed)
  unfolding definition_of
  other_shape word none = by (shaped l) refl
    where
      by : (b : Bool) → shaped l ≡ b → definition_of own t l δ ≡ fails (unplaced TextMalformed)
      by true h = absurd (none (macro_of l) (expression_of l) (parts_line l word h))
      by false h = rw h

  -- THE FOURTH THEOREM
  pub long_name_refused : (name e : List ℕ) → DefineText l name e → 64 < length name → definition_of own t l δ ≡ fails (unplaced TextMalformed)
  unfolding definition_of
  long_name_refused name e d h = rw (long_name l (rw (name_run l name e d) h))
