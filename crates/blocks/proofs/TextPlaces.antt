-- The place of a refused condition: that of the expression in an `!if` or `!elseif`, moved by the start of its text, or none. Assumes nothing.
use Prim.Native.Nat.{ℕ, ◌+◌, ◌≤◌}
use native.Mathlib.Omega.{arith}
use mathlib.Core.Path.{◌≡◌, refl, sym, ap, ◌∙◌}
use mathlib.Core.Logic.{◌⊎◌, inl, inr}
use mathlib.Core.Bool.{Bool, true, false, not, false≢true}
use mathlib.Core.List.{List}
use lib.ListN.{length, get_or, drop, length-drop}
use lib.Dec.{eqb}
use borrow.Author.Tests.{eqb-true, eqb-false}
use Rattle.std.specs.Prelude.{Ok, Err, Result}
use Rattle.units.specs.Refusals.{placed}
use Rattle.units.specs.Dialects.{in_directives}
use Rattle.units.specs.declared.Dialect.{Dialect}
use Rattle.units.specs.declared.Fault.{Fault}
use Rattle.units.specs.declared.Refusal.{Refusal}
use Rattle.text.specs.Bytes.{byte, pick}
use Rattle.text.specs.Runs.{span}
use Rattle.text.specs.declared.runs.Set.TheVariants.{Blanks}
use Rattle.text.proofs.Laws.{pick_case}
use Rattle.own.specs.Own.{scope}
use Rattle.value.specs.Places.{over}
use Rattle.value.specs.Values.{number, text, fault}
use Rattle.evaluation.specs.Evaluation.{Evaluation, value, refused, evaluation_in}
use Rattle.line.specs.Directives.{text_start, text_of, directive_of}
use Rattle.line.specs.declared.Directive.{Directive}
use Rattle.line.specs.declared.Directive.TheVariants.{Plain, If, Ifdef, Ifndef, Elseif, Else, Endif, Unknown}
use Rattle.line.specs.declared.Condition.{Condition}
use Rattle.line.specs.declared.Condition.TheVariants.{Holds, Fails}
use Rattle.line.proofs.Words.{bang_inside, plain_line, word_inside, text_starts}
use Rattle.condition.specs.Conditions.{spaced, idle, of_answer, of_expression, name_at, alone, present, of_named, of_macro, evaluate, in_line, condition_of}
use Rattle.condition.specs.declared.macros.Named.{Named}
use Rattle.condition.proofs.PlaceWithin.{place_within}
use Rattle.groups.specs.Groups.{State}
use Rattle.blocks.specs.Offsets.{condition, PlacedIn}
use Rattle.blocks.proofs.Reasons.{same_reason}

-- a condition whose refusal has no place in the text
abbrev BareCondition : Result Condition Fault → Type 0
BareCondition (Ok c) = Unit
BareCondition (Err y) = placed y.reason ≡ false

named_bare : (t : List ℕ) (wanted : Bool) (s : List ℕ) (n : Named) → BareCondition (of_named t wanted s n)
unfolding of_named
named_bare t wanted s n =
    pick_case BareCondition (alone s n)
    (λ _. pick_case BareCondition (pick wanted (present t s n) (not (present t s n))) (λ _. tt) (λ _. tt)) (λ _. refl)

macro_bare : (t : List ℕ) (δ : Dialect) (wanted : Bool) (s : List ℕ) → BareCondition (of_macro t wanted s δ)
unfolding of_macro
macro_bare t δ wanted s =
    let m = drop (span Blanks s) s in
    pick_case BareCondition (spaced s) (λ _. named_bare t wanted m (name_at m δ)) (λ _. refl)

nothing_bare : (t : List ℕ) (δ : Dialect) (s : List ℕ) → BareCondition (evaluate t Else s δ)
unfolding evaluate
nothing_bare t δ s = pick_case BareCondition (idle s) (λ _. tt) (λ _. refl)

-- the refusal with a place is that of the answer
abbrev Answered : Evaluation → Fault → Type 0
Answered x y = (r : Refusal) × (x ≡ refused r) × (r.reason ≡ y.reason) × (r.offset.0 ≡ y.at.0)

abbrev FromAnswer : Evaluation → Result Condition Fault → Type 0
FromAnswer x (Ok c) = Unit
FromAnswer x (Err y) = placed y.reason ≡ true → Answered x y

of_answer_lem : (x : Evaluation) → FromAnswer x (of_answer x)
unfolding of_answer
of_answer_lem (value (number a) n) =
    let x : Evaluation = value (number a) n in
    pick_case (FromAnswer x) (eqb a 1) (λ _. tt) (λ _. pick_case (FromAnswer x) (eqb a 0) (λ _. tt) (λ _ h. absurd (false≢true h)))
of_answer_lem (value (text k p s) n) = λ h. absurd (false≢true h)
of_answer_lem (value (fault r) n) = λ h. absurd (false≢true h)
of_answer_lem (refused r) = λ h. (r, refl, refl, refl)

-- what a refused condition with a place in its text comes from
abbrev Expressed : (t : List ℕ) → Directive → List ℕ → Dialect → Fault → Type 0
Expressed t d s δ y = ((d ≡ If) ⊎ (d ≡ Elseif)) × Answered (evaluation_in (over s t) (in_directives δ)) y

module _ (t s : List ℕ) (δ : Dialect) (y : Fault) (h : placed y.reason ≡ true) where
  expressed : of_expression t s δ ≡ Err y → Answered (evaluation_in (over s t) (in_directives δ)) y
  unfolding of_expression
  expressed e =
      let x : Evaluation = evaluation_in (over s t) (in_directives δ) in
      let g : FromAnswer x (of_expression t s δ) =
      pick_case (FromAnswer x) (spaced s) (λ _. of_answer_lem x) (λ _ i. absurd (false≢true i)) in
      let k : FromAnswer x (Err y) = rw e at g in
      k h

  bare : (A : Type 0) (c : Result Condition Fault) → BareCondition c → c ≡ Err y → A
  bare A c g e = let k : BareCondition (Err y) = rw e at g in absurd (false≢true (sym k ∙ h))

  from_text : (d : Directive) → evaluate t d s δ ≡ Err y → Expressed t d s δ y
  unfolding evaluate
  from_text If e = (inl refl, expressed e)
  from_text Elseif e = (inr refl, expressed e)
  from_text Ifdef e = bare _ (of_macro t true s δ) (macro_bare t δ true s) e
  from_text Ifndef e = bare _ (of_macro t false s δ) (macro_bare t δ false s) e
  from_text Else e = bare _ (evaluate t Else s δ) (nothing_bare t δ s) e
  from_text Endif e = bare _ (evaluate t Endif s δ) (nothing_bare t δ s) e
  from_text Plain e = absurd cc
  from_text Unknown e = absurd cc

-- a refused condition in its line, by that in the text
record InText (p : ℕ) (c : Result Condition Fault) (x : Fault) : Type 0 where
  inner : Fault
  refused : c ≡ Err inner
  reason : inner.reason ≡ x.reason
  at : x.at.0 ≡ pick (placed inner.reason) (p + inner.at.0) 0

in_text : (p : ℕ) (c : Result Condition Fault) (x : Fault) → in_line p c ≡ Err x → InText p c x
in_text p (Ok (Holds n)) x e = absurd cc
in_text p (Ok (Fails n)) x e = absurd cc
in_text p (Err y) x e =
    let q : record { reason = y.reason; at = record { 0 = pick (placed y.reason) (p + y.at.0) 0 } } ≡ x = cc in
    record { inner = y; refused = refl; reason = same_reason q; at = ap (λ (z : Fault). z.at.0) (sym q) }

-- the text after the word of a directive starts within the line
text_inside : (l : List ℕ) → (directive_of l ≡ Plain → ⊥) → text_start l ≤ length l
text_inside l h = by (eqb (get_or l (span Blanks l) 0) (byte "!")) refl
  where
    at : span Blanks l ≡ 0 + span Blanks l
    at = omega arith

    by : (b : Bool) → eqb (get_or l (span Blanks l) 0) (byte "!") ≡ b → text_start l ≤ length l
    by true e = rw (← text_starts l at refl) (word_inside l at refl (bang_inside l at (eqb-true _ _ e)))
    by false e = absurd (h (plain_line l at (eqb-false _ _ e)))

conditional_other : (d : Directive) → (d ≡ If) ⊎ (d ≡ Elseif) → d ≡ Plain → ⊥
conditional_other d h q = grind arith

module _ (t : List ℕ) (s : State) (l : List ℕ) (δ : Dialect) (x : Fault) (e : condition_of (scope s.own t) (directive_of l) l δ ≡ Err x) where
  abbrev known : List ℕ
  known = scope s.own t

  inside : InText (text_start l) (evaluate known (directive_of l) (text_of l) δ) x
  inside = in_text (text_start l) (evaluate known (directive_of l) (text_of l) δ) x e

  pub bare_place : placed x.reason ≡ false → x.at.0 ≡ 0
  bare_place h =
      let k : placed inside.inner.reason ≡ false = ap placed inside.reason ∙ h in
      inside.at ∙ rw k

  pub placed_place : placed x.reason ≡ true → PlacedIn t s l x δ
  placed_place h =
      let k : placed inside.inner.reason ≡ true = ap placed inside.reason ∙ h in
      let w = from_text known (text_of l) δ inside.inner k (directive_of l) inside.refused in
      let r = w.1 in
      let place : x.at.0 ≡ text_start l + inside.inner.at.0 = inside.at ∙ rw k in
      let within = place_within known (directive_of l) (text_of l) δ inside.inner inside.refused in
      let start = text_inside l (conditional_other (directive_of l) w.0) in
      record {
        text = text_of l;
        start = text_start l;
        dialect = in_directives δ;
        expression = condition w.0;
        refusal = r.0;
        answered = r.1;
        number = r.2 ∙ inside.reason;
        place = place ∙ ap (λ i. text_start l + i) (sym r.3);
        within = omega (arith, length-drop (text_start l) l);
      }
