-- The place of a refused DEFINE line: that of its expression, moved by the start of the expression in the line, or none. Assumes nothing.
use Prim.Native.Nat.{ℕ, ◌+◌, ◌≤◌}
use native.Mathlib.Omega.{arith}
use mathlib.Core.Path.{◌≡◌, refl}
use mathlib.Core.Bool.{Bool, true, false, ◌||◌, false≢true}
use mathlib.Core.List.{List}
use lib.ListN.{length, get_or, length-drop}
use lib.Dec.{eqb, ltb, leb}
use borrow.Author.Tests.{eqb-true}
use Rattle.units.specs.Refusals.{unplaced, placed}
use Rattle.units.specs.Dialects.{by_itself}
use Rattle.units.specs.declared.Dialect.{Dialect}
use Rattle.units.specs.declared.Fault.{Fault}
use Rattle.units.specs.declared.Refusal.{Refusal}
use Rattle.units.specs.declared.Reason.{Reason}
use Rattle.units.specs.declared.Reason.TheVariants.{DefinedLong, DefinedMany, TextMalformed}
use Rattle.text.specs.Bytes.{byte, blank}
use Rattle.text.proofs.Laws.{pick_case, and_right, inside}
use Rattle.own.specs.Own.{Own, scope, has, MAX_OWN}
use Rattle.value.specs.Places.{Memory, over}
use Rattle.value.specs.Values.{number, text, fault}
use Rattle.evaluation.specs.Evaluation.{Evaluation, value, refused, evaluation_in}
use Rattle.evaluation.proofs.OffsetWithin.{offset_within}
use Rattle.define.specs.Define.{after_word, name_length, equals_at, MAX_NAME, MAX_CONTENT, shaped}
use Rattle.define.specs.Define.{macro_of, expression_start, expression_of, Definition, sets, fails}
use Rattle.define.specs.Define.{of_number, of_text, limited, of_answer, definition_of}
use Rattle.groups.specs.Groups.{State}
use Rattle.select.specs.Step.{defines}
use Rattle.blocks.specs.Offsets.{definition, PlacedIn}

-- a fault without a place, or with that of an answer to an expression that starts at byte p
record Located (p : ℕ) (y : Evaluation) (x : Fault) : Type 0 where
  bare : placed x.reason ≡ false → x.at.0 ≡ 0
  answered : placed x.reason ≡ true → (r : Refusal) × (y ≡ refused r) × (r.reason ≡ x.reason) × (x.at.0 ≡ p + r.offset.0)

abbrev Locates : (p : ℕ) → Evaluation → Definition → Type 0
Locates p y (sets x k) = Unit
Locates p y (fails x) = Located p y x

module _ (own : List Own) (n : List ℕ) (p : ℕ) (y : Evaluation) where
  bare_located : (k : Reason) → placed k ≡ false → Located p y (unplaced k)
  bare_located k h = record { bare = λ _. refl; answered = λ e. absurd (false≢true (rw h at e)) }

  limited_located : (x : Own) (k : ℕ) → Locates p y (limited own x k)
  limited_located x k = pick_case (Locates p y) (has x.name own || ltb (length own) MAX_OWN) (λ _. tt) (λ _. bare_located DefinedMany refl)

  answer_located : (z : Evaluation) → y ≡ z → Locates p y (of_answer own n p z)
  unfolding of_answer
  answer_located (value (number x) k) e = limited_located (of_number n x) k
  answer_located (value (text j q s) k) e =
      pick_case (Locates p y) (leb (length s) MAX_CONTENT) (λ _. limited_located (of_text n j s) k) (λ _. bare_located DefinedLong refl)
  answer_located (value (fault f) k) e = bare_located DefinedLong refl
  answer_located (refused r) e = record { bare = λ h. rw h; answered = λ h. (r, e, refl, rw h) }

-- the `=` is inside the line
equals_inside : (l : List ℕ) → shaped l ≡ true → expression_start l ≤ length l
unfolding shaped
equals_inside l h =
    let a = and_right (blank (get_or l (after_word l) 0)) _ h in
    let b = and_right (ltb 0 (name_length l)) _ a in
    let c : eqb (get_or l (equals_at l) 0) (byte "=") ≡ true = and_right (leb (name_length l) MAX_NAME) _ b in
    let d = eqb-true (get_or l (equals_at l) 0) (byte "=") c in
    omega (arith, inside l (equals_at l) (λ z. omega (arith, d, z)))

module _ (t : List ℕ) (s : State) (l : List ℕ) (δ : Dialect) (x : Fault) (kept : defines s l ≡ true) (e : definition_of s.own t l δ ≡ fails x) where
  abbrev memory : Memory
  memory = over (expression_of l) (scope s.own t)

  abbrev answer : Evaluation
  answer = evaluation_in memory (by_itself δ.old)

  located : Located (expression_start l) answer x
  unfolding definition_of
  located =
      let p : ℕ = expression_start l in
      let h : Locates p answer (definition_of s.own t l δ) =
      pick_case (Locates p answer) (shaped l) (λ _. answer_located s.own (macro_of l) p answer answer refl)
      (λ _. bare_located s.own (macro_of l) p answer TextMalformed refl) in
      let k : Locates p answer (fails x) = rw e at h in
      k

  -- a line of another shape is refused with 22, which has no place
  well_shaped : placed x.reason ≡ true → shaped l ≡ true
  unfolding definition_of
  well_shaped h = by (shaped l) refl
    where
      by : (b : Bool) → shaped l ≡ b → shaped l ≡ true
      by true q = q
      by false q =
          let z : fails (unplaced TextMalformed) ≡ fails x = rw q at e in
          let y : unplaced TextMalformed ≡ x = cc in
          absurd (false≢true (rw (← y) at h))

  pub define_bare : placed x.reason ≡ false → x.at.0 ≡ 0
  define_bare = located.bare

  pub define_placed : placed x.reason ≡ true → PlacedIn t s l x δ
  define_placed h =
      let r = located.answered h in
      let start = equals_inside l (well_shaped h) in
      let within = offset_within memory (by_itself δ.old) r.0 r.1 in
      record {
        text = expression_of l;
        start = expression_start l;
        dialect = by_itself δ.old;
        expression = definition kept;
        refusal = r.0;
        answered = r.1;
        number = r.2;
        place = r.3;
        within = omega (arith, r.3, length-drop (expression_start l) l);
      }
