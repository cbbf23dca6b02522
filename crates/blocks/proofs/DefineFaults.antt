-- A DEFINE line that is kept is refused with 2 to 12, 22, 27 or 28 only, with none of 17 to 21. Assumes nothing.
use Prim.Native.Nat.{ℕ, ◌≤◌}
use native.Mathlib.Omega.{arith}
use mathlib.Core.Path.{◌≡◌, refl, ◌∙◌}
use mathlib.Core.Bool.{Bool, true, false, ◌||◌}
use mathlib.Core.List.{List}
use lib.ListN.{length}
use lib.Dec.{eqb, ltb, leb}
use borrow.Author.Tests.{eqb-true, eqb-false}
use Rattle.units.specs.Refusals.{BAR_OUTSIDE, TEXT_MALFORMED, DEFINED_MANY, DEFINED_LONG, reason_number, unplaced}
use Rattle.units.specs.Dialects.{by_itself}
use Rattle.units.specs.declared.Dialect.{Dialect}
use Rattle.units.specs.declared.Reason.{Reason}
use Rattle.text.proofs.Laws.{pick_case}
use Rattle.own.specs.Own.{Own, scope, has, MAX_OWN}
use Rattle.value.specs.Places.{Memory, over}
use Rattle.value.specs.Values.{number, text, fault}
use Rattle.evaluation.specs.Evaluation.{Evaluation, value, refused, evaluation_in}
use Rattle.answers.proofs.RefusalNumbers.{from_expression, InAnswer, in_answer}
use Rattle.answers.proofs.Bars.{bars_only}
use Rattle.define.specs.Define.{MAX_CONTENT, shaped, macro_of, expression_start, expression_of, Definition, sets, fails, of_number, of_text, limited, of_answer}
use Rattle.define.specs.Define.{definition_of}

-- the numbers that an expression is refused with where bars need parentheses
abbrev from_any : ℕ → Bool
from_any r = from_expression r || eqb r BAR_OUTSIDE

abbrev pub from_define : ℕ → Bool
from_define r = from_any r || (eqb r TEXT_MALFORMED || (eqb r DEFINED_MANY || eqb r DEFINED_LONG))

pub define_not_of_lines : (r : ℕ) → from_define r ≡ true → 17 ≤ r → r ≤ 21 → ⊥
define_not_of_lines r h a b = grind arith

abbrev InAny : Evaluation → Type 0
InAny (value v n) = Unit
InAny (refused r) = from_any (reason_number r.reason) ≡ true

-- with 8, or with the number that it has where bars are free
in_any : (m : Memory) (δ : Dialect) (x : Evaluation) → evaluation_in m δ ≡ x → InAny x
in_any m δ (value v n) e = tt
in_any m δ (refused r) e = by (eqb (reason_number r.reason) BAR_OUTSIDE) refl
  where
    by : (b : Bool) → eqb (reason_number r.reason) BAR_OUTSIDE ≡ b → from_any (reason_number r.reason) ≡ true
    by true q = let z : reason_number r.reason ≡ BAR_OUTSIDE = eqb-true (reason_number r.reason) BAR_OUTSIDE q in rw z
    by false q =
        let same = bars_only m δ (rw e (eqb-false (reason_number r.reason) BAR_OUTSIDE q)) ∙ e in
        let h : InAnswer (refused r) = rw same at (in_answer m δ) in
        rw h

abbrev pub InDefinition : Definition → Type 0
InDefinition (sets x k) = Unit
InDefinition (fails x) = from_define (reason_number x.reason) ≡ true

in_limited : (own : List Own) (x : Own) (k : ℕ) → InDefinition (limited own x k)
in_limited own x k = pick_case InDefinition (has x.name own || ltb (length own) MAX_OWN) (λ _. tt) (λ _. refl)

of_answer_lem : (own : List Own) (n : List ℕ) (p : ℕ) (x : Evaluation) → InAny x → InDefinition (of_answer own n p x)
unfolding of_answer
of_answer_lem own n p (value (number x) k) h = in_limited own (of_number n x) k
of_answer_lem own n p (value (text j q s) k) h =
    pick_case InDefinition (leb (length s) MAX_CONTENT) (λ _. in_limited own (of_text n j s) k) (λ _. refl)
of_answer_lem own n p (value (fault f) k) h = refl
of_answer_lem own n p (refused r) h = rw h

pub in_definition : (own : List Own) (t l : List ℕ) (δ : Dialect) → InDefinition (definition_of own t l δ)
unfolding definition_of
in_definition own t l δ =
    let m : Memory = over (expression_of l) (scope own t) in
    let ε : Dialect = by_itself δ.old in
    pick_case InDefinition (shaped l)
    (λ _. of_answer_lem own (macro_of l) (expression_start l) (evaluation_in m ε) (in_any m ε (evaluation_in m ε) refl)) (λ _. refl)

pub define_never_own : (own : List Own) (t l : List ℕ) (δ : Dialect) (r : Reason)
    → 17 ≤ reason_number r → reason_number r ≤ 21 → definition_of own t l δ ≡ fails (unplaced r) → ⊥
define_never_own own t l δ r a b e =
    let h : InDefinition (fails (unplaced r)) = rw e at (in_definition own t l δ) in
    define_not_of_lines (reason_number r) h a b
