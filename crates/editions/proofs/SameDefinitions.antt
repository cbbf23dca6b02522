-- Where the new edition refuses a DEFINE line neither with 3 nor with 22, it says the same in both editions. Assumes nothing.
use Prim.Native.Nat.{ℕ}
use native.Mathlib.Omega.{arith}
use mathlib.Core.Path.{◌≡◌, refl, ap}
use mathlib.Core.List.{List}
use Rattle.units.specs.Dialects.{NEW, in_new, in_old}
use Rattle.units.specs.declared.Dialect.{Dialect}
use Rattle.units.specs.Refusals.{reason_number, TOKEN_BAD}
use Rattle.text.proofs.Laws.{pick_both}
use Rattle.own.specs.Own.{Own, scope}
use Rattle.value.specs.Places.{Memory, over}
use Rattle.evaluation.specs.Evaluation.{Evaluation, value, refused, refusal_number, evaluation_in}
use Rattle.define.specs.Define.{shaped, macro_of, expression_start, expression_of, Definition, sets, fails, of_answer, definition_of}
use Rattle.editions.proofs.SameAnswers.{same_answer_in}
use Rattle.editions.proofs.SameConditions.{Fine}

-- the number of a refusal, 0 if there is none
abbrev pub definition_number : Definition → ℕ
definition_number (sets x k) = 0
definition_number (fails f) = reason_number f.reason

-- what the old edition says is what the new one says, y, if y is fine
abbrev Same : (x y : Definition) → Type 0
Same x y = Fine (definition_number y) → x ≡ y

unanswered : (o : List Own) (n : List ℕ) (p : ℕ) (x : Evaluation) → Fine (definition_number (of_answer o n p x)) → refusal_number x ≡ TOKEN_BAD → ⊥
unfolding of_answer
unanswered o n p (value v k) h e = omega arith
unanswered o n p (refused r) h e = h.0 e

-- THE THEOREM
pub same_definition : (o : List Own) (t l : List ℕ) (δ : Dialect) → Same (definition_of o t l (in_old δ)) (definition_of o t l (in_new δ))
unfolding definition_of
same_definition o t l δ =
    let m : Memory = over (expression_of l) (scope o t) in
    pick_both Same (shaped l)
    (λ _ h. ap (of_answer o (macro_of l) (expression_start l))
    (same_answer_in m NEW (unanswered o (macro_of l) (expression_start l) (evaluation_in m NEW) h)))
    (λ _ _. refl)
