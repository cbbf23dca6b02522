-- Where the new edition refuses an expression or a macro's name neither with 3 nor with 22, both editions make the same condition of it.
-- Assumes nothing.
use Rattle.std.specs.Prelude.{Err, Ok, Result}
use Prim.Native.Nat.{ℕ}
use native.Mathlib.Omega.{arith}
use mathlib.Core.Path.{◌≡◌, refl, ap}
use mathlib.Core.Bool.{Bool, true, false}
use mathlib.Core.List.{List}
use lib.ListN.{get_or}
use lib.Dec.{eqb}
use borrow.Author.Tests.{eqb-true}
use Rattle.units.specs.Dialects.{in_directives, in_new, in_old}
use Rattle.units.specs.declared.Dialect.{Dialect}
use Rattle.units.specs.declared.Fault.{Fault}
use Rattle.units.specs.Refusals.{reason_number, TOKEN_BAD, TEXT_MALFORMED}
use Rattle.text.specs.Bytes.{byte}
use Rattle.text.specs.Names.{macro_name}
use Rattle.text.proofs.Laws.{pick_both}
use Rattle.value.specs.Places.{over}
use Rattle.evaluation.specs.Evaluation.{Evaluation, value, refused, refusal_number, evaluation_in}
use Rattle.line.specs.declared.Condition.{Condition}
use Rattle.line.specs.declared.Condition.TheVariants.{Holds, Fails}
use Rattle.condition.specs.Conditions.{spaced, of_answer, of_expression, name_at, plain_name, of_named}
use Rattle.editions.proofs.SameAnswers.{same_answer_in}

-- the number of a refusal, 0 if there is none
abbrev pub condition_number : Result Condition Fault → ℕ
condition_number (Ok (Holds n)) = 0
condition_number (Ok (Fails n)) = 0
condition_number (Err f) = reason_number f.reason

-- refused neither with 3 nor with 22
abbrev pub Fine : ℕ → Type 0
Fine n = (n ≡ TOKEN_BAD → ⊥) × (n ≡ TEXT_MALFORMED → ⊥)

-- the old edition's condition x is the new one's y, if y is fine
abbrev pub Same : (x y : Result Condition Fault) → Type 0
Same x y = Fine (condition_number y) → x ≡ y

unanswered : (x : Evaluation) → Fine (condition_number (of_answer x)) → refusal_number x ≡ TOKEN_BAD → ⊥
unfolding of_answer
unanswered (value v n) h e = omega arith
unanswered (refused r) h e = h.0 e

-- no name starts with `$`
pub no_name : (s : List ℕ) → eqb (get_or s 0 0) (byte "$") ≡ true → macro_name s ≡ 0
unfolding macro_name
no_name s e = rw (eqb-true (get_or s 0 0) (byte "$") e)

-- the new edition knows NAME only
pub new_name : (s : List ℕ) (δ : Dialect) → name_at s (in_new δ) ≡ plain_name s
unfolding name_at
new_name s δ = by (eqb (get_or s 0 0) (byte "$")) refl
  where
    by : (x : Bool) → eqb (get_or s 0 0) (byte "$") ≡ x → name_at s (in_new δ) ≡ plain_name s
    by true q = rw q
    by false q = rw q

module _ (t : List ℕ) (δ : Dialect) where
  pub same_expression : (s : List ℕ) → Same (of_expression t s (in_old δ)) (of_expression t s (in_new δ))
  unfolding of_expression
  same_expression s =
      pick_both Same (spaced s)
      (λ _ h. ap of_answer (same_answer_in (over s t) (in_directives δ) (unanswered (evaluation_in (over s t) (in_new (in_directives δ))) h)))
      (λ _ _. refl)

  pub same_name : (wanted : Bool) (s : List ℕ) → Same (of_named t wanted s (name_at s (in_old δ))) (of_named t wanted s (name_at s (in_new δ)))
  unfolding name_at of_named
  same_name wanted s = by (eqb (get_or s 0 0) (byte "$")) refl
    where
      by : (b : Bool) → eqb (get_or s 0 0) (byte "$") ≡ b → Same (of_named t wanted s (name_at s (in_old δ))) (of_named t wanted s (name_at s (in_new δ)))
      by true e h = absurd (h.1 (rw (new_name s δ, no_name s e)))
      by false e h = rw e
