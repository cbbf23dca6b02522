-- Where the new edition's answer to an expression, or its field, is not refused with 3, the old one's is the same. Assumes nothing.
use Rattle.std.specs.Prelude.{Err, Ok, Result}
use Prim.Native.Nat.{ℕ}
use native.Mathlib.Omega.{arith}
use mathlib.Core.Path.{◌≡◌, refl, ap, ◌∙◌}
use mathlib.Core.List.{List}
use Rattle.units.specs.Dialects.{in_new, in_old}
use Rattle.units.specs.declared.Dialect.{Dialect}
use Rattle.units.specs.Refusals.{TOKEN_BAD}
use Rattle.units.specs.declared.Offset.{Offset}
use Rattle.units.specs.declared.Refusal.{Refusal}
use Rattle.text.proofs.Laws.{pick_both}
use Rattle.settings.specs.Table.{well_formed}
use Rattle.token.specs.Tokens.{ending_number, reading}
use Rattle.value.specs.Places.{Memory}
use Rattle.value.specs.Values.{Value}
use Rattle.evaluation.specs.Evaluation.{Evaluation, value, refused, refusal_number, of_tokens, ended, evaluation_in, evaluation}
use Rattle.field.specs.Fields.{written_number, written, field_of}
use Rattle.editions.proofs.SameReading.{same_reading}

-- a reading that ends in 3 makes the answer 3
unread : (x : Result Offset Refusal) (k : ℕ → Evaluation) → (refusal_number (ended x k) ≡ TOKEN_BAD → ⊥) → ending_number x ≡ TOKEN_BAD → ⊥
unread (Err r) k h e = h e
unread (Ok end) k h e = omega arith

module _ (m : Memory) (δ : Dialect) where
  pub same_answer_in : (refusal_number (evaluation_in m (in_new δ)) ≡ TOKEN_BAD → ⊥) → evaluation_in m (in_old δ) ≡ evaluation_in m (in_new δ)
  unfolding evaluation_in of_tokens
  same_answer_in h = rw (same_reading m.expression δ (unread (reading m.expression (in_new δ)).ending _ h)) refl

  pub same_answer : (refusal_number (evaluation m (in_new δ)) ≡ TOKEN_BAD → ⊥) → evaluation m (in_old δ) ≡ evaluation m (in_new δ)
  unfolding evaluation
  same_answer = pick_both (λ x y. (refusal_number y ≡ TOKEN_BAD → ⊥) → x ≡ y) (well_formed m.table) (λ _ h. same_answer_in h) (λ _ _. refl)

  pub same_value : (v : Value) (n : ℕ) → evaluation m (in_new δ) ≡ value v n → evaluation m (in_old δ) ≡ value v n
  same_value v n e = same_answer (rw e (λ z. omega arith)) ∙ e

  module _ (datum : ℕ) (buffer : List ℕ) where
    unwritten : (x : Evaluation) → (written_number (written x datum buffer).answer ≡ TOKEN_BAD → ⊥) → refusal_number x ≡ TOKEN_BAD → ⊥
    unwritten (refused r) h e = h e
    unwritten (value v n) h e = omega arith

    pub same_field : (written_number (field_of m datum buffer (in_new δ)).answer ≡ TOKEN_BAD → ⊥)
        → field_of m datum buffer (in_old δ) ≡ field_of m datum buffer (in_new δ)
    unfolding field_of
    same_field h = ap (λ x. written x datum buffer) (same_answer (unwritten (evaluation m (in_new δ)) h))

    pub same_written : (n : ℕ) (left : List ℕ) → field_of m datum buffer (in_new δ) ≡ record { answer = Ok n; buffer = left }
        → field_of m datum buffer (in_old δ) ≡ record { answer = Ok n; buffer = left }
    same_written n left e = same_field (rw e (λ z. omega arith)) ∙ e
