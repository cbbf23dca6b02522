-- A refusal of an expression that has no place, which is none of 3 to 12, has offset 0 (document 02, order 3), and no offset is past the
-- expression. Assumes nothing.
use Rattle.std.specs.Prelude.{Err, None, Ok, Option, Result, Some}
use Prim.Native.Nat.{ℕ, ◌≤◌}
use native.Mathlib.Omega.{arith}
use mathlib.Core.Path.{◌≡◌, refl, sym, ◌∙◌}
use mathlib.Core.Logic.{◌⊎◌, inl, inr}
use mathlib.Core.Bool.{true, false, false≢true}
use mathlib.Core.List.{List}
use lib.ListN.{length}
use Rattle.units.specs.Refusals.{refusal_at, placed}
use Rattle.units.specs.declared.Dialect.{Dialect}
use Rattle.units.specs.declared.Refusal.{Refusal}
use Rattle.units.specs.declared.Offset.{Offset}
use Rattle.units.specs.declared.Reason.{Reason}
use Rattle.units.specs.declared.Reason.TheVariants.{TableMalformed, TokenBad, LiteralLarge, TokensMany, ParenthesesDeep}
use Rattle.units.specs.declared.Reason.TheVariants.{NoDerivation, BarOutside, PcdMissing, KindsUnsuited}
use Rattle.text.specs.Bytes.{pick}
use Rattle.text.proofs.Laws.{pick_case}
use Rattle.settings.specs.Table.{well_formed}
use Rattle.token.specs.Tokens.{Token, reading}
use Rattle.token.proofs.Endings.{every_ending}
use Rattle.grammar.specs.Parse.{Outcome, refused as underived, accepted, parse}
use Rattle.grammar.proofs.Decided.{evaluates}
use Rattle.value.specs.Places.{Memory}
use Rattle.value.specs.Kinds.{clashes}
use Rattle.value.specs.Values.{Value, number, text, fault, RuntimeRefusal, HasKind}
use Rattle.value.specs.Attributes.{Attributes}
use Rattle.value.specs.declared.Kind.{Kind}
use Rattle.value.specs.declared.Kind.TheVariants.{Clash}
use Rattle.soundness.proofs.KindSound.{KindSound}
use Rattle.expression.specs.Meaning.{code_of, meaning}
use Rattle.leftmost.specs.Leftmost.{bar_at, pcd_at}
use Rattle.evaluation.specs.Evaluation.{Evaluation, value, refused, refused_with, offset_of, answer_value, clash_in, refused_or, check_then_answer}
use Rattle.evaluation.specs.Evaluation.{token_in, start_in, answer_tokens, of_tokens, ended, evaluation_in, evaluation}
use Rattle.evaluation.proofs.FromTree.{tokens_read}
use Rattle.evaluation.proofs.OffsetWithin.{answer_within}
use Rattle.answers.proofs.AnswersExact.{kind_sound}
use Rattle.answers.proofs.RefusalNumbers.{in_lexeme}

-- a refusal, an ending and an answer without a place have offset 0
abbrev Zero : Refusal → Type 0
Zero r = placed r.reason ≡ false → r.offset.0 ≡ 0

abbrev EndsZero : Result Offset Refusal → Type 0
EndsZero (Ok end) = Unit
EndsZero (Err r) = Zero r

abbrev AnswersZero : Evaluation → Type 0
AnswersZero (value v n) = Unit
AnswersZero (refused r) = Zero r

has_place : (n : Reason) (o : ℕ) → placed n ≡ true → Zero (refusal_at n o)
has_place n o h e = absurd (false≢true (sym e ∙ h))

bad_placed : (r : Reason) → (r ≡ TokenBad) ⊎ (r ≡ LiteralLarge) → placed r ≡ true
bad_placed r (inl h) = rw h
bad_placed r (inr h) = rw h

reading_zero : (e : List ℕ) (δ : Dialect) → EndsZero (reading e δ).ending
reading_zero e δ =
    every_ending e δ EndsZero
    (record {
      complete = λ at h. tt;
      bad = λ at h q s r w. has_place r at (bad_placed r (rw w at (in_lexeme q s δ)));
      many = λ at h. has_place TokensMany at refl;
      deep = λ at h. has_place ParenthesesDeep at refl;
      long = λ e. refl;
    })

runtime_placed : (n : Reason) → RuntimeRefusal n → placed n ≡ true
runtime_placed n (inl h) = rw h
runtime_placed n (inr h) = rw h

value_zero : (k : Kind) (v : Value) (n : ℕ) → HasKind k v → AnswersZero (answer_value v n)
value_zero k (number x) n h = tt
value_zero k (text j p s) n h = tt
value_zero k (fault f) n h = has_place f.reason f.at.0 (runtime_placed f.reason h)

or_zero : (w : Option Offset) (r : Reason) (x : Evaluation) → placed r ≡ true → AnswersZero x → AnswersZero (refused_or w r x)
or_zero None r x g h = h
or_zero (Some o) r x g h = has_place r o.0 g

kind_zero : (k : Kind) (v : Value) (n : ℕ) → (clashes k ≡ false → HasKind k v) → AnswersZero (refused_or (clash_in k) KindsUnsuited (answer_value v n))
kind_zero (Clash p) v n h = has_place KindsUnsuited p refl
kind_zero k v n h = value_zero k v n (h refl)

check_zero : (bar pcd : Option Offset) (a : Attributes) → KindSound a → AnswersZero (check_then_answer bar pcd a)
check_zero bar pcd a h = or_zero bar BarOutside _ refl (or_zero pcd PcdMissing _ refl (kind_zero a.kind a.value a.count h))

module _ (m : Memory) (δ : Dialect) where
  abbrev ts : List Token
  ts = (reading m.expression δ).tokens

  parsed : (start : ℕ → ℕ) (o : Outcome Attributes) → parse code_of (meaning m) (token_in ts) (length ts) ≡ o
      → AnswersZero (answer_tokens start (bar_at ts δ) (pcd_at m ts) o)
  parsed start (underived i) p = has_place NoDerivation (start i) refl
  parsed start (accepted a) p =
      let r = ((evaluates (tokens_read m δ) (meaning m)).accepted_exactly a).0 p in
      let q : KindSound a = rw r.2 (kind_sound m r.0) in
      check_zero (bar_at ts δ) (pcd_at m ts) a q

  in_zero : AnswersZero (evaluation_in m δ)
  unfolding evaluation_in of_tokens
  in_zero = by (reading m.expression δ).ending (reading_zero m.expression δ)
    where
      by : (x : Result Offset Refusal) → EndsZero x → AnswersZero (ended x (λ end. of_tokens m ts end δ))
      by (Err r) h = h
      by (Ok end) h = parsed (start_in ts end.0) (parse code_of (meaning m) (token_in ts) (length ts)) refl

  -- THE THEOREM
  pub offset_zero : (r : Refusal) → evaluation m δ ≡ refused r → placed r.reason ≡ false → r.offset.0 ≡ 0
  unfolding evaluation
  offset_zero r e =
      let answer : AnswersZero (pick (well_formed m.table) (evaluation_in m δ) (refused_with TableMalformed)) =
      pick_case AnswersZero (well_formed m.table) (λ _. in_zero) (λ _ _. refl) in
      rw e at answer

  -- and any offset is within the expression
  pub offset_in_expression : offset_of (evaluation m δ) ≤ length m.expression
  unfolding evaluation
  offset_in_expression = pick_case (λ (x : Evaluation). offset_of x ≤ length m.expression) (well_formed m.table) (λ _. answer_within m δ) (λ _. omega arith)
