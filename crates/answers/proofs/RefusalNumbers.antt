-- The numbers that an expression can be refused with where no bar is refused: reading has 2 to 6, and then come 7 and 9 to 12. So 8 is the
-- number of a bar alone. Assumes nothing.
use Rattle.std.specs.Prelude.{Err, None, Ok, Option, Result, Some}
use Prim.Native.Nat.{ℕ, ◌+◌}
use mathlib.Core.Path.{◌≡◌, refl}
use mathlib.Core.Logic.{◌⊎◌, inl, inr}
use mathlib.Core.Bool.{Bool, true, false, not, ◌&&◌}
use mathlib.Core.List.{List, [], ◌∷◌}
use lib.ListN.{length, get_or, take, drop}
use lib.Dec.{eqb, ltb, leb}
use Rattle.units.specs.Refusals.{reason_number, EXPRESSION_LONG, BAR_OUTSIDE, DIVISOR_ZERO}
use Rattle.units.specs.Dialects.{in_directives}
use Rattle.units.specs.declared.Dialect.{Dialect}
use Rattle.units.specs.declared.Offset.{Offset}
use Rattle.units.specs.declared.Reason.{Reason}
use Rattle.units.specs.declared.Reason.TheVariants.{KindsUnsuited, LiteralLarge, PcdMissing, TokenBad}
use Rattle.units.specs.declared.Refusal.{Refusal}
use Rattle.text.specs.Bytes.{byte, class_of}
use Rattle.text.specs.Runs.{span, string_set}
use Rattle.text.specs.Order.{equal}
use Rattle.text.specs.Names.{macro_name, pcd_name}
use Rattle.text.specs.declared.bytes.Class.{Class}
use Rattle.text.specs.declared.bytes.Class.TheVariants.{Initial, Digit, Quote, Operator, Dollar}
use Rattle.text.specs.declared.runs.Set.TheVariants.{Word}
use Rattle.text.proofs.Laws.{pick_case}
use Rattle.codes.specs.Spellings.{Spelling, words, symbols}
use Rattle.codes.specs.Codes.{STRING, WIDE}
use Rattle.codes.specs.declared.Lexeme.{Lexeme}
use Rattle.literal.specs.Literal.{literal, is_decimal, is_hexadecimal, hexadecimal_of, number_of}
use Rattle.lexeme.specs.Lexeme.{string_of, string_at, spelled, is_wide, or_bare, word_of, macro_of, begins, leading, lexeme_by, lexeme}
use Rattle.token.specs.Tokens.{Token, reading}
use Rattle.token.proofs.Endings.{every_ending}
use Rattle.grammar.specs.Parse.{Outcome, refused as underived, accepted, parse}
use Rattle.grammar.proofs.Decided.{evaluates}
use Rattle.value.specs.Places.{Memory}
use Rattle.value.specs.Values.{Value, number, text, fault, RuntimeRefusal, HasKind}
use Rattle.value.specs.Kinds.{clashes}
use Rattle.value.specs.Attributes.{Attributes}
use Rattle.value.specs.declared.Kind.{Kind}
use Rattle.value.specs.declared.Kind.TheVariants.{Clash}
use Rattle.soundness.proofs.KindSound.{KindSound}
use Rattle.expression.specs.Meaning.{code_of, meaning}
use Rattle.leftmost.specs.Leftmost.{pcd_at}
use Rattle.evaluation.specs.Evaluation.{Evaluation, value, refused, answer_value, clash_in, refused_or, check_then_answer, token_in, start_in, answer_tokens}
use Rattle.evaluation.specs.Evaluation.{of_tokens, ended, evaluation_in}
use Rattle.evaluation.proofs.FromTree.{tokens_read}
use Rattle.answers.proofs.AnswersExact.{kind_sound}

abbrev pub from_expression : ℕ → Bool
from_expression r = leb EXPRESSION_LONG r && (leb r DIVISOR_ZERO && not (eqb r BAR_OUTSIDE))

-- a token is refused with 3 or 4
abbrev pub InLexeme : Result Lexeme Reason → Type 0
InLexeme (Ok f) = Unit
InLexeme (Err r) = (r ≡ TokenBad) ⊎ (r ≡ LiteralLarge)

in_literal : (n v : ℕ) → InLexeme (literal n v)
unfolding literal
in_literal n v = pick_case InLexeme (ltb v _) (λ _. tt) (λ _. inr refl)

in_number : (n : ℕ) (s : List ℕ) → InLexeme (number_of n s)
unfolding number_of hexadecimal_of
in_number n s =
    pick_case InLexeme (is_decimal s n) (λ _. in_literal n _)
    (λ _. pick_case InLexeme (is_hexadecimal s n) (λ _. in_literal n _) (λ _. inl refl))

in_string : (code k : ℕ) (s : List ℕ) → InLexeme (string_at code k s)
unfolding string_at string_of
in_string code k s = pick_case InLexeme (eqb (get_or s (k + 1 + span (string_set (get_or s k 0)) (drop (k + 1) s)) 0) (get_or s k 0)) (λ _. tt) (λ _. inl refl)

in_spelled : (xs : List Spelling) (w : List ℕ) → InLexeme (spelled xs w)
unfolding spelled
in_spelled [] w = inl refl
in_spelled (x ∷ xs) w = pick_case InLexeme (equal w x.text) (λ _. tt) (λ _. in_spelled xs w)

in_bare : (bare : Bool) (n : ℕ) (x : Result Lexeme Reason) → InLexeme x → InLexeme (or_bare bare n x)
in_bare bare n (Ok f) h = tt
in_bare true n (Err r) h = tt
in_bare false n (Err r) h = h

in_word : (n : ℕ) (after : Bool) (s : List ℕ) (δ : Dialect) → InLexeme (word_of n after s δ)
unfolding word_of
in_word n after s δ =
    pick_case InLexeme (ltb 0 (pcd_name s)) (λ _. tt)
    (λ _. pick_case InLexeme (is_wide s n) (λ _. in_string WIDE 1 s) (λ _. in_bare (after && δ.old) n (spelled words (take n s)) (in_spelled words (take n s))))

in_macro : (n : ℕ) (s : List ℕ) → InLexeme (macro_of n s)
unfolding macro_of
in_macro n s = pick_case InLexeme (eqb (get_or s 1 0) (byte "(") && (ltb 0 n && eqb (get_or s (2 + n) 0) (byte ")"))) (λ _. tt) (λ _. inl refl)

in_leading : (xs : List Spelling) (s : List ℕ) → InLexeme (leading xs s)
unfolding leading
in_leading [] s = inl refl
in_leading (x ∷ xs) s = pick_case InLexeme (begins x.text s) (λ _. tt) (λ _. in_leading xs s)

pub in_lexeme : (after : Bool) (s : List ℕ) (δ : Dialect) → InLexeme (lexeme after s δ)
unfolding lexeme lexeme_by
in_lexeme after s δ = by (class_of (get_or s 0 0))
  where
    by : (c : Class) → InLexeme (lexeme_by c after s δ)
    by Initial = in_word (span Word s) after s δ
    by Digit = in_number (span Word s) s
    by Quote = in_string STRING 0 s
    by Operator = in_leading symbols s
    by Dollar = in_macro (macro_name (drop 2 s)) s
    by _ = inl refl

-- reading
abbrev InEnding : Result Offset Refusal → Type 0
InEnding (Err r) = from_expression (reason_number r.reason) ≡ true
InEnding (Ok end) = Unit

in_bad : (r : Reason) → (r ≡ TokenBad) ⊎ (r ≡ LiteralLarge) → from_expression (reason_number r) ≡ true
in_bad r (inl h) = rw h
in_bad r (inr h) = rw h

in_reading : (e : List ℕ) (δ : Dialect) → InEnding (reading e δ).ending
in_reading e δ =
    every_ending e δ InEnding
    (record { complete = λ at h. tt; bad = λ at h q s r w. in_bad r (rw w at (in_lexeme q s δ)); many = λ at h. refl; deep = λ at h. refl; long = refl })

-- an expression
abbrev pub InAnswer : Evaluation → Type 0
InAnswer (value v n) = Unit
InAnswer (refused r) = from_expression (reason_number r.reason) ≡ true

runtime : (n : Reason) → RuntimeRefusal n → from_expression (reason_number n) ≡ true
runtime n (inl h) = rw h
runtime n (inr h) = rw h

in_answer_value : (k : Kind) (v : Value) (n : ℕ) → HasKind k v → InAnswer (answer_value v n)
in_answer_value k (number x) n h = tt
in_answer_value k (text j p s) n h = tt
in_answer_value k (fault f) n h = runtime f.reason h

in_or : (w : Option Offset) (r : Reason) (x : Evaluation) → from_expression (reason_number r) ≡ true → InAnswer x → InAnswer (refused_or w r x)
in_or None r x g h = h
in_or (Some o) r x g h = g

in_kind : (k : Kind) (v : Value) (n : ℕ) → (clashes k ≡ false → HasKind k v) → InAnswer (refused_or (clash_in k) KindsUnsuited (answer_value v n))
in_kind (Clash p) v n h = refl
in_kind k v n h = in_answer_value k v n (h refl)

pub in_check_then_answer : (pcd : Option Offset) (a : Attributes) → KindSound a → InAnswer (check_then_answer None pcd a)
in_check_then_answer pcd a h = in_or pcd PcdMissing _ refl (in_kind a.kind a.value a.count h)

module _ (m : Memory) (δ : Dialect) where
  abbrev ts : List Token
  ts = (reading m.expression (in_directives δ)).tokens

  parsed : (start : ℕ → ℕ) (o : Outcome Attributes) → parse code_of (meaning m) (token_in ts) (length ts) ≡ o
      → InAnswer (answer_tokens start None (pcd_at m ts) o)
  parsed start (underived i) p = refl
  parsed start (accepted a) p =
      let r = ((evaluates (tokens_read m (in_directives δ)) (meaning m)).accepted_exactly a).0 p in
      let q : KindSound a = rw r.2 (kind_sound m r.0) in
      in_check_then_answer (pcd_at m ts) a q

  by_ending : (x : Result Offset Refusal) → InEnding x → InAnswer (ended x (λ end. of_tokens m ts end (in_directives δ)))
  unfolding of_tokens
  by_ending (Err r) h = h
  by_ending (Ok end) h = parsed (start_in ts end.0) (parse code_of (meaning m) (token_in ts) (length ts)) refl

  pub in_answer : InAnswer (evaluation_in m (in_directives δ))
  unfolding evaluation_in
  in_answer = by_ending (reading m.expression (in_directives δ)).ending (in_reading m.expression (in_directives δ))
