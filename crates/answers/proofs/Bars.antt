-- The rule on bars decides refusal 8 and nothing else (document 02, order 1). Assumes nothing.
use Rattle.std.specs.Prelude.{Err, None, Ok, Option, Result, Some}
use Prim.Native.Nat.{ℕ, zero, suc}
use native.Mathlib.Omega.{arith}
use mathlib.Core.Path.{◌≡◌, refl, ap₂, fun_ext}
use mathlib.Core.Bool.{Bool, false, false≢true}
use mathlib.Core.List.{List, [], ◌∷◌}
use lib.ListN.{length, get_or}
use Rattle.units.specs.Dialects.{by_itself, in_directives}
use Rattle.units.specs.declared.Dialect.{Dialect}
use Rattle.units.specs.declared.Offset.{Offset}
use Rattle.units.specs.Refusals.{BAR_OUTSIDE}
use Rattle.units.specs.declared.Reason.TheVariants.{BarOutside}
use Rattle.units.specs.declared.Refusal.{Refusal}
use Rattle.text.specs.Bytes.{class_of}
use Rattle.text.specs.declared.bytes.Class.{Class}
use Rattle.text.specs.declared.bytes.Class.TheVariants.{Initial}
use Rattle.lexeme.specs.Lexeme.{word_of, lexeme_by, lexeme}
use Rattle.token.specs.Tokens.{Token, first_place, read_from, read_byte, reading}
use Rattle.grammar.specs.Grammar.{Tree, expression, Derives}
use Rattle.grammar.specs.Bars.{bare_bars}
use Rattle.grammar.specs.Fold.{fold}
use Rattle.grammar.specs.Parse.{Outcome, refused as underived, accepted, parse}
use Rattle.value.specs.Places.{Memory}
use Rattle.value.specs.Attributes.{Attributes}
use Rattle.expression.specs.Meaning.{code_of, meaning}
use Rattle.leftmost.specs.Leftmost.{bar_at, pcd_at}
use Rattle.evaluation.specs.Evaluation.{Evaluation, value, refused, refusal_number, refused_at, check_then_answer, token_in, start_in, answer_tokens, of_tokens}
use Rattle.evaluation.specs.Evaluation.{ended, evaluation_in}
use Rattle.answers.proofs.AnswersExact.{derived, kind_sound}
use Rattle.answers.proofs.RefusalNumbers.{InAnswer, in_check_then_answer}

-- the tokens of an expression do not depend on the rule
same_lexeme : (after : Bool) (s : List ℕ) (δ : Dialect) → lexeme after s (in_directives δ) ≡ lexeme after s δ
unfolding lexeme lexeme_by word_of
same_lexeme after s δ = by (class_of (get_or s 0 0))
  where
    by : (c : Class) → lexeme_by c after s (in_directives δ) ≡ lexeme_by c after s δ
    by Initial = refl
    by _ = refl

same_from : (at room inside : ℕ) (after : Bool) (s : List ℕ) (δ : Dialect)
    → read_from at room inside after s (in_directives δ) ≡ read_from at room inside after s δ
unfolding read_from
same_from at room inside after [] δ = refl
same_from at room (suc inside) after (b ∷ s) δ = same_from (suc at) room inside after s δ
same_from at room zero after (b ∷ s) δ =
    ap₂ (λ x rest. read_byte (class_of b) after room x at rest) (same_lexeme after (b ∷ s) δ)
    (fun_ext (λ room'. fun_ext (λ inside'. fun_ext (λ after'. same_from (suc at) room' inside' after' s δ))))

pub same_reading : (e : List ℕ) (δ : Dialect) → reading e (in_directives δ) ≡ reading e δ
unfolding reading
same_reading e δ = rw (same_from 0 200 0 false e δ)

-- an answer with another number is not 8
not_bar : (x : Evaluation) → InAnswer x → refusal_number x ≡ BAR_OUTSIDE → ⊥
not_bar (value v n) w h = omega arith
not_bar (refused r) w h = false≢true (rw h at w)

-- the answer does not depend on the rule either, unless it is 8
module _ (m : Memory) (δ : Dialect) where
  abbrev Same : Evaluation → Evaluation → Type 0
  Same x y = (refusal_number x ≡ BAR_OUTSIDE → ⊥) → y ≡ x

  same_answer : (start : ℕ → ℕ) (bar pcd : Option Offset) (o : Outcome Attributes) → Same (answer_tokens start bar pcd o) (answer_tokens start None pcd o)
  same_answer start bar pcd (underived i) h = refl
  same_answer start None pcd (accepted a) h = refl
  same_answer start (Some o) pcd (accepted a) h = absurd (h refl)

  same_tokens : (ts : List Token) (end : ℕ) → Same (of_tokens m ts end δ) (of_tokens m ts end (in_directives δ))
  unfolding of_tokens
  same_tokens ts end = same_answer (start_in ts end) (bar_at ts δ) (pcd_at m ts) (parse code_of (meaning m) (token_in ts) (length ts))

  same_ended : (x : Result Offset Refusal) (ts : List Token)
      → Same (ended x (λ end. of_tokens m ts end δ)) (ended x (λ end. of_tokens m ts end (in_directives δ)))
  same_ended (Err r) ts h = refl
  same_ended (Ok end) ts h = same_tokens ts end.0 h

  pub bars_only : (refusal_number (evaluation_in m δ) ≡ BAR_OUTSIDE → ⊥) → evaluation_in m (in_directives δ) ≡ evaluation_in m δ
  unfolding evaluation_in
  bars_only h =
      rw (same_reading m.expression δ)
      (same_ended (reading m.expression δ).ending (reading m.expression δ).tokens h)

-- an expression by itself is refused with 8, at the leftmost bar outside parentheses, exactly if its derivation has one
module _ (old : Bool) (m : Memory) (end : Offset) (complete : (reading m.expression (by_itself old)).ending ≡ Ok end) where
  abbrev read : List Token
  read = (reading m.expression (by_itself old)).tokens

  module _ (s : Tree Token) (d : Derives code_of expression read s) where
    answered : (ks : List Token) → bare_bars code_of d ≡ ks → evaluation_in m (by_itself old)
        ≡ check_then_answer (first_place ks) (pcd_at m read) (fold (meaning m) s)
    answered ks e = rw (← e) (derived m (by_itself old) end complete s d)

    pub eight_at : (k : Token) (ks : List Token) → bare_bars code_of d ≡ k ∷ ks → evaluation_in m (by_itself old) ≡ refused_at BarOutside k.start
    eight_at k ks e = answered (k ∷ ks) e

    pub eight_without : bare_bars code_of d ≡ [] → refusal_number (evaluation_in m (by_itself old)) ≡ BAR_OUTSIDE → ⊥
    eight_without e h =
        let other = in_check_then_answer (pcd_at m read) (fold (meaning m) s) (kind_sound m s) in
        not_bar (evaluation_in m (by_itself old)) (rw (answered [] e) other) h
