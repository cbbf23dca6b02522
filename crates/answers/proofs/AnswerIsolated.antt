-- What an answer depends on (document 01, "For demand 3"): of the table only the records under the names in the expression, and not their
-- places in the table, except for the place of an answered string. The tree that the tokens derive does not depend on the table, its leaves
-- are tokens of the expression, and no form depends on the places of strings. Assumes nothing.
use Rattle.std.specs.Prelude.{Err, None, Ok, Option, Result, Some}
use Prim.Native.Nat.{ℕ}
use mathlib.Core.Path.{◌≡◌, refl, sym, ap, ap₂, ◌∙◌}
use mathlib.Core.List.{List, Memᴰ}
use lib.ListN.{length}
use Rattle.units.specs.declared.Dialect.{Dialect}
use Rattle.units.specs.declared.Offset.{Offset}
use Rattle.units.specs.declared.Reason.{Reason}
use Rattle.units.specs.declared.Reason.TheVariants.{BarOutside, KindsUnsuited, PcdMissing}
use Rattle.units.specs.declared.Refusal.{Refusal}
use Rattle.lookup.specs.Setting.{record_under}
use Rattle.token.specs.Tokens.{Token, reading}
use Rattle.grammar.specs.Grammar.{Tree, expression, Derives}
use Rattle.grammar.specs.Fold.{fold}
use Rattle.grammar.specs.Parse.{Outcome, refused as underived, accepted, parse}
use Rattle.grammar.specs.Decides.{trees, map_outcome}
use Rattle.grammar.proofs.Decided.{evaluates, decides}
use Rattle.grammar.proofs.Preserved.{Preserves}
use Rattle.grammar.proofs.Related.{paired, Paired, related}
use Rattle.value.specs.Places.{Memory, over}
use Rattle.value.specs.Values.{Value, number, text, fault, name_in}
use Rattle.value.specs.Attributes.{Attributes, unary_from, binary_from, choice_from}
use Rattle.soundness.proofs.ErasePlaces.{erase_places, erase_places_of, unary_erased, binary_erased, choice_erased}
use Rattle.soundness.proofs.Named.{Agree, primary_erased, same_missing}
use Rattle.expression.specs.Meaning.{code_of, meaning}
use Rattle.leftmost.specs.Leftmost.{bar_at, pcd_at}
use Rattle.evaluation.specs.Evaluation.{Evaluation, value, refused, answer_value, clash_in, refused_or, check_then_answer, token_in, start_in, answer_tokens}
use Rattle.evaluation.specs.Evaluation.{of_tokens, ended, evaluation_in}
use Rattle.evaluation.proofs.FromTree.{tokens_read}
use Rattle.answers.specs.Names.{Names}

-- two tables have the same record under every name that e names, or neither has one
abbrev pub SameRecords : (t₁ t₂ e : List ℕ) → Dialect → Type 0
SameRecords t₁ t₂ e δ = (n : List ℕ) → Names e n δ → record_under t₁ n ≡ record_under t₂ n

-- an answer without the place of its string
abbrev pub erase_places_in : Evaluation → Evaluation
erase_places_in (value v n) = value (erase_places v) n
erase_places_in (refused r) = refused r

-- the answer from attributes does not depend on places
answer_value_erased : (v : Value) (n : ℕ) → erase_places_in (answer_value v n) ≡ answer_value (erase_places v) n
answer_value_erased (number x) n = refl
answer_value_erased (text k p s) n = refl
answer_value_erased (fault f) n = refl

or_erased : (w : Option Offset) (r : Reason) (x y : Evaluation) → erase_places_in x ≡ y → erase_places_in (refused_or w r x) ≡ refused_or w r y
or_erased None r x y h = h
or_erased (Some o) r x y h = refl

check_then_answer_erased : (bar pcd : Option Offset) (a : Attributes)
    → erase_places_in (check_then_answer bar pcd a) ≡ check_then_answer bar pcd (erase_places_of a)
check_then_answer_erased bar pcd a =
    or_erased bar BarOutside _ _ (or_erased pcd PcdMissing _ _
    (or_erased (clash_in a.kind) KindsUnsuited _ _ (answer_value_erased a.value a.count)))

-- two attributes are the same except for places
abbrev Same : Attributes → Attributes → Type 0
Same a b = erase_places_of a ≡ erase_places_of b

check_then_answer_same : (bar pcd : Option Offset) (a b : Attributes) → Same a b
    → erase_places_in (check_then_answer bar pcd a) ≡ erase_places_in (check_then_answer bar pcd b)
check_then_answer_same bar pcd a b h =
    check_then_answer_erased bar pcd a ∙ ap (check_then_answer bar pcd) h ∙ sym (check_then_answer_erased bar pcd b)

module _ (e t₁ t₂ : List ℕ) (δ : Dialect) where
  abbrev m₁ : Memory
  m₁ = over e t₁

  abbrev m₂ : Memory
  m₂ = over e t₂

  abbrev read : List Token
  read = (reading e δ).tokens

  preserves : Preserves (paired (meaning m₁) (meaning m₂)) (Agree e t₁ t₂) (Paired (meaning m₁) (meaning m₂) Same)
  preserves =
      record {
        leaf = primary_erased e t₁ t₂;
        unary = λ o a _ h. unary_erased o a.0 ∙ ap (unary_from o) h ∙ sym (unary_erased o a.1);
        binary = λ o a b _ h i. binary_erased o a.0 b.0 ∙ ap₂ (binary_from o) h i ∙ sym (binary_erased o a.1 b.1);
        choice = λ q c a b _ h i j. choice_erased q c.0 a.0 b.0 ∙ (λ k. choice_from q (h k) (i k) (j k)) ∙ sym (choice_erased q c.1 a.1 b.1);
      }

  module _ (same : SameRecords t₁ t₂ e δ) where
    agree : (k : Token) → Memᴰ k read → Agree e t₁ t₂ k
    agree k m n = same (name_in e k) (record { token = k; among = m; naming = n; name = refl })

    tree_same : (s : Tree Token) → Derives code_of expression read s → Same (fold (meaning m₁) s) (fold (meaning m₂) s)
    tree_same s d = related (meaning m₁) (meaning m₂) Same code_of preserves d agree

    by_outcome : (start : ℕ → ℕ) (bar pcd : Option Offset) (o : Outcome (Tree Token)) → parse code_of trees (token_in read) (length read) ≡ o
        → erase_places_in (answer_tokens start bar pcd (map_outcome (fold (meaning m₁)) o))
        ≡ erase_places_in (answer_tokens start bar pcd (map_outcome (fold (meaning m₂)) o))
    by_outcome start bar pcd (underived i) p = refl
    by_outcome start bar pcd (accepted s) p =
        check_then_answer_same bar pcd (fold (meaning m₁) s) (fold (meaning m₂) s) (tree_same s ((decides (tokens_read m₁ δ)).sound s p))

    tokens_isolated : (end : ℕ) → erase_places_in (of_tokens m₁ read end δ) ≡ erase_places_in (of_tokens m₂ read end δ)
    unfolding of_tokens
    tokens_isolated end =
        rw ((evaluates (tokens_read m₁ δ) (meaning m₁)).folded, (evaluates (tokens_read m₁ δ) (meaning m₂)).folded, same_missing e t₁ t₂ read agree)
        (by_outcome (start_in read end) (bar_at read δ) (pcd_at m₂ read) (parse code_of trees (token_in read) (length read)) refl)

  -- both tables give the same answer: the same value and count of operators, or the same refusal at the same place
  pub isolated : SameRecords t₁ t₂ e δ → erase_places_in (evaluation_in m₁ δ) ≡ erase_places_in (evaluation_in m₂ δ)
  unfolding evaluation_in
  isolated same = by (reading e δ).ending
    where
      by : (y : Result Offset Refusal) → erase_places_in (ended y (λ end. of_tokens m₁ read end δ)) ≡ erase_places_in (ended y (λ end. of_tokens m₂ read end δ))
      by (Err r) = refl
      by (Ok end) = tokens_isolated same end.0
