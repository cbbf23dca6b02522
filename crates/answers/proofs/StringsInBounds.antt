-- A string's bytes are those at its place, which lies within the expression or the table: tokens lie within the expression and settings
-- within the table, operators give no strings, and a choice gives one of its arms. Assumes nothing.
use Prim.Native.Nat.{ℕ}
use native.Mathlib.Omega.{arith}
use mathlib.Core.Path.{◌≡◌, refl}
use mathlib.Core.Bool.{◌||◌}
use lib.ListN.{length}
use lib.Dec.{eqb}
use borrow.Author.Tests.{eqb-true}
use Rattle.units.specs.declared.Dialect.{Dialect}
use Rattle.text.proofs.Laws.{pick_case}
use Rattle.codes.specs.Codes.{STRING, WIDE, MACRO, PCD, BARE}
use Rattle.lookup.specs.Setting.{value_of, Within as WithinTable}
use Rattle.lookup.specs.declared.Value.{Value as CodedValue}
use Rattle.lookup.specs.declared.Value.TheVariants.{Number, Text}
use Rattle.lookup.proofs.Within.{under_within}
use Rattle.token.specs.Tokens.{Token}
use Rattle.token.proofs.Within.{Within, tokens_in}
use Rattle.grammar.proofs.Preserved.{Preserves, preserved}
use Rattle.value.specs.Places.{Memory}
use Rattle.value.specs.Values.{Value, InBounds, denote_value, name_in, setting_of, primary_value}
use Rattle.soundness.proofs.Results.{of_unary, of_binary, of_choice}
use Rattle.expression.specs.Meaning.{code_of, meaning}
use Rattle.evaluation.specs.Evaluation.{value, evaluation_in}
use Rattle.evaluation.proofs.FromTree.{from_tree}

module _ (m : Memory) (δ : Dialect) where
  setting_in_bounds : (v : CodedValue) → WithinTable m.table v → InBounds m (denote_value m v)
  setting_in_bounds (Number x) h = tt
  setting_in_bounds (Text k p) h = (refl, rw h.0 h.1)

  primary_in_bounds : (k : Token) → Within (length m.expression) k → InBounds m (primary_value m k)
  unfolding primary_value
  primary_in_bounds k w =
      pick_case (InBounds m) (eqb k.code STRING) (λ _. (refl, omega arith))
      (λ _. pick_case (InBounds m) (eqb k.code WIDE) (λ c. (refl, omega (arith, w.wide (eqb-true k.code WIDE c))))
      (λ _. pick_case (InBounds m) (eqb k.code BARE) (λ _. (refl, w.ends))
      (λ _. pick_case (InBounds m) (eqb k.code MACRO || eqb k.code PCD)
      (λ _. setting_in_bounds (value_of (setting_of m k)) (under_within m.table (name_in m.expression k)))
      (λ _. tt))))

  preserves : Preserves (meaning m) (Within (length m.expression)) (λ a. InBounds m a.value)
  preserves =
      record {
        leaf = primary_in_bounds;
        unary = λ o a _ _. of_unary (InBounds m) (λ _. tt) (λ _. tt) o.code o.start a.value;
        binary = λ o a b _ _ _. of_binary (InBounds m) (λ _. tt) (λ _. tt) o.code o.start a.value b.value;
        choice = λ q c a b _ _ g h. of_choice (InBounds m) (λ _. tt) (λ _. tt) q.start c.value a.value b.value g h;
      }

  pub strings_in_bounds : (v : Value) (n : ℕ) → evaluation_in m δ ≡ value v n → InBounds m v
  strings_in_bounds v n h =
      let r = from_tree m δ v n h in
      rw r.2.value (preserved code_of preserves r.1 (tokens_in m.expression δ))
