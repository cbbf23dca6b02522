-- Refusal 7 and its place, exactly (document 02, order 3). Assumes nothing.
use Rattle.std.specs.Prelude.{Ok}
use Prim.Native.Nat.{ℕ}
use mathlib.Core.Path.{◌≡◌, sym, ap, ◌∙◌}
use mathlib.Core.Logic.{◌↔◌}
use mathlib.Core.List.{List}
use Rattle.units.specs.declared.Dialect.{Dialect}
use Rattle.units.specs.declared.Offset.{Offset}
use Rattle.units.specs.Refusals.{NO_DERIVATION}
use Rattle.units.specs.declared.Reason.TheVariants.{NoDerivation}
use Rattle.token.specs.Tokens.{Token, reading}
use Rattle.grammar.specs.Grammar.{Tree, expression, Derives}
use Rattle.beginnings.specs.Beginnings.{FirstBad}
use Rattle.beginnings.proofs.FirstBad.{first_bad_exists}
use Rattle.value.specs.Places.{Memory}
use Rattle.expression.specs.Meaning.{code_of}
use Rattle.evaluation.specs.Evaluation.{refused_at, refusal_number, offset_of, start_in, evaluation_in}
use Rattle.answers.proofs.AnswersExact.{token_supply, underived, not_7}

module _ (m : Memory) (δ : Dialect) (end : Offset) (complete : (reading m.expression δ).ending ≡ Ok end) where
  abbrev read : List Token
  read = (reading m.expression δ).tokens

  abbrev Underived : Type 0
  Underived = (s : Tree Token) → Derives code_of expression read s → ⊥

  -- the number alone
  pub seven : (refusal_number (evaluation_in m δ) ≡ NO_DERIVATION) ↔ Underived
  seven =
      let bad = first_bad_exists token_supply read in
      (not_7 m δ end complete, λ none. ap refusal_number (underived m δ end complete none bad.0 bad.1))

  module _ (o : ℕ) where
    abbrev AtFirstBad : Type 0
    AtFirstBad = (e : ℕ) × FirstBad code_of read e × (o ≡ start_in read end.0 e)

    told : evaluation_in m δ ≡ refused_at NoDerivation o → Underived × AtFirstBad
    told h =
        let none : Underived = not_7 m δ end complete (ap refusal_number h) in
        let bad = first_bad_exists token_supply read in
        (none, (bad.0, bad.1, ap offset_of (sym h ∙ underived m δ end complete none bad.0 bad.1)))

    refused_there : Underived × AtFirstBad → evaluation_in m δ ≡ refused_at NoDerivation o
    refused_there w = underived m δ end complete w.0 w.1.0 w.1.1 ∙ ap (refused_at NoDerivation) (sym w.1.2)

    -- the number with its place
    pub seven_at : (evaluation_in m δ ≡ refused_at NoDerivation o) ↔ (Underived × AtFirstBad)
    seven_at = (told, refused_there)

-- of any tokens, there is a first after which no continuation derives, or all of them begin an expression
pub first_bad_of : (ts : List Token) → (e : ℕ) × FirstBad code_of ts e
first_bad_of = first_bad_exists token_supply
