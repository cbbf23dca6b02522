-- The condition in a text, and what a DEFINE line says, depend on the table only through the records under the names there. Assumes nothing.
use Prim.Native.Nat.{ℕ}
use mathlib.Core.Path.{◌≡◌, refl, sym, ap, ◌∙◌}
use mathlib.Core.Bool.{Bool, true, false}
use mathlib.Core.List.{List}
use Rattle.std.specs.Prelude.{Option, Some, None}
use Rattle.std.specs.Option.{is_some}
use Rattle.units.specs.Dialects.{by_itself, in_directives}
use Rattle.units.specs.Refusals.{unplaced}
use Rattle.units.specs.declared.Dialect.{Dialect}
use Rattle.units.specs.declared.Reason.TheVariants.{TextMalformed}
use Rattle.text.specs.Bytes.{pick}
use Rattle.lookup.specs.Setting.{setting_under, record_under}
use Rattle.lookup.specs.declared.Value.{Value}
use Rattle.lookup.proofs.Records.{contents_in, contents_of, under_content}
use Rattle.own.specs.Own.{Own, scope}
use Rattle.scoped.proofs.UnderName.{same_scope}
use Rattle.value.specs.Places.{over}
use Rattle.value.specs.Values.{number, text, fault}
use Rattle.evaluation.specs.Evaluation.{Evaluation, value, refused, evaluation_in}
use Rattle.answers.specs.Names.{Names}
use Rattle.answers.proofs.AnswerIsolated.{erase_places_in, isolated}
use Rattle.line.specs.declared.Directive.{Directive}
use Rattle.line.specs.declared.Directive.TheVariants.{If, Ifdef, Ifndef, Elseif}
use Rattle.condition.specs.Conditions.{of_answer, of_expression, of_named, of_macro, evaluate}
use Rattle.define.specs.Define.{shaped, macro_of, expression_start, expression_of, Definition, fails, of_answer as definition_from, definition_of}
use Rattle.isolation.specs.Isolation.{macro_in, Mentions}

-- a condition and what a DEFINE line says do not depend on the place in an answer
erased_condition : (x : Evaluation) → of_answer (erase_places_in x) ≡ of_answer x
unfolding of_answer
erased_condition (value (number x) n) = refl
erased_condition (value (text k p s) n) = refl
erased_condition (value (fault r) n) = refl
erased_condition (refused r) = refl

erased_definition : (o : List Own) (n : List ℕ) (p : ℕ) (x : Evaluation) → definition_from o n p (erase_places_in x) ≡ definition_from o n p x
unfolding definition_from
erased_definition o n p (value (number x) k) = refl
erased_definition o n p (value (text j q s) k) = refl
erased_definition o n p (value (fault r) k) = refl
erased_definition o n p (refused r) = refl

-- a setting that is seen by its content is set as before
still_some : (t : List ℕ) (s : Option Value) → is_some (contents_in t s) ≡ is_some s
still_some t None = refl
still_some t (Some v) = refl

same_found : (t₁ t₂ n : List ℕ) → record_under t₁ n ≡ record_under t₂ n → is_some (setting_under t₁ n) ≡ is_some (setting_under t₂ n)
same_found t₁ t₂ n e =
    sym (still_some t₁ (setting_under t₁ n)) ∙ ap is_some (under_content t₁ n ∙ ap contents_of e ∙ sym (under_content t₂ n))
    ∙ still_some t₂ (setting_under t₂ n)

module _ (t₁ t₂ s : List ℕ) (δ : Dialect) where
  abbrev answer_over : List ℕ → Evaluation
  answer_over t = evaluation_in (over s t) (in_directives δ)

  same_expression : erase_places_in (answer_over t₁) ≡ erase_places_in (answer_over t₂) → of_expression t₁ s δ ≡ of_expression t₂ s δ
  unfolding of_expression
  same_expression e = rw (sym (erased_condition (answer_over t₁)) ∙ ap of_answer e ∙ erased_condition (answer_over t₂))

  same_name : (wanted : Bool) → record_under t₁ (macro_in s δ) ≡ record_under t₂ (macro_in s δ) → of_macro t₁ wanted s δ ≡ of_macro t₂ wanted s δ
  unfolding of_macro of_named
  same_name wanted e = rw (same_found t₁ t₂ (macro_in s δ) e)

  pub same_condition : (d : Directive) → ((n : List ℕ) → Mentions d s n δ → record_under t₁ n ≡ record_under t₂ n) → evaluate t₁ d s δ ≡ evaluate t₂ d s δ
  unfolding evaluate
  same_condition If h = same_expression (isolated s t₁ t₂ (in_directives δ) h)
  same_condition Elseif h = same_expression (isolated s t₁ t₂ (in_directives δ) h)
  same_condition Ifdef h = same_name true (h (macro_in s δ) refl)
  same_condition Ifndef h = same_name false (h (macro_in s δ) refl)
  same_condition _ h = refl

-- a line l, with the same settings in front of both tables
module _ (o : List Own) (t₁ t₂ l : List ℕ) (δ : Dialect) where
  abbrev answer_behind : List ℕ → Evaluation
  answer_behind t = evaluation_in (over (expression_of l) (scope o t)) (by_itself δ.old)

  abbrev said : Evaluation → Definition
  said = definition_from o (macro_of l) (expression_start l)

  pub same_definition : ((n : List ℕ) → Names (expression_of l) n (by_itself δ.old) → record_under t₁ n ≡ record_under t₂ n)
      → definition_of o t₁ l δ ≡ definition_of o t₂ l δ
  unfolding definition_of
  same_definition h =
      let erase : (x : Evaluation) → said (erase_places_in x) ≡ said x = erased_definition o (macro_of l) (expression_start l) in
      let e : erase_places_in (answer_behind t₁) ≡ erase_places_in (answer_behind t₂) =
      isolated (expression_of l) (scope o t₁) (scope o t₂) (by_itself δ.old) (λ n m. same_scope o t₁ t₂ n (h n m)) in
      ap (λ d. pick (shaped l) d (fails (unplaced TextMalformed)))
      (sym (erase (answer_behind t₁)) ∙ ap said e ∙ erase (answer_behind t₂))
