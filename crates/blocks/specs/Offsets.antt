-- The place of a refused selection (document 02, order 3): that of the expression in the refused line, counted from the line's start.
use Rattle.std.specs.Prelude.{ℕ, ◌+◌, ◌≤◌, ◌≡◌, ◌⊎◌, true, List, length}
use Rattle.units.specs.Dialects.{by_itself, in_directives}
use Rattle.units.specs.declared.Dialect.{Dialect}
use Rattle.units.specs.declared.Fault.{Fault}
use Rattle.units.specs.declared.Refusal.{Refusal}
use Rattle.own.specs.Own.{scope}
use Rattle.value.specs.Places.{over}
use Rattle.evaluation.specs.Evaluation.{refused, evaluation_in}
use Rattle.line.specs.Directives.{text_start, text_of, directive_of}
use Rattle.line.specs.declared.Directive.TheVariants.{If, Elseif}
use Rattle.define.specs.Define.{expression_start, expression_of}
use Rattle.groups.specs.Groups.{State}
use Rattle.select.specs.Step.{defines}

-- The expression of line l in the state before it: its text, the place in the line where this starts, and its dialect. `!if` and `!elseif`
-- have one, and so has a kept DEFINE line, where bars are as in a data field (document 02, order 6).
pub data Expression (s : State) (l : List ℕ) (δ : Dialect) : (text : List ℕ) → (start : ℕ) → Dialect → Type 0 where
  condition : (directive_of l ≡ If) ⊎ (directive_of l ≡ Elseif) → Expression s l δ (text_of l) (text_start l) (in_directives δ)
  definition : defines s l ≡ true → Expression s l δ (expression_of l) (expression_start l) (by_itself δ.old)

-- The fault x of line l is that of its expression, over the table and the settings that lines before it made: the expression is refused with
-- the same number, and the place in the line is the start of the expression plus the place in it.
pub record PlacedIn (t : List ℕ) (s : State) (l : List ℕ) (x : Fault) (δ : Dialect) : Type 0 where
  pub text : List ℕ
  pub start : ℕ
  pub dialect : Dialect
  pub expression : Expression s l δ text start dialect
  pub refusal : Refusal
  pub answered : evaluation_in (over text (scope s.own t)) dialect ≡ refused refusal
  pub number : refusal.reason ≡ x.reason
  pub place : x.at.0 ≡ start + refusal.offset.0
  pub within : x.at.0 ≤ length l
