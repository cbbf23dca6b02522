-- The place of a refused condition is within its text. Assumes nothing.
use Prim.Native.Nat.{ℕ, ◌≤◌}
use native.Mathlib.Omega.{arith}
use mathlib.Core.Path.{◌≡◌, refl}
use mathlib.Core.Bool.{Bool, true, false, not}
use mathlib.Core.List.{List}
use lib.Dec.{eqb}
use lib.ListN.{length, drop}
use Rattle.std.specs.Prelude.{Result, Ok, Err}
use Rattle.units.specs.Dialects.{in_directives}
use Rattle.units.specs.declared.Dialect.{Dialect}
use Rattle.units.specs.declared.Fault.{Fault}
use Rattle.units.specs.declared.Refusal.{Refusal}
use Rattle.text.specs.Bytes.{pick}
use Rattle.text.specs.Runs.{span}
use Rattle.text.specs.declared.runs.Set.TheVariants.{Blanks}
use Rattle.text.proofs.Laws.{pick_case}
use Rattle.value.specs.Places.{over}
use Rattle.value.specs.Values.{number, text, fault}
use Rattle.evaluation.specs.Evaluation.{Evaluation, value, refused, evaluation_in}
use Rattle.evaluation.proofs.OffsetWithin.{offset_within}
use Rattle.line.specs.declared.Directive.{Directive}
use Rattle.line.specs.declared.Directive.TheVariants.{Plain, If, Ifdef, Ifndef, Elseif, Else, Endif, Unknown}
use Rattle.line.specs.declared.Condition.{Condition}
use Rattle.line.specs.declared.Condition.TheVariants.{Holds, Fails}
use Rattle.condition.specs.Conditions.{count_of, offset_of, spaced, idle, of_answer, of_expression, name_at, tested, alone, present, of_named, of_macro}
use Rattle.condition.specs.Conditions.{evaluate, in_line}
use Rattle.condition.specs.declared.macros.Named.{Named}

-- the place is at most this far
abbrev Within : ℕ → Result Condition Fault → Type 0
Within k c = offset_of c ≤ k

of_answer_lem : (k : ℕ) (x : Evaluation) → ((r : Refusal) → x ≡ refused r → r.offset.0 ≤ k) → Within k (of_answer x)
unfolding of_answer
of_answer_lem k (value (number x) n) h =
    pick_case (Within k) (eqb x 1) (λ _. omega arith) (λ _. pick_case (Within k) (eqb x 0) (λ _. omega arith) (λ _. omega arith))
of_answer_lem k (value (text a p s) n) h = omega arith
of_answer_lem k (value (fault r) n) h = omega arith
of_answer_lem k (refused r) h = h r refl

expression_within : (t s : List ℕ) (δ : Dialect) → Within (length s) (of_expression t s δ)
unfolding of_expression
expression_within t s δ =
    let free = in_directives δ in
    pick_case (Within (length s)) (spaced s) (λ _. of_answer_lem (length s) (evaluation_in (over s t) free) (offset_within (over s t) free)) (λ _. omega arith)

tested_within : (k : ℕ) (b : Bool) → Within k (tested b)
tested_within k b = pick_case (Within k) b (λ _. omega arith) (λ _. omega arith)

named_within : (k : ℕ) (t : List ℕ) (wanted : Bool) (s : List ℕ) (n : Named) → Within k (of_named t wanted s n)
unfolding of_named
named_within k t wanted s n =
    pick_case (Within k) (alone s n) (λ _. tested_within k (pick wanted (present t s n) (not (present t s n)))) (λ _. omega arith)

macro_within : (k : ℕ) (t : List ℕ) (wanted : Bool) (s : List ℕ) (δ : Dialect) → Within k (of_macro t wanted s δ)
unfolding of_macro
macro_within k t wanted s δ =
    let m : List ℕ = drop (span Blanks s) s in
    pick_case (Within k) (spaced s) (λ _. named_within k t wanted m (name_at m δ)) (λ _. omega arith)

nothing_within : (k : ℕ) (t s : List ℕ) (δ : Dialect) → Within k (evaluate t Else s δ)
unfolding evaluate
nothing_within k t s δ = pick_case (Within k) (idle s) (λ _. omega arith) (λ _. omega arith)

pub within_text : (t : List ℕ) (d : Directive) (s : List ℕ) (δ : Dialect) → offset_of (evaluate t d s δ) ≤ length s
unfolding evaluate
within_text t If s δ = expression_within t s δ
within_text t Elseif s δ = expression_within t s δ
within_text t Ifdef s δ = macro_within (length s) t true s δ
within_text t Ifndef s δ = macro_within (length s) t false s δ
within_text t Else s δ = nothing_within (length s) t s δ
within_text t Endif s δ = nothing_within (length s) t s δ
within_text t Plain s δ = omega arith
within_text t Unknown s δ = omega arith

pub place_within : (t : List ℕ) (d : Directive) (s : List ℕ) (δ : Dialect) (f : Fault) → evaluate t d s δ ≡ Err f → f.at.0 ≤ length s
place_within t d s δ f e = rw e at (within_text t d s δ)

-- a condition in its line applied as many operators
pub same_count : (p : ℕ) (c : Result Condition Fault) → count_of (in_line p c) ≡ count_of c
same_count p (Ok (Holds n)) = refl
same_count p (Ok (Fails n)) = refl
same_count p (Err f) = refl
