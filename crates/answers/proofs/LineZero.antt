-- The answer to an expression has line 0, also if it is a refusal. Assumes nothing.
use Rattle.std.specs.Prelude.{Err, None, Ok, Option, Result, Some}
use Prim.Native.Nat.{ℕ}
use mathlib.Core.Path.{◌≡◌, refl}
use mathlib.Core.List.{List}
use lib.ListN.{length}
use Rattle.units.specs.declared.Dialect.{Dialect}
use Rattle.units.specs.declared.Offset.{Offset}
use Rattle.units.specs.declared.Reason.{Reason}
use Rattle.units.specs.declared.Reason.TheVariants.{BarOutside, KindsUnsuited, PcdMissing}
use Rattle.units.specs.declared.Refusal.{Refusal}
use Rattle.text.proofs.Laws.{pick_case}
use Rattle.settings.specs.Table.{well_formed}
use Rattle.token.specs.Tokens.{reading}
use Rattle.token.proofs.Endings.{every_ending}
use Rattle.grammar.specs.Parse.{Outcome, refused as underived, accepted, parse}
use Rattle.value.specs.Places.{Memory}
use Rattle.value.specs.Values.{Value, number, text, fault}
use Rattle.value.specs.Attributes.{Attributes}
use Rattle.expression.specs.Meaning.{code_of, meaning}
use Rattle.leftmost.specs.Leftmost.{bar_at, pcd_at}
use Rattle.evaluation.specs.Evaluation.{Evaluation, line_of, answer_value, clash_in, refused_or, token_in, start_in, answer_tokens, of_tokens, ended}
use Rattle.evaluation.specs.Evaluation.{evaluation_in, evaluation}

-- if reading ended with a refusal, it has line 0
abbrev EndsSo : Result Offset Refusal → Type 0
EndsSo (Err r) = r.line.0 ≡ 0
EndsSo (Ok end) = Unit

reads_so : (e : List ℕ) (δ : Dialect) → EndsSo (reading e δ).ending
reads_so e δ =
    every_ending e δ EndsSo (record { complete = λ at h. tt; bad = λ at h q s r w. refl; many = λ at h. refl; deep = λ at h. refl; long = refl })

abbrev LineZero : Evaluation → Type 0
LineZero x = line_of x ≡ 0

answer_value_so : (v : Value) (n : ℕ) → LineZero (answer_value v n)
answer_value_so (number x) n = refl
answer_value_so (text k p s) n = refl
answer_value_so (fault f) n = refl

or_so : (w : Option Offset) (r : Reason) (x : Evaluation) → LineZero x → LineZero (refused_or w r x)
or_so None r x h = h
or_so (Some o) r x h = refl

answer_tokens_so : (start : ℕ → ℕ) (bar pcd : Option Offset) (o : Outcome Attributes) → LineZero (answer_tokens start bar pcd o)
answer_tokens_so start bar pcd (underived i) = refl
answer_tokens_so start bar pcd (accepted a) =
    or_so bar BarOutside _ (or_so pcd PcdMissing _ (or_so (clash_in a.kind) KindsUnsuited _ (answer_value_so a.value a.count)))

ended_so : (x : Result Offset Refusal) (y : ℕ → Evaluation) → EndsSo x → ((end : ℕ) → LineZero (y end)) → LineZero (ended x y)
ended_so (Err r) y h k = h
ended_so (Ok end) y h k = k end.0

pub without_line : (m : Memory) (δ : Dialect) → line_of (evaluation m δ) ≡ 0
unfolding evaluation evaluation_in of_tokens
without_line m δ =
    let ts = (reading m.expression δ).tokens in
    pick_case LineZero (well_formed m.table)
    (λ _. ended_so (reading m.expression δ).ending (λ end. of_tokens m ts end δ) (reads_so m.expression δ)
    (λ end. answer_tokens_so (start_in ts end) (bar_at ts δ) (pcd_at m ts) (parse code_of (meaning m) (token_in ts) (length ts))))
    (λ _. refl)
