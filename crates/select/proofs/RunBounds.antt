-- The first and the last turn of a run. Assumes nothing.
use Prim.Native.Nat.{ℕ}
use native.Mathlib.Omega.{arith}
use mathlib.Core.Path.{◌≡◌, sym, ap, ◌∙◌}
use mathlib.Core.List.{List}
use Rattle.std.specs.Prelude.{Err}
use Rattle.units.specs.declared.Dialect.{Dialect}
use Rattle.units.specs.declared.Fault.{Fault}
use Rattle.units.specs.Refusals.{refusal_in}
use Rattle.line.specs.Lines.{lines}
use Rattle.groups.specs.Rules.{KEPT, plain_mark}
use Rattle.groups.specs.Groups.{innermost, State}
use Rattle.groups.specs.Stack.{Represents}
use Rattle.groups.specs.declared.Selection.{Selection}
use Rattle.select.specs.Select.{Answer, refused, run, start}
use Rattle.select.specs.Running.{Runs, MarksPlain}

-- a refusal, whatever the marks
pub refused_run : (f t : List ℕ) (δ : Dialect) (marks₀ marks : List ℕ) (r : Answer) (x : Fault) (n : ℕ) → run t 1 start (lines f) δ ≡ refused x n
    → r ≡ Err (refusal_in x n) → Runs f t marks₀ r marks δ
refused_run f t δ marks₀ marks r x n w e =
    record { answer = e ∙ rw w; marked = λ ms c q. let i : ◌≡◌ {A = ℕ} 0 1 = cc in absurd (omega arith) }

-- before the first line no group is open, and a plain line is kept
pub start_kept : (x : Selection) → Represents x start → MarksPlain x KEPT
start_kept x r = ap (λ (s : State). plain_mark (innermost s.groups)) (sym r.means)
