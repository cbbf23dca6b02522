-- The whole selection from its parts: a refusal before any line, or a run. Assumes nothing.
use Prim.Native.Nat.{ℕ}
use native.Mathlib.Omega.{arith}
use mathlib.Core.Path.{◌≡◌, refl, ◌∙◌}
use mathlib.Core.List.{List}
use lib.ListN.{length}
use Rattle.std.specs.Prelude.{Err}
use Rattle.units.specs.declared.Dialect.{Dialect}
use Rattle.units.specs.declared.Reason.{Reason}
use Rattle.units.specs.Refusals.{unplaced, refusal}
use Rattle.select.specs.Select.{Answer, refused, selection}
use Rattle.select.specs.Running.{Runs, WithinLimits, SelectsSome}

module _ (f t : List ℕ) (δ : Dialect) (marks : List ℕ) where
  pub refused_before : (k : Reason) → selection f t (length marks) δ ≡ refused (unplaced k) 0 → SelectsSome f t marks (Err (refusal k)) marks δ
  refused_before k s =
      record { answer = rw s; marked = λ ms c q. let z : ◌≡◌ {A = ℕ} 0 1 = cc in absurd (omega arith); as_long = refl }

  pub some_run : WithinLimits f t (length marks) δ → (r : Answer) (m : List ℕ) → Runs f t marks r m δ → length m ≡ length marks
      → SelectsSome f t marks r m δ
  some_run fit r m runs l =
      record { answer = runs.answer ∙ rw fit.runs; marked = λ ms c q. runs.marked ms c (rw fit.runs at q); as_long = l }
