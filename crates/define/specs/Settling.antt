-- The parts of a DEFINE line and the buffer of settings, as the code has them. Contracts cite this; no promise does.
use Rattle.std.specs.Prelude.{ℕ, ◌+◌, ◌^◌, ◌≤◌, ◌<◌, ◌≡◌, true, false, List, length, Option, Some, None, Result, Ok, Err}
use Rattle.units.specs.declared.Fault.{Fault}
use Rattle.units.specs.declared.Refusal.{Refusal}
use Rattle.own.specs.Own.{Own, put}
use Rattle.own.specs.Putting.{Holds}
use Rattle.lookup.specs.Setting.{Recorded}
use Rattle.evaluation.specs.declared.Evaluated.{Evaluated}
use Rattle.define.specs.Define.{name_start, name_length, expression_start, shaped, Definition, sets, fails}
use Rattle.define.specs.declared.shape.Parts.{Parts}
use Rattle.define.specs.declared.Defined.{Defined}

-- the parts of a line that has the shape
pub record Split (l : List ℕ) (r : Parts) : Type 0 where
  pub shape : shaped l ≡ true
  pub name : r.name.0 ≡ name_start l
  pub name_long : r.len ≡ name_length l
  pub text : r.text.0 ≡ expression_start l
  pub within : r.text.0 ≤ length l

abbrev pub Splits : (l : List ℕ) → Option Parts → Type 0
Splits l None = shaped l ≡ false
Splits l (Some r) = Split l r

-- an answer of the code that is handed on: a string of the settings or of the table is within one record, and the place of a refusal is within
-- the line
abbrev pub Handed : (start : ℕ) → Result Evaluated Refusal → Type 0
Handed p (Ok a) = Recorded a.value
Handed p (Err r) = p + r.offset.0 < 2 ^ 64

-- the outcome z of the code, with the bytes b of its buffer then, is what a definition says after the settings o
abbrev pub Does : Definition → List Own → (b : List ℕ) → Result Defined Fault → Type 0
Does (sets x k) o b (Ok z) = (z.count ≡ k) × Holds b z.used (put x o)
Does (fails f) o b (Err g) = g ≡ f
Does (sets x k) o b (Err g) = ⊥
Does (fails f) o b (Ok z) = ⊥
