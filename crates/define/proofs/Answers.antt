-- The answer to the expression of a DEFINE line can be handed on: its places are within the line. Assumes nothing.
use Prim.Native.Nat.{ℕ, ◌+◌, ◌-◌, ◌^◌, ◌<◌}
use native.Mathlib.Omega.{arith}
use mathlib.Core.Path.{◌≡◌, sym}
use mathlib.Core.List.{List}
use lib.ListN.{length, take, drop, length-drop}
use Rattle.std.specs.Prelude.{Result, Ok, Err}
use Rattle.units.specs.declared.Dialect.{Dialect}
use Rattle.units.specs.declared.Refusal.{Refusal}
use Rattle.text.proofs.Laws.{part_rest}
use Rattle.lookup.specs.Setting.{Recorded}
use Rattle.lookup.specs.declared.Value.{Value}
use Rattle.lookup.specs.declared.Value.TheVariants.{Number, Text}
use Rattle.value.specs.Places.{Memory, bytes_at}
use Rattle.value.specs.Values.{text, denote_value}
use Rattle.evaluation.specs.Evaluation.{value, evaluation_in, denote_answer}
use Rattle.evaluation.specs.declared.Evaluated.{Evaluated}
use Rattle.evaluation.proofs.OneRecord.{answer_recorded}
use Rattle.evaluation.proofs.OffsetWithin.{offset_within}
use Rattle.define.specs.Settling.{Split, Handed}
use Rattle.define.specs.declared.shape.Parts.{Parts}

value_handed : (m : Memory) (δ : Dialect) (v : Value) (k : ℕ) → evaluation_in m δ ≡ value (denote_value m v) k → Recorded v
value_handed m δ (Number x) k e = tt
value_handed m δ (Text j q) k e = answer_recorded m δ (text j q (bytes_at m q)) k e

pub answer_handed : (m : Memory) (δ : Dialect) (p : ℕ) (a : Result Evaluated Refusal) → denote_answer m a ≡ evaluation_in m δ
    → p + length m.expression < 2 ^ 64 → Handed p a
answer_handed m δ p (Ok a) e h = value_handed m δ a.value a.count (sym e)
answer_handed m δ p (Err r) e h = omega (arith, h, offset_within m δ r (sym e))

-- a line with the shape has its expression within it
pub text_fits : (l : List ℕ) (r : Parts) → Split l r → length l < 2 ^ 63 → r.text.0 + length (take (length l - r.text.0) (drop r.text.0 l)) < 2 ^ 64
text_fits l r s h = rw (part_rest l r.text.0) (omega (arith, h, s.within, length-drop r.text.0 l))
