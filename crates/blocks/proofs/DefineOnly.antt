-- A selection is refused with 8, 27 or 28 only at a kept DEFINE line. Assumes nothing.
use Prim.Native.Nat.{ℕ, ◌-◌, ◌≤◌}
use native.Mathlib.Omega.{arith}
use mathlib.Core.Path.{◌≡◌, ap}
use mathlib.Core.Logic.{◌⊎◌, inl, inr}
use mathlib.Core.Bool.{true, false≢true}
use mathlib.Core.List.{List, []}
use lib.ListN.{get_or}
use Rattle.std.specs.Prelude.{Err}
use Rattle.units.specs.Refusals.{reason_number}
use Rattle.units.specs.declared.Dialect.{Dialect}
use Rattle.units.specs.declared.Fault.{Fault}
use Rattle.units.specs.declared.Reason.{Reason}
use Rattle.units.specs.declared.Reason.TheVariants.{BarOutside, DefinedLong, DefinedMany}
use Rattle.own.specs.Own.{scope}
use Rattle.line.specs.Directives.{directive_of}
use Rattle.line.specs.Lines.{lines}
use Rattle.groups.specs.Groups.{State}
use Rattle.select.specs.Step.{defines}
use Rattle.select.specs.Select.{refused, selection}
use Rattle.blocks.specs.Passing.{Reaches}
use Rattle.blocks.proofs.TextFaults.{from_text, InCondition, in_line_lem}
use Rattle.blocks.proofs.OwnOrText.{Bare}
use Rattle.blocks.proofs.SelectionFaults.{Caused, refused_line, OfText, selection_explains}

abbrev OfDefine : Reason → Type 0
OfDefine r = (r ≡ BarOutside) ⊎ ((r ≡ DefinedMany) ⊎ (r ≡ DefinedLong))

-- no other text is refused so, and no line without its text
not_of_text : (r : Reason) → OfDefine r → from_text (reason_number r) ≡ true → ⊥
not_of_text r (inl e) h = false≢true (rw e at h)
not_of_text r (inr (inl e)) h = false≢true (rw e at h)
not_of_text r (inr (inr e)) h = false≢true (rw e at h)

numbered : (r : Reason) → OfDefine r → (reason_number r ≡ 8) ⊎ (27 ≤ reason_number r)
numbered r (inl e) = inl (ap reason_number e)
numbered r (inr (inl e)) = inr (rw e (omega arith))
numbered r (inr (inr e)) = inr (rw e (omega arith))

not_bare : (x : Fault) → OfDefine x.reason → Bare x → ⊥
not_bare x h b = let k = numbered x.reason h in omega arith

caused_define : (t : List ℕ) (δ : Dialect) (n : ℕ) (s : State) (l : List ℕ) (x : Fault) → OfDefine x.reason → Caused t δ n s l x → defines s l ≡ true
caused_define t δ n s l x h (inl e) =
    let k : InCondition (Err x) = rw e at (in_line_lem (scope s.own t) δ (directive_of l) l) in
    absurd (not_of_text x.reason h k)
caused_define t δ n s l x h (inr e) = e.0

pub define_only : (f t : List ℕ) (δ : Dialect) (x : Fault) (n room : ℕ) → selection f t room δ ≡ refused x n
    → (x.reason ≡ BarOutside) ⊎ ((x.reason ≡ DefinedMany) ⊎ (x.reason ≡ DefinedLong))
    → (s : State) × Reaches t (lines f) n s δ × (defines s (get_or (lines f) (n - 1) []) ≡ true)
define_only f t δ x n room e h = by (selection_explains f t δ x n room e)
  where
    by : Bare x ⊎ OfText f t δ x n → (s : State) × Reaches t (lines f) n s δ × (defines s (get_or (lines f) (n - 1) []) ≡ true)
    by (inl b) = absurd (not_bare x h b)
    by (inr w) = (w.state, w.reaches, caused_define t δ n w.state (refused_line f t δ x n) x h w.cause)
