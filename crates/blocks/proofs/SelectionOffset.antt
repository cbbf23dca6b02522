-- The place of a refused selection: 0 if its number has none, else that of the expression in the refused line. Assumes nothing.
use Prim.Native.Nat.{ℕ, ◌-◌}
use native.Mathlib.Omega.{arith}
use mathlib.Core.Path.{◌≡◌, refl, sym, ◌∙◌}
use mathlib.Core.Logic.{◌⊎◌, inl, inr}
use mathlib.Core.Bool.{◌&&◌, true, false, false≢true}
use mathlib.Core.List.{List, []}
use lib.ListN.{get_or}
use lib.Dec.{leb}
use Rattle.units.specs.Refusals.{TOKEN_BAD, DIVISOR_ZERO, reason_number, placed}
use Rattle.units.specs.declared.Dialect.{Dialect}
use Rattle.units.specs.declared.Fault.{Fault}
use Rattle.units.specs.declared.Reason.{Reason}
use Rattle.units.specs.declared.Reason.TheVariants.{TokenBad}
use Rattle.line.specs.Lines.{lines}
use Rattle.groups.specs.Groups.{State}
use Rattle.select.specs.Select.{refused, selection}
use Rattle.blocks.specs.Passing.{Reaches}
use Rattle.blocks.specs.Offsets.{PlacedIn}
use Rattle.blocks.proofs.OwnOrText.{Bare}
use Rattle.blocks.proofs.TextPlaces.{bare_place, placed_place}
use Rattle.blocks.proofs.DefinePlaces.{define_bare, define_placed}
use Rattle.blocks.proofs.SelectionFaults.{Caused, refused_line, OfText, selection_explains}

-- the refusals that have a place are those with the numbers 3 to 12
placed_between : (r : Reason) → placed r ≡ (leb TOKEN_BAD (reason_number r) && leb (reason_number r) DIVISOR_ZERO)
placed_between TokenBad = refl
placed_between _ = refl

bare_unplaced : (x : Fault) → Bare x → placed x.reason ≡ false
bare_unplaced x b = let k = b.0 in placed_between x.reason ∙ grind arith

module _ (t : List ℕ) (δ : Dialect) (n : ℕ) (s : State) (l : List ℕ) (x : Fault) where
  caused_unplaced : Caused t δ n s l x → placed x.reason ≡ false → x.at.0 ≡ 0
  caused_unplaced (inl e) = bare_place t s l δ x e
  caused_unplaced (inr e) = define_bare t s l δ x e.0 e.1

  caused_placed : Caused t δ n s l x → placed x.reason ≡ true → PlacedIn t s l x δ
  caused_placed (inl e) = placed_place t s l δ x e
  caused_placed (inr e) = define_placed t s l δ x e.0 e.1

module _ (f t : List ℕ) (δ : Dialect) (x : Fault) (n : ℕ) where
  pub selection_unplaced : (room : ℕ) → selection f t room δ ≡ refused x n → placed x.reason ≡ false → x.at.0 ≡ 0
  selection_unplaced room e h = by (selection_explains f t δ x n room e)
    where
      by : Bare x ⊎ OfText f t δ x n → x.at.0 ≡ 0
      by (inl b) = b.1
      by (inr w) = caused_unplaced t δ n w.state (refused_line f t δ x n) x w.cause h

  pub selection_placed : (room : ℕ) → selection f t room δ ≡ refused x n → placed x.reason ≡ true
      → (s : State) × Reaches t (lines f) n s δ × PlacedIn t s (get_or (lines f) (n - 1) []) x δ
  selection_placed room e h = by (selection_explains f t δ x n room e)
    where
      by : Bare x ⊎ OfText f t δ x n → (s : State) × Reaches t (lines f) n s δ × PlacedIn t s (get_or (lines f) (n - 1) []) x δ
      by (inl b) = absurd (false≢true (sym (bare_unplaced x b) ∙ h))
      by (inr w) = (w.state, w.reaches, caused_placed t δ n w.state (refused_line f t δ x n) x w.cause h)
