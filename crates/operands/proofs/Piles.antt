-- Operands as they are stored and loaded: how the stack grows, and its top operands.
use Prim.Native.Nat.{ℕ, zero, suc, ◌-◌, ◌≤◌, ◌<◌}
use native.Mathlib.Numerals.{add-one}
use native.Mathlib.Omega.{arith}
use mathlib.Core.Path.{◌≡◌, refl, sym, ap, subst, ◌∙◌}
use mathlib.Core.List.{List, [], ◌∷◌}
use lib.ListN.{length, set, length-set}
use lib.Seq.{get_or-set_same, get_or-set_other}
use Rattle.value.specs.Places.{Memory}
use Rattle.value.specs.Attributes.{Attributes}
use Rattle.value.specs.declared.Attributes.{Attributes as CodedAttributes}
use Rattle.value.specs.Denote.{denote_attributes}
use Rattle.operands.specs.Stack.{NOTHING, operand_at, piled, Leaves}

module _ (m : Memory) where
  pub pile_length : (w : List CodedAttributes) (h : ℕ) → length (piled m w h) ≡ h
  unfolding piled
  pile_length w zero = refl
  pile_length w (suc h) = ap suc (pile_length w h)

  pile_top : (w : List CodedAttributes) (h : ℕ) → 0 < h → piled m w h ≡ operand_at m w (h - 1) ∷ piled m w (h - 1)
  unfolding piled
  pile_top w zero l = absurd (omega arith)
  pile_top w (suc h) l = let q : suc h - 1 ≡ h = omega arith in rw q

  pile_set : (w : List CodedAttributes) (j : ℕ) (x : CodedAttributes) (h : ℕ) → h ≤ j → piled m (set w j x) h ≡ piled m w h
  unfolding piled
  pile_set w j x zero l = refl
  pile_set w j x (suc h) l = rw (get_or-set_other w j h x NOTHING (λ q. omega (arith, q)), pile_set w j x h (omega arith))

  -- an operand stored above the first j
  pub stored : (w : List CodedAttributes) (j : ℕ) (a : CodedAttributes) → j < length w → Leaves m w j (denote_attributes m a) (set w j a)
  unfolding piled
  stored w j a l =
      record {
        long = length-set w j a;
        top = rw (add-one j, get_or-set_same w j a NOTHING l, pile_set w j a j (omega arith));
      }

  pile_some : (w : List CodedAttributes) (h : ℕ) (a : Attributes) (r : List Attributes) → piled m w h ≡ a ∷ r → 0 < h
  unfolding piled
  pile_some w zero a r q = let z : ◌≡◌ {A = ℕ} 0 1 = cc in absurd (omega arith)
  pile_some w (suc h) a r q = omega arith

  -- the top operand
  pub latest : (w : List CodedAttributes) (h : ℕ) (a : Attributes) (r : List Attributes) → piled m w h ≡ a ∷ r
      → (0 < h) × (a ≡ operand_at m w (h - 1)) × (r ≡ piled m w (h - 1))
  latest w h a r q =
      let l = pile_some w h a r q in
      let p = sym q ∙ pile_top w h l in
      (l, cc, cc)

  -- one operand alone
  pub alone : (w : List CodedAttributes) (h : ℕ) (v : Attributes) → piled m w h ≡ v ∷ [] → (0 < h) × (operand_at m w 0 ≡ v)
  alone w h v q =
      let p = latest w h v [] q in
      let l : h - 1 ≡ 0 = sym (pile_length w (h - 1)) ∙ ap length (sym p.2) in
      (p.0, sym (rw l at p.1))

-- the same operand in another form
pub instead : {m : Memory} {w : List CodedAttributes} {at : ℕ} {a b : Attributes} {w' : List CodedAttributes} → a ≡ b → Leaves m w at a w' → Leaves m w at b w'
instead {m} {w} {at} {a} {b} {w'} q l = subst (λ (x : Attributes). Leaves m w at x w') q l
