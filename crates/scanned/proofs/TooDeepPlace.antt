-- The parentheses are too deep at a byte exactly if the first token with which the tokens are over 16 starts there, and this token is an
-- opening parenthesis: by induction on the tokens. Assumes nothing.
use Rattle.std.specs.Prelude.{None, Option, Some}
use Prim.Native.Nat.{ℕ, zero, suc, ◌+◌, ◌≤◌, ◌<◌}
use native.Mathlib.Omega.{arith}
use mathlib.Core.Path.{◌≡◌, refl, sym, ap}
use mathlib.Core.Bool.{Bool, true, false}
use mathlib.Core.List.{List, [], ◌∷◌, map}
use lib.ListN.{length, get_or, take}
use lib.Dec.{eqb, ltb}
use borrow.Author.Tests.{ltb-true, ltb-false, lt-ltb, eqb-true}
use Rattle.units.specs.Leftmost.{there}
use Rattle.units.specs.declared.Offset.{Offset}
use Rattle.text.specs.Bytes.{pick}
use Rattle.text.proofs.Laws.{pick_case}
use Rattle.codes.specs.Codes.{OPEN, CLOSE}
use Rattle.token.specs.Tokens.{Token, too_deep, codes_of}
use Rattle.scanned.specs.Depth.{count, FirstOver}

-- the same after a opening and c closing parentheses
abbrev OverFrom : (a c : ℕ) → List Token → Type 0
OverFrom a c ts = 16 + (c + count CLOSE ts) < a + count OPEN ts

record FirstFrom (a c : ℕ) (ts : List Token) (o : ℕ) : Type 0 where
  index : ℕ
  inside : index < length ts
  place : o ≡ get_or (map (λ t. t.start) ts) index 0
  over : OverFrom a c (take (suc index) ts)
  not_before : (j : ℕ) → j ≤ index → OverFrom a c (take j ts) → ⊥

-- a number of parentheses of one code, with a token more
abbrev with : (code : ℕ) → Token → ℕ → ℕ
with k t n = n + pick (eqb t.code k) 1 0

module _ (a c : ℕ) (t : Token) (ts : List Token) (o : ℕ) (h : a ≤ c + 16) where
  here : with CLOSE t c + 16 < with OPEN t a → o ≡ t.start → FirstFrom a c (t ∷ ts) o
  unfolding count
  here l p = record { index = 0; inside = omega arith; place = p; over = omega arith; not_before = before }
    where
      before : (j : ℕ) → j ≤ 0 → OverFrom a c (take j (t ∷ ts)) → ⊥
      before zero i q = omega arith
      before (suc j) i q = omega arith

  later : FirstFrom (with OPEN t a) (with CLOSE t c) ts o → FirstFrom a c (t ∷ ts) o
  unfolding count
  later r = record { index = suc r.index; inside = omega arith; place = r.place; over = omega (arith, r.over); not_before = before }
    where
      before : (j : ℕ) → j ≤ suc r.index → OverFrom a c (take j (t ∷ ts)) → ⊥
      before zero i q = omega arith
      before (suc j) i q = r.not_before j (omega arith) (omega arith)

abbrev place_of : Option Offset → ℕ
place_of None = 0
place_of (Some o) = o.0

first : (a c : ℕ) (ts : List Token) (o : ℕ) → a ≤ c + 16 → too_deep a c ts ≡ there o → FirstFrom a c ts o
unfolding too_deep
first a c [] o h = λ e. let z : ◌≡◌ {A = ℕ} 0 1 = cc in absurd (omega arith)
first a c (t ∷ ts) o h =
    pick_case (λ (w : Option Offset). w ≡ there o → FirstFrom a c (t ∷ ts) o) (ltb (with CLOSE t c + 16) (with OPEN t a))
    (λ p e. here a c t ts o h (ltb-true _ _ p) (sym (ap place_of e)))
    (λ p e. later a c t ts o h (first (with OPEN t a) (with CLOSE t c) ts o (ltb-false _ _ p) e))

deep : (a c : ℕ) (ts : List Token) (o i : ℕ) → i < length ts → o ≡ get_or (map (λ t. t.start) ts) i 0 → OverFrom a c (take (suc i) ts)
    → ((j : ℕ) → j ≤ i → OverFrom a c (take j ts) → ⊥)
    → too_deep a c ts ≡ there o
unfolding too_deep count
deep a c [] o i l p q n = absurd (omega arith)
deep a c (t ∷ ts) o zero l p q n = rw (lt-ltb (with CLOSE t c + 16) (with OPEN t a) (omega arith), p)
deep a c (t ∷ ts) o (suc i) l p q n =
    pick_case (λ (w : Option Offset). w ≡ there o) (ltb (with CLOSE t c + 16) (with OPEN t a))
    (λ x. absurd (n 1 (omega arith) (omega (arith, ltb-true (with CLOSE t c + 16) (with OPEN t a) x))))
    (λ x. deep (with OPEN t a) (with CLOSE t c) ts o i (omega arith) p (omega arith) (λ j m r. n (suc j) (omega arith) (omega arith)))

-- THE THEOREM
pub too_deep_place : (ts : List Token) (o : ℕ) → (too_deep 0 0 ts ≡ there o → FirstOver ts o) × (FirstOver ts o → too_deep 0 0 ts ≡ there o)
too_deep_place ts o = (to, from)
  where
    to : too_deep 0 0 ts ≡ there o → FirstOver ts o
    to e =
        let r = first 0 0 ts o (omega arith) e in
        record {
          index = r.index;
          inside = r.inside;
          place = r.place;
          over = omega (arith, r.over);
          not_before = λ j m q. r.not_before j m (omega arith);
        }

    from : FirstOver ts o → too_deep 0 0 ts ≡ there o
    from r = deep 0 0 ts o r.index r.inside r.place (omega (arith, r.over)) (λ j m q. r.not_before j m (omega arith))

-- the count with a token more
count_next : (k : ℕ) (ts : List Token) (i : ℕ) → i < length ts
    → count k (take (suc i) ts) ≡ pick (eqb (get_or (codes_of ts) i 0) k) 1 0 + count k (take i ts)
unfolding count
count_next k [] i l = absurd (omega arith)
count_next k (t ∷ ts) zero l = refl
count_next k (t ∷ ts) (suc i) l = omega (arith, count_next k ts i (omega arith))

-- that token is an opening parenthesis
pub first_over_opens : (ts : List Token) (o : ℕ) (r : FirstOver ts o) → get_or (codes_of ts) r.index 0 ≡ OPEN
first_over_opens ts o r =
    by (eqb (get_or (codes_of ts) r.index 0) OPEN) refl (count_next OPEN ts r.index r.inside)
  where
    by : (x : Bool) → eqb (get_or (codes_of ts) r.index 0) OPEN ≡ x
        → count OPEN (take (suc r.index) ts) ≡ pick x 1 0 + count OPEN (take r.index ts)
        → get_or (codes_of ts) r.index 0 ≡ OPEN
    by true e n = eqb-true _ _ e
    by false e n = absurd (r.not_before r.index (omega arith) (omega (arith, r.over, count_next CLOSE ts r.index r.inside)))
