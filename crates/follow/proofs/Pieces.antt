-- A piece, by the place of its first LF. Assumes nothing.
use Prim.Native.Nat.{ℕ, zero, suc, ◌+◌, ◌-◌, ◌≤◌, ◌<◌}
use native.Mathlib.Omega.{arith}
use mathlib.Core.Path.{◌≡◌, refl, sym, ◌∙◌}
use mathlib.Core.Bool.{Bool, true, false, not, ◌||◌}
use mathlib.Core.List.{List, [], ◌∷◌}
use lib.ListN.{length, get_or, take}
use lib.Dec.{eqb, ltb}
use borrow.Author.Tests.{eq-eqb, ne_eqb, eqb-true, eqb-false, lt-ltb, le-ltb, ltb-true, ltb-false}
use Rattle.text.specs.Bytes.{byte, pick}
use Rattle.text.specs.Runs.{span}
use Rattle.text.specs.declared.runs.Set.TheVariants.{NotLineFeed}
use Rattle.line.specs.Cutting.{opened}
use Rattle.following.specs.Feeding.{has_lF, malformed, unended}

-- an LF is among the first k bytes exactly if the first LF is
pub has_first : (s : List ℕ) (k : ℕ) → k ≤ length s → has_lF (take k s) ≡ ltb (span NotLineFeed s) k
unfolding has_lF span
has_first s zero h = sym (le-ltb (span NotLineFeed s) 0 (omega arith))
has_first [] (suc k) h = absurd (omega arith)
has_first (b ∷ s) (suc k) h = by (eqb b (byte "\n")) refl (has_first s k (omega arith))
  where
    by : (t : Bool) → eqb b (byte "\n") ≡ t → has_lF (take k s) ≡ ltb (span NotLineFeed s) k
        → (t || has_lF (take k s)) ≡ ltb (pick (not t) (suc (span NotLineFeed s)) zero) (suc k)
    by true e r = sym (lt-ltb 0 (suc k) (omega arith))
    by false e r = r ∙ by_suc (ltb (span NotLineFeed s) k) refl
      where
        by_suc : (u : Bool) → ltb (span NotLineFeed s) k ≡ u → u ≡ ltb (suc (span NotLineFeed s)) (suc k)
        by_suc true q = sym (lt-ltb (suc (span NotLineFeed s)) (suc k) (omega (arith, ltb-true (span NotLineFeed s) k q)))
        by_suc false q = sym (le-ltb (suc (span NotLineFeed s)) (suc k) (omega (arith, ltb-false (span NotLineFeed s) k q)))

-- at the first LF, if there is one, is an LF
at_first : (s : List ℕ) → span NotLineFeed s < length s → get_or s (span NotLineFeed s) 0 ≡ byte "\n"
unfolding span
at_first [] h = absurd (omega arith)
at_first (b ∷ s) h = by (eqb b (byte "\n")) refl h (at_first s)
  where
    by : (t : Bool) → eqb b (byte "\n") ≡ t → pick (not t) (suc (span NotLineFeed s)) zero < suc (length s)
        → (span NotLineFeed s < length s → get_or s (span NotLineFeed s) 0 ≡ byte "\n")
        → get_or (b ∷ s) (pick (not t) (suc (span NotLineFeed s)) zero) 0 ≡ byte "\n"
    by true e g r = eqb-true b (byte "\n") e
    by false e g r = r (omega arith)

-- before it there is none
no_earlier : (s : List ℕ) (i : ℕ) → i < span NotLineFeed s → get_or s i 0 ≡ byte "\n" → ⊥
unfolding span
no_earlier [] i h e = absurd (omega arith)
no_earlier (b ∷ s) zero h e = by (eqb b (byte "\n")) refl h
  where
    by : (t : Bool) → eqb b (byte "\n") ≡ t → zero < pick (not t) (suc (span NotLineFeed s)) zero → ⊥
    by true q g = omega arith
    by false q g = eqb-false b (byte "\n") q e
no_earlier (b ∷ s) (suc i) h e = by (eqb b (byte "\n")) refl h (no_earlier s i)
  where
    by : (t : Bool) → eqb b (byte "\n") ≡ t → suc i < pick (not t) (suc (span NotLineFeed s)) zero
        → (i < span NotLineFeed s → get_or s i 0 ≡ byte "\n" → ⊥) → ⊥
    by true q g r = omega arith
    by false q g r = r (omega arith) e

-- a piece p whose first LF, or its end if it has none, is at byte lf
module _ (p : List ℕ) (lf : ℕ) (at : lf ≡ span NotLineFeed p) (some : 0 < length p) where
  some_bytes : eqb (length p) 0 ≡ false
  some_bytes = ne_eqb (length p) 0 (λ e. omega (arith, e))

  pub is_malformed : lf + 1 < length p → malformed p ≡ true
  unfolding malformed
  is_malformed h = rw (some_bytes, has_first p (length p - 1) (omega arith), ← at, lt-ltb lf (length p - 1) (omega arith))

  module _ (last : length p ≤ lf + 1) where
    pub not_malformed : malformed p ≡ false
    unfolding malformed
    not_malformed = rw (some_bytes, has_first p (length p - 1) (omega arith), ← at, le-ltb lf (length p - 1) (omega arith))

    -- whether the piece lacks its LF
    pub lacks : lf ≤ length p → unended p ≡ not (eqb (lf + 1 - length p) 0)
    unfolding opened
    lacks within = by (eqb lf (length p)) refl
      where
        by : (t : Bool) → eqb lf (length p) ≡ t → unended p ≡ not (eqb (lf + 1 - length p) 0)
        by true e =
            let end = eqb-true lf (length p) e in
            let over : lf + 1 - length p ≡ 1 = omega arith in
            let other = ne_eqb (get_or p (length p - 1) 0) (byte "\n") (no_earlier p (length p - 1) (omega arith)) in
            rw (lt-ltb 0 (length p) some, other, over)
        by false e =
            let before : lf < length p = omega (arith, eqb-false lf (length p) e) in
            let over : lf + 1 - length p ≡ 0 = omega arith in
            let here : length p - 1 ≡ lf = omega arith in
            let there : get_or p lf 0 ≡ byte "\n" = rw at (at_first p (rw (← at) before)) in
            rw (lt-ltb 0 (length p) some, here, eq-eqb _ _ there, over)
