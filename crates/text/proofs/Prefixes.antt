-- Runs, and values stored at the front of a list, in std's words: what `take_while(..).count()` and `copy_from_slice` give. Assumes nothing.
use Prim.Native.Nat.{ℕ, ◌+◌, ◌≤◌, ◌<◌}
use native.Mathlib.Nat.{zero-add}
use native.Mathlib.Omega.{arith}
use mathlib.Core.Path.{◌≡◌, refl}
use mathlib.Core.List.{List, [], ◌∷◌, ◌++◌}
use mathlib.Core.Bool.{Bool, true, false}
use lib.ListN.{length, drop}
use lib.Dec.{ltb}
use borrow.Author.Tests.{ltb-true, ltb-false}
use Rattle.std.specs.List.{prefix_len}
use Rattle.std.proofs.lemmas.List.Edits.{sets-eq}
use Rattle.text.specs.Parts.{stored}
use Rattle.text.specs.Runs.{holds, span}
use Rattle.text.specs.declared.runs.Set.{Set}
use Rattle.text.proofs.Laws.{span_fits_at, span_end}

-- the run at the front is the longest front of which each byte passes the test
pub span_prefix : (k : Set) (s : List ℕ) → prefix_len (holds k) s ≡ span k s
unfolding span
span_prefix k [] = refl
span_prefix k (b ∷ s) = by (holds k b) refl (span_prefix k s)
  where
    by : (t : Bool) → holds k b ≡ t → prefix_len (holds k) s ≡ span k s → prefix_len (holds k) (b ∷ s) ≡ span k (b ∷ s)
    by true e h = rw (e, h) (omega arith)
    by false e h = rw e

-- the end of a run is below a bound that the offset and the length are below
pub span_below : (k : Set) (s : List ℕ) (i m : ℕ) → i < m → length s < m → i + span k (drop i s) < m
span_below k s i m h l = by (ltb (length s) i) refl
  where
    by : (t : Bool) → ltb (length s) i ≡ t → i + span k (drop i s) < m
    by true e = omega (arith, span_end k s i (omega (arith, ltb-true (length s) i e)))
    by false e = omega (arith, span_fits_at k s i (ltb-false (length s) i e))

-- what `copy_from_slice` writes at the front
pub stored_front : (vs l : List ℕ) → length vs ≤ length l → stored vs l ≡ vs ++ drop (length vs) l
stored_front vs l h = rw zero-add at (sets-eq vs l 0 (omega arith))
