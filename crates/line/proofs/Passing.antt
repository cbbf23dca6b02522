-- The search for the next LF, part by part. Assumes nothing.
use Prim.Native.Nat.{ℕ, suc, ◌+◌, ◌≤◌, ◌<◌}
use native.Mathlib.Nat.{zero-add}
use native.Mathlib.Omega.{arith}
use mathlib.Core.Path.{◌≡◌, refl, sym, ap, ◌∙◌}
use mathlib.Core.Bool.{Bool, true, false}
use mathlib.Core.List.{List, [], ◌∷◌, ◌++◌}
use lib.ListN.{length, drop, length-drop, length-append}
use lib.Seq.{drop-drop}
use lib.Dec.{eqb, ltb}
use borrow.Author.Tests.{ltb-true, ltb-false}
use Rattle.std.specs.List.{position, position_or_len}
use Rattle.std.proofs.Common.{Some, None}
use Rattle.std.proofs.lemmas.Option.{none-some, cond_some}
use Rattle.std.proofs.Math.Seq.{drop-append_seam}
use Rattle.text.specs.Bytes.{byte}
use Rattle.text.specs.Runs.{span}
use Rattle.text.specs.declared.runs.Set.TheVariants.{NotLineFeed}

-- the number of bytes before the first LF of a part
abbrev before : List ℕ → ℕ
before s = position_or_len (λ b. eqb b (byte "\n")) s

-- an LF is in a part: it ends the run
run_in : (s t : List ℕ) → before s < length s → span NotLineFeed (s ++ t) ≡ before s
unfolding span
run_in [] t h = absurd (omega arith)
run_in (b ∷ s) t h = by (eqb b (byte "\n")) refl (run_in s t)
  where
    by : (u : Bool) → eqb b (byte "\n") ≡ u → (before s < length s → span NotLineFeed (s ++ t) ≡ before s) → span NotLineFeed (b ∷ s ++ t) ≡ before (b ∷ s)
    by true e f = rw e
    by false e f = let l : 1 + before s < suc (length s) = rw e at h in rw (e, f (omega (arith, l))) (omega arith)

-- no LF is in a part: the run goes on after it
run_over : (s t : List ℕ) → length s ≤ before s → span NotLineFeed (s ++ t) ≡ length s + span NotLineFeed t
unfolding span
run_over [] t h = rw zero-add
run_over (b ∷ s) t h = by (eqb b (byte "\n")) refl (run_over s t)
  where
    by : (u : Bool) → eqb b (byte "\n") ≡ u → (length s ≤ before s → span NotLineFeed (s ++ t) ≡ length s + span NotLineFeed t)
        → span NotLineFeed (b ∷ s ++ t) ≡ length (b ∷ s) + span NotLineFeed t
    by true e f = let l : suc (length s) ≤ 0 = rw e at h in absurd (omega (arith, l))
    by false e f = let l : suc (length s) ≤ 1 + before s = rw e at h in rw (e, f (omega (arith, l))) (omega arith)

pub first_in : (s t : List ℕ) (k : ℕ) → position (λ b. eqb b (byte "\n")) s ≡ Some k → span NotLineFeed (s ++ t) ≡ k
first_in s t k h =
    let found = cond_some _ _ _ h in
    run_in s t (ltb-true _ _ found.0) ∙ found.1

pub none_in : (s t : List ℕ) → position (λ b. eqb b (byte "\n")) s ≡ None → span NotLineFeed (s ++ t) ≡ length s + span NotLineFeed t
none_in s t h = by (ltb (before s) (length s)) refl
  where
    by : (u : Bool) → ltb (before s) (length s) ≡ u → span NotLineFeed (s ++ t) ≡ length s + span NotLineFeed t
    by true e = absurd (none-some (before s) (sym h ∙ rw e))
    by false e = run_over s t (ltb-false _ _ e)

-- the rest of a file goes on with a part
module _ (x t f : List ℕ) (i : ℕ) (e : drop i f ≡ x ++ t) where
  pub part_within : 0 < length x → i + length x ≤ length f
  part_within h = omega (arith, length-drop i f, ap length e, length-append x t)

  pub rest_after : drop (i + length x) f ≡ t
  rest_after = let s = drop-drop (length x) i f in rw e at (sym s) ∙ drop-append_seam x t
