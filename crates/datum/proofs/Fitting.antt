-- The result of a call that refuses a field, has no room for it, or stores it. Assumes nothing.
use Rattle.std.specs.Prelude.{Err, Ok, Result}
use Prim.Native.Nat.{ℕ, ◌+◌, ◌≤◌, ◌<◌}
use native.Mathlib.Omega.{arith}
use mathlib.Core.Path.{◌≡◌, refl}
use mathlib.Core.List.{List}
use borrow.Author.Tests.{le-ltb, le-leb, lt-leb, ne_eqb, ltb-true, ltb-false}
use mathlib.Core.Bool.{Bool, true, false}
use lib.Dec.{ltb}
use lib.ListN.{length}
use Rattle.units.specs.Refusals.{refusal}
use Rattle.text.specs.Parts.{stored}
use Rattle.datum.specs.Encoding.{VOID, UINT64, Encoding, bytes, unfit, width_of, limit_of, number_field, fitted, Writes}
use Rattle.datum.specs.Datums.{within}
use Rattle.units.specs.declared.Reason.{Reason}
use Rattle.units.specs.declared.Reason.TheVariants.{BufferShort}
use Rattle.units.specs.declared.Refusal.{Refusal}

module _ {f : Encoding} (b : List ℕ) where
  pub refuses : {n : Reason} {r : Result ℕ Refusal} → f ≡ unfit n → r ≡ Err (refusal n) → Writes (fitted f b) r b
  unfolding fitted
  refuses e h = rw e (record { answer = h; buffer = refl })

  pub short : {v : List ℕ} {r : Result ℕ Refusal} → f ≡ bytes v → length b < length v → r ≡ Err (refusal BufferShort) → Writes (fitted f b) r b
  unfolding fitted
  short e l h = rw (e, lt-leb _ _ l) (record { answer = h; buffer = refl })

  pub stores : {v b' : List ℕ} {n : ℕ} → f ≡ bytes v → length v ≤ length b → n ≡ length v → b' ≡ stored v b → Writes (fitted f b) (Ok n) b'
  unfolding fitted
  stores e l h s = rw (e, le-leb _ _ l, h) (record { answer = refl; buffer = s })

-- a number of a datum whose numbers have a width and a largest one
pub within_limit : (d x w m : ℕ) → d ≤ UINT64 → (d ≡ VOID → ⊥) → width_of d ≡ w → m + 1 ≡ limit_of d → number_field d x ≡ within w m x
within_limit d x w m k v f h = by (ltb m x) refl
  where
    by : (t : Bool) → ltb m x ≡ t → number_field d x ≡ within w m x
    by true e = let l : limit_of d ≤ x = omega (arith, h, ltb-true _ _ e) in rw (le-ltb _ _ k, ne_eqb _ _ v, le-leb _ _ l, e)
    by false e = let l : x < limit_of d = omega (arith, h, ltb-false _ _ e) in rw (le-ltb _ _ k, ne_eqb _ _ v, lt-leb _ _ l, e, f)
