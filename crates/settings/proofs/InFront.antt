-- Whole records in front of a table are its first records. Assumes nothing.
use Prim.Native.Nat.{ℕ, zero, suc, ◌+◌, ◌*◌, ◌/◌, ◌%◌}
use native.Mathlib.Omega.{arith}
use mathlib.Core.Path.{◌≡◌, ap, ◌∙◌}
use mathlib.Core.List.{List, [], ◌∷◌, ◌++◌}
use lib.ListN.{length, drop, length-append, length-drop}
use lib.Seq.{take-append-le, drop-append-le}
use Rattle.settings.specs.Table.{records_in, records}

-- k records and then m
both : (k m : ℕ) (o t : List ℕ) → length o ≡ 128 * k → records_in (k + m) (o ++ t) ≡ records_in k o ++ records_in m t
unfolding records_in
both zero m [] t e = let z : 0 + m ≡ m = omega arith in rw z
both zero m (b ∷ o) t e = absurd (omega arith)
both (suc k) m o t e =
    let z : suc k + m ≡ suc (k + m) = omega arith in
    let long : length (drop 128 o) ≡ 128 * k = length-drop 128 o ∙ omega (arith, e) in
    rw (z, take-append-le 128 o t (omega (arith, e)), drop-append-le 128 o t (omega (arith, e)), both k m (drop 128 o) t long)

pub records_in_front : (o t : List ℕ) → length o % 128 ≡ 0 → records (o ++ t) ≡ records o ++ records t
records_in_front o t h =
    let whole : length o ≡ 128 * (length o / 128) = omega (arith, h) in
    let parts : length (o ++ t) / 128 ≡ length o / 128 + length t / 128 = omega (arith, length-append o t, whole) in
    ap (λ k. records_in k (o ++ t)) parts ∙ both (length o / 128) (length t / 128) o t whole
