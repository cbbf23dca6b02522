-- How many rounds a search takes: at most 10 among 512 records, and 10 for the first of 512. Assumes nothing.
use Prim.Native.Nat.{ℕ, zero, suc, ◌+◌, ◌-◌, ◌^◌, ◌≤◌, ◌<◌}
use native.Mathlib.Omega.{arith}
use mathlib.Core.Path.{◌≡◌, refl}
use mathlib.Core.Bool.{Bool, true, false}
use mathlib.Core.List.{List}
use lib.ListN.{length}
use lib.Dec.{ltb, lit≤}
use borrow.Author.Tests.{lt-ltb, le-ltb, ltb-true}
use Rattle.std.proofs.Common.{Some}
use Rattle.text.specs.Bytes.{pick}
use Rattle.text.specs.Order.{compared}
use Rattle.text.proofs.Orders.{same_equal}
use Rattle.settings.specs.Table.{records, ordered}
use Rattle.halving.specs.Halving.{name_of_record, nowhere, found_at, round_more, by_order, middle, halve, halving}
use Rattle.halving.proofs.Ascending.{Ascends, few}
use Rattle.std.specs.declared.cmp.Ordering.{Ordering}
use Rattle.std.specs.declared.cmp.Ordering.TheVariants.{Equal, Greater, Less}

-- fewer than 2^b records take at most b rounds
bounded : (rs : List (List ℕ)) (n : List ℕ) (fuel b low high : ℕ) → high - low < 2 ^ b → (halve fuel low high rs n).rounds ≤ b
unfolding halve
bounded rs n zero b low high h = omega arith
bounded rs n (suc fuel) zero low high h = rw (le-ltb low high (omega arith)) (omega arith)
bounded rs n (suc fuel) (suc b) low high h =
    by (ltb low high) refl (compared n (name_of_record rs (middle low high))) (λ low₁ high₁ h₁. bounded rs n fuel b low₁ high₁ h₁)
  where
    m : ℕ
    m = middle low high

    by : (t : Bool) → ltb low high ≡ t → (o : Ordering)
        → ((low₁ high₁ : ℕ) → high₁ - low₁ < 2 ^ b → (halve fuel low₁ high₁ rs n).rounds ≤ b)
        → (pick t (round_more (by_order o (halve fuel low m rs n) (found_at m) (halve fuel (m + 1) high rs n))) nowhere).rounds ≤ suc b
    by false g o rec = omega arith
    by true g Less rec = omega (arith, rec low m (omega (arith, h, ltb-true low high g)))
    by true g Equal rec = omega arith
    by true g Greater rec = omega (arith, rec (m + 1) high (omega (arith, h, ltb-true low high g)))

pub at_most_ten : (rs : List (List ℕ)) (n : List ℕ) → length rs ≤ 512 → (halving rs n).rounds ≤ 10
at_most_ten rs n h = bounded rs n (length rs) _ 0 (length rs) (omega (arith, h))

pub ten_in_a_table : (t n : List ℕ) → ordered t ≡ true → (halving (records t) n).rounds ≤ 10
ten_in_a_table t n h = bounded (records t) n (length (records t)) _ 0 (length (records t)) (omega (arith, few t h))

power : (b : ℕ) → 0 < 2 ^ b
power zero = omega arith
power (suc b) = omega (arith, power b)

-- the first of 2^b records takes b + 1 rounds
module _ (rs : List (List ℕ)) (up : Ascends rs) where
  first : (b fuel : ℕ) → b < fuel → 2 ^ b ≤ length rs → halve fuel 0 (2 ^ b) rs (name_of_record rs 0) ≡ record { at = Some 0; rounds = suc b }
  unfolding halve
  first b zero h l = absurd (omega arith)
  first zero (suc fuel) h l = rw (same_equal (name_of_record rs 0))
  first (suc b) (suc fuel) h l =
      let half : middle 0 (2 ^ suc b) ≡ 2 ^ b = omega arith in
      rw (
        lt-ltb 0 (2 ^ suc b) (power (suc b)),
        half,
        up 0 (2 ^ b) (power b) (omega (arith, l, power b)),
        first b fuel (omega arith) (omega arith),
      )

  pub first_takes_ten : length rs ≡ 512 → halving rs (name_of_record rs 0) ≡ record { at = Some 0; rounds = 10 }
  first_takes_ten h = rw h (first 9 512 (lit≤ tt) (omega (arith, h)))
