-- Operands that suit their operator have no clash inside. Assumes nothing.
use Prim.Native.Nat.{ℕ, ◌<◌}
use native.Mathlib.Omega.{arith}
use mathlib.Core.Path.{◌≡◌, refl, sym}
use mathlib.Core.Bool.{Bool, true, false, ◌&&◌, false≢true}
use lib.Dec.{eqb, ltb}
use borrow.Author.Tests.{eqb-true, ltb-true, ne_eqb}
use Rattle.text.specs.Bytes.{pick}
use Rattle.text.proofs.Laws.{and_left, and_right}
use Rattle.value.specs.Kinds.{kind_number, is_number, alike_kinds, compares, suits, clashes, clash_or}
use Rattle.value.specs.declared.Kind.{Kind}
use Rattle.value.specs.declared.Kind.TheVariants.{Number, String, Wide, Clash}

-- without a clash in the operand what comes after it counts, with one the clash does
pub no_clash : (a k : Kind) → clashes a ≡ false → clash_or a k ≡ k
unfolding clash_or
no_clash Number k h = refl
no_clash String k h = refl
no_clash Wide k h = refl
no_clash (Clash p) k h = absurd (false≢true (sym h))

pub a_clash : (a k : Kind) → clashes a ≡ true → clash_or a k ≡ a
unfolding clash_or
a_clash Number k h = absurd (false≢true h)
a_clash String k h = absurd (false≢true h)
a_clash Wide k h = absurd (false≢true h)
a_clash (Clash p) k h = refl

pub number_no_clash : (a : Kind) → is_number a ≡ true → clashes a ≡ false
number_no_clash a h = ne_eqb (kind_number a) 3 (λ e. absurd (omega (arith, e, eqb-true (kind_number a) 0 h)))

pub alike_no_clash : (a b : Kind) → alike_kinds a b ≡ true → (clashes a ≡ false) × (clashes b ≡ false)
alike_no_clash a b h =
    let same : kind_number a ≡ kind_number b = eqb-true (kind_number a) (kind_number b)
    (and_left (eqb (kind_number a) (kind_number b)) (ltb (kind_number a) 3) h) in
    let low : kind_number a < 3 = ltb-true (kind_number a) 3 (and_right (eqb (kind_number a) (kind_number b)) (ltb (kind_number a) 3) h) in (
      ne_eqb (kind_number a) 3 (λ e. absurd (omega (arith, e, low))),
      ne_eqb (kind_number b) 3 (λ e. absurd (omega (arith, e, low, same))),
    )

pub suited_no_clash : (o : ℕ) (a b : Kind) → suits o a b ≡ true → (clashes a ≡ false) × (clashes b ≡ false)
suited_no_clash o a b = by (compares o)
  where
    by : (c : Bool) → pick c (alike_kinds a b) (is_number a && is_number b) ≡ true → (clashes a ≡ false) × (clashes b ≡ false)
    by true h = alike_no_clash a b h
    by false h = (number_no_clash a (and_left (is_number a) (is_number b) h), number_no_clash b (and_right (is_number a) (is_number b) h))

-- what shows that three operands that suit each other have no clash
pub ruleset no_clashes = (no_clash, number_no_clash, alike_no_clash)
