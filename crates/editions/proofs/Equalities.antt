-- The equality operators of the table are the two that the order names, in all spellings. Assumes nothing.
use Prim.Native.Nat.{ℕ}
use mathlib.Core.Path.{◌≡◌, refl}
use mathlib.Core.Logic.{◌⊎◌, ◌↔◌, inl, inr}
use mathlib.Core.Bool.{Bool, true, false, false≢true}
use lib.Dec.{eqb}
use borrow.Author.Tests.{eqb-true}
use Rattle.codes.specs.Codes.{EQUAL, NOT_EQUAL}
use Rattle.codes.specs.Levels.{is_equality}

pub equality_exactly : (c : ℕ) → (is_equality c ≡ true) ↔ ((c ≡ EQUAL) ⊎ (c ≡ NOT_EQUAL))
unfolding is_equality
equality_exactly c = (to, from)
  where
    by : (x y : Bool) → eqb c EQUAL ≡ x → eqb c NOT_EQUAL ≡ y → is_equality c ≡ true → (c ≡ EQUAL) ⊎ (c ≡ NOT_EQUAL)
    by true y p q h = inl (eqb-true c EQUAL p)
    by false true p q h = inr (eqb-true c NOT_EQUAL q)
    by false false p q h = absurd (false≢true (rw (p, q) at h))

    to : is_equality c ≡ true → (c ≡ EQUAL) ⊎ (c ≡ NOT_EQUAL)
    to = by (eqb c EQUAL) (eqb c NOT_EQUAL) refl refl

    from : (c ≡ EQUAL) ⊎ (c ≡ NOT_EQUAL) → is_equality c ≡ true
    from (inl e) = rw e
    from (inr e) = rw e
