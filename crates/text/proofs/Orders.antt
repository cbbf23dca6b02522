-- The order of byte strings is total. Assumes nothing.
use Prim.Native.Nat.{ℕ, ◌<◌}
use native.Mathlib.Omega.{arith}
use mathlib.Core.Path.{◌≡◌, refl, sym, ap, ◌∙◌}
use mathlib.Core.Logic.{◌⊎◌, inl, inr}
use mathlib.Core.List.{List, [], ◌∷◌}
use mathlib.Core.Bool.{Bool, true, false, false≢true}
use lib.Dec.{ltb}
use borrow.Author.Tests.{lt-ltb, le-ltb, ltb-true, ltb-false}
use Rattle.text.specs.Bytes.{pick}
use Rattle.text.specs.Order.{compared, is_less, is_equal, equal}
use Rattle.std.specs.declared.cmp.Ordering.{Ordering}
use Rattle.std.specs.declared.cmp.Ordering.TheVariants.{Equal, Greater, Less}

-- the order seen from the other side
abbrev pub turned : Ordering → Ordering
turned Less = Greater
turned Equal = Equal
turned Greater = Less

pub same_equal : (a : List ℕ) → compared a a ≡ Equal
unfolding compared
same_equal [] = refl
same_equal (x ∷ a) = rw (le-ltb x x (omega arith)) (same_equal a)

pub not_less : (a b : List ℕ) → a ≡ b → compared a b ≡ Less → ⊥
not_less a b e h = false≢true (ap is_less (sym (same_equal a) ∙ ap (compared a) e ∙ h))

pub equal_same : (a b : List ℕ) → compared a b ≡ Equal → a ≡ b
unfolding compared
equal_same [] [] e = refl
equal_same [] (y ∷ b) e = absurd (false≢true (ap is_equal e))
equal_same (x ∷ a) [] e = absurd (false≢true (ap is_equal e))
equal_same (x ∷ a) (y ∷ b) e = by (ltb x y) refl (ltb y x) refl (equal_same a b) e
  where
    by : (t : Bool) → ltb x y ≡ t → (u : Bool) → ltb y x ≡ u → (compared a b ≡ Equal → a ≡ b)
        → pick t Less (pick u Greater (compared a b)) ≡ Equal → x ∷ a ≡ y ∷ b
    by true l u g i h = absurd (false≢true (ap is_equal h))
    by false l true g i h = absurd (false≢true (ap is_equal h))
    by false l false g i h = let first : x ≡ y = omega (arith, ltb-false x y l, ltb-false y x g) in rw (first, i h)

pub equals : (a b : List ℕ) → equal a b ≡ true → a ≡ b
equals a b e = by (compared a b) refl e
  where
    by : (o : Ordering) → compared a b ≡ o → is_equal o ≡ true → a ≡ b
    by Less g h = absurd (false≢true h)
    by Equal g h = equal_same a b g
    by Greater g h = absurd (false≢true h)

pub differs : (a b : List ℕ) → (a ≡ b → ⊥) → equal a b ≡ false
differs a b n = by (equal a b) refl
  where
    by : (t : Bool) → equal a b ≡ t → t ≡ false
    by true e = absurd (n (equals a b e))
    by false e = refl

pub turned_compared : (a b : List ℕ) → compared b a ≡ turned (compared a b)
unfolding compared
turned_compared [] [] = refl
turned_compared [] (y ∷ b) = refl
turned_compared (x ∷ a) [] = refl
turned_compared (x ∷ a) (y ∷ b) = by (ltb x y) refl (ltb y x) refl (turned_compared a b)
  where
    by : (t : Bool) → ltb x y ≡ t → (u : Bool) → ltb y x ≡ u → compared b a ≡ turned (compared a b)
        → pick u Less (pick t Greater (compared b a)) ≡ turned (pick t Less (pick u Greater (compared a b)))
    by true l true g i = absurd (omega (arith, ltb-true x y l, ltb-true y x g))
    by true l false g i = refl
    by false l true g i = refl
    by false l false g i = i

-- less by the first bytes, or by the bytes after equal ones
pub less_first : (x y : ℕ) (a b : List ℕ) → x < y → compared (x ∷ a) (y ∷ b) ≡ Less
unfolding compared
less_first x y a b h = rw (lt-ltb x y h)

pub less_later : (x y : ℕ) (a b : List ℕ) → x ≡ y → compared a b ≡ Less → compared (x ∷ a) (y ∷ b) ≡ Less
unfolding compared
less_later x y a b e h = rw (le-ltb x y (omega arith), le-ltb y x (omega arith)) h

pub less_either : (x y : ℕ) (a b : List ℕ) → compared (x ∷ a) (y ∷ b) ≡ Less → (x < y) ⊎ ((x ≡ y) × (compared a b ≡ Less))
unfolding compared
less_either x y a b e = by (ltb x y) refl (ltb y x) refl e
  where
    by : (t : Bool) → ltb x y ≡ t → (u : Bool) → ltb y x ≡ u → pick t Less (pick u Greater (compared a b)) ≡ Less
        → (x < y) ⊎ ((x ≡ y) × (compared a b ≡ Less))
    by true l u g h = inl (ltb-true x y l)
    by false l true g h = absurd (false≢true (ap is_less h))
    by false l false g h = inr (omega (arith, ltb-false x y l, ltb-false y x g), h)

pub less_less : (a b c : List ℕ) → compared a b ≡ Less → compared b c ≡ Less → compared a c ≡ Less
unfolding compared
less_less a [] c h k = absurd (nothing_less a h)
  where
    nothing_less : (s : List ℕ) → compared s [] ≡ Less → ⊥
    nothing_less [] e = false≢true (ap is_less e)
    nothing_less (x ∷ s) e = false≢true (ap is_less e)
less_less a (y ∷ b) [] h k = absurd (false≢true (ap is_less k))
less_less [] (y ∷ b) (z ∷ c) h k = refl
less_less (x ∷ a) (y ∷ b) (z ∷ c) h k = by (less_less a b c) (less_either x y a b h) (less_either y z b c k)
  where
    by : (compared a b ≡ Less → compared b c ≡ Less → compared a c ≡ Less) → (x < y) ⊎ ((x ≡ y) × (compared a b ≡ Less))
        → (y < z) ⊎ ((y ≡ z) × (compared b c ≡ Less)) → compared (x ∷ a) (z ∷ c) ≡ Less
    by i (inl l) (inl m) = less_first x z a c (omega (arith, l, m))
    by i (inl l) (inr m) = less_first x z a c (omega (arith, l, m.0))
    by i (inr l) (inl m) = less_first x z a c (omega (arith, l.0, m))
    by i (inr l) (inr m) = less_later x z a c (l.0 ∙ m.0) (i l.1 m.1)
