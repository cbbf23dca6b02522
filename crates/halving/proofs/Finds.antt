-- Where names ascend, a search finds the record under the name, and there is one at most. Assumes nothing.
use Prim.Native.Nat.{ℕ, zero, suc, ◌+◌, ◌-◌, ◌≤◌, ◌<◌}
use native.Mathlib.Omega.{arith}
use mathlib.Core.Path.{◌≡◌, refl, sym, ap, ◌∙◌}
use mathlib.Core.Bool.{Bool, true, false}
use mathlib.Core.List.{List}
use lib.ListN.{length}
use lib.Dec.{eqb, ltb}
use borrow.Author.Tests.{eqb-true, eqb-false, ltb-true, ltb-false}
use Rattle.std.proofs.Common.{Some}
use Rattle.std.proofs.lemmas.Option.{none-some, same_Some}
use Rattle.text.specs.Bytes.{pick}
use Rattle.text.specs.Order.{compared}
use Rattle.text.proofs.Orders.{turned, not_less, equal_same, turned_compared, less_less}
use Rattle.halving.specs.Halving.{name_of_record, nowhere, found_at, round_more, by_order, middle, halve, halving, Finds}
use Rattle.halving.specs.declared.Found.{Found}
use Rattle.halving.proofs.Ascending.{Ascends}
use Rattle.std.specs.declared.cmp.Ordering.{Ordering}
use Rattle.std.specs.declared.cmp.Ordering.TheVariants.{Equal, Greater, Less}

module _ (rs : List (List ℕ)) (n : List ℕ) (up : Ascends rs) where
  -- n is greater than the names before low, and less than those from high on
  abbrev Passed : ℕ → Type 0
  Passed low = (i : ℕ) → i < low → compared (name_of_record rs i) n ≡ Less

  abbrev Ahead : ℕ → Type 0
  Ahead high = (i : ℕ) → high ≤ i → i < length rs → compared n (name_of_record rs i) ≡ Less

  -- no record is left
  none : (low high : ℕ) → high ≤ low → Passed low → Ahead high → Finds rs n nowhere
  none low high h p a = record {
    hit = λ i e. absurd (none-some i e);
    miss = λ _ i l e. by i l e (ltb i low) refl;
  }
    where
      by : (i : ℕ) → i < length rs → name_of_record rs i ≡ n → (t : Bool) → ltb i low ≡ t → ⊥
      by i l e true g = not_less (name_of_record rs i) n e (p i (ltb-true i low g))
      by i l e false g = not_less n (name_of_record rs i) (sym e) (a i (omega (arith, ltb-false i low g)) l)

  again : (f : Found) → Finds rs n f → Finds rs n (round_more f)
  again f p = record { hit = p.hit; miss = p.miss }

  there : (m : ℕ) → m < length rs → compared n (name_of_record rs m) ≡ Equal → Finds rs n (found_at m)
  there m h e = record {
    hit = λ i g. rw (← same_Some m i g) (h, sym (equal_same n (name_of_record rs m) e));
    miss = λ g. absurd (none-some m (sym g));
  }

  -- to the left of a name that is greater than n, and to the right of one that is less
  left : (m : ℕ) → compared n (name_of_record rs m) ≡ Less → Ahead m
  left m e i h l = by (eqb m i) refl
    where
      by : (t : Bool) → eqb m i ≡ t → compared n (name_of_record rs i) ≡ Less
      by true g = rw (← eqb-true m i g) e
      by false g =
          let d : m < i = omega (arith, h, eqb-false m i g) in
          less_less n (name_of_record rs m) (name_of_record rs i) e (up m i d l)

  right : (m : ℕ) → m < length rs → compared n (name_of_record rs m) ≡ Greater → Passed (m + 1)
  right m h e i l = by (eqb i m) refl
    where
      over : compared (name_of_record rs m) n ≡ Less
      over = turned_compared n (name_of_record rs m) ∙ ap turned e

      by : (t : Bool) → eqb i m ≡ t → compared (name_of_record rs i) n ≡ Less
      by true g = rw (eqb-true i m g) over
      by false g =
          let d : i < m = omega (arith, l, eqb-false i m g) in
          less_less (name_of_record rs i) (name_of_record rs m) n (up i m d h) over

  finds_from : (fuel low high : ℕ) → high ≤ length rs → high - low ≤ fuel → Passed low → Ahead high → Finds rs n (halve fuel low high rs n)
  unfolding halve
  finds_from zero low high h f p a = none low high (omega arith) p a
  finds_from (suc fuel) low high h f p a =
      by (ltb low high) refl (compared n (name_of_record rs (middle low high))) refl
      (λ low₁ high₁ h₁ f₁ p₁ a₁. finds_from fuel low₁ high₁ h₁ f₁ p₁ a₁)
    where
      m : ℕ
      m = middle low high

      by : (t : Bool) → ltb low high ≡ t → (o : Ordering) → compared n (name_of_record rs (middle low high)) ≡ o
          → ((low₁ high₁ : ℕ) → high₁ ≤ length rs → high₁ - low₁ ≤ fuel → Passed low₁ → Ahead high₁ → Finds rs n (halve fuel low₁ high₁ rs n))
          → Finds rs n (pick t (round_more (by_order o (halve fuel low m rs n) (found_at m) (halve fuel (m + 1) high rs n))) nowhere)
      by false g o e rec = none low high (ltb-false low high g) p a
      by true g Less e rec = again _ (rec low m (omega (arith, h, ltb-true low high g)) (omega (arith, f, ltb-true low high g)) p (left m e))
      by true g Equal e rec = again _ (there m (omega (arith, h, ltb-true low high g)) e)
      by true g Greater e rec =
          again _ (rec (m + 1) high h (omega (arith, f, ltb-true low high g)) (right m (omega (arith, h, ltb-true low high g)) e) a)

  -- THE THEOREM
  pub finds : Finds rs n (halving rs n)
  finds = finds_from (length rs) 0 (length rs) (omega arith) (omega arith) (λ i l. absurd (omega arith)) (λ i h l. absurd (omega arith))

-- a record that is found is one of them, whether or not names ascend
abbrev Inside : ℕ → Found → Type 0
Inside k f = (i : ℕ) → f.at ≡ Some i → i < k

found_within : (rs : List (List ℕ)) (n : List ℕ) (fuel low high : ℕ) → high ≤ length rs → Inside (length rs) (halve fuel low high rs n)
unfolding halve
found_within rs n zero low high h i e = absurd (none-some i e)
found_within rs n (suc fuel) low high h i e =
    by (ltb low high) refl (compared n (name_of_record rs (middle low high))) (λ low₁ high₁ h₁. found_within rs n fuel low₁ high₁ h₁) i e
  where
    m : ℕ
    m = middle low high

    by : (t : Bool) → ltb low high ≡ t → (o : Ordering)
        → ((low₁ high₁ : ℕ) → high₁ ≤ length rs → Inside (length rs) (halve fuel low₁ high₁ rs n))
        → Inside (length rs) (pick t (round_more (by_order o (halve fuel low m rs n) (found_at m) (halve fuel (m + 1) high rs n))) nowhere)
    by false g o rec i e = absurd (none-some i e)
    by true g Less rec i e = rec low m (omega (arith, h, ltb-true low high g)) i e
    by true g Equal rec i e = omega (arith, h, ltb-true low high g, same_Some m i e)
    by true g Greater rec i e = rec (m + 1) high h i e

pub found_inside : (rs : List (List ℕ)) (n : List ℕ) (i : ℕ) → (halving rs n).at ≡ Some i → i < length rs
found_inside rs n = found_within rs n (length rs) 0 (length rs) (omega arith)

-- at most one record has a name
pub one_record : (rs : List (List ℕ)) → Ascends rs → (i j : ℕ) → i < length rs → j < length rs → name_of_record rs i ≡ name_of_record rs j → i ≡ j
one_record rs up i j h k e = by (ltb i j) refl (ltb j i) refl
  where
    by : (t : Bool) → ltb i j ≡ t → (u : Bool) → ltb j i ≡ u → i ≡ j
    by true g u q = absurd (not_less (name_of_record rs i) (name_of_record rs j) e (up i j (ltb-true i j g) k))
    by false g true q = absurd (not_less (name_of_record rs j) (name_of_record rs i) (sym e) (up j i (ltb-true j i q) h))
    by false g false q = omega (arith, ltb-false i j g, ltb-false j i q)
