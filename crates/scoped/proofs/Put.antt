-- A setting that is put among others is the one under its name, and changes nothing under any other; these stay, except one with its name.
-- Assumes nothing.
use Prim.Native.Nat.{ℕ}
use mathlib.Core.Path.{◌≡◌, refl, sym, ◌∙◌}
use mathlib.Core.Logic.{◌⊎◌, inl, inr}
use mathlib.Core.Bool.{Bool, true, false, ◌||◌, false≢true}
use mathlib.Core.List.Memᴰ
use mathlib.Core.List.{List, [], ◌∷◌, ◌++◌, map, Memᴰ}
use Rattle.text.specs.Bytes.{pick}
use Rattle.text.specs.Order.{equal}
use Rattle.text.proofs.Orders.{same_equal, equals, differs}
use Rattle.settings.specs.Table.{records}
use Rattle.lookup.specs.Setting.{record_among, record_under}
use Rattle.own.specs.Own.{Own, record_of, name_in, scope, put, has}
use Rattle.scoped.specs.Macros.{AllDiffer}
use Rattle.scoped.proofs.UnderName.{scope_among}

-- each setting is then the one that was put, or was there before
pub put_member : (x y : Own) (o : List Own) → Memᴰ y (put x o) → (y ≡ x) ⊎ Memᴰ y o
unfolding put
put_member x y [] m = inl (Memᴰ.eq_of_singleton m)
put_member x y (z ∷ o) m = by (equal (name_in z) x.name) (put_member x y o) m
  where
    later : {w : Own} → (y ≡ x) ⊎ Memᴰ y o → (y ≡ x) ⊎ Memᴰ y (w ∷ o)
    later (inl e) = inl e
    later (inr h) = inr (Memᴰ.tail h)

    behind : (Memᴰ y (put x o) → (y ≡ x) ⊎ Memᴰ y o) → (y ≡ z) ⊎ Memᴰ y (put x o) → (y ≡ x) ⊎ Memᴰ y (z ∷ o)
    behind ih (inl e) = inr (Memᴰ.head e)
    behind ih (inr h) = later (ih h)

    by : (e : Bool) → (Memᴰ y (put x o) → (y ≡ x) ⊎ Memᴰ y o) → Memᴰ y (pick e (x ∷ o) (z ∷ put x o)) → (y ≡ x) ⊎ Memᴰ y (z ∷ o)
    by true ih m = later (Memᴰ.cases_cons m)
    by false ih m = behind ih (Memᴰ.cases_cons m)

-- the names are then those before and its own, and they differ if they did before
module _ (x : Own) (named : name_in x ≡ x.name) where
  pub put_has : (n : List ℕ) (o : List Own) → has n (put x o) ≡ (equal x.name n || has n o)
  unfolding put has
  put_has n [] = rw named
  put_has n (y ∷ o) = by (equal (name_in y) x.name) refl (put_has n o)
    where
      again : (a h : Bool) → (a || h) ≡ (a || (a || h))
      again true h = refl
      again false h = refl

      turned : (a b h : Bool) → (b || (a || h)) ≡ (a || (b || h))
      turned true true h = refl
      turned true false h = refl
      turned false b h = refl

      by : (e : Bool) → equal (name_in y) x.name ≡ e → has n (put x o) ≡ (equal x.name n || has n o)
          → has n (pick e (x ∷ o) (y ∷ put x o)) ≡ (equal x.name n || (equal (name_in y) n || has n o))
      by true q ih = rw (named, equals (name_in y) x.name q) (again (equal x.name n) (has n o))
      by false q ih = rw ih (turned (equal x.name n) (equal (name_in y) n) (has n o))

  pub put_differ : (o : List Own) → AllDiffer o → AllDiffer (put x o)
  unfolding put has
  put_differ [] h = (refl, tt)
  put_differ (y ∷ o) h = by (equal (name_in y) x.name) refl (put_differ o h.1)
    where
      by : (e : Bool) → equal (name_in y) x.name ≡ e → AllDiffer (put x o) → AllDiffer (pick e (x ∷ o) (y ∷ put x o))
      by true q ih = (rw (named, ← equals (name_in y) x.name q) h.0, h.1)
      by false q ih =
          let other : equal x.name (name_in y) ≡ false =
          differs x.name (name_in y) (λ e. false≢true (sym q ∙ rw (e, same_equal (name_in y)))) in
          (put_has (name_in y) o ∙ rw (other, h.0), ih)

module _ (x : Own) (named : name_in x ≡ x.name) (t : List ℕ) where
  first_same : (rs : List (List ℕ)) → record_among (record_of x ∷ rs) x.name ≡ record_of x
  unfolding record_among
  first_same rs = rw (named, same_equal x.name)

  put_among : (o : List Own) → record_among (map record_of (put x o) ++ records t) x.name ≡ record_of x
  unfolding put record_among
  put_among [] = first_same (records t)
  put_among (y ∷ o) = by (equal (name_in y) x.name) refl (put_among o)
    where
      by : (e : Bool) → equal (name_in y) x.name ≡ e → record_among (map record_of (put x o) ++ records t) x.name ≡ record_of x
          → record_among (map record_of (pick e (x ∷ o) (y ∷ put x o)) ++ records t) x.name ≡ record_of x
      by true q ih = first_same (map record_of o ++ records t)
      by false q ih = rw q ih

  -- THE FIRST THEOREM
  pub put_same : (o : List Own) → record_under (scope (put x o) t) x.name ≡ record_of x
  put_same o = scope_among (put x o) t x.name ∙ put_among o

  module _ (n : List ℕ) (other : n ≡ x.name → ⊥) where
    first_other : (y : Own) → name_in y ≡ x.name → (rs : List (List ℕ)) → record_among (record_of y ∷ rs) n ≡ record_among rs n
    unfolding record_among
    first_other y e rs = rw (differs (name_in y) n (λ q. other (sym q ∙ e)))

    put_among_other : (o : List Own) → record_among (map record_of (put x o) ++ records t) n ≡ record_among (map record_of o ++ records t) n
    unfolding put record_among
    put_among_other [] = first_other x named (records t)
    put_among_other (y ∷ o) = by (equal (name_in y) x.name) refl (put_among_other o)
      where
        by : (e : Bool) → equal (name_in y) x.name ≡ e
            → record_among (map record_of (put x o) ++ records t) n ≡ record_among (map record_of o ++ records t) n
            → record_among (map record_of (pick e (x ∷ o) (y ∷ put x o)) ++ records t) n ≡ record_among (record_of y ∷ (map record_of o ++ records t)) n
        by true q ih =
            first_other x named (map record_of o ++ records t)
            ∙ sym (first_other y (equals (name_in y) x.name q) (map record_of o ++ records t))
        by false q ih = rw ih

    -- THE SECOND THEOREM
    pub put_other : (o : List Own) → record_under (scope (put x o) t) n ≡ record_under (scope o t) n
    put_other o = scope_among (put x o) t n ∙ put_among_other o ∙ sym (scope_among o t n)
