-- An ordered table has at most 512 records, and their names ascend, at any two places. Assumes nothing.
use Prim.Native.Nat.{ℕ, zero, suc, ◌*◌, ◌/◌, ◌%◌, ◌≤◌, ◌<◌}
use native.Mathlib.Omega.{arith}
use mathlib.Core.Path.{◌≡◌, refl, sym, ap, ◌∙◌}
use mathlib.Core.Logic.{◌⊎◌, inl, inr}
use mathlib.Core.Bool.{Bool, true, false, not, false≢true}
use mathlib.Core.List.{List, [], ◌∷◌, map}
use lib.ListN.{length, take, drop, length-drop}
use lib.Seq.{take-take, length-take-le}
use lib.Dec.{eqb, leb, lit≤}
use borrow.Author.Tests.{eqb-true, eqb-false, leb-true}
use Rattle.text.specs.Bytes.{pick}
use Rattle.text.specs.Runs.{span}
use Rattle.text.specs.Order.{compared, is_less, less}
use Rattle.text.specs.declared.runs.Set.TheVariants.{NonZero}
use Rattle.text.proofs.Laws.{and_left, and_right}
use Rattle.text.proofs.Orders.{not_less, less_first, less_later, less_either, less_less}
use Rattle.settings.specs.Table.{records_in, records, name_field, unpadded, name_of, zeros, is_name, well_formed_name, ordered_names, ordered}
use Rattle.halving.specs.Halving.{name_of_record}
use Rattle.halving.proofs.RecordsAt.{records_length}
use Rattle.std.specs.declared.cmp.Ordering.{Ordering}
use Rattle.std.specs.declared.cmp.Ordering.TheVariants.{Equal, Greater, Less}

-- zeros of one length are the same
zeros_same : (f g : List ℕ) → length f ≡ length g → zeros f ≡ true → zeros g ≡ true → f ≡ g
unfolding zeros
zeros_same [] [] l e h = refl
zeros_same [] (y ∷ g) l e h = absurd (omega arith)
zeros_same (x ∷ f) [] l e h = absurd (omega arith)
zeros_same (x ∷ f) (y ∷ g) l e h =
    let first : x ≡ y = eqb-true x 0 (and_left _ (zeros f) e) ∙ sym (eqb-true y 0 (and_left _ (zeros g) h)) in
    rw (first, zeros_same f g (omega arith) (and_right (eqb x 0) _ e) (and_right (eqb y 0) _ h))

-- of two fields of one length, each a name and then zeros, the lesser has the lesser name
abbrev Padded : List ℕ → Type 0
Padded f = zeros (drop (span NonZero f) f) ≡ true

-- the length of the name in a field, by whether its first byte is zero
abbrev cut : Bool → List ℕ → ℕ
cut t s = pick (not t) (suc (span NonZero s)) zero

lesser_name : (f g : List ℕ) → length f ≡ length g → Padded f → Padded g → compared f g ≡ Less → compared (unpadded f) (unpadded g) ≡ Less
unfolding compared span
lesser_name [] [] l p q h = absurd (false≢true (ap is_less h))
lesser_name [] (y ∷ g) l p q h = absurd (omega arith)
lesser_name (x ∷ f) [] l p q h = absurd (omega arith)
lesser_name (x ∷ f) (y ∷ g) l p q h =
    by (eqb x 0) refl (eqb y 0) refl p q (less_either x y f g h) (λ a b c. lesser_name f g (omega arith) a b c)
  where
    by : (t : Bool) → eqb x 0 ≡ t → (u : Bool) → eqb y 0 ≡ u
        → zeros (drop (cut t f) (x ∷ f)) ≡ true → zeros (drop (cut u g) (y ∷ g)) ≡ true
        → (x < y) ⊎ ((x ≡ y) × (compared f g ≡ Less))
        → (Padded f → Padded g → compared f g ≡ Less → compared (unpadded f) (unpadded g) ≡ Less)
        → compared (take (cut t f) (x ∷ f)) (take (cut u g) (y ∷ g)) ≡ Less
    by true a true b p q d r = absurd (not_less (x ∷ f) (y ∷ g) (zeros_same (x ∷ f) (y ∷ g) l p q) h)
    by true a false b p q d r = refl
    by false a true b p q (inl m) r = absurd (omega (arith, eqb-true y 0 b, m))
    by false a true b p q (inr m) r = absurd (eqb-false x 0 a (m.0 ∙ eqb-true y 0 b))
    by false a false b p q (inl m) r = less_first x y (unpadded f) (unpadded g) m
    by false a false b p q (inr m) r = less_later x y (unpadded f) (unpadded g) m.0 (r p q m.1)

-- every record has a whole name field
abbrev Whole : List (List ℕ) → Type 0
Whole [] = Unit
Whole (r ∷ rs) = (length (name_field r) ≡ 64) × Whole rs

whole : (m : ℕ) (t : List ℕ) → 128 * m ≤ length t → Whole (records_in m t)
unfolding records_in
whole zero t h = tt
whole (suc m) t h =
    let e = take-take 64 128 t (lit≤ tt) in
    (ap length e ∙ length-take-le 64 t (omega arith), whole m (drop 128 t) (omega (arith, length-drop 128 t)))

padded : (f : List ℕ) → well_formed_name f ≡ true → Padded f
unfolding well_formed_name
padded f h = and_right (is_name (unpadded f)) _ h

first_well : (q : List ℕ) (rs : List (List ℕ)) → ordered_names (map name_field (q ∷ rs)) ≡ true → well_formed_name (name_field q) ≡ true
unfolding ordered_names
first_well q [] h = h
first_well q (r ∷ rs) h = and_left (well_formed_name (name_field q)) _ h

is_less_lem : (o : Ordering) → is_less o ≡ true → o ≡ Less
is_less_lem Less e = refl
is_less_lem Equal e = absurd (false≢true e)
is_less_lem Greater e = absurd (false≢true e)

-- the first names of a list of at least two records, and the rest
module _ (r q : List ℕ) (rs : List (List ℕ)) (w : Whole (r ∷ q ∷ rs)) (h : ordered_names (map name_field (r ∷ q ∷ rs)) ≡ true) where
  parts : (well_formed_name (name_field r) ≡ true) × (less (name_field r) (name_field q) ≡ true) × (ordered_names (map name_field (q ∷ rs)) ≡ true)
  unfolding ordered_names
  parts =
      let rest = and_right (well_formed_name (name_field r)) _ h in (
        and_left (well_formed_name (name_field r)) _ h,
        and_left (less (name_field r) (name_field q)) _ rest,
        and_right (less (name_field r) (name_field q)) _
            rest,
      )

  second_greater : compared (name_of r) (name_of q) ≡ Less
  second_greater =
      let p = padded (name_field r) parts.0 in
      let u = padded (name_field q) (first_well q rs parts.2) in
      lesser_name (name_field r) (name_field q) (w.0 ∙ sym w.1.0) p u (is_less_lem _ parts.1)

-- the first name is less than every other
first_least : (r : List ℕ) (rs : List (List ℕ)) → Whole (r ∷ rs) → ordered_names (map name_field (r ∷ rs)) ≡ true
    → (j : ℕ) → j < length rs → compared (name_of r) (name_of_record rs j) ≡ Less
first_least r [] w h j l = absurd (omega arith)
first_least r (q ∷ rs) w h zero l = second_greater r q rs w h
first_least r (q ∷ rs) w h (suc j) l =
    less_less (name_of r) (name_of q) (name_of_record rs j) (second_greater r q rs w h)
    (first_least q rs w.1 (parts r q rs w h).2 j (omega arith))

-- names that ascend
abbrev pub Ascends : List (List ℕ) → Type 0
Ascends rs = (i j : ℕ) → i < j → j < length rs → compared (name_of_record rs i) (name_of_record rs j) ≡ Less

ascends_in : (rs : List (List ℕ)) → Whole rs → ordered_names (map name_field rs) ≡ true → Ascends rs
ascends_in [] w h i j l m = absurd (omega arith)
ascends_in (r ∷ rs) w h i zero l m = absurd (omega arith)
ascends_in (r ∷ rs) w h zero (suc j) l m = first_least r rs w h j (omega arith)
ascends_in (r ∷ []) w h (suc i) (suc j) l m = absurd (omega arith)
ascends_in (r ∷ q ∷ rs) w h (suc i) (suc j) l m = ascends_in (q ∷ rs) w.1 (parts r q rs w h).2 i j (omega arith) (omega arith)

-- the limit of the length, and the order of the names
both_parts : (t : List ℕ) → ordered t ≡ true → (length t ≤ 512 * 128) × (ordered_names (map name_field (records t)) ≡ true)
unfolding ordered
both_parts t h =
    let rest = and_right (eqb (length t % 128) 0) _ h in
    (leb-true (length t) (512 * 128) (and_left (leb (length t) (512 * 128)) _ rest), and_right (leb (length t) (512 * 128)) _ rest)

pub few : (t : List ℕ) → ordered t ≡ true → length (records t) ≤ 512
few t h = omega (arith, (both_parts t h).0, records_length (length t / 128) t)

-- THE THEOREM
pub ascends : (t : List ℕ) → ordered t ≡ true → Ascends (records t)
ascends t h = ascends_in (records t) (whole (length t / 128) t (omega arith)) (both_parts t h).1
