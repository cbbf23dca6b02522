-- The setting under a name, one record at a time from the front. Assumes nothing.
use Prim.Native.Nat.{ℕ, zero, suc, ◌+◌, ◌*◌, ◌≤◌, ◌<◌}
use native.Mathlib.Omega.{arith}
use mathlib.Core.Path.{◌≡◌, refl}
use mathlib.Core.Bool.{Bool, true, false}
use mathlib.Core.List.{List, [], ◌∷◌}
use lib.ListN.{length, get_or}
use lib.Dec.{eqb, leb}
use borrow.Author.Tests.{leb-true}
use Rattle.std.specs.Prelude.{Some, None}
use Rattle.text.specs.Bytes.{pick}
use Rattle.text.proofs.Laws.{pick_case}
use Rattle.text.proofs.Orders.{same_equal, differs}
use Rattle.settings.specs.Table.{name_of, kind_byte, length_byte}
use Rattle.halving.specs.Halving.{name_of_record}
use Rattle.lookup.specs.Setting.{clipped, value_at, setting_under_at, record_among, Within}

-- the first record with the name has the setting
pub under_found : (rs : List (List ℕ)) (n : List ℕ) (at i : ℕ) → i < length rs → name_of_record rs i ≡ n → ((j : ℕ) → j < i → name_of_record rs j ≡ n → ⊥)
    → setting_under_at at rs n ≡ Some (value_at (at + 128 * i) (get_or rs i []))
unfolding setting_under_at
under_found [] n at i h e d = absurd (omega arith)
under_found (r ∷ rs) n at zero h e d =
    let z : at + 128 * 0 ≡ at = omega arith in
    rw (e, same_equal n, z)
under_found (r ∷ rs) n at (suc i) h e d =
    let z : at + 128 * suc i ≡ at + 128 + 128 * i = omega arith in
    rw (differs (name_of r) n (d 0 (omega arith)), z)
    (under_found rs n (at + 128) i (omega arith) e (λ j l. d (suc j) (omega arith)))

pub among_found : (rs : List (List ℕ)) (n : List ℕ) (i : ℕ) → i < length rs → name_of_record rs i ≡ n → ((j : ℕ) → j < i → name_of_record rs j ≡ n → ⊥)
    → record_among rs n ≡ get_or rs i []
unfolding record_among
among_found [] n i h e d = absurd (omega arith)
among_found (r ∷ rs) n zero h e d = rw (e, same_equal n)
among_found (r ∷ rs) n (suc i) h e d =
    rw (differs (name_of r) n (d 0 (omega arith))) (among_found rs n i (omega arith) e (λ j l. d (suc j) (omega arith)))

-- no record has the name
pub under_none : (rs : List (List ℕ)) (n : List ℕ) (at : ℕ) → ((j : ℕ) → j < length rs → name_of_record rs j ≡ n → ⊥) → setting_under_at at rs n ≡ None
unfolding setting_under_at
under_none [] n at d = refl
under_none (r ∷ rs) n at d =
    rw (differs (name_of r) n (d 0 (omega arith))) (under_none rs n (at + 128) (λ j l. d (suc j) (omega arith)))

pub among_none : (rs : List (List ℕ)) (n : List ℕ) → ((j : ℕ) → j < length rs → name_of_record rs j ≡ n → ⊥) → record_among rs n ≡ []
unfolding record_among
among_none [] n d = refl
among_none (r ∷ rs) n d = rw (differs (name_of r) n (d 0 (omega arith))) (among_none rs n (λ j l. d (suc j) (omega arith)))

-- a record's string is within the record
pub clipped_most : (n : ℕ) → clipped n ≤ 56
clipped_most n = by (leb n 56) refl
  where
    by : (b : Bool) → leb n 56 ≡ b → pick b n 56 ≤ 56
    by true e = leb-true n 56 e
    by false e = omega arith

pub value_within : (t : List ℕ) (at : ℕ) (r : List ℕ) → at + 128 ≤ length t → Within t (value_at at r)
unfolding value_at
value_within t at r h =
    pick_case (Within t) (eqb (kind_byte r) 0) (λ _. tt)
    (λ _. pick_case (Within t) (eqb (kind_byte r) 1) (λ _. (refl, omega (arith, clipped_most (length_byte r))))
    (λ _. pick_case (Within t) (eqb (kind_byte r) 2) (λ _. (refl, omega (arith, clipped_most (length_byte r)))) (λ _. tt)))
