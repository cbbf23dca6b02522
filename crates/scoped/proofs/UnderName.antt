-- The record under a name, with settings in front of the table: the first of these with the name, and if there is none, the table's. So tables
-- with the same record under a name have the same one behind the same settings. Assumes nothing.
use Prim.Native.Nat.{ℕ, ◌+◌}
use mathlib.Core.Path.{◌≡◌, refl, sym, ap, ◌∙◌}
use mathlib.Core.Bool.{Bool, true, false, ◌||◌}
use mathlib.Core.List.{List, [], ◌∷◌, ◌++◌, map}
use Rattle.std.specs.Prelude.{Some}
use Rattle.std.specs.Option.{is_some}
use Rattle.text.specs.Bytes.{pick}
use Rattle.text.specs.Order.{equal}
use Rattle.settings.specs.Table.{name_of, records}
use Rattle.lookup.specs.Setting.{value_at, setting_under_at, setting_under, record_among, record_under}
use Rattle.own.specs.Own.{Own, record_of, name_in, scope, has}
use Rattle.own.proofs.Records.{scope_records}

among_own : (o : List Own) (rs : List (List ℕ)) (n : List ℕ)
    → record_among (map record_of o ++ rs) n ≡ pick (has n o) (record_among (map record_of o) n) (record_among rs n)
unfolding record_among has
among_own [] rs n = refl
among_own (x ∷ o) rs n = by (equal (name_in x) n) (among_own o rs n)
  where
    by : (e : Bool) → record_among (map record_of o ++ rs) n ≡ pick (has n o) (record_among (map record_of o) n) (record_among rs n)
        → pick e (record_of x) (record_among (map record_of o ++ rs) n)
        ≡ pick (e || has n o) (pick e (record_of x) (record_among (map record_of o) n)) (record_among rs n)
    by true ih = refl
    by false ih = ih

-- the record under a name in front of the table
pub scope_among : (o : List Own) (t n : List ℕ) → record_under (scope o t) n ≡ record_among (map record_of o ++ records t) n
unfolding record_under
scope_among o t n = ap (λ rs. record_among rs n) (scope_records o t)

-- THE THEOREM
pub under_scope : (o : List Own) (t n : List ℕ) → record_under (scope o t) n ≡ pick (has n o) (record_among (map record_of o) n) (record_under t n)
unfolding record_under
under_scope o t n = scope_among o t n ∙ among_own o (records t) n

-- behind the same settings
pub same_scope : (o : List Own) (t₁ t₂ n : List ℕ) → record_under t₁ n ≡ record_under t₂ n → record_under (scope o t₁) n ≡ record_under (scope o t₂) n
same_scope o t₁ t₂ n e = under_scope o t₁ n ∙ rw e (sym (under_scope o t₂ n))

-- whether a name is set does not depend on the place of the records
found_anywhere : (rs : List (List ℕ)) (n : List ℕ) (at at' : ℕ) → is_some (setting_under_at at rs n) ≡ is_some (setting_under_at at' rs n)
unfolding setting_under_at
found_anywhere [] n at at' = refl
found_anywhere (r ∷ rs) n at at' = by (equal (name_of r) n) (found_anywhere rs n (at + 128) (at' + 128))
  where
    by : (e : Bool) → is_some (setting_under_at (at + 128) rs n) ≡ is_some (setting_under_at (at' + 128) rs n)
        → is_some (pick e (Some (value_at at r)) (setting_under_at (at + 128) rs n))
        ≡ is_some (pick e (Some (value_at at' r)) (setting_under_at (at' + 128) rs n))
    by true ih = refl
    by false ih = ih

found_among : (o : List Own) (rs : List (List ℕ)) (n : List ℕ) (at at' : ℕ)
    → is_some (setting_under_at at (map record_of o ++ rs) n) ≡ (has n o || is_some (setting_under_at at' rs n))
unfolding setting_under_at has
found_among [] rs n at at' = found_anywhere rs n at at'
found_among (x ∷ o) rs n at at' = by (equal (name_in x) n) (found_among o rs n (at + 128) at')
  where
    by : (e : Bool) → is_some (setting_under_at (at + 128) (map record_of o ++ rs) n) ≡ (has n o || is_some (setting_under_at at' rs n))
        → is_some (pick e (Some (value_at at (record_of x))) (setting_under_at (at + 128) (map record_of o ++ rs) n))
        ≡ ((e || has n o) || is_some (setting_under_at at' rs n))
    by true ih = refl
    by false ih = ih

-- a name is set if one of the settings has it, or the table
pub found_scope : (o : List Own) (t n : List ℕ) → is_some (setting_under (scope o t) n) ≡ (has n o || is_some (setting_under t n))
unfolding setting_under
found_scope o t n = ap (λ rs. is_some (setting_under_at 0 rs n)) (scope_records o t) ∙ found_among o (records t) n 0 0

pub found_own : (o : List Own) (t n : List ℕ) → has n o ≡ true → is_some (setting_under (scope o t) n) ≡ true
found_own o t n h = found_scope o t n ∙ rw h
