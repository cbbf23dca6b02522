-- What a search by halving found is the setting under the name. Assumes nothing.
use Prim.Native.Nat.{ℕ, ◌+◌, ◌*◌, ◌/◌, ◌≤◌, ◌<◌}
use native.Mathlib.Omega.{arith}
use native.Mathlib.Nat.{zero-add}
use mathlib.Core.Path.{◌≡◌, refl, sym, ◌∙◌}
use mathlib.Core.Bool.{true}
use mathlib.Core.List.{List, []}
use lib.ListN.{length, get_or, take, drop}
use Rattle.std.specs.Prelude.{Option, Some, None, unwrap_or}
use Rattle.std.specs.Option.{option_map}
use Rattle.settings.specs.Table.{records, ordered}
use Rattle.halving.specs.Halving.{name_of_record, halving, Finds}
use Rattle.halving.specs.declared.Found.{Found}
use Rattle.halving.proofs.RecordsAt.{records_length, record_at}
use Rattle.halving.proofs.Ascending.{ascends}
use Rattle.halving.proofs.Finds.{finds, found_inside, one_record}
use Rattle.lookup.specs.Setting.{value_at, setting_under, record_among, record_under, LooksUp}
use Rattle.lookup.proofs.RecordUnderName.{under_found, under_none, among_found, among_none, value_within}

module _ (t n : List ℕ) (f : Found) (e : f ≡ halving (records t) n) where
  found : ordered t ≡ true → Finds (records t) n f
  found h = rw e (finds (records t) n (ascends t h))

  pub nothing : f.at ≡ None → LooksUp t n None
  unfolding setting_under
  nothing g = record {
    right = λ h. sym (under_none (records t) n 0 ((found h).miss g));
    within = tt;
    halved = rw (← e, g);
  }

  module _ (i : ℕ) (g : f.at ≡ Some i) where
    place : i < length t / 128
    place =
        let p : (f.at ≡ Some i → i < length (records t)) = rw e (found_inside (records t) n i) in
        rw (← records_length (length t / 128) t) (p g)

    pub inside : 128 * i + 128 ≤ length t
    inside = omega (arith, place)

    -- no record before it has the name
    only : ordered t ≡ true → (j : ℕ) → j < i → name_of_record (records t) j ≡ n → ⊥
    only h j l k =
        let p = (found h).hit i g in
        let same = one_record (records t) (ascends t h) j i (omega (arith, l, p.0)) p.0 (k ∙ sym p.1) in
        omega (arith, l, same)

    pub something : LooksUp t n (Some (value_at (128 * i) (take 128 (drop (128 * i) t))))
    unfolding setting_under
    something = record {
      right = λ h.
          let p = (found h).hit i g in
          let under = under_found (records t) n 0 i p.0 p.1 (only h) in
          rw (← record_at (length t / 128) i t place) (sym (rw (← zero-add (128 * i)) under));
      within = value_within t (128 * i) _ inside;
      halved = rw (← e, g, record_at (length t / 128) i t place);
    }

-- THE THEOREM: the record under a name is the one that the search finds
pub halved_record : (t n : List ℕ) → ordered t ≡ true
    → record_under t n ≡ unwrap_or (option_map (λ i. get_or (records t) i []) (halving (records t) n).at) []
unfolding record_under
halved_record t n h = by f.at refl
  where
    f : Found
    f = halving (records t) n

    by : (o : Option ℕ) → f.at ≡ o → record_among (records t) n ≡ unwrap_or (option_map (λ i. get_or (records t) i []) o) []
    by (Some i) g =
        let p = (found t n f refl h).hit i g in
        among_found (records t) n i p.0 p.1 (only t n f refl i g h)
    by None g = among_none (records t) n ((found t n f refl h).miss g)
