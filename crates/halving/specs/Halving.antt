-- Search by halving (document 02, order 4): names ascend, so the order of a name and the one in the middle tells the half that it is in.
use Rattle.std.specs.Prelude.{ℕ, zero, suc, ◌+◌, ◌-◌, ◌/◌, ◌<◌, ◌≡◌, Some, None, List, [], length, get_or, ltb}
use Rattle.text.specs.Bytes.{pick}
use Rattle.text.specs.Order.{compared}
use Rattle.settings.specs.Table.{name_of}
use Rattle.halving.specs.declared.Found.{Found}
use Rattle.std.specs.declared.cmp.Ordering.{Ordering}
use Rattle.std.specs.declared.cmp.Ordering.TheVariants.{Equal, Greater, Less}

-- the name of the record at i, counted from 0
abbrev pub name_of_record : List (List ℕ) → ℕ → List ℕ
name_of_record rs i = name_of (get_or rs i [])

-- no record, the record at i, and a result with one round more
abbrev pub nowhere : Found
nowhere = record { at = None; rounds = 0 }

abbrev pub found_at : ℕ → Found
found_at i = record { at = Some i; rounds = 0 }

abbrev pub round_more : Found → Found
round_more f = record { at = f.at; rounds = suc f.rounds }

-- the result that belongs to an order
abbrev pub by_order : Ordering → (ifLess ifEqual ifGreater : Found) → Found
by_order Less l e g = l
by_order Equal l e g = e
by_order Greater l e g = g

-- the middle of the places from low up to high, high not included; of two middles the later
abbrev pub middle : (low high : ℕ) → ℕ
middle low high = low + (high - low) / 2

-- The search for n among the records from low up to high, high not included. A round compares n with one name, that in the middle. At most
-- `fuel` rounds are made: the number of these records is enough, since a round leaves out at least the middle one.
unfoldable pub halve : (fuel low high : ℕ) → List (List ℕ) → (n : List ℕ) → Found
halve zero low high rs n = nowhere
halve (suc fuel) low high rs n =
    let m : ℕ = middle low high in
    pick (ltb low high) (round_more (by_order (compared n (name_of_record rs m)) (halve fuel low m rs n) (found_at m) (halve fuel (m + 1) high rs n))) nowhere

-- the search among all records
abbrev pub halving : List (List ℕ) → (n : List ℕ) → Found
halving rs n = halve (length rs) 0 (length rs) rs n

-- f tells which record has the name n, or that none has it
pub record Finds (rs : List (List ℕ)) (n : List ℕ) (f : Found) : Type 0 where
  pub hit : (i : ℕ) → f.at ≡ Some i → (i < length rs) × (name_of_record rs i ≡ n)
  pub miss : f.at ≡ None → (i : ℕ) → i < length rs → name_of_record rs i ≡ n → ⊥
