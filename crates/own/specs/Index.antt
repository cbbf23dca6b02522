-- The place of the record under a name among records. Contracts between layers cite this; no promise does.
use Rattle.std.specs.Prelude.{ℕ, suc, List, [], ◌∷◌, length, ltb, Option, Some, None}
use Rattle.text.specs.Bytes.{pick}
use Rattle.text.specs.Order.{equal}
use Rattle.settings.specs.Table.{name_of}

-- the index of the first record whose name is n; the number of records if there is none
unfoldable pub index_among : List (List ℕ) → (n : List ℕ) → ℕ
index_among [] n = 0
index_among (r ∷ rs) n = pick (equal (name_of r) n) 0 (suc (index_among rs n))

-- the same, if one of the records has the name
abbrev pub place_among : List (List ℕ) → (n : List ℕ) → Option ℕ
place_among rs n = pick (ltb (index_among rs n) (length rs)) (Some (index_among rs n)) None
