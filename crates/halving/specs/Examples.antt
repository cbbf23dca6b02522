-- A small table, searched by halving.
use Rattle.std.specs.Prelude.{ℕ, zero, suc, ◌+◌, ◌/◌, ◌%◌, ◌≡◌, refl, List, [], ◌∷◌, ◌++◌, map, replicate}
use Rattle.text.specs.Runs.{span}
use Rattle.text.specs.Order.{compared}
use Rattle.settings.specs.Table.{records_in, records}
use Rattle.halving.specs.Halving.{halve, halving}

-- a name of three letters, ascending with i, and the number 0 under it
abbrev name : ℕ → List ℕ
name i = (65 + i / 64) ∷ (65 + i / 8 % 8) ∷ (65 + i % 8) ∷ []

abbrev numbered : ℕ → List ℕ
numbered i = name i ++ replicate 61 0 ++ 0 ∷ 8 ∷ replicate 62 0

-- n such records, from i on
abbrev pub table : (n i : ℕ) → List ℕ
table zero i = []
table (suc n) i = numbered i ++ table n (suc i)

-- the rounds for each of seven names: one for the middle, two for the middles of both halves, three for the others
abbrev rounds : List ℕ → List ℕ
rounds is = map (λ i. (halving (records (table 7 0)) (name i)).rounds) is

seven : rounds (0 ∷ 1 ∷ 2 ∷ 3 ∷ 4 ∷ 5 ∷ 6 ∷ []) ≡ 3 ∷ 2 ∷ 3 ∷ 1 ∷ 3 ∷ 2 ∷ 3 ∷ []
unfolding span compared records_in halve
seven = refl
