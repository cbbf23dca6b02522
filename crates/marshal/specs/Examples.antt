-- The dialects of some numbers, which antt computes from the definition.
use Rattle.std.specs.Prelude.{◌≡◌, refl, [], ◌∷◌, map}
use Rattle.units.specs.Dialects.{NEW, OLD}
use Rattle.marshal.specs.Calls.{dialect_of}

dialects_hold : map dialect_of (0 ∷ 1 ∷ 2 ∷ 3 ∷ 254 ∷ 255 ∷ []) ≡ NEW ∷ OLD ∷ NEW ∷ OLD ∷ NEW ∷ OLD ∷ []
dialects_hold = refl
