-- The dialects by where a text is and by the edition (document 01; document 02, orders 1 and 5).
use Rattle.std.specs.Prelude.{Bool, true, false}
use Rattle.units.specs.declared.Dialect.{Dialect}

-- an expression by itself and a data field, in the old edition or in the new one: bars need parentheses around them. An exported selection is
-- called in such a dialect too; its directives free bars in any.
abbrev pub by_itself : (old : Bool) → Dialect
by_itself old = record { bars = false; old = old }

abbrev pub NEW : Dialect
NEW = by_itself false

abbrev pub OLD : Dialect
OLD = by_itself true

-- the rules of δ in a directive: the same, except that bars need no parentheses
abbrev pub in_directives : Dialect → Dialect
in_directives δ = record { bars = true; old = δ.old }

-- the rules of δ in the new edition, and in the old one
abbrev pub in_new : Dialect → Dialect
in_new δ = record { bars = δ.bars; old = false }

abbrev pub in_old : Dialect → Dialect
in_old δ = record { bars = δ.bars; old = true }
