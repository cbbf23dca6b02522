-- The leftmost place of something that an expression may have at several places, or at none.
use Rattle.std.specs.Prelude.{ℕ, None, Option, Some}
use Rattle.units.specs.declared.Offset.{Offset}

-- at this offset
abbrev pub there : ℕ → Option Offset
there o = Some (record { 0 = o })

-- of two places, the second further right, the first that exists
abbrev pub leftmost : Option Offset → Option Offset → Option Offset
leftmost None w = w
leftmost (Some o) w = Some o
