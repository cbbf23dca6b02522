-- A well-formed table is ordered. Assumes nothing.
use Prim.Native.Nat.{ℕ}
use mathlib.Core.Path.{◌≡◌}
use mathlib.Core.Bool.{true}
use mathlib.Core.List.{List}
use Rattle.text.proofs.Laws.{and_left}
use Rattle.settings.specs.Table.{ordered, plain, well_formed}

pub in_order : (t : List ℕ) → well_formed t ≡ true → ordered t ≡ true
unfolding well_formed
in_order t = and_left (ordered t) (plain t)
