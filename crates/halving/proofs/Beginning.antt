-- The first 65 bytes of a name decide: no name in a table has more than 64. Assumes nothing.
use Prim.Native.Nat.{ℕ, zero, suc, ◌+◌, ◌<◌}
use native.Mathlib.Omega.{arith}
use mathlib.Core.Path.{◌≡◌, refl}
use mathlib.Core.List.{List, [], ◌∷◌}
use lib.ListN.{length, get_or, take, length-take}
use Rattle.text.specs.Runs.{span}
use Rattle.text.specs.Order.{compared}
use Rattle.text.specs.declared.runs.Set.TheVariants.{NonZero}
use Rattle.settings.specs.Table.{name_field}
use Rattle.halving.specs.Halving.{name_of_record, middle, halve, halving}

beginning : (k : ℕ) (n s : List ℕ) → length s < k → compared (take k n) s ≡ compared n s
unfolding compared
beginning zero n s h = absurd (omega arith)
beginning (suc k) [] s h = refl
beginning (suc k) (x ∷ n) [] h = refl
beginning (suc k) (x ∷ n) (y ∷ s) h = rw (beginning k n s (omega arith))

short_name : (rs : List (List ℕ)) (i : ℕ) → length (name_of_record rs i) < 65
short_name rs i =
    let f = name_field (get_or rs i []) in
    omega (arith, length-take (span NonZero f) f, length-take 64 (get_or rs i []))

from : (fuel low high : ℕ) (rs : List (List ℕ)) (n : List ℕ) → halve fuel low high rs (take 65 n) ≡ halve fuel low high rs n
unfolding halve
from zero low high rs n = refl
from (suc fuel) low high rs n =
    let m = middle low high in
    rw (beginning 65 n (name_of_record rs m) (short_name rs m), from fuel low m rs n, from fuel (m + 1) high rs n)

-- THE THEOREM
pub first_bytes_decide : (rs : List (List ℕ)) (n : List ℕ) → halving rs (take 65 n) ≡ halving rs n
first_bytes_decide rs n = from (length rs) 0 (length rs) rs n
