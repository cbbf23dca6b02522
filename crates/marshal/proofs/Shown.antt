-- Numbers that fill a lent array. Assumes nothing.
use Prim.Native.Nat.{ℕ, ◌≤◌}
use native.Mathlib.Omega.{arith}
use native.Mathlib.Nat.{zero-add}
use mathlib.Core.Path.{◌≡◌, refl, ◌∙◌}
use mathlib.Core.List.{List, ◌++◌, append-nil}
use lib.ListN.{length, drop, drop_of_length-le}
use Rattle.std.specs.Prelude.{Option, Some, None}
use Rattle.std.proofs.lemmas.List.Edits.{sets-eq}
use Rattle.text.specs.Parts.{stored}
use Rattle.lookup.specs.declared.Value.{Value}
use Rattle.lookup.specs.declared.Value.TheVariants.{Number, Text}
use Rattle.marshal.specs.Calls.{setting_shown}

front : (vs l : List ℕ) → length vs ≡ length l → stored vs l ≡ vs ++ drop (length vs) l
front vs l h = rw zero-add at (sets-eq vs l 0 (omega arith))

-- as many numbers as the array has entries
pub stored_all : (vs l : List ℕ) → length vs ≡ length l → stored vs l ≡ vs
stored_all vs l h =
    let short : length l ≤ length vs = omega arith in
    front vs l h ∙ rw (drop_of_length-le l short) (append-nil vs)

pub three_shown : (s : Option Value) → length (setting_shown s) ≡ 3
three_shown None = refl
three_shown (Some (Number x)) = refl
three_shown (Some (Text k p)) = refl
