-- Names before other bytes. Assumes nothing.
use Prim.Native.Nat.{ℕ, suc, ◌<◌}
use native.Mathlib.Omega.{arith}
use mathlib.Core.Path.{◌≡◌, refl}
use mathlib.Core.Bool.{Bool, true, false}
use mathlib.Core.List.{List, [], ◌∷◌, ◌++◌}
use lib.ListN.{length, get_or, take}
use lib.Dec.{eqb}
use borrow.Author.Tests.{eqb-true, lt-leb}
use Rattle.text.specs.Bytes.{byte}
use Rattle.text.specs.Runs.{holds, span}
use Rattle.text.specs.Names.{macro_name}
use Rattle.text.specs.declared.runs.Set.TheVariants.{Macro}
use Rattle.text.proofs.NameRuns.{name_length_lem, name_whole}
use Rattle.condition.specs.Conditions.{idle}
use Rattle.editions.specs.UsedNames.{Name}

-- the byte after a list
pub byte_after : (w r : List ℕ) (b : ℕ) → get_or (w ++ (b ∷ r)) (length w) 0 ≡ b
byte_after [] r b = refl
byte_after (x ∷ w) r b = byte_after w r b

-- a text that may follow a name goes on with no byte of a name
pub ends_name : (r : List ℕ) → idle r ≡ true → holds Macro (get_or r 0 0) ≡ false
unfolding idle span
ends_name [] h = refl
ends_name (b ∷ r) h = by (eqb b (byte " ")) (eqb b (byte "\t")) refl refl
  where
    by : (x y : Bool) → eqb b (byte " ") ≡ x → eqb b (byte "\t") ≡ y → holds Macro b ≡ false
    by true y p q = rw (eqb-true b (byte " ") p)
    by false true p q = rw (eqb-true b (byte "\t") q)
    by false false p q = rw (eqb-true b (byte "#") (rw (p, q, lt-leb (suc (length r)) 0 (omega arith)) at h))

-- the name at the front of a text, by itself
pub name_taken : (s : List ℕ) → 0 < macro_name s → Name (take (macro_name s) s)
name_taken s l = record { some = rw (name_length_lem s) l; whole = name_whole s l }
