-- A PCD comes from the table alone: the settings that lines make have names of macros, and no such name is one of a PCD. Assumes nothing.
use Prim.Native.Nat.{ℕ}
use native.Mathlib.Omega.{arith}
use mathlib.Core.Path.{◌≡◌, refl, ◌∙◌}
use mathlib.Core.Bool.{Bool, true, false}
use mathlib.Core.List.{List, [], ◌∷◌}
use Rattle.std.specs.Option.{is_some}
use Rattle.text.specs.Bytes.{pick}
use Rattle.text.specs.Order.{equal}
use Rattle.text.specs.Names.{pcd_name}
use Rattle.text.proofs.NameRuns.{no_pcd}
use Rattle.text.proofs.Orders.{differs}
use Rattle.lookup.specs.Setting.{setting_under, record_under}
use Rattle.own.specs.Own.{Own, name_in, scope, put, has}
use Rattle.scoped.specs.Macros.{IsMacro, IsPcd, AllMacros}
use Rattle.scoped.proofs.UnderName.{under_scope, found_scope}

-- no name is both
pub unlike : (m n : List ℕ) → IsMacro m → IsPcd n → m ≡ n → ⊥
unlike m n h p e =
    let k : pcd_name n ≡ 0 = rw e at (no_pcd m h) in
    omega (arith, p.0, p.1, k)

pub has_no_pcd : (o : List Own) (n : List ℕ) → AllMacros o → IsPcd n → has n o ≡ false
unfolding has
has_no_pcd [] n h p = refl
has_no_pcd (x ∷ o) n h p = rw (differs (name_in x) n (unlike (name_in x) n h.0 p)) (has_no_pcd o n h.1 p)

-- THE THEOREM
pub pcd_of_table : (o : List Own) (t n : List ℕ) → AllMacros o → IsPcd n → record_under (scope o t) n ≡ record_under t n
pcd_of_table o t n h p = under_scope o t n ∙ rw (has_no_pcd o n h p)

pub pcd_found : (o : List Own) (t n : List ℕ) → AllMacros o → IsPcd n → is_some (setting_under (scope o t) n) ≡ is_some (setting_under t n)
pcd_found o t n h p = found_scope o t n ∙ rw (has_no_pcd o n h p)

-- one more setting with the name of a macro
pub put_macros : (x : Own) (o : List Own) → IsMacro (name_in x) → AllMacros o → AllMacros (put x o)
unfolding put
put_macros x [] m h = (m, tt)
put_macros x (y ∷ o) m h = by (equal (name_in y) x.name) (put_macros x o m h.1)
  where
    by : (e : Bool) → AllMacros (put x o) → AllMacros (pick e (x ∷ o) (y ∷ put x o))
    by true ih = (m, h.1)
    by false ih = (h.0, ih)
