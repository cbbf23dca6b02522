-- Settings whose names are names of macros, and differ: those that the lines of a file make (document 02, order 6).
use Rattle.std.specs.Prelude.{ℕ, ◌≤◌, ◌≡◌, false, List, [], ◌∷◌, length}
use Rattle.text.specs.Names.{macro_name, pcd_name}
use Rattle.own.specs.Own.{Own, name_in, has}

-- a list is the whole name of a macro, and the whole name of a PCD
abbrev pub IsMacro : List ℕ → Type 0
IsMacro n = macro_name n ≡ length n

abbrev pub IsPcd : List ℕ → Type 0
IsPcd n = (1 ≤ length n) × (pcd_name n ≡ length n)

-- each record stands under the name of a macro
abbrev pub AllMacros : List Own → Type 0
AllMacros [] = Unit
AllMacros (x ∷ o) = IsMacro (name_in x) × AllMacros o

-- no two records are under one name
abbrev pub AllDiffer : List Own → Type 0
AllDiffer [] = Unit
AllDiffer (x ∷ o) = (has (name_in x) o ≡ false) × AllDiffer o
