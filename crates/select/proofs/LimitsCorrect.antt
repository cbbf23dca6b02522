-- The checks before any line, and what an accepted selection passed. Assumes nothing.
use Prim.Native.Nat.{ℕ, ◌≤◌}
use native.Mathlib.Omega.{arith}
use mathlib.Core.Path.{◌≡◌, refl}
use mathlib.Core.Bool.{Bool, true, false}
use mathlib.Core.List.{List}
use lib.ListN.{length}
use lib.Dec.{ltb}
use borrow.Author.Tests.{le-ltb, ltb-false}
use Rattle.units.specs.declared.Dialect.{Dialect}
use Rattle.units.specs.declared.Fault.{Fault}
use Rattle.units.specs.declared.Reason.{Reason}
use Rattle.units.specs.declared.Reason.TheVariants.{TableMalformed, FileLong, LinesMany, MarksShort}
use Rattle.units.specs.Refusals.{unplaced}
use Rattle.text.specs.Bytes.{pick}
use Rattle.settings.specs.Table.{well_formed}
use Rattle.line.specs.Lines.{lines}
use Rattle.select.specs.Select.{Result, accepted, refused, selection, run, start}

module _ (f t : List ℕ) (δ : Dialect) (room : ℕ) where
  -- every check has passed
  pub runs : well_formed t ≡ true → length f ≤ 65536 → length (lines f) ≤ 4096 → length (lines f) ≤ room → selection f t room δ ≡ run t 1 start (lines f) δ
  unfolding selection
  runs sound small few h = rw (sound, le-ltb 65536 (length f) small, le-ltb 4096 (length (lines f)) few, le-ltb room (length (lines f)) h)

-- a refusal before any line
abbrev before : Reason → Result
before k = refused (unplaced k) 0

-- a refusal is not accepted
pub never : (A : Type 0) (x : Fault) (n : ℕ) (ms : List ℕ) (c : ℕ) → refused x n ≡ accepted ms c → A
never A x n ms c e = let z : ◌≡◌ {A = ℕ} 0 1 = cc in absurd (omega arith)

-- an accepted selection passed every check before its lines
pub accepted_runs : (f t : List ℕ) (δ : Dialect) (room : ℕ) (ms : List ℕ) (c : ℕ) → selection f t room δ ≡ accepted ms c
    → (run t 1 start (lines f) δ ≡ accepted ms c) × (length (lines f) ≤ 4096)
unfolding selection
accepted_runs f t δ room ms c h =
    by (well_formed t) (ltb 65536 (length f)) (ltb 4096 (length (lines f))) refl (ltb room (length (lines f))) h
  where
    by : (a b d : Bool) → ltb 4096 (length (lines f)) ≡ d → (e : Bool)
        → pick a (pick b (before FileLong) (pick d (before LinesMany) (pick e (before MarksShort) (run t 1 start (lines f) δ)))) (before TableMalformed)
        ≡ accepted ms c
        → (run t 1 start (lines f) δ ≡ accepted ms c) × (length (lines f) ≤ 4096)
    by true true d q e h = never _ _ 0 ms c h
    by true false true q e h = never _ _ 0 ms c h
    by true false false q true h = never _ _ 0 ms c h
    by true false false q false h = (h, ltb-false 4096 (length (lines f)) q)
    by false b d q e h = never _ _ 0 ms c h

pub accepted_well_formed : (f t : List ℕ) (δ : Dialect) (room : ℕ) (ms : List ℕ) (c : ℕ) → selection f t room δ ≡ accepted ms c → well_formed t ≡ true
unfolding selection
accepted_well_formed f t δ room ms c h = by (well_formed t) _ h
  where
    by : (a : Bool) (x : Result) → pick a x (before TableMalformed) ≡ accepted ms c → a ≡ true
    by true x h = refl
    by false x h = never _ _ 0 ms c h
