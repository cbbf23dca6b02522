-- Statements on a run after lines that it passes, from which the reasons in specs/Refused.antt follow. Stray.antt, StrayLine.antt,
-- TwoElses.antt and Unfinished.antt have the proofs.
use Prim.Native.Nat.{ℕ, ◌+◌, ◌≤◌}
use mathlib.Core.Path.{◌≡◌}
use mathlib.Core.Logic.{◌↔◌}
use mathlib.Core.List.{List, [], ◌∷◌, ◌++◌}
use lib.ListN.{length}
use Rattle.units.specs.declared.Dialect.{Dialect}
use Rattle.units.specs.Refusals.{unplaced}
use Rattle.units.specs.declared.Reason.TheVariants.{DirectiveStray, FileUnfinished}
use Rattle.line.specs.Directives.{directive_of}
use Rattle.line.specs.declared.Directive.TheVariants.{Unknown}
use Rattle.groups.specs.Groups.{State, stop}
use Rattle.select.specs.Step.{step}
use Rattle.select.specs.Select.{accepted, refused, run, start}
use Rattle.blocks.specs.Beginnings.{Whole, Begins, Innermost}
use Rattle.blocks.specs.Passing.{Passes}

-- Lines that a run passes begin blocks. The next line, if it is within the limit and its word is known, is refused with 19 exactly if the
-- lines with it begin no blocks.
abbrev pub Stray : Type 0
Stray = (t : List ℕ) (δ : Dialect) (ls : List (List ℕ)) (s : State) → Passes t δ 1 start ls s
    → Begins ls
    × ((n : ℕ) (l : List ℕ) → length l ≤ 1024 → (directive_of l ≡ Unknown → ⊥)
    → (step t n s l δ ≡ stop (unplaced DirectiveStray)) ↔ (Begins (ls ++ (l ∷ [])) → ⊥))

-- so a run is refused with 19 only at the first line with which the lines begin no blocks
abbrev pub StrayLine : Type 0
StrayLine = (t : List ℕ) (δ : Dialect) (ls : List (List ℕ)) (n : ℕ) → run t 1 start ls δ ≡ refused (unplaced DirectiveStray) n
    → (before : List (List ℕ)) × (l : List ℕ) × (rest : List (List ℕ)) × (ls ≡ before ++ (l ∷ rest)) × (n ≡ length before + 1)
    × Begins before × (Begins (before ++ (l ∷ [])) → ⊥)

-- the lines of a run that is refused with 19 derive no blocks
abbrev pub StrayDerivesNone : Type 0
StrayDerivesNone = (t : List ℕ) (δ : Dialect) (ls : List (List ℕ)) (n : ℕ) → run t 1 start ls δ ≡ refused (unplaced DirectiveStray) n → Whole ls → ⊥

-- a run that passes every line is accepted if the lines are whole blocks, else refused with 21 at the innermost open `!if`
abbrev pub Unfinished : Type 0
Unfinished = (t : List ℕ) (δ : Dialect) (ls : List (List ℕ)) (s : State) → Passes t δ 1 start ls s
    → (Whole ls → (ms : List ℕ) × (run t 1 start ls δ ≡ accepted ms s.count))
    × ((Whole ls → ⊥) → (m : ℕ) × Innermost ls m × (run t 1 start ls δ ≡ refused (unplaced FileUnfinished) m))
