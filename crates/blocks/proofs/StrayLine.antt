-- A run that is refused with 19 is refused at the first line with which the lines begin no blocks. Assumes nothing.
use Prim.Native.Nat.{ℕ, ◌+◌}
use native.Mathlib.Omega.{arith}
use mathlib.Core.Path.{◌≡◌}
use mathlib.Core.Logic.{◌⊎◌, inl, inr}
use mathlib.Core.List.{List, [], ◌∷◌, ◌++◌}
use lib.ListN.{length}
use Rattle.units.specs.declared.Fault.{Fault}
use Rattle.units.specs.Refusals.{unplaced}
use Rattle.units.specs.declared.Reason.TheVariants.{DirectiveStray, FileUnfinished, LineLong}
use Rattle.groups.specs.Groups.{Group, stop}
use Rattle.select.specs.Select.{refused, at_end, start}
use Rattle.select.proofs.Steps.{short_step}
use Rattle.blocks.specs.Beginnings.{Begins}
use Rattle.blocks.proofs.Reasons.{same_reason}
use Rattle.blocks.proofs.Passing.{StrayLine}
use Rattle.blocks.proofs.Stops.{Stopped, Ended, refused_where}
use Rattle.blocks.proofs.Stray.{not_both, stray}

-- at the end of all lines a run is refused only with 21
pub at_end_lem : (gs : List Group) (c : ℕ) (x : Fault) (m : ℕ) → at_end gs c ≡ refused x m → x ≡ unplaced FileUnfinished
at_end_lem [] c x m e = absurd cc
at_end_lem (g ∷ gs) c x m e = cc

pub stray_line : StrayLine
stray_line t δ ls n e = by (refused_where t δ ls 1 start (unplaced DirectiveStray) n e)
  where
    by : Stopped t δ 1 start ls (unplaced DirectiveStray) n ⊎ Ended t δ 1 start ls (unplaced DirectiveStray) n
        → (before : List (List ℕ)) × (l : List ℕ) × (rest : List (List ℕ)) × (ls ≡ before ++ (l ∷ rest)) × (n ≡ length before + 1)
        × Begins before × (Begins (before ++ (l ∷ [])) → ⊥)
    by (inl w) =
        let short =
        short_step t δ n w.state w.at (stop (unplaced DirectiveStray)) w.stops
        (λ q. let z : unplaced DirectiveStray ≡ unplaced LineLong = cc in let k = same_reason z in cc) in
        let v = w.number in (
          w.before,
          w.at,
          w.rest,
          w.lines,
          omega arith,
          (stray t δ w.before w.state w.passes).0,
          not_both t δ w.before w.state w.passes n w.at short w.stops,
        )
    by (inr w) = absurd (cc (same_reason (at_end_lem w.state.groups w.state.count (unplaced DirectiveStray) n w.unclosed)))
