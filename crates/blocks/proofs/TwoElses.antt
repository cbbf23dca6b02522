-- The lines of a run that is refused with 19 derive no blocks; an example is the file with two `!else`. Assumes nothing.
use mathlib.Core.Path.{◌≡◌, sym, ◌∙◌}
use mathlib.Core.Bool.{true}
use mathlib.Core.List.{[], ◌∷◌, ◌++◌, append_assoc}
use Rattle.units.specs.Dialects.{OLD}
use Rattle.line.specs.Lines.{lines}
use Rattle.blocks.specs.Blocks.{Derives}
use Rattle.blocks.specs.Beginnings.{Whole}
use Rattle.blocks.proofs.Passing.{StrayDerivesNone}
use Rattle.blocks.specs.BlockExamples.{two_elses, two_elses_refused}
use Rattle.blocks.proofs.StrayLine.{stray_line}

pub stray_derives_none : StrayDerivesNone
stray_derives_none t δ ls n e w =
    let s = stray_line t δ ls n e in
    let q : ls ≡ (s.0 ++ (s.1 ∷ [])) ++ s.2 = s.3 ∙ sym (append_assoc s.0 (s.1 ∷ []) s.2) in
    let d : Derives ((s.0 ++ (s.1 ∷ [])) ++ s.2) w.0 = rw q at w.1 in
    s.6 (s.2, (w.0, d))

pub two_elses_derive_none : Whole (lines two_elses) → ⊥
two_elses_derive_none = stray_derives_none [] OLD (lines two_elses) 4 (two_elses_refused true).0
