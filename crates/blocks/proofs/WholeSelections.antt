-- A selection by the blocks of its file: an accepted selection is the meaning of its blocks, and lines that derive blocks within the limits
-- are selected as these mean. Assumes nothing.
use Prim.Native.Nat.{ℕ, ◌≤◌}
use native.Mathlib.Omega.{arith}
use mathlib.Core.Path.{◌≡◌, sym, ◌∙◌}
use mathlib.Core.Bool.{true}
use mathlib.Core.List.{List, [], append-nil}
use lib.ListN.{length}
use Rattle.units.specs.declared.Dialect.{Dialect}
use Rattle.settings.specs.Table.{well_formed}
use Rattle.own.specs.Own.{Own}
use Rattle.line.specs.Lines.{lines}
use Rattle.select.specs.Select.{accepted, start, selection}
use Rattle.select.proofs.LimitsCorrect.{runs, accepted_runs}
use Rattle.blocks.specs.Blocks.{Blocks, Derives, depth}
use Rattle.blocks.specs.Meaning.{means, meaning, result_of, WithinLimit}
use Rattle.blocks.proofs.AcceptedBlocks.{accepted_follows}
use Rattle.blocks.proofs.Decided.{run_complete, accepted_means}

pub complete : (f t : List ℕ) (δ : Dialect) (room : ℕ) (bs : Blocks)
    → well_formed t ≡ true → length f ≤ 65536 → length (lines f) ≤ 4096 → length (lines f) ≤ room
    → Derives (lines f) bs → depth bs ≤ 16 → WithinLimit (lines f) → selection f t room δ ≡ result_of (meaning t [] true bs δ)
complete f t δ room bs sound small few enough d h s = runs f t δ room sound small few enough ∙ run_complete t δ (lines f) bs d h s

pub sound : (f t : List ℕ) (δ : Dialect) (room : ℕ) (ms : List ℕ) (c : ℕ) → selection f t room δ ≡ accepted ms c
    → (bs : Blocks) × Derives (lines f) bs × (depth bs ≤ 16) × WithinLimit (lines f)
    × (own : List Own) × (meaning t [] true bs δ ≡ means ms c own)
sound f t δ room ms c e =
    let r = (accepted_runs f t δ room ms c e).0 in
    let w = accepted_follows t δ (lines f) 1 start ms c (omega arith) r in
    let bs = w.0.blocks in
    let d : Derives (lines f) bs = record { lines = w.0.lines ∙ rw (w.0.next, append-nil); words = w.0.fits } in
    let h : depth bs ≤ 16 = omega (arith, w.0.deep) in
    let a = accepted_means (meaning t [] true bs δ) ms c (sym (run_complete t δ (lines f) bs d h w.1) ∙ r) in
    (bs, d, h, w.1, a.0, a.1)
