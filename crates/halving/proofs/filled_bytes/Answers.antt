-- A run in the first 64 bytes is no longer than the run in the whole name.
use Prim.Native.Nat.{◌+◌}
use native.Mathlib.Omega.{arith}
use mathlib.Core.Path.{ap, ◌∙◌}
use lib.ListN.{take, length-take}
use Rattle.text.specs.Runs.{span}
use Rattle.text.specs.declared.runs.Set.TheVariants.{NonZero}
use Rattle.text.proofs.Laws.{span_fits}
use Rattle.halving.proofs.Beside.{span_take}
use Rattle.halving.proofs.filled_bytes.Goals as goal

pub returns : goal.returns
returns c =
    let n = c.args.name.now in
    let run = c.run_end.ensures ∙ ap (λ s. 0 + span NonZero s) c.part.ensures.bytes in
    (omega (arith, run, span_fits NonZero (take 64 n), length-take 64 n), omega (arith, run, span_take NonZero 64 n))
