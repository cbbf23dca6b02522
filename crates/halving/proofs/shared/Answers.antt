-- Eight equal bytes lead further.
use native.Mathlib.Omega.{arith}
use mathlib.Core.Path.{◌≡◌, sym}
use lib.ListN.{take, drop}
use lib.Seq.{take-add}
use Rattle.text.proofs.Laws.{part_from}
use Rattle.text.proofs.Orders.{equals}
use Rattle.halving.proofs.shared.Goals as goal

pub loop-i-preserved : goal.loop-i-preserved
loop-i-preserved c =
    let a = c.args.a.now in
    let b = c.args.b.now in
    let i = c.loop-i.i in
    let same : take 8 (drop i a) ≡ take 8 (drop i b) =
    rw (← part_from a i 8, ← part_from b i 8) (equals _ _ (sym c.if-not-is_equal.ensures)) in
    (omega arith, rw (take-add i 8 a, take-add i 8 b, c.loop-i.invariant.1, same))
