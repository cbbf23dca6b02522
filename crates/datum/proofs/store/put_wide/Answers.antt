-- The stored bytes and the rest are the wide string and its zeros.
use Rattle.std.proofs.Common.{[], ◌∷◌, ◌≡◌, get_or, length, arith}
use Rattle.datum.proofs.Storing.{onward, ended, wide_next, wide_last}
use Rattle.datum.proofs.store.put_wide.Goals as goal

pub loop-i-preserved : goal.loop-i-preserved
loop-i-preserved c =
    let s = c.args.s.now in
    let i = c.loop-i.i in
    onward (get_or s i 0 ∷ 0 ∷ []) c.put_pair.ensures c.loop-i.invariant (wide_next s i c.loop-i-test.true) (omega arith)

pub returns : goal.returns
returns c =
    let s = c.args.s.now in
    let e : c.loop-i.i ≡ length s = omega (arith, c.loop-i-test.false, c.loop-i.auto.i-end) in
    ended (0 ∷ 0 ∷ []) c.put_pair-2.ensures (rw e at c.loop-i.invariant) (wide_last s (length s) (omega arith))
