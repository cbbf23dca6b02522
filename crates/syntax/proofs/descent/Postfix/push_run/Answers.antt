use Rattle.std.proofs.Common.{◌-◌, ◌<◌, ◌∙◌, refl, append-nil, length, take, arith}
use Rattle.syntax.specs.Descent.{back}
use Rattle.syntax.proofs.Orders.{put, put_long, sooner, no_back}
use Rattle.syntax.proofs.descent.Postfix.push_run.Goals as goal

pub loop-at-init : goal.loop-at-init
loop-at-init c =
    let written = take c.args.self.now.filled c.args.self.now.entries.now in
    (c.requires.0, omega arith, c.requires.3, rw (no_back c.args.j.0, append-nil written), refl)

pub loop-at-preserved : goal.loop-at-preserved
loop-at-preserved c =
    let last = c.args.j.0 in
    let loop = c.loop-at in
    let entries = loop.self.entries.now in
    let some : 0 < loop.at = omega (arith, c.loop-at-test.true) in
    let room : loop.self.filled < length entries = omega (arith, loop.invariant.1, loop.invariant.2, c.requires.2, c.loop-at-test.true, loop.auto.at) in
    let written = take c.args.self.now.filled c.args.self.now.entries.now in
    let held = put entries written (back (last - loop.at) loop.at) loop.self.filled _ c.push.ensures.entries c.push.ensures.filled room loop.invariant.3 in (
      omega (arith, c.loop-at-test.true),
      omega (arith, c.push.ensures.filled, loop.invariant.1, loop.auto.at, some),
      put_long entries loop.self.filled _ c.push.ensures.entries loop.invariant.2,
      rw (sooner last loop.at some loop.auto.at) held,
      c.push.ensures.same ∙ loop.invariant.4,
    )
