-- The bytes of a turn are passed together; the first LF among them is the place.
use Rattle.std.proofs.Common.{◌≡◌, ◌+◌, drop, arith}
use mathlib.Core.Path.{sym, ap, ◌∙◌}
use Rattle.std.specs.Slice.Iter.{chunks_exact_rest}
use Rattle.text.specs.Runs.{span}
use Rattle.text.specs.declared.runs.Set.TheVariants.{NotLineFeed}
use Rattle.line.proofs.Passing.{first_in, none_in, part_within, rest_after}
use Rattle.line.proofs.cut.lf_from.Goals as goal

pub returns-in-Some-first_lf : goal.returns-in-Some-first_lf
returns-in-Some-first_lf c =
    let eight = c.in-Some.eight.now in
    let rest = chunks_exact_rest c.next.new.self in
    let before = c.loop-eight.invariant in
    let split = before.2 ∙ c.in-Some.ensures.steps.1.0 in
    omega (arith, before.3, ap (span NotLineFeed) split, first_in eight rest c.in-Some-first_lf.k (sym c.in-Some-first_lf.ensures))

pub loop-eight-preserved : goal.loop-eight-preserved
loop-eight-preserved c =
    let f = c.args.file.now in
    let at = c.loop-eight.at in
    let eight = c.in-Some.eight.now in
    let rest = chunks_exact_rest c.next.new.self in
    let before = c.loop-eight.invariant in
    let split = before.2 ∙ c.in-Some.ensures.steps.1.0 in
    let long = c.in-Some.ensures.steps.1.1 ∙ before.0 in
    let left : drop (at + 8) f ≡ rest = rw long at (rest_after eight rest f at split) in
    let over = none_in eight rest (sym c.in_default.ensures) in (
      c.in-Some.ensures.steps.0 ∙ before.0,
      omega (arith, long, part_within eight rest f at split),
      left,
      omega (arith, long, before.3, ap (span NotLineFeed) split, over, ap (span NotLineFeed) left),
    )
