-- The run of letters, digits and `_` after the blanks is the word.
use Prim.Native.Nat.{◌-◌}
use native.Mathlib.Omega.{arith}
use native.Mathlib.Nat.{zero-add}
use mathlib.Core.Path.{◌≡◌, ◌∙◌}
use lib.ListN.{drop}
use Rattle.text.specs.Runs.{span}
use Rattle.text.specs.declared.runs.Set.TheVariants.{Blanks, Word}
use Rattle.text.proofs.Laws.{span_fits, span_fits_at}
use Rattle.line.specs.Directives.{is_define}
use Rattle.line.proofs.word.is_define.Goals as goal

pub slice_bounds-is_equal-end : goal.slice_bounds-is_equal-end
slice_bounds-is_equal-end c =
    let blanks = c.run_end-first in
    let l = c.args.line.now in
    let inside = span_fits_at Word l blanks.result.0 (omega (arith, blanks.ensures, span_fits Blanks l)) in
    omega (arith, inside, c.run_end-end.ensures)

pub returns : goal.returns
unfolding is_define
returns c =
    let end = c.run_end-end in
    let blanks = c.run_end-first in
    let long : end.result.0 - blanks.result.0 ≡ span Word (drop blanks.result.0 c.args.line.now) = omega (arith, end.ensures) in
    c.is_equal.ensures ∙ rw (long, blanks.ensures ∙ zero-add _)
