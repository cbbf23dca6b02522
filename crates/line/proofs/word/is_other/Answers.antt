-- Neither a `!` nor the first letter of `DEFINE` comes after the blanks.
use Rattle.std.proofs.Common.{arith}
use native.Mathlib.Nat.{zero-add}
use mathlib.Core.Bool.{not, false≢true}
use mathlib.Core.Path.{ap, sym, ◌∙◌}
use lib.ListN.{get_or}
use Rattle.line.proofs.Words.{plain_line}
use Rattle.line.proofs.DefineLine.{other_letter}
use Rattle.line.proofs.word.is_other.Goals as goal
use Rattle.line.proofs.word.is_other.Goals.{in-33, in_default}

pub returns : goal.returns
returns c =
    let l = c.args.line.now in
    let blanks = c.run_end-first.ensures in
    let byte = c.byte_at.ensures in
    elim c.match-matches.branch [
      | in-33 w ↦ λ e. absurd (false≢true (ap not (sym w.matches-is) ∙ e))
      | in_default w ↦ λ e. (
        plain_line l blanks (λ b. grind (arith, byte, b)),
        other_letter l (λ d. grind (arith, byte, ap (λ i. get_or l i 0) (blanks ∙ zero-add _), d)),
      )
    ]
