-- The byte after the blanks decides whether there is a word; the run of letters after it is the word.
use native.Mathlib.Omega.{arith}
use mathlib.Core.Path.{sym, ◌∙◌}
use Rattle.line.proofs.Words.{bang_inside, plain_line, word_inside, marked_line, text_starts}
use Rattle.line.proofs.word.read_head.Goals as goal

pub returns-then-byte_at-ne33 : goal.returns-then-byte_at-ne33
returns-then-byte_at-ne33 c =
    let plain = plain_line c.args.line.now c.run_end-first.ensures (λ e. c.if-byte_at-ne33.true (c.byte_at.ensures ∙ e)) in
    record { directive = sym plain; within = omega arith; starts = λ other. absurd (other plain) }

pub slice_bounds-named-end : goal.slice_bounds-named-end
slice_bounds-named-end c =
    let l = c.args.line.now in
    word_inside l c.run_end-first.ensures c.run_end-text.ensures
    (bang_inside l c.run_end-first.ensures (sym c.byte_at.ensures ∙ c.if-byte_at-ne33.false))

pub returns : goal.returns
returns c =
    let l = c.args.line.now in
    let blanks = c.run_end-first.ensures in
    let letters = c.run_end-text.ensures in
    let bang = sym c.byte_at.ensures ∙ c.if-byte_at-ne33.false in
    record {
      directive = c.named-directive.ensures ∙ sym (marked_line l blanks letters bang);
      within = word_inside l blanks letters (bang_inside l blanks bang);
      starts = λ _. text_starts l blanks letters;
    }
