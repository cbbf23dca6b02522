-- Each refusal is that of the definition; a line that none of them stops is judged.
use Rattle.std.proofs.Common.{◌≡◌, ◌+◌, ◌-◌, ◌*◌, ◌≤◌, ◌<◌, length, true, not, eqb, arith, refl, sym, ap, ◌∙◌}
use Rattle.units.specs.Refusals.{refusal_in}
use Rattle.text.specs.Runs.{span}
use Rattle.text.specs.declared.runs.Set.TheVariants.{NotLineFeed}
use Rattle.text.proofs.Laws.{and_left, span_fits}
use Rattle.settings.specs.Table.{well_formed, ordered}
use Rattle.following.specs.Feeding.{first_of, unended}
use Rattle.progress.specs.Reading.{lines_of}
use Rattle.progress.proofs.Clips.{clip_within}
use Rattle.follow.proofs.Pieces.{is_malformed, not_malformed, lacks}
use Rattle.follow.proofs.Feeds.{empty_malformed, table_bad, piece_bad, after_last, bytes_many, lines_many, line_bad, line_good}
use Rattle.follow.proofs.feeding.feed.Goals as goal
use Rattle.follow.proofs.feeding.feed.Goals.{then-cut-len-via-then-cut-len, then-cut-len-via-else-cut-len+then-x-ne0}

pub returns-then-not-is_well_formed : goal.returns-then-not-is_well_formed
returns-then-not-is_well_formed c =
    let a = c.args in
    table_bad a.x a.own.now a.table.now a.piece.now a.dialect c.into.result (sym c.is_well_formed.ensures ∙ c.if-not-is_well_formed.true) c.into.ensures

pub returns-then-len-eq0 : goal.returns-then-len-eq0
returns-then-len-eq0 c =
    let a = c.args in
    let well = sym c.is_well_formed.ensures ∙ c.if-not-is_well_formed.false in
    piece_bad a.x a.own.now a.table.now a.piece.now a.dialect well c.into-then-len-eq0.result (empty_malformed a.piece.now c.if-len-eq0.true)
    c.into-then-len-eq0.ensures

pub returns-then-cut-len : goal.returns-then-cut-len
returns-then-cut-len c =
    let a = c.args in
    let well = sym c.is_well_formed.ensures ∙ c.if-not-is_well_formed.false in
    let some : 0 < length a.piece.now = omega arith in
    let r = c.into-then-cut-len.result in
    elim c.then-cut-len.branch [
      | then-cut-len-via-then-cut-len w ↦
          let over : span NotLineFeed a.piece.now + 1 < length a.piece.now = omega (arith, c.next-cut.ensures.after_is, w.if-cut-len.true) in
          piece_bad a.x a.own.now a.table.now a.piece.now a.dialect well r
          (is_malformed a.piece.now (span NotLineFeed a.piece.now) refl some over) c.into-then-cut-len.ensures
      | then-cut-len-via-else-cut-len+then-x-ne0 w ↦
          let last : length a.piece.now ≤ span NotLineFeed a.piece.now + 1 = omega (arith, c.next-cut.ensures.after_is, w.if-cut-len.false) in
          after_last a.x a.own.now a.table.now a.piece.now a.dialect well
          (not_malformed a.piece.now (span NotLineFeed a.piece.now) refl some last) r w.if-x-ne0.true
          c.into-then-cut-len.ensures
    ]

pub returns-then-y-len : goal.returns-then-y-len
returns-then-y-len c =
    let a = c.args in
    let well = sym c.is_well_formed.ensures ∙ c.if-not-is_well_formed.false in
    let some : 0 < length a.piece.now = omega arith in
    let last : length a.piece.now ≤ span NotLineFeed a.piece.now + 1 = omega (arith, c.next-cut.ensures.after_is, c.if-cut-len.false) in
    let good = not_malformed a.piece.now (span NotLineFeed a.piece.now) refl some last in
    bytes_many a.x a.own.now a.table.now a.piece.now a.dialect well good c.if-x-ne0.false c.read-y.result c.read-y.ensures c.in_line.result
    (omega (arith, c.if-y-len.true))
    (c.in_line.ensures ∙ ap (λ f. refusal_in f (c.read-y.result.fed + 1)) c.from.ensures)

pub returns-then-y-ge-MAX_LINES : goal.returns-then-y-ge-MAX_LINES
returns-then-y-ge-MAX_LINES c =
    let a = c.args in
    let well = sym c.is_well_formed.ensures ∙ c.if-not-is_well_formed.false in
    let some : 0 < length a.piece.now = omega arith in
    let last : length a.piece.now ≤ span NotLineFeed a.piece.now + 1 = omega (arith, c.next-cut.ensures.after_is, c.if-cut-len.false) in
    let good = not_malformed a.piece.now (span NotLineFeed a.piece.now) refl some last in
    let bound : c.read-y.result.bytes ≤ 65536 = rw c.read-y.ensures (clip_within 65536 a.x.bytes) in
    let short : c.read-y.result.bytes + length a.piece.now ≤ 65536 = omega (arith, c.if-y-len.false, bound) in
    lines_many a.x a.own.now a.table.now a.piece.now a.dialect well good c.if-x-ne0.false
    c.read-y.result c.read-y.ensures short c.in_line-then-y-ge-MAX_LINES.result
    c.if-y-ge-MAX_LINES.true (c.in_line-then-y-ge-MAX_LINES.ensures ∙ ap (λ f. refusal_in f (c.read-y.result.fed + 1)) c.from-then-y-ge-MAX_LINES.ensures)

pub judge-requires : goal.judge-requires
unfolding well_formed
judge-requires c =
    let a = c.args in
    let well : well_formed a.table.now ≡ true = sym c.is_well_formed.ensures ∙ c.if-not-is_well_formed.false in
    let few : c.read-y.result.fed ≤ 4096 = rw c.read-y.ensures (clip_within 4096 a.x.fed) in
    let shallow : c.read-y.result.selection.depth ≤ 16 = rw c.read-y.ensures (clip_within 16 a.x.selection.depth) in
    let counted : c.read-y.result.selection.count ≤ 199 * c.read-y.result.fed = rw c.read-y.ensures (clip_within (199 * lines_of a.x) a.x.selection.count) in
    (and_left (ordered a.table.now) _ well, omega (arith, few), shallow, omega (arith, counted, few))

pub returns-in-Err : goal.returns-in-Err
returns-in-Err c =
    let a = c.args in
    let well = sym c.is_well_formed.ensures ∙ c.if-not-is_well_formed.false in
    let some : 0 < length a.piece.now = omega arith in
    let last : length a.piece.now ≤ span NotLineFeed a.piece.now + 1 = omega (arith, c.next-cut.ensures.after_is, c.if-cut-len.false) in
    let good = not_malformed a.piece.now (span NotLineFeed a.piece.now) refl some last in
    let bound : c.read-y.result.bytes ≤ 65536 = rw c.read-y.ensures (clip_within 65536 a.x.bytes) in
    let short : c.read-y.result.bytes + length a.piece.now ≤ 65536 = omega (arith, c.if-y-len.false, bound) in
    let all : c.next-cut.result.end.0 - 0 ≡ c.next-cut.result.end.0 = omega arith in
    line_bad a.x a.own.now a.table.now a.piece.now a.dialect well good c.if-x-ne0.false c.read-y.result c.read-y.ensures short
    c.if-y-ge-MAX_LINES.false _ (rw all at (ap first_of c.next-cut.ensures.first)) c.in-Err.fault c.judge.new.own c.in-Err.ensures
    c.in_line-in-Err.result c.in_line-in-Err.ensures

pub returns : goal.returns
returns c =
    let a = c.args in
    let well = sym c.is_well_formed.ensures ∙ c.if-not-is_well_formed.false in
    let some : 0 < length a.piece.now = omega arith in
    let last : length a.piece.now ≤ span NotLineFeed a.piece.now + 1 = omega (arith, c.next-cut.ensures.after_is, c.if-cut-len.false) in
    let good = not_malformed a.piece.now (span NotLineFeed a.piece.now) refl some last in
    let bound : c.read-y.result.bytes ≤ 65536 = rw c.read-y.ensures (clip_within 65536 a.x.bytes) in
    let short : c.read-y.result.bytes + length a.piece.now ≤ 65536 = omega (arith, c.if-y-len.false, bound) in
    let after : span NotLineFeed a.piece.now + 1 ≡ c.next-cut.result.after.0 = omega (arith, c.next-cut.ensures.after_is) in
    let without : unended a.piece.now ≡ not (eqb (c.next-cut.result.after.0 - length a.piece.now) 0) =
    lacks a.piece.now (span NotLineFeed a.piece.now) refl some last (span_fits NotLineFeed a.piece.now)
    ∙ ap (λ k. not (eqb (k - length a.piece.now) 0)) after in
    let all : c.next-cut.result.end.0 - 0 ≡ c.next-cut.result.end.0 = omega arith in
    line_good a.x a.own.now a.table.now a.piece.now a.dialect well good c.if-x-ne0.false c.read-y.result c.read-y.ensures short
    c.if-y-ge-MAX_LINES.false _ (rw all at (ap first_of c.next-cut.ensures.first)) c.in-Ok.judged c.judge.new.own c.in-Ok.ensures
    (c.next-cut.result.after.0 - length a.piece.now) without
