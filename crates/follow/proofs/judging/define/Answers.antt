-- The settings that are read are lent; what the line sets is read again from the buffer.
use Rattle.std.proofs.Common.{arith, sym, subst}
use Rattle.std.proofs.lemmas.Result.{err_from_is_err_and}
use Rattle.own.specs.Putting.{Holds}
use Rattle.define.proofs.Counts.{definition_small, does_few}
use Rattle.progress.specs.Reading.{own_in}
use Rattle.progress.proofs.Settings.{reads}
use Rattle.follow.proofs.LineCases.{define_judged, define_refused}
use Rattle.follow.proofs.judging.define.Goals as goal

pub define-requires : goal.define-requires
define-requires c =
    let a = c.args in
    let long = c.used_of-held.ensures.b_len in
    let same = c.used_of-held.ensures.value in
    let read = reads a.used a.own.now long in
    (omega (arith, same, read.few), omega (arith, same, read.held.size), c.requires.in_order, long)

pub returns-in_err-defined : goal.returns-in_err-defined
returns-in_err-defined c =
    let a = c.args in
    let own = own_in a.used a.own.now in
    let read = reads a.used a.own.now c.used_of-held.ensures.b_len in
    let held = subst (λ k. Holds a.own.now k own) (sym c.used_of-held.ensures.value) read.held in
    let failed = err_from_is_err_and c.from_residual.result c.from_residual.ensures.1 in
    let z = c.in_err-defined.ensures in
    λ n. rw (failed.1, failed.2) (define_refused a.x a.used a.own.now a.table.now a.line.now a.dialect n c.define.new.own c.requires.short
    c.requires.kept _ (z.does own held) z.unchanged)

pub counted-requires : goal.counted-requires
counted-requires c =
    let a = c.args in
    let own = own_in a.used a.own.now in
    let read = reads a.used a.own.now c.used_of-held.ensures.b_len in
    let held = subst (λ k. Holds a.own.now k own) (sym c.used_of-held.ensures.value) read.held in
    let does = c.in_ok-defined.ensures.does own held in
    let few = does_few _ own _ c.in_ok-defined.defined (definition_small own a.table.now a.line.now a.dialect) does in
    omega (arith, few, c.requires.few)

pub returns : goal.returns
returns c =
    let a = c.args in
    let own = own_in a.used a.own.now in
    let read = reads a.used a.own.now c.used_of-held.ensures.b_len in
    let held = subst (λ k. Holds a.own.now k own) (sym c.used_of-held.ensures.value) read.held in
    let z = c.in_ok-defined.ensures in
    λ n. rw c.counted.ensures (define_judged a.x a.used a.own.now a.table.now a.line.now a.dialect n c.define.new.own c.requires.short
    c.requires.kept c.in_ok-defined.defined (z.does own held) c.requires.shallow read.good z.used_bound.0)
