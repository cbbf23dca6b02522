-- The index says where the record goes, and the test whether there is room for it.
use native.Mathlib.Omega.{arith}
use mathlib.Core.Path.{◌∙◌}
use Rattle.own.proofs.Index.{index_or}
use Rattle.own.proofs.Records.{setting_record}
use Rattle.own.proofs.BufferHolds.{full, put_there}
use Rattle.own.proofs.put.Goals as goal

pub returns-then-i-eq-MAX_OWN-clause-puts : goal.returns-then-i-eq-MAX_OWN-clause-puts
returns-then-i-eq-MAX_OWN-clause-puts c = λ x o s h.
    let a = c.args in
    full x c.requires h s.its_name (index_or a.used _ a.own.now a.name.now _ (omega arith) c.index_of.ensures c.unwrap_or-i.ensures) c.if-i-eq-MAX_OWN.true

pub returns-clause-puts : goal.returns-clause-puts
returns-clause-puts c = λ x o s h.
    let a = c.args in
    rw (c.max.ensures, c.fill_record.ensures ∙ setting_record x a.name.now a.content.now.kind a.content.now.len a.content.now.bytes s)
    (put_there x c.requires h s.its_name
    (index_or a.used _ a.own.now a.name.now _ (omega arith) c.index_of.ensures c.unwrap_or-i.ensures) c.if-i-eq-MAX_OWN.false)
