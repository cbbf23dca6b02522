-- `chunks_exact` yields the records.
use mathlib.Core.Path.{◌∙◌}
use Rattle.std.proofs.Common.{rules}
use Rattle.std.proofs.lemmas.Iterator.Search.{position_from_yields_List}
use borrow.Author.Tests.{tests}
use Rattle.text.specs.Order.{equal}
use Rattle.settings.specs.Table.{records, name_of}
use Rattle.settings.proofs.TableRecords.{yields_records}
use Rattle.own.proofs.Index.{place_position}
use Rattle.own.proofs.index_of.Goals as goal

pub returns : goal.returns
returns c =
    let t = c.args.own.now in
    let n = c.args.name.now in
    position_from_yields_List (λ r. equal (name_of r) n) _ _ _ c.position.ensures.ran (yields_records t (cc) (cc)) (λ x b q k. search (rules, tests))
    ∙ place_position (records t) n
