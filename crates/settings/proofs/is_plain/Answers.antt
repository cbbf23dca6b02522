-- `chunks_exact` yields the records.
use mathlib.Core.Path.{◌∙◌}
use Rattle.std.proofs.Common.{rules}
use Rattle.std.proofs.lemmas.Iterator.Search.{all_from_yields_List}
use borrow.Author.Tests.{tests}
use Rattle.settings.specs.Table.{records, plain_record}
use Rattle.settings.proofs.TableRecords.{yields_records, plain_all}
use Rattle.settings.proofs.is_plain.Goals as goal

pub returns : goal.returns
returns c =
    let t = c.args.table.now in
    all_from_yields_List plain_record _ _ _ c.all.ensures.ran (yields_records t (cc) (cc)) (λ x b q k. search (rules, tests)) ∙ plain_all (records t)
