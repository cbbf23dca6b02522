-- `chunks_exact` yields the records.
use mathlib.Core.Path.{◌∙◌}
use Rattle.std.proofs.Common.{rules}
use Rattle.std.proofs.lemmas.Iterator.Search.{all_from_yields_List}
use borrow.Author.Tests.{tests}
use Rattle.settings.specs.Table.{records}
use Rattle.settings.proofs.TableRecords.{yields_records}
use Rattle.progress.specs.Reading.{is_setting}
use Rattle.progress.proofs.SettingRecords.{settings_all}
use Rattle.progress.proofs.are_settings.Goals as goal

pub returns : goal.returns
returns c =
    let b = c.args.b.now in
    all_from_yields_List is_setting _ _ _ c.all.ensures.ran (yields_records b (cc) (cc)) (λ x j q k. search (rules, tests)) ∙ settings_all (records b)
