-- A table that is well formed is in order, and the setting fills the array.
use Rattle.std.proofs.Common.{sym, ap, ◌∙◌, arith}
use Rattle.settings.proofs.Ordered.{in_order}
use Rattle.lookup.specs.Setting.{setting_under}
use Rattle.marshal.specs.Calls.{setting_shown}
use Rattle.marshal.proofs.Shown.{stored_all, three_shown}
use Rattle.marshal.proofs.tables.look_up.Goals as goal

pub returns : goal.returns
returns c =
    let t = c.args.table.now in
    let well = sym c.is_well_formed.ensures ∙ c.if-not-is_well_formed.false in
    let found = setting_under t c.args.name.now in
    let filled = stored_all (setting_shown found) c.args.out.now (omega (arith, three_shown found)) in
    record {
      refused = rw well;
      written = rw well (c.shown.ensures ∙ ap setting_shown (c.lookup.ensures.right (in_order t well)) ∙ sym filled);
    }
