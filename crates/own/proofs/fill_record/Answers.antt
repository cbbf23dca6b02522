-- Three fields that are filled, one after the other.
use native.Mathlib.Omega.{arith}
use mathlib.Core.List.{[], ◌∷◌}
use lib.ListN.{length-take}
use Rattle.own.proofs.Fields.{fields}
use Rattle.own.proofs.fill_record.Goals as goal

pub slice_bounds-fill-end-2 : goal.slice_bounds-fill-end-2
slice_bounds-fill-end-2 c = omega (arith, length-take 64 c.args.r.now)

pub returns : goal.returns
returns c =
    fields c.args.r.now c.args.name.now
    (c.args.content.now.kind ∷ c.args.content.now.len ∷ []) c.args.content.now.bytes _ _ _ c.requires c.fill.ensures c.fill-2.ensures
    c.copy_from_slice.ensures.after
