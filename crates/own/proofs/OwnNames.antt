-- The name that a setting's record stands under, and how many settings there are after one is put among them. Assumes nothing.
use Prim.Native.Nat.{ℕ, zero, suc, ◌-◌, ◌≤◌}
use mathlib.Core.Path.{◌≡◌, refl, ap, ◌∙◌}
use mathlib.Core.List.{List, ◌++◌}
use lib.ListN.{length, get_or, replicate}
use lib.Seq.{take-append_seam}
use Rattle.text.specs.Runs.{span}
use Rattle.text.specs.Names.{macro_name}
use Rattle.text.specs.declared.runs.Set.TheVariants.{NonZero}
use Rattle.text.proofs.NameRuns.{span_stops, no_zero}
use Rattle.settings.specs.Table.{unpadded}
use Rattle.own.specs.Own.{Own, name_in}
use Rattle.own.proofs.RecordShape.{padded_room, name_part}

first_of : (k b : ℕ) → get_or (replicate k b) 0 b ≡ b
first_of zero b = refl
first_of (suc k) b = refl

-- a name of at most 64 bytes, none of them zero, is the one that the record stands under
pub own_name : (x : Own) → length x.name ≤ 64 → span NonZero x.name ≡ length x.name → name_in x ≡ x.name
own_name x h e =
    let rest : List ℕ = replicate (64 - length x.name) 0 in
    let run : span NonZero (x.name ++ rest) ≡ length x.name =
    span_stops NonZero x.name rest e (rw (first_of (64 - length x.name) 0)) in
    ap unpadded (name_part x ∙ padded_room 64 x.name h) ∙ rw run (take-append_seam x.name rest)

-- such is the whole name of a macro
pub macro_name_lem : (x : Own) → length x.name ≤ 64 → macro_name x.name ≡ length x.name → name_in x ≡ x.name
macro_name_lem x h e = own_name x h (no_zero x.name e)
