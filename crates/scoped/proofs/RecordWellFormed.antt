-- The record of a setting by itself is a well-formed table, if the setting has the name of a macro, for which there is room, and the record is
-- plain. Assumes nothing.
use Prim.Native.Nat.{ℕ, ◌-◌, ◌≤◌}
use native.Mathlib.Omega.{arith}
use mathlib.Core.Path.{◌≡◌, refl, sym, ap, ◌∙◌}
use mathlib.Core.Bool.{true}
use mathlib.Core.List.{List, [], ◌∷◌, append-nil}
use lib.ListN.{length, drop, replicate}
use lib.Seq.{drop_at, length-take-le}
use borrow.Author.Tests.{eq-eqb, lt-ltb}
use Rattle.text.specs.Runs.{span}
use Rattle.text.specs.declared.runs.Set.TheVariants.{NonZero}
use Rattle.text.proofs.Laws.{span_fits}
use Rattle.settings.specs.Table.{records, name_field, is_name, well_formed_name, ordered_names, ordered, plain_record, plain_records, well_formed}
use Rattle.own.specs.Own.{Own, record_of, records_of, name_in}
use Rattle.own.proofs.OwnNames.{macro_name_lem}
use Rattle.own.proofs.RecordShape.{padded_room, name_part}
use Rattle.own.proofs.Records.{record_length, own_records}
use Rattle.scoped.specs.Macros.{IsMacro}
use Rattle.scoped.proofs.Contents.{all_zeros}

module _ (x : Own) (some : 1 ≤ length x.name) (short : length x.name ≤ 64) (whole : IsMacro x.name) where
  abbrev field : List ℕ
  field = name_field (record_of x)

  abbrev padding : List ℕ
  padding = replicate (64 - length x.name) 0

  named : name_in x ≡ x.name
  named = macro_name_lem x short whole

  run : span NonZero field ≡ length x.name
  run = sym (length-take-le (span NonZero field) field (span_fits NonZero field)) ∙ ap length named

  behind : drop (span NonZero field) field ≡ padding
  behind = rw (run, name_part x ∙ padded_room 64 x.name short) (drop_at x.name padding (length x.name) refl)

  well_named : well_formed_name field ≡ true
  unfolding well_formed_name is_name
  well_named =
      rw (named, behind, all_zeros (64 - length x.name), lt-ltb 0 (length x.name) (omega arith), eq-eqb _ _ whole)

  alone : records (record_of x) ≡ record_of x ∷ []
  unfolding records_of
  alone = ap records (sym (append-nil (record_of x))) ∙ own_records (x ∷ [])

  pub record_well_formed : plain_record (record_of x) ≡ true → well_formed (record_of x) ≡ true
  unfolding well_formed ordered ordered_names plain_records
  record_well_formed h = rw (alone, record_length x, well_named, h)
