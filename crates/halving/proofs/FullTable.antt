-- There is a well-formed table of 512 records, by computation. Assumes nothing.
use Prim.Native.Nat.{ℕ}
use mathlib.Core.Path.{◌≡◌, refl}
use mathlib.Core.Bool.{true}
use mathlib.Core.List.{List}
use lib.ListN.{length}
use Rattle.text.specs.Runs.{span}
use Rattle.text.specs.Order.{compared}
use Rattle.text.specs.Names.{macro_name, pcd_name}
use Rattle.settings.specs.Table.{records_in, records, zeros, is_name, well_formed_name, ordered_names, ordered}
use Rattle.settings.specs.Table.{plain_kind, plain_record, plain_records, well_formed}
use Rattle.halving.specs.Examples.{table}
use Rattle.halving.proofs.RecordsAt.{records_length}

is_well_formed : well_formed (table 512 0) ≡ true
unfolding span compared macro_name pcd_name records_in zeros is_name well_formed_name ordered_names ordered plain_kind plain_record plain_records well_formed
is_well_formed = refl

pub full_table : (t : List ℕ) × (well_formed t ≡ true) × (length (records t) ≡ 512)
full_table = (table 512 0, is_well_formed, records_length 512 (table 512 0))
