-- Invariant: the names before the iterator's are well formed and ascend, so the last of them and the others decide.
use mathlib.Core.Path.{◌≡◌}
use mathlib.Core.List.{map}
use Rattle.std.specs.Slice.Iter.{chunks_exact_rest, chunks_exact_size}
use Rattle.settings.specs.Table.{records, name_field, ordered_names}
use Rattle.settings.proofs.TableRecords.{ordered_after}
use Rattle.settings.proofs.has_ordered_names.Given as goal

abbrev pub invariant-loop-r : goal.invariant-loop-r
invariant-loop-r l = (chunks_exact_size l.r-iterator ≡ 128)
    × (ordered_after l.before (map name_field (records (chunks_exact_rest l.r-iterator))) ≡ ordered_names (map name_field (records l.table)))
