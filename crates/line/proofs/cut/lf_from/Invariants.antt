-- No LF is before `at`, and the rest of the file starts there.
use Rattle.std.proofs.Common.{◌≡◌, ◌+◌, ◌≤◌, length, drop}
use Rattle.std.specs.Slice.Iter.{chunks_exact_rest, chunks_exact_size}
use Rattle.text.specs.Runs.{span}
use Rattle.text.specs.declared.runs.Set.TheVariants.{NotLineFeed}
use Rattle.line.proofs.cut.lf_from.Given as goal

abbrev pub invariant-loop-eight : goal.invariant-loop-eight
invariant-loop-eight l =
    (chunks_exact_size l.eight-iterator ≡ 8)
    × (l.at ≤ length l.file)
    × (drop l.at l.file ≡ chunks_exact_rest l.eight-iterator)
    × (l.fn.from.0 + span NotLineFeed (drop l.fn.from.0 l.file) ≡ l.at + span NotLineFeed (drop l.at l.file))
