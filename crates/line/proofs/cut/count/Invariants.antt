-- The LFs of the blocks so far and those of the rest are all LFs.
use Rattle.std.proofs.Common.{◌≡◌, ◌+◌, eqb}
use Rattle.std.specs.List.{count_by}
use Rattle.std.specs.Slice.Iter.{chunks_rest, chunks_size}
use Rattle.text.specs.Bytes.{byte}
use Rattle.line.proofs.cut.count.Given as goal

abbrev pub invariant-loop-block : goal.invariant-loop-block
invariant-loop-block l =
    (chunks_size l.block-iterator ≡ 224)
    × (l.n + count_by (λ b. eqb b (byte "\n")) (chunks_rest l.block-iterator) ≡ count_by (λ b. eqb b (byte "\n")) l.file)
