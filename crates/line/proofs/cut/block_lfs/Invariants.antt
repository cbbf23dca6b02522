use Rattle.std.proofs.Common.{◌≡◌, ◌≤◌, take, eqb}
use Rattle.std.specs.List.{count_by}
use Rattle.text.specs.Bytes.{byte}
use Rattle.line.proofs.cut.block_lfs.Given as goal

abbrev pub invariant-loop-b : goal.invariant-loop-b
invariant-loop-b l = (l.lfs ≤ l.b-index) × (l.lfs ≡ count_by (λ b. eqb b (byte "\n")) (take l.b-index l.block))
