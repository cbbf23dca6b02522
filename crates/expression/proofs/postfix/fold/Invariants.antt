-- The invariant of the loop: from the current stack the remaining entries leave what all entries leave.
use Rattle.std.proofs.Common.{length, ℕ, ◌≤◌, List}
use Rattle.value.specs.declared.Attributes.{Attributes as CodedAttributes}
use Rattle.expression.specs.Lent.{input_of}
use Rattle.expression.proofs.Entries.{Work, Rest}
use Rattle.expression.proofs.postfix.fold.Given as goal

-- p entries are done, and `top` operands wait
pub record Working (k : Work) (waiting : List CodedAttributes) (top p : ℕ) : Type 0 where
  pub room : top ≤ k.most
  pub rest : Rest k waiting top p

abbrev pub invariant-loop-entry : goal.invariant-loop-entry
invariant-loop-entry l = Working (record { i = input_of l.m l.tokens; most = length l.fn.waiting; order = l.order }) l.waiting l.top l.entry-index
