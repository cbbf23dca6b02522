-- The order that the descent wrote leaves the result of the grammar's parser, and there is room for its operands.
use Rattle.std.proofs.Common.{ℕ, ◌≤◌, ◌+◌, List, take, arith}
use Rattle.std.proofs.lemmas.Result.{err_from_is_err_and}
use lib.Seq.{length-take-le}
use Rattle.grammar.specs.Grammar.{expression}
use Rattle.grammar.specs.Parse.{got, find, Yields}
use Rattle.syntax.specs.Order.{OrderTo}
use Rattle.value.specs.declared.Attributes.{Attributes as CodedAttributes}
use Rattle.value.specs.Denote.{denote_attributes}
use Rattle.expression.specs.Meaning.{code_of, meaning}
use Rattle.expression.specs.Lent.{input_of}
use Rattle.expression.specs.Postfix.{Input, memory_of, token_in, Foldable, Folds}
use Rattle.expression.proofs.Made.{faulted, valued, come}
use Rattle.expression.proofs.parse.Goals as goal

module _ (i : Input) (few : i.n ≤ 200) (most m j : ℕ) (o : List ℕ) (w : OrderTo i.codes i.n m j o) (room : m ≤ most + most) where
  -- an order can be folded with room for half its entries
  foldable : Foldable i most (take m o)
  foldable =
      let l = length-take-le m o (omega (arith, w.most, w.long)) in
      let v = valued i most few (take m o) j (omega (arith, l, w.most)) (omega (arith, l)) w.made in
      record { few = omega (arith, l, w.most); value = v.0; gives = v.1 }

  -- it leaves the result of the parser
  folded : (z : CodedAttributes) → Folds i most (take m o) z
      → Yields code_of (meaning (memory_of i)) (token_in i) i.n (find expression 0) (got (denote_attributes (memory_of i) z) j)
  folded z f =
      let l = length-take-le m o (omega (arith, w.most, w.long)) in
      come i most few (take m o) j (omega (arith, l, w.most)) (omega (arith, l)) w.made z f

pub returns-in_err-filled : goal.returns-in_err-filled
returns-in_err-filled c =
    let failed = err_from_is_err_and c.from_residual.result c.from_residual.ensures.1 in
    rw (failed.1, failed.2) (faulted (input_of c.args.m c.args.tokens) 100 c.args.tokens.holding.few _ c.in_err-filled.ensures)

pub fold_with_room-a-requires-clause-foldable : goal.fold_with_room-a-requires-clause-foldable
fold_with_room-a-requires-clause-foldable c =
    foldable _ c.args.tokens.holding.few 16 _ _ _ c.in_ok-filled.ensures (omega (arith, c.if-filled-le-SHORT.true))

pub fold_with_room-a-requires-else-filled-le-SHORT-clause-foldable : goal.fold_with_room-a-requires-else-filled-le-SHORT-clause-foldable
fold_with_room-a-requires-else-filled-le-SHORT-clause-foldable c =
    foldable _ c.args.tokens.holding.few 100 _ _ _ c.in_ok-filled.ensures (omega (arith, c.in_ok-filled.ensures.most))

pub returns-then-filled-le-SHORT : goal.returns-then-filled-le-SHORT
returns-then-filled-le-SHORT c =
    folded (input_of c.args.m c.args.tokens) c.args.tokens.holding.few 16 _ _ _ c.in_ok-filled.ensures (omega (arith, c.if-filled-le-SHORT.true))
    c.fold_with_room-a.result c.fold_with_room-a.ensures

pub returns-else-filled-le-SHORT : goal.returns-else-filled-le-SHORT
returns-else-filled-le-SHORT c =
    folded (input_of c.args.m c.args.tokens) c.args.tokens.holding.few 100 _ _ _ c.in_ok-filled.ensures (omega (arith, c.in_ok-filled.ensures.most))
    c.fold_with_room-a-else-filled-le-SHORT.result c.fold_with_room-a-else-filled-le-SHORT.ensures
