-- In each arm the sort of the entry is known, so its operands are on the stack, and its result is left in their place.
use mathlib.Core.Path.{sym, ap, ◌∙◌}
use mathlib.Core.Bool.{true, false}
use Rattle.std.proofs.Common.{◌≡◌, ◌+◌, ◌-◌, ◌<◌, ◌≤◌, ℕ, List, length, get_or, arith}
use Rattle.codes.specs.Codes.{QUESTION}
use Rattle.token.specs.Tokens.{Token}
use Rattle.grammar.specs.Grammar.{is_primary}
use Rattle.syntax.specs.Order.{UNARY, FILLER}
use Rattle.value.specs.Attributes.{primary_of, unary_from, binary_from, choice_from}
use Rattle.value.specs.declared.Attributes.{Attributes as CodedAttributes}
use Rattle.value.specs.Denote.{denote_attributes, denote_token}
use Rattle.value.specs.Lent.{memory_of as meant}
use Rattle.operands.specs.Stack.{count_at, RecordedAt}
use Rattle.operands.proofs.Piles.{alone, instead}
use Rattle.expression.specs.Postfix.{Foldable, memory_of, token_in, operand, unary, binary, choice, filler}
use Rattle.expression.proofs.Entries.{Work, Next, Left, at, begun, is_unary_lem, is_operand, is_filler, is_choice, is_binary, opened, closed}
use Rattle.expression.proofs.Entries.{operand_room, unary_finds, binary_finds, choice_finds, filler_on, operand_on, unary_on, binary_on, choice_on}
use Rattle.expression.proofs.postfix.fold.Invariants.{Working}
use Rattle.expression.proofs.postfix.fold.Goals as goal
use Rattle.expression.proofs.postfix.fold.Goals.{then-is_primary, else-is_primary+then-entry-ne-FILLER+then-k-eq-QUESTION}
use Rattle.expression.proofs.postfix.fold.Goals.{else-is_primary+then-entry-ne-FILLER+else-k-eq-QUESTION, else-is_primary+else-entry-ne-FILLER}

-- Entry p is x, and z is its token. What each sort of entry finds on the stack w, and the stack w' that it leaves.
module _ {k : Work} {w : List CodedAttributes} {top p : ℕ} (inv : Working k w top p) (s : Foldable k.i k.most k.order) (x : ℕ) (h : p < length k.order)
    (q : x ≡ get_or k.order p 0) (z : Token) where
  module _ (u : UNARY ≤ x) (e : z ≡ token_in k.i (x - UNARY)) where
    one : Next k unary x w top p
    one = opened unary x h q (is_unary_lem k.i x u) inv.rest

    finds_one : (0 < top) × (count_at w (top - 1) ≤ 200)
    finds_one = unary_finds one s.value s.gives

    leaves_one : {w' : List CodedAttributes} → Left k w (top - 1) (unary_from z (at k w (top - 1))) w' → Working k w' top (p + 1)
    leaves_one l = record { room = inv.room; rest = unary_on _ z e one l }

  module _ (u : x < UNARY) (e : z ≡ token_in k.i x) where
    module _ (f : is_primary z.code ≡ true) where
      leaf : Next k operand x w top p
      leaf = opened operand x h q (is_operand k.i x u (rw e at f)) inv.rest

      finds_room : top < k.most
      finds_room = operand_room leaf s.value s.gives

      leaves_leaf : {w' : List CodedAttributes} → Left k w top (primary_of (memory_of k.i) z) w' → Working k w' (top + 1) (p + 1)
      leaves_leaf l = record { room = omega (arith, finds_room); rest = operand_on _ leaf (instead (ap (primary_of (memory_of k.i)) e) l) }

    module _ (f : is_primary z.code ≡ false) where
      leaves_all : x ≡ FILLER → Working k w top (p + 1)
      leaves_all g = record { room = inv.room; rest = filler_on (opened filler x h q (is_filler k.i x u (rw e at f) g) inv.rest) }

      module _ (g : x ≡ FILLER → ⊥) (j : z.code ≡ QUESTION) where
        three : Next k choice x w top p
        three = opened choice x h q (is_choice k.i x u (rw e at f) g (rw e at j)) inv.rest

        finds_three : (2 < top) × (count_at w (top - 3) + count_at w (top - 3 + 1) + count_at w (top - 3 + 2) ≤ 600)
        finds_three = choice_finds three s.value s.gives

        leaves_three : {w' : List CodedAttributes} → Left k w (top - 3) (choice_from z (at k w (top - 3)) (at k w (top - 3 + 1)) (at k w (top - 3 + 2))) w'
            → Working k w' (top - 2) (p + 1)
        leaves_three l = record { room = omega (arith, inv.room); rest = choice_on _ z e three l }

      module _ (g : x ≡ FILLER → ⊥) (j : z.code ≡ QUESTION → ⊥) where
        two : Next k binary x w top p
        two = opened binary x h q (is_binary k.i x u (rw e at f) g (λ y. j (ap (λ (t : Token). t.code) e ∙ y))) inv.rest

        finds_two : (1 < top) × (count_at w (top - 2) + count_at w (top - 2 + 1) ≤ 400) × RecordedAt w (top - 2) × RecordedAt w (top - 2 + 1)
        finds_two = binary_finds two s.value s.gives

        leaves_two : {w' : List CodedAttributes} → Left k w (top - 2) (binary_from z (at k w (top - 2)) (at k w (top - 2 + 1))) w'
            → Working k w' (top - 1) (p + 1)
        leaves_two l = record { room = omega (arith, inv.room); rest = binary_on _ z e two l }

pub loop-entry-init : goal.loop-entry-init
loop-entry-init c = record { room = omega arith; rest = begun _ _ }

pub overflow_sub-top : goal.overflow_sub-top
overflow_sub-top c =
    let found = finds_one c.loop-entry.invariant c.requires c.from-x.result c.loop-entry-test.true c.from-x.ensures _ c.if-x-ge-UNARY.true c.at-k.ensures in
    omega (arith, found.0)

pub unary-requires : goal.unary-requires
unary-requires c =
    let inv = c.loop-entry.invariant in
    let found = finds_one inv c.requires c.from-x.result c.loop-entry-test.true c.from-x.ensures _ c.if-x-ge-UNARY.true c.at-k.ensures in
    (omega (arith, found.0, inv.room, c.loop-entry.auto.waiting), found.1)

pub loop-entry-preserved-then-x-ge-UNARY : goal.loop-entry-preserved-then-x-ge-UNARY
loop-entry-preserved-then-x-ge-UNARY c =
    leaves_one c.loop-entry.invariant c.requires c.from-x.result c.loop-entry-test.true c.from-x.ensures (denote_token c.at-k.result) c.if-x-ge-UNARY.true
    c.at-k.ensures (c.unary.ensures (meant c.args.m))

pub store-requires : goal.store-requires
store-requires c =
    let k = c.at-k-in-loop-entry in
    let found = finds_room c.loop-entry.invariant c.requires c.from-x.result c.loop-entry-test.true c.from-x.ensures (denote_token k.result)
    c.if-x-ge-UNARY.false k.ensures (sym c.is_primary.ensures ∙ c.if-is_primary.true) in
    omega (arith, found, c.loop-entry.auto.waiting)

pub overflow_sub-top-then-k-eq-QUESTION : goal.overflow_sub-top-then-k-eq-QUESTION
overflow_sub-top-then-k-eq-QUESTION c =
    let k = c.at-k-in-loop-entry in
    let found = finds_three c.loop-entry.invariant c.requires c.from-x.result c.loop-entry-test.true c.from-x.ensures (denote_token k.result)
    c.if-x-ge-UNARY.false k.ensures (sym c.is_primary.ensures ∙ c.if-is_primary.false) (λ q. c.if-entry-ne-FILLER.true (sym c.from-x.ensures ∙ q))
    c.if-k-eq-QUESTION.true in
    omega (arith, found.0)

pub choice-requires : goal.choice-requires
choice-requires c =
    let k = c.at-k-in-loop-entry in
    let inv = c.loop-entry.invariant in
    let found = finds_three inv c.requires c.from-x.result c.loop-entry-test.true c.from-x.ensures (denote_token k.result)
    c.if-x-ge-UNARY.false k.ensures (sym c.is_primary.ensures ∙ c.if-is_primary.false) (λ q. c.if-entry-ne-FILLER.true (sym c.from-x.ensures ∙ q))
    c.if-k-eq-QUESTION.true in
    (omega (arith, found.0, inv.room, c.loop-entry.auto.waiting), found.1)

pub overflow_sub-top-then-k-eq-QUESTION-2 : goal.overflow_sub-top-then-k-eq-QUESTION-2
overflow_sub-top-then-k-eq-QUESTION-2 c =
    let k = c.at-k-in-loop-entry in
    let found = finds_three c.loop-entry.invariant c.requires c.from-x.result c.loop-entry-test.true c.from-x.ensures (denote_token k.result)
    c.if-x-ge-UNARY.false k.ensures (sym c.is_primary.ensures ∙ c.if-is_primary.false) (λ q. c.if-entry-ne-FILLER.true (sym c.from-x.ensures ∙ q))
    c.if-k-eq-QUESTION.true in
    omega (arith, found.0)

pub overflow_sub-top-else-k-eq-QUESTION : goal.overflow_sub-top-else-k-eq-QUESTION
overflow_sub-top-else-k-eq-QUESTION c =
    let k = c.at-k-in-loop-entry in
    let found = finds_two c.loop-entry.invariant c.requires c.from-x.result c.loop-entry-test.true c.from-x.ensures (denote_token k.result)
    c.if-x-ge-UNARY.false k.ensures (sym c.is_primary.ensures ∙ c.if-is_primary.false) (λ q. c.if-entry-ne-FILLER.true (sym c.from-x.ensures ∙ q))
    c.if-k-eq-QUESTION.false in
    omega (arith, found.0)

pub binary-requires : goal.binary-requires
binary-requires c =
    let k = c.at-k-in-loop-entry in
    let inv = c.loop-entry.invariant in
    let found = finds_two inv c.requires c.from-x.result c.loop-entry-test.true c.from-x.ensures (denote_token k.result)
    c.if-x-ge-UNARY.false k.ensures (sym c.is_primary.ensures ∙ c.if-is_primary.false) (λ q. c.if-entry-ne-FILLER.true (sym c.from-x.ensures ∙ q))
    c.if-k-eq-QUESTION.false in
    (omega (arith, found.0, inv.room, c.loop-entry.auto.waiting), found.1, found.2, found.3)

pub overflow_sub-top-else-k-eq-QUESTION-2 : goal.overflow_sub-top-else-k-eq-QUESTION-2
overflow_sub-top-else-k-eq-QUESTION-2 c =
    let k = c.at-k-in-loop-entry in
    let found = finds_two c.loop-entry.invariant c.requires c.from-x.result c.loop-entry-test.true c.from-x.ensures (denote_token k.result)
    c.if-x-ge-UNARY.false k.ensures (sym c.is_primary.ensures ∙ c.if-is_primary.false) (λ q. c.if-entry-ne-FILLER.true (sym c.from-x.ensures ∙ q))
    c.if-k-eq-QUESTION.false in
    omega (arith, found.0)

pub loop-entry-preserved : goal.loop-entry-preserved
loop-entry-preserved c =
    let k = c.at-k-in-loop-entry in
    let inv = c.loop-entry.invariant in
    let z = denote_token k.result in
    elim c.if-is_primary.branch [
      | then-is_primary w ↦
          rw (w.waiting-is, w.top-is)
          (leaves_leaf inv c.requires c.from-x.result c.loop-entry-test.true c.from-x.ensures z c.if-x-ge-UNARY.false k.ensures
          (sym c.is_primary.ensures ∙ w.if-is_primary.true) (instead w.of_primary.ensures (w.store.ensures (meant c.args.m))))
      | else-is_primary+then-entry-ne-FILLER+then-k-eq-QUESTION w ↦
          rw (w.waiting-is, w.top-is)
          (leaves_three inv c.requires c.from-x.result c.loop-entry-test.true c.from-x.ensures z c.if-x-ge-UNARY.false k.ensures
          (sym c.is_primary.ensures ∙ w.if-is_primary.false) (λ q. w.if-entry-ne-FILLER.true (sym c.from-x.ensures ∙ q)) w.if-k-eq-QUESTION.true
          (w.choice.ensures (meant c.args.m)))
      | else-is_primary+then-entry-ne-FILLER+else-k-eq-QUESTION w ↦
          rw (w.waiting-is, w.top-is)
          (leaves_two inv c.requires c.from-x.result c.loop-entry-test.true c.from-x.ensures z c.if-x-ge-UNARY.false k.ensures
          (sym c.is_primary.ensures ∙ w.if-is_primary.false) (λ q. w.if-entry-ne-FILLER.true (sym c.from-x.ensures ∙ q)) w.if-k-eq-QUESTION.false
          w.binary.ensures)
      | else-is_primary+else-entry-ne-FILLER w ↦
          rw (w.waiting-is, w.top-is)
          (leaves_all inv c.requires c.from-x.result c.loop-entry-test.true c.from-x.ensures z c.if-x-ge-UNARY.false k.ensures
          (sym c.is_primary.ensures ∙ w.if-is_primary.false) (c.from-x.ensures ∙ w.if-entry-ne-FILLER.false))
    ]

pub load-requires : goal.load-requires
load-requires c =
    let inv = c.loop-entry.invariant in
    let shape = closed (omega (arith, c.loop-entry-test.false)) inv.rest c.requires.value c.requires.gives in
    omega (arith, (alone (meant c.args.m) c.loop-entry.waiting c.loop-entry.top c.requires.value shape).0, inv.room, c.loop-entry.auto.waiting)

pub returns : goal.returns
returns c =
    let m = meant c.args.m in
    λ v g.
    let shape = closed (omega (arith, c.loop-entry-test.false)) c.loop-entry.invariant.rest v g in
    ap (denote_attributes m) c.load.ensures ∙ (alone m c.loop-entry.waiting c.loop-entry.top v shape).1
