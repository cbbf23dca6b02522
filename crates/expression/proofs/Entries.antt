-- One more entry of an order: the operands that it finds on the stack, and what the entries after it leave.
use Prim.Native.Nat.{ℕ, ◌+◌, ◌-◌, ◌≤◌, ◌<◌}
use native.Mathlib.Numerals.{add-one}
use native.Mathlib.Omega.{arith}
use mathlib.Core.Path.{◌≡◌, sym, ap, subst}
use mathlib.Core.Bool.{true, false}
use mathlib.Core.List.{List, [], ◌∷◌}
use lib.ListN.{length, drop, get_or, drop_of_length-le}
use lib.Seq.{drop-cons}
use borrow.Author.Tests.{le-leb, lt-leb, eq-eqb, ne_eqb}
use Rattle.codes.specs.Codes.{QUESTION}
use Rattle.token.specs.Tokens.{Token}
use Rattle.grammar.specs.Grammar.{is_primary}
use Rattle.syntax.specs.Order.{UNARY, FILLER}
use Rattle.value.specs.Places.{Memory}
use Rattle.value.specs.declared.Attributes.{Attributes as CodedAttributes}
use Rattle.value.specs.Attributes.{Attributes, primary_of, unary_from, binary_from, choice_from}
use Rattle.value.specs.Denote.{InOneRecord}
use Rattle.value.proofs.OneRecord.{denotes_recorded}
use Rattle.operands.specs.Stack.{NOTHING, operand_at, count_at, RecordedAt, piled, Leaves}
use Rattle.operands.proofs.Piles.{pile_length, latest}
use Rattle.expression.specs.Postfix.{Input, memory_of, code_in, token_in, Entry, operand, unary, binary, choice, filler, entry_of, OnOne, OnTwo, OnThree}
use Rattle.expression.specs.Postfix.{Does, Gives}

-- the sort of an entry, from the tests
module _ (i : Input) (x : ℕ) where
  pub is_unary_lem : UNARY ≤ x → entry_of i x ≡ unary
  is_unary_lem h = rw (le-leb UNARY x h)

  pub is_operand : x < UNARY → is_primary (code_in i x) ≡ true → entry_of i x ≡ operand
  is_operand h e = rw (lt-leb UNARY x h, e)

  pub is_filler : x < UNARY → is_primary (code_in i x) ≡ false → x ≡ FILLER → entry_of i x ≡ filler
  is_filler h e f = rw (lt-leb UNARY x h, e, eq-eqb x FILLER f)

  pub is_choice : x < UNARY → is_primary (code_in i x) ≡ false → (x ≡ FILLER → ⊥) → code_in i x ≡ QUESTION → entry_of i x ≡ choice
  is_choice h e f g = rw (lt-leb UNARY x h, e, ne_eqb x FILLER f, eq-eqb (code_in i x) QUESTION g)

  pub is_binary : x < UNARY → is_primary (code_in i x) ≡ false → (x ≡ FILLER → ⊥) → (code_in i x ≡ QUESTION → ⊥) → entry_of i x ≡ binary
  is_binary h e f g = rw (lt-leb UNARY x h, e, ne_eqb x FILLER f, ne_eqb (code_in i x) QUESTION g)

-- the operands of an operator on top of the stack w
module _ (m : Memory) (w : List CodedAttributes) (top : ℕ) (go : List Attributes → Type 0) where
  one : {o : Token} (g : OnOne o (piled m w top) go) → (0 < top) × (g.a ≡ operand_at m w (top - 1)) × (g.rest ≡ piled m w (top - 1))
  one g = latest m w top g.a g.rest g.shape

  two : {o : Token} (g : OnTwo o (piled m w top) go)
      → (1 < top) × (g.a ≡ operand_at m w (top - 2)) × (g.b ≡ operand_at m w (top - 2 + 1)) × (g.rest ≡ piled m w (top - 2))
  two g =
      let last = latest m w top g.b (g.a ∷ g.rest) g.shape in
      let first = latest m w (top - 1) g.a g.rest (sym last.2) in
      let p : top - 1 - 1 ≡ top - 2 = omega arith in
      let q : top - 1 ≡ top - 2 + 1 = omega (arith, first.0) in
      (omega (arith, first.0), rw p at first.1, rw q at last.1, rw p at first.2)

  three : {o : Token} (g : OnThree o (piled m w top) go)
      → (2 < top) × (g.c ≡ operand_at m w (top - 3)) × (g.a ≡ operand_at m w (top - 3 + 1)) × (g.b ≡ operand_at m w (top - 3 + 2))
      × (g.rest ≡ piled m w (top - 3))
  three g =
      let last = latest m w top g.b (g.a ∷ g.c ∷ g.rest) g.shape in
      let middle = latest m w (top - 1) g.a (g.c ∷ g.rest) (sym last.2) in
      let first = latest m w (top - 1 - 1) g.c g.rest (sym middle.2) in
      let p : top - 1 - 1 - 1 ≡ top - 3 = omega arith in
      let q : top - 1 - 1 ≡ top - 3 + 1 = omega (arith, first.0) in
      let r : top - 1 ≡ top - 3 + 2 = omega (arith, first.0) in
      (omega (arith, first.0), rw p at first.1, rw q at middle.1, rw r at last.1, rw p at first.2)

-- the stack that an operator leaves
placed : {m : Memory} {w w' : List CodedAttributes} {a : Attributes} {j : ℕ} (h : ℕ) → j + 1 ≡ h → Leaves m w j a w' → piled m w' h ≡ a ∷ piled m w j
placed h f l = rw f at l.top

-- the evaluation of an order: its input, the room for operands, and its entries
pub record Work : Type 0 where
  pub i : Input
  pub most : ℕ
  pub order : List ℕ

-- the first operands of a stack
abbrev pub pile : Work → List CodedAttributes → ℕ → List Attributes
pile k w top = piled (memory_of k.i) w top

abbrev pub at : Work → List CodedAttributes → ℕ → Attributes
at k w j = operand_at (memory_of k.i) w j

-- with `top` operands on the stack w, the entries from p on leave what all entries leave
pub record Rest (k : Work) (w : List CodedAttributes) (top p : ℕ) : Type 0 where
  pub leaves : (v : Attributes) → Gives k.i k.most [] k.order v → Gives k.i k.most (pile k w top) (drop p k.order) v

-- before the first entry the stack is empty
pub begun : (k : Work) (w : List CodedAttributes) → Rest k w 0 0
unfolding piled
begun k w = record { leaves = λ v g. g }

-- the same, if entry p is x and of this sort
pub record Next (k : Work) (y : Entry) (x : ℕ) (w : List CodedAttributes) (top p : ℕ) : Type 0 where
  pub does : (v : Attributes) → Gives k.i k.most [] k.order v
      → Does k.i k.most y x (pile k w top) (λ u. Gives k.i k.most u (drop (p + 1) k.order) v)

-- w' holds the operands of w up to j, and then a
abbrev pub Left : Work → List CodedAttributes → ℕ → Attributes → List CodedAttributes → Type 0
Left k w j a w' = Leaves (memory_of k.i) w j a w'

module _ {k : Work} {w : List CodedAttributes} {top p : ℕ} where
  -- the next entry
  pub opened : (y : Entry) (x : ℕ) → p < length k.order → x ≡ get_or k.order p 0 → entry_of k.i x ≡ y → Rest k w top p → Next k y x w top p
  opened y x h q f r = record { does = λ v g. rw (add-one p) (rw (drop-cons k.order p 0 h, ← q, f) at (r.leaves v g)) }

  -- after the last entry
  pub closed : length k.order ≤ p → Rest k w top p → (v : Attributes) → Gives k.i k.most [] k.order v → pile k w top ≡ v ∷ []
  closed q r v g = rw (drop_of_length-le k.order q) at (r.leaves v g)

  -- the operands that an entry finds, if all entries leave something
  module _ {x : ℕ} where
    pub operand_room : Next k operand x w top p → (v : Attributes) → Gives k.i k.most [] k.order v → top < k.most
    operand_room r v g = omega (arith, (r.does v g).0, pile_length (memory_of k.i) w top)

    pub unary_finds : Next k unary x w top p → (v : Attributes) → Gives k.i k.most [] k.order v → (0 < top) × (count_at w (top - 1) ≤ 200)
    unary_finds r v g =
        let h = r.does v g in
        let f = one (memory_of k.i) w top _ h in
        (f.0, omega (arith, h.few, ap (λ a. a.count) f.1))

    pub binary_finds : Next k binary x w top p → (v : Attributes) → Gives k.i k.most [] k.order v
        → (1 < top) × (count_at w (top - 2) + count_at w (top - 2 + 1) ≤ 400) × RecordedAt w (top - 2) × RecordedAt w (top - 2 + 1)
    binary_finds r v g =
        let h = r.does v g in
        let f = two (memory_of k.i) w top _ h in
        let held : (j : ℕ) (a : Attributes) → a ≡ at k w j → InOneRecord a.value → RecordedAt w j =
        λ j a e q. denotes_recorded (memory_of k.i) (get_or w j NOTHING).value (subst (λ (b : Attributes). InOneRecord b.value) e q) in (
          f.0,
          omega (arith, h.few, ap (λ a. a.count) f.1, ap (λ a. a.count) f.2),
          held (top - 2) h.a f.1 h.recorded.0,
          held (top - 2 + 1) h.b f.2 h.recorded.1,
        )

    pub choice_finds : Next k choice x w top p → (v : Attributes) → Gives k.i k.most [] k.order v
        → (2 < top) × (count_at w (top - 3) + count_at w (top - 3 + 1) + count_at w (top - 3 + 2) ≤ 600)
    choice_finds r v g =
        let h = r.does v g in
        let f = three (memory_of k.i) w top _ h in
        (f.0, omega (arith, h.few, ap (λ a. a.count) f.1, ap (λ a. a.count) f.2, ap (λ a. a.count) f.3))

  -- the remaining entries after an entry
  pub filler_on : {x : ℕ} → Next k filler x w top p → Rest k w top (p + 1)
  filler_on r = record { leaves = r.does }

  module _ {x : ℕ} (w' : List CodedAttributes) where
    pub operand_on : Next k operand x w top p → Left k w top (primary_of (memory_of k.i) (token_in k.i x)) w' → Rest k w' (top + 1) (p + 1)
    operand_on r l = record { leaves = λ v g. rw l.top (r.does v g).1 }

    pub unary_on : (o : Token) → o ≡ token_in k.i (x - UNARY) → Next k unary x w top p → Left k w (top - 1) (unary_from o (at k w (top - 1))) w'
        → Rest k w' top (p + 1)
    unary_on o q r l =
        record {
          leaves = λ v g.
              let h = r.does v g in
              let z = one (memory_of k.i) w top _ h in
              rw (placed top (omega (arith, z.0)) l, q) (rw (z.1, z.2) at h.next);
        }

    pub binary_on : (o : Token) → o ≡ token_in k.i x → Next k binary x w top p
        → Left k w (top - 2) (binary_from o (at k w (top - 2)) (at k w (top - 2 + 1))) w'
        → Rest k w' (top - 1) (p + 1)
    binary_on o q r l =
        record {
          leaves = λ v g.
              let h = r.does v g in
              let z = two (memory_of k.i) w top _ h in
              rw (placed (top - 1) (omega (arith, z.0)) l, q) (rw (z.1, z.2, z.3) at h.next);
        }

    pub choice_on : (o : Token) → o ≡ token_in k.i x → Next k choice x w top p
        → Left k w (top - 3) (choice_from o (at k w (top - 3)) (at k w (top - 3 + 1)) (at k w (top - 3 + 2))) w'
        → Rest k w' (top - 2) (p + 1)
    choice_on o q r l =
        record {
          leaves = λ v g.
              let h = r.does v g in
              let z = three (memory_of k.i) w top _ h in
              rw (placed (top - 2) (omega (arith, z.0)) l, q) (rw (z.1, z.2, z.3, z.4) at h.next);
        }
