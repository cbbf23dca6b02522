-- The evaluation of a postfix order, entry by entry, with a stack of the operands that wait for their operator. No promise cites this.
use Rattle.std.specs.Prelude.{ℕ, ◌+◌, ◌-◌, ◌≤◌, ◌<◌, ◌≡◌, List, [], ◌∷◌, length, eqb, leb}
use Rattle.text.specs.Bytes.{pick}
use Rattle.codes.specs.Codes.{QUESTION}
use Rattle.token.specs.Tokens.{Token}
use Rattle.grammar.specs.Grammar.{is_primary}
use Rattle.syntax.specs.Order.{code_at, UNARY, FILLER}
use Rattle.value.specs.Places.{Memory, over_all}
use Rattle.value.specs.Attributes.{Attributes, primary_of, unary_from, binary_from, choice_from}
use Rattle.value.specs.declared.Attributes.{Attributes as CodedAttributes}
use Rattle.value.specs.Denote.{InOneRecord, denote_attributes}
use Rattle.expression.specs.Parsing.{token_at}

-- what an order is evaluated over: an expression, a table with records in front of it, and the first n tokens of the arrays
pub record Input : Type 0 where
  pub expr : List ℕ
  pub own : List ℕ
  pub table : List ℕ
  pub codes : List ℕ
  pub starts : List ℕ
  pub lens : List ℕ
  pub values : List ℕ
  pub n : ℕ

abbrev pub memory_of : Input → Memory
memory_of i = over_all i.expr i.own i.table

abbrev pub code_in : Input → ℕ → ℕ
code_in i x = code_at i.codes i.n x

abbrev pub token_in : Input → ℕ → Token
token_in i x = token_at i.codes i.starts i.lens i.values i.n x

-- the sorts of entries
pub data Entry : Type 0 where
  operand : Entry
  unary : Entry
  binary : Entry
  choice : Entry
  filler : Entry

abbrev pub entry_of : Input → ℕ → Entry
entry_of i x =
    pick (leb UNARY x) unary
    (pick (is_primary (code_in i x)) operand
    (pick (eqb x FILLER) filler
    (pick (eqb (code_in i x) QUESTION) choice binary)))

-- the operands of an operator on top of the stack, and a statement `go` on the stack with its result in their place
pub record OnOne (o : Token) (s : List Attributes) (go : List Attributes → Type 0) : Type 0 where
  pub a : Attributes
  pub rest : List Attributes
  pub shape : s ≡ a ∷ rest
  pub few : a.count ≤ 200
  pub next : go (unary_from o a ∷ rest)

pub record OnTwo (o : Token) (s : List Attributes) (go : List Attributes → Type 0) : Type 0 where
  pub a : Attributes
  pub b : Attributes
  pub rest : List Attributes
  pub shape : s ≡ b ∷ a ∷ rest
  pub few : a.count + b.count ≤ 400
  pub recorded : InOneRecord a.value × InOneRecord b.value
  pub next : go (binary_from o a b ∷ rest)

pub record OnThree (o : Token) (s : List Attributes) (go : List Attributes → Type 0) : Type 0 where
  pub c : Attributes
  pub a : Attributes
  pub b : Attributes
  pub rest : List Attributes
  pub shape : s ≡ b ∷ a ∷ c ∷ rest
  pub few : c.count + a.count + b.count ≤ 600
  pub next : go (choice_from o c a b ∷ rest)

-- with room for `most` operands
module _ (i : Input) (most : ℕ) where
  -- the step of an entry x from the stack s
  abbrev pub Does : Entry → (x : ℕ) (s : List Attributes) → (List Attributes → Type 0) → Type 0
  Does operand x s go = (length s < most) × go (primary_of (memory_of i) (token_in i x) ∷ s)
  Does unary x s go = OnOne (token_in i (x - UNARY)) s go
  Does binary x s go = OnTwo (token_in i x) s go
  Does choice x s go = OnThree (token_in i x) s go
  Does filler x s go = go s

  -- from the stack s, the entries leave only v
  abbrev pub Gives : List Attributes → List ℕ → Attributes → Type 0
  Gives s [] v = s ≡ v ∷ []
  Gives s (x ∷ k) v = Does (entry_of i x) x s (λ u. Gives u k v)

  -- the precondition on the entries of an order
  pub record Foldable (o : List ℕ) : Type 0 where
    pub few : length o ≤ 200
    pub value : Attributes
    pub gives : Gives [] o value

  -- the answer is what they leave
  abbrev pub Folds : (o : List ℕ) → CodedAttributes → Type 0
  Folds o z = (v : Attributes) → Gives [] o v → denote_attributes (memory_of i) z ≡ v
