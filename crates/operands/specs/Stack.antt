-- The stack of operands that wait for their operator. Contracts between layers cite this; no promise does.
use Rattle.std.specs.Prelude.{ℕ, zero, suc, ◌+◌, ◌≡◌, List, [], ◌∷◌, length, get_or, Ok}
use Rattle.lookup.specs.declared.Value.TheVariants.{Number}
use Rattle.value.specs.Places.{Memory}
use Rattle.value.specs.Values.{RecordedResult}
use Rattle.value.specs.declared.Kind.TheVariants.{Number as NumberKind}
use Rattle.value.specs.Attributes.{Attributes}
use Rattle.value.specs.Denote.{denote_attributes}
use Rattle.value.specs.declared.Attributes.{Attributes as CodedAttributes}

-- what fills room that no operand has taken yet
abbrev pub NOTHING : CodedAttributes
NOTHING = record { kind = NumberKind; value = Ok (Number 0); count = 0 }

-- an operand of the stack w, over a memory m, and its count of operators
abbrev pub operand_at : Memory → List CodedAttributes → ℕ → Attributes
operand_at m w i = denote_attributes m (get_or w i NOTHING)

abbrev pub count_at : List CodedAttributes → ℕ → ℕ
count_at w i = (get_or w i NOTHING).count

-- the place of its string, if it is one of a table, is within one record
abbrev pub RecordedAt : List CodedAttributes → ℕ → Type 0
RecordedAt w i = RecordedResult (get_or w i NOTHING).value

-- the first h operands, the latest first
unfoldable pub piled : Memory → List CodedAttributes → ℕ → List Attributes
piled m w zero = []
piled m w (suc h) = operand_at m w h ∷ piled m w h

-- w' holds the operands of w up to `at`, and then `a`
pub record Leaves (m : Memory) (w : List CodedAttributes) (at : ℕ) (a : Attributes) (w' : List CodedAttributes) : Type 0 where
  pub long : length w' ≡ length w
  pub top : piled m w' (at + 1) ≡ a ∷ piled m w at
