-- The postfix order of an expression: each operator after its operands. The contract between the descent and the loop that evaluates the
-- order; no promise about an expression cites this.
use Rattle.std.specs.Prelude.{ℕ, ◌+◌, ◌≤◌, ◌≡◌, List, [], ◌∷◌, ◌++◌, length, get_or, take, ltb, Result as Returned, Ok, Err}
use Rattle.units.specs.declared.TokenNumber.{TokenNumber}
use Rattle.text.specs.Bytes.{pick}
use Rattle.grammar.specs.Grammar.{expression}
use Rattle.grammar.specs.Fold.{Algebra}
use Rattle.grammar.specs.Parse.{Goal, Result, bad, got, find, Yields, END}

-- the code of token i of n tokens; END after them
abbrev pub code_at : List ℕ → ℕ → ℕ → ℕ
code_at cs n i = pick (ltb i n) (get_or cs i 0) END

-- An entry of the order is the number of a token, plus UNARY for a unary operator. A choice has a second entry, FILLER, which has no
-- effect, so that at most every other entry adds an operand.
abbrev pub UNARY : ℕ
UNARY = 256

abbrev pub FILLER : ℕ
FILLER = 255

-- the entries of each form, from the entries of its operands
abbrev pub postfix : Algebra ℕ (List ℕ)
postfix =
    record {
      leaf = λ i. i ∷ [];
      unary = λ o a. a ++ ((UNARY + o) ∷ []);
      binary = λ o a b. a ++ (b ++ (o ∷ []));
      choice = λ q c a b. c ++ (a ++ (b ++ (q ∷ FILLER ∷ [])));
    }

-- the result of the grammar's parser over the numbers of the tokens
abbrev pub Ordered : (cs : List ℕ) (n : ℕ) → Goal (List ℕ) → Result (List ℕ) → Type 0
Ordered cs n g r = Yields (code_at cs n) postfix (λ i. i) n g r

-- the first m entries of a list are the order of the expression from the first token to token j
pub record OrderTo (cs : List ℕ) (n m j : ℕ) (o : List ℕ) : Type 0 where
  pub made : Ordered cs n (find expression 0) (got (take m o) j)
  pub most : m ≤ 200
  pub long : length o ≡ 200

-- the postcondition of the descent: its result, and the list that it wrote
abbrev pub WritesPostfix : (cs : List ℕ) (n : ℕ) → Returned (ℕ × TokenNumber) TokenNumber → List ℕ → Type 0
WritesPostfix cs n (Err z) o = Ordered cs n (find expression 0) (bad z.0)
WritesPostfix cs n (Ok p) o = OrderTo cs n p.0 p.1.0 o
