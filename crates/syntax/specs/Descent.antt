-- The contracts of the functions of the descent. No promise about an expression cites this.
use Rattle.std.specs.Prelude.{ℕ, zero, suc, ◌+◌, ◌-◌, ◌≤◌, ◌<◌, ◌≡◌, true, Result, Ok, Err, List, [], ◌∷◌, ◌++◌, length, take}
use Rattle.units.specs.declared.TokenNumber.{TokenNumber}
use Rattle.codes.specs.Levels.{is_unary}
use Rattle.grammar.specs.Parse.{Goal, bad, got}
use Rattle.syntax.specs.Order.{code_at, UNARY, Ordered}

-- the precondition of a function that starts at token i with m entries written: there are at most as many entries as tokens before i
pub record Fit (n i m : ℕ) (o : List ℕ) : Type 0 where
  pub few : n ≤ 200
  pub within : i ≤ n
  pub room : m ≤ i
  pub long : length o ≡ 200

-- a part of the expression from token i to token r was found, and its entries were appended to the m entries before
pub record Appended (cs : List ℕ) (n : ℕ) (g : Goal (List ℕ)) (i m : ℕ) (o : List ℕ) (r m' : ℕ) (o' : List ℕ) : Type 0 where
  pub entries : List ℕ
  pub made : Ordered cs n g (got entries r)
  pub held : take m' o' ≡ take m o ++ entries
  pub most : m' + i ≤ m + r
  pub long : length o' ≡ 200

-- the postcondition: a fault, or a part that was found
abbrev pub Appends : (cs : List ℕ) (n : ℕ) (g : Goal (List ℕ)) (i m : ℕ) (o : List ℕ) → Result TokenNumber TokenNumber → (m' : ℕ) (o' : List ℕ) → Type 0
Appends cs n g i m o (Err z) m' o' = Ordered cs n g (bad z.0)
Appends cs n g i m o (Ok r) m' o' = Appended cs n g i m o r.0 m' o'

-- the tokens from i to j, of n, are unary operators
pub record Run (cs : List ℕ) (n i j : ℕ) : Type 0 where
  pub from : i ≤ j
  pub to : j ≤ n
  pub each : (x : ℕ) → i ≤ x → x < j → is_unary (code_at cs n x) ≡ true

-- the entries of m unary operators from token i on, the last one first
unfoldable pub back : (m i : ℕ) → List ℕ
back zero i = []
back (suc m) i = back m (suc i) ++ ((UNARY + i) ∷ [])

-- the postcondition of appending the entries of the unary operators from token i to token j
pub record AppendsRun (i j m : ℕ) (o : List ℕ) (m' : ℕ) (o' : List ℕ) : Type 0 where
  pub held : take m' o' ≡ take m o ++ back (j - i) i
  pub most : m' ≡ m + (j - i)
  pub long : length o' ≡ 200
