-- Every refusal of a run over lines, by blocks alone (document 01, "Refusal numbers"): at which line and at which place in it, and for
-- which reason. The refusals before any line (1, 14, 15, 16) are in the definition of `selection`.
use Rattle.std.specs.Prelude.{ℕ, ◌+◌, ◌≤◌, ◌<◌, ◌≡◌, true, List, [], ◌∷◌, ◌++◌, length}
use Rattle.units.specs.declared.Dialect.{Dialect}
use Rattle.units.specs.declared.Fault.{Fault}
use Rattle.units.specs.Refusals.{unplaced}
use Rattle.units.specs.declared.Reason.TheVariants.{DirectiveStray, LineLong, NestingDeep, WordUnknown}
use Rattle.own.specs.Own.{Own}
use Rattle.line.specs.Directives.{directive_of}
use Rattle.line.specs.declared.Directive.TheVariants.{Unknown}
use Rattle.blocks.specs.Blocks.{Blocks, opens, Derives, depth}
use Rattle.blocks.specs.Meaning.{means, fault, meaning, WithinLimit}
use Rattle.blocks.specs.Beginnings.{Whole, Begins, Innermost}

-- none of these lines is refused over a table t: with some lines after them they derive blocks within the limits whose meaning is no fault
pub record Passable (t : List ℕ) (ls : List (List ℕ)) (δ : Dialect) : Type 0 where
  pub more : List (List ℕ)
  pub blocks : Blocks
  pub derives : Derives (ls ++ more) blocks
  pub shallow : depth blocks ≤ 16
  pub short : WithinLimit (ls ++ more)
  pub marks : List ℕ
  pub count : ℕ
  pub own : List Own
  pub meant : meaning t [] true blocks δ ≡ means marks count own

-- the reason why line l is refused after the lines ls, for each number that a line can be refused with, and its place in the line
pub data Refuses (t : List ℕ) (ls : List (List ℕ)) (l : List ℕ) (δ : Dialect) : Fault → Type 0 where
  -- 17: it is over 1,024 bytes
  long : 1024 < length l → Refuses t ls l δ (unplaced LineLong)
  -- 18: its word is unknown
  unknown : length l ≤ 1024 → directive_of l ≡ Unknown → Refuses t ls l δ (unplaced WordUnknown)
  -- 19: the lines with it begin no blocks
  stray : length l ≤ 1024 → (directive_of l ≡ Unknown → ⊥) → (Begins (ls ++ (l ∷ [])) → ⊥) → Refuses t ls l δ (unplaced DirectiveStray)
  -- 20: it opens a group, and all blocks that the lines with it begin are more than 16 deep
  deep : length l ≤ 1024 → opens (directive_of l) ≡ true
      → ((more : List (List ℕ)) (bs : Blocks) → Derives (ls ++ (l ∷ more)) bs → 16 < depth bs)
      → Refuses t ls l δ (unplaced NestingDeep)
  -- any other number: the lines with it begin blocks within the limits, and the meaning of these is this fault at this line
  faulty : {x : Fault} (more : List (List ℕ)) (bs : Blocks) → Derives (ls ++ (l ∷ more)) bs → depth bs ≤ 16 → WithinLimit (ls ++ (l ∷ more))
      → meaning t [] true bs δ ≡ fault x (length ls)
      → Refuses t ls l δ x

-- line n is the first one that is refused, with this number and at this place
pub record RefusedAt (t : List ℕ) (ls : List (List ℕ)) (x : Fault) (n : ℕ) (δ : Dialect) : Type 0 where
  pub before : List (List ℕ)
  pub refusing : List ℕ
  pub rest : List (List ℕ)
  pub lines : ls ≡ before ++ (refusing ∷ rest)
  pub number : n ≡ length before + 1
  pub passable : Passable t before δ
  pub reason : Refuses t before refusing δ x

-- no line is refused, a group is open at the end, and its `!if` is line n
pub record RefusedAtEnd (t : List ℕ) (ls : List (List ℕ)) (n : ℕ) (δ : Dialect) : Type 0 where
  pub passable : Passable t ls δ
  pub unfinished : Whole ls → ⊥
  pub innermost : Innermost ls n
