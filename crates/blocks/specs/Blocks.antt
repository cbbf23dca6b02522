-- The blocks of a file (document 01, "Lines and directives"): plain lines, and groups from an `!if` to its `!endif`. The blocks that lines
-- derive depend on the words of the lines alone. Meaning.antt defines what blocks mean.
use Rattle.std.specs.Prelude.{ℕ, suc, max, ◌≡◌, Bool, true, false, List, [], ◌∷◌, ◌++◌}
use Rattle.line.specs.Directives.{directive_of}
use Rattle.line.specs.declared.Directive.{Directive}
use Rattle.line.specs.declared.Directive.TheVariants.{Plain, If, Ifdef, Ifndef, Elseif, Else, Endif, Unknown}

-- A list of blocks: plain lines and groups, in their order. A group is its opening line, the body of its first branch, and its other
-- branches: each `!elseif` with its body, then at most one `!else` with its body, then the `!endif`.
mutual
  pub data Blocks : Type 0 where
    empty : Blocks
    line : List ℕ → (after : Blocks) → Blocks
    group : List ℕ → (body : Blocks) → (others : Branches) → (after : Blocks) → Blocks

  pub data Branches : Type 0 where
    endif : List ℕ → Branches
    elseif : List ℕ → (body : Blocks) → (others : Branches) → Branches
    else : List ℕ → (body : Blocks) → (last : List ℕ) → Branches

-- the lines of blocks, from the first to the last
abbrev mutual
  pub lines_of : Blocks → List (List ℕ)
  lines_of empty = []
  lines_of (line l bs) = l ∷ lines_of bs
  lines_of (group l body os bs) = l ∷ (lines_of body ++ (lines_in os ++ lines_of bs))

  pub lines_in : Branches → List (List ℕ)
  lines_in (endif l) = l ∷ []
  lines_in (elseif l body os) = l ∷ (lines_of body ++ lines_in os)
  lines_in (else l body e) = l ∷ (lines_of body ++ (e ∷ []))

-- the words that open a group (document 01, "Refusal numbers": `!if` means `!ifdef` and `!ifndef` too)
abbrev pub opens : Directive → Bool
opens Plain = false
opens If = true
opens Ifdef = true
opens Ifndef = true
opens Elseif = false
opens Else = false
opens Endif = false
opens Unknown = false

-- each line has a word that fits its place in the blocks
abbrev mutual
  pub Fits : Blocks → Type 0
  Fits empty = Unit
  Fits (line l bs) = (directive_of l ≡ Plain) × Fits bs
  Fits (group l body os bs) = (opens (directive_of l) ≡ true) × Fits body × FitsIn os × Fits bs

  pub FitsIn : Branches → Type 0
  FitsIn (endif l) = directive_of l ≡ Endif
  FitsIn (elseif l body os) = (directive_of l ≡ Elseif) × Fits body × FitsIn os
  FitsIn (else l body e) = (directive_of l ≡ Else) × Fits body × (directive_of e ≡ Endif)

-- these lines, all of them in their order, derive these blocks
pub record Derives (ls : List (List ℕ)) (bs : Blocks) : Type 0 where
  pub lines : ls ≡ lines_of bs
  pub words : Fits bs

-- the largest number of groups that are open at once (document 01, refusal 20)
abbrev mutual
  pub depth : Blocks → ℕ
  depth empty = 0
  depth (line l bs) = depth bs
  depth (group l body os bs) = max (suc (max (depth body) (depth_in os))) (depth bs)

  pub depth_in : Branches → ℕ
  depth_in (endif l) = 0
  depth_in (elseif l body os) = max (depth body) (depth_in os)
  depth_in (else l body e) = depth body
