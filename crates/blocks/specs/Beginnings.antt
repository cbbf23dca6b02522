-- Lines that are the beginning of blocks, and the group that is open at their end (document 01, "Refusal numbers", 19 and 21).
use Rattle.std.specs.Prelude.{ℕ, ◌+◌, ◌≡◌, true, List, [], ◌∷◌, ◌++◌, length}
use Rattle.line.specs.Directives.{directive_of}
use Rattle.line.specs.declared.Directive.TheVariants.{Endif}
use Rattle.blocks.specs.Blocks.{Blocks, empty, group, Branches, opens, Derives}

-- these lines derive some blocks
abbrev pub Whole : List (List ℕ) → Type 0
Whole ls = (bs : Blocks) × Derives ls bs

-- these lines with some lines after them derive blocks
abbrev pub Begins : List (List ℕ) → Type 0
Begins ls = (more : List (List ℕ)) × Whole (ls ++ more)

-- line m is the innermost open `!if`: from it on, the lines and any `!endif` after them derive one group
pub record Innermost (ls : List (List ℕ)) (m : ℕ) : Type 0 where
  pub before : List (List ℕ)
  pub opening : List ℕ
  pub since : List (List ℕ)
  pub lines : ls ≡ before ++ (opening ∷ since)
  pub number : m ≡ length before + 1
  pub opens_it : opens (directive_of opening) ≡ true
  pub closes : (e : List ℕ) → directive_of e ≡ Endif
      → (body : Blocks) × (os : Branches) × Derives (opening ∷ (since ++ (e ∷ []))) (group opening body os empty)
