-- The state of a run before a line. The settings that lines made are a part of it.
use Rattle.std.specs.Prelude.{ℕ, ◌+◌, ◌-◌, ◌≤◌, ◌<◌, ◌≡◌, true, List, [], ◌∷◌, length, get_or, take}
use Rattle.units.specs.declared.Dialect.{Dialect}
use Rattle.define.specs.Define.{macro_of}
use Rattle.groups.specs.Groups.{State, go}
use Rattle.select.specs.Step.{defines, step}
use Rattle.select.specs.Select.{start}

-- a run refuses none of these lines, which start at line n, and goes from one state to another
abbrev pub Passes : (t : List ℕ) (δ : Dialect) → (n : ℕ) → State → List (List ℕ) → State → Type 0
Passes t δ n s [] s' = s ≡ s'
Passes t δ n s (l ∷ ls) s' = (m : ℕ) × (q : State) × (step t n s l δ ≡ go m q) × Passes t δ (n + 1) q ls s'

-- the state before line n of these lines, none of which before it is refused; lines count from 1
abbrev pub Reaches : (t : List ℕ) → List (List ℕ) → (n : ℕ) → State → Dialect → Type 0
Reaches t ls n s δ = Passes t δ 1 start (take (n - 1) ls) s

-- Line a is a kept DEFINE line, line b comes after it, or is the end of these lines, and no kept DEFINE line between them has the same macro;
-- s and s' are the states before the two.
pub record SetsUntil (t : List ℕ) (ls : List (List ℕ)) (a b : ℕ) (s s' : State) (δ : Dialect) : Type 0 where
  pub counted : 1 ≤ a
  pub later : a < b
  pub within : b ≤ length ls + 1
  pub before : Reaches t ls a s δ
  pub after : Reaches t ls b s' δ
  pub kept : defines s (get_or ls (a - 1) []) ≡ true
  pub last : (k : ℕ) (q : State) → a < k → k < b → Reaches t ls k q δ
      → defines q (get_or ls (k - 1) []) ≡ true → macro_of (get_or ls (k - 1) []) ≡ macro_of (get_or ls (a - 1) []) → ⊥
