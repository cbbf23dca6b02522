-- Where the record under a name comes from, before line b of a run (document 02, order 6): from the last kept DEFINE line before it that has this
-- macro, else from the table. `s'` is the state before line b; lines count from 1.
use Rattle.std.specs.Prelude.{ℕ, ◌-◌, ◌≤◌, ◌<◌, ◌≡◌, true, false, List, [], get_or}
use Rattle.units.specs.declared.Dialect.{Dialect}
use Rattle.lookup.specs.Setting.{record_under}
use Rattle.own.specs.Own.{Own, record_of, scope, has}
use Rattle.define.specs.Define.{macro_of, sets, definition_of}
use Rattle.groups.specs.Groups.{State}
use Rattle.select.specs.Step.{defines}
use Rattle.blocks.specs.Passing.{Reaches, SetsUntil}

-- a kept DEFINE line before line b has the macro n, and no later one before line b has it: n is among the settings, with what this line says
pub record SetBefore (t : List ℕ) (ls : List (List ℕ)) (b : ℕ) (n : List ℕ) (s' : State) (δ : Dialect) : Type 0 where
  pub line : ℕ
  pub state : State
  pub until : SetsUntil t ls line b state s' δ
  pub macro : macro_of (get_or ls (line - 1) []) ≡ n
  pub setting : Own
  pub count : ℕ
  pub says : definition_of state.own t (get_or ls (line - 1) []) δ ≡ sets setting count
  pub among : has n s'.own ≡ true
  pub under : record_under (scope s'.own t) n ≡ record_of setting

-- no kept DEFINE line before line b has the macro n: n is not among the settings, and is as in the table
pub record NotSetBefore (t : List ℕ) (ls : List (List ℕ)) (b : ℕ) (n : List ℕ) (s' : State) (δ : Dialect) : Type 0 where
  pub none : (k : ℕ) (q : State) → 1 ≤ k → k < b → Reaches t ls k q δ
      → defines q (get_or ls (k - 1) []) ≡ true → macro_of (get_or ls (k - 1) []) ≡ n → ⊥
  pub among : has n s'.own ≡ false
  pub under : record_under (scope s'.own t) n ≡ record_under t n
