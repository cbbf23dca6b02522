-- The marks of an accepted selection, by its states: a line has mark 6 exactly if it is a kept DEFINE line. Assumes nothing.
use Prim.Native.Nat.{ℕ, zero, suc, ◌+◌, ◌-◌, ◌≤◌, ◌<◌}
use native.Mathlib.Omega.{arith}
use native.Mathlib.Nat.{add-zero}
use mathlib.Core.Path.{◌≡◌, refl}
use mathlib.Core.Logic.{◌↔◌}
use mathlib.Core.Bool.{true}
use mathlib.Core.List.{List, [], ◌∷◌}
use lib.ListN.{length, get_or, take}
use Rattle.units.specs.declared.Dialect.{Dialect}
use Rattle.line.specs.Lines.{lines}
use Rattle.groups.specs.Groups.{State, Outcome, go, stop}
use Rattle.select.specs.Step.{defines, step}
use Rattle.select.specs.Select.{Result, accepted, refused, prepend, after, run, start, selection}
use Rattle.select.proofs.LimitsCorrect.{never, accepted_runs}
use Rattle.select.proofs.DefineMark.{define_mark}
use Rattle.blocks.specs.Passing.{Passes, Reaches}

module _ (t : List ℕ) (δ : Dialect) where
  -- the state before line n + i of a run that begins with line n, and the step over it
  pub record Stepped (n : ℕ) (s : State) (ls : List (List ℕ)) (i mark : ℕ) : Type 0 where
    pub state : State
    pub passes : Passes t δ n s (take i ls) state
    pub next : State
    pub steps : step t (n + i) state (get_or ls i []) δ ≡ go mark next

  -- an accepted run steps over every line, with its mark
  accepted_steps : (ls : List (List ℕ)) (n : ℕ) (s : State) (ms : List ℕ) (c : ℕ) → run t n s ls δ ≡ accepted ms c
      → (i : ℕ) → i < length ls → Stepped n s ls i (get_or ms i 0)
  unfolding run
  accepted_steps [] n s ms c e i h = absurd (omega arith)
  accepted_steps (l ∷ ls) n s ms c e i h = by (step t n s l δ) refl e (λ s' ms c. accepted_steps ls (n + 1) s' ms c)
    where
      Rest : Type 0
      Rest = (s' : State) (ms : List ℕ) (c : ℕ) → run t (n + 1) s' ls δ ≡ accepted ms c
          → (i : ℕ) → i < length ls → Stepped (n + 1) s' ls i (get_or ms i 0)

      at : (k : ℕ) (s' : State) → step t n s l δ ≡ go k s' → (ns : List ℕ) → ((i : ℕ) → i < length ls → Stepped (n + 1) s' ls i (get_or ns i 0))
          → (i : ℕ) → i < length (l ∷ ls) → Stepped n s (l ∷ ls) i (get_or (k ∷ ns) i 0)
      at k s' q ns ih zero h = record { state = s; passes = refl; next = s'; steps = rw (add-zero n) q }
      at k s' q ns ih (suc i) h =
          let w = ih i (omega arith) in
          let j : n + suc i ≡ n + 1 + i = omega arith in
          record { state = w.state; passes = (k, s', q, w.passes); next = w.next; steps = rw j w.steps }

      on : (k : ℕ) (s' : State) → step t n s l δ ≡ go k s' → (r : Result) → run t (n + 1) s' ls δ ≡ r → prepend k r ≡ accepted ms c → Rest
          → Stepped n s (l ∷ ls) i (get_or ms i 0)
      on k s' q (refused a b) p e ih = never _ a b ms c e
      on k s' q (accepted ns d) p e ih =
          let z : k ∷ ns ≡ ms = cc in
          rw (← z) (at k s' q ns (ih s' ns d p) i h)

      by : (o : Outcome) → step t n s l δ ≡ o → after o n (λ s'. run t (n + 1) s' ls δ) ≡ accepted ms c → Rest → Stepped n s (l ∷ ls) i (get_or ms i 0)
      by (stop r) q e ih = never _ r n ms c e
      by (go k s') q e ih = on k s' q (run t (n + 1) s' ls δ) refl e ih

pub defines_marked : (f t : List ℕ) (δ : Dialect) (room : ℕ) (ms : List ℕ) (c : ℕ) → selection f t room δ ≡ accepted ms c
    → (n : ℕ) → 1 ≤ n → n ≤ length (lines f)
    → (s : State) × Reaches t (lines f) n s δ × ((defines s (get_or (lines f) (n - 1) []) ≡ true) ↔ (get_or ms (n - 1) 0 ≡ 6))
defines_marked f t δ room ms c e n h k =
    let w = accepted_steps t δ (lines f) 1 start ms c (accepted_runs f t δ room ms c e).0 (n - 1) (omega arith) in
    (w.state, w.passes, define_mark t δ (1 + (n - 1)) w.state (get_or (lines f) (n - 1) []) (get_or ms (n - 1) 0) w.next w.steps)
