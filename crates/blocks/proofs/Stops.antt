-- A run is refused at a line after lines that it passed, or at the end of all lines. Assumes nothing.
use Prim.Native.Nat.{ℕ, suc, ◌+◌, ◌-◌}
use native.Mathlib.Omega.{arith}
use native.Mathlib.Nat.{add-zero}
use mathlib.Core.Path.{◌≡◌, refl, sym, ap, ◌∙◌}
use mathlib.Core.Logic.{◌⊎◌, inl, inr}
use mathlib.Core.List.{List, [], ◌∷◌, ◌++◌}
use lib.ListN.{length, take}
use Rattle.units.specs.declared.Dialect.{Dialect}
use Rattle.units.specs.declared.Fault.{Fault}
use Rattle.groups.specs.Groups.{State, Outcome, go, stop}
use Rattle.select.specs.Step.{step}
use Rattle.select.specs.Select.{Result, accepted, refused, prepend, at_end, after, run, start}
use Rattle.select.proofs.LimitsCorrect.{never}
use Rattle.blocks.specs.Passing.{Passes, Reaches}
use Rattle.blocks.proofs.Continuation.{onto}
use Rattle.blocks.proofs.RunMeaning.{run_go}

pub record Stopped (t : List ℕ) (δ : Dialect) (n : ℕ) (s : State) (ls : List (List ℕ)) (x : Fault) (m : ℕ) : Type 0 where
  pub before : List (List ℕ)
  pub at : List ℕ
  pub rest : List (List ℕ)
  pub lines : ls ≡ before ++ (at ∷ rest)
  pub number : m ≡ n + length before
  pub state : State
  pub passes : Passes t δ n s before state
  pub stops : step t m state at δ ≡ stop x

pub record Ended (t : List ℕ) (δ : Dialect) (n : ℕ) (s : State) (ls : List (List ℕ)) (x : Fault) (m : ℕ) : Type 0 where
  pub state : State
  pub passes : Passes t δ n s ls state
  pub unclosed : at_end state.groups state.count ≡ refused x m

module _ (t : List ℕ) (δ : Dialect) where
  -- after one line that was passed
  later : (l : List ℕ) (ls : List (List ℕ)) (n : ℕ) (s : State) (x : Fault) (m k : ℕ) (s' : State) → step t n s l δ ≡ go k s'
      → Stopped t δ (n + 1) s' ls x m ⊎ Ended t δ (n + 1) s' ls x m
      → Stopped t δ n s (l ∷ ls) x m ⊎ Ended t δ n s (l ∷ ls) x m
  later l ls n s x m k s' q (inl w) =
      let v = w.number in
      inl (record {
        before = l ∷ w.before;
        at = w.at;
        rest = w.rest;
        lines = ap (◌∷◌ l) w.lines;
        number = omega arith;
        state = w.state;
        passes = (k, s', q, w.passes);
        stops = w.stops;
      })
  later l ls n s x m k s' q (inr w) = inr (record { state = w.state; passes = (k, s', q, w.passes); unclosed = w.unclosed })

  pub refused_where : (ls : List (List ℕ)) (n : ℕ) (s : State) (x : Fault) (m : ℕ) → run t n s ls δ ≡ refused x m
      → Stopped t δ n s ls x m ⊎ Ended t δ n s ls x m
  unfolding run
  refused_where [] n s x m e = inr (record { state = s; passes = refl; unclosed = e })
  refused_where (l ∷ ls) n s x m e = by (step t n s l δ) refl e (λ s'. refused_where ls (n + 1) s' x m)
    where
      on : (k : ℕ) (s' : State) → step t n s l δ ≡ go k s' → (z : Result) → run t (n + 1) s' ls δ ≡ z → prepend k z ≡ refused x m
          → (run t (n + 1) s' ls δ ≡ refused x m → Stopped t δ (n + 1) s' ls x m ⊎ Ended t δ (n + 1) s' ls x m)
          → Stopped t δ n s (l ∷ ls) x m ⊎ Ended t δ n s (l ∷ ls) x m
      on k s' q (accepted ms c) p e ih = absurd cc
      on k s' q (refused a b) p e ih = later l ls n s x m k s' q (ih (p ∙ e))

      by : (o : Outcome) → step t n s l δ ≡ o → after o n (λ s'. run t (n + 1) s' ls δ) ≡ refused x m
          → ((s' : State) → run t (n + 1) s' ls δ ≡ refused x m → Stopped t δ (n + 1) s' ls x m ⊎ Ended t δ (n + 1) s' ls x m)
          → Stopped t δ n s (l ∷ ls) x m ⊎ Ended t δ n s (l ∷ ls) x m
      by (stop y) q e ih =
          let a : y ≡ x = cc in
          let b : m ≡ n = cc in
          inl (record { before = []; at = l; rest = ls; lines = refl; number = omega (arith, b); state = s; passes = refl; stops = rw b (q ∙ ap stop a) })
      by (go k s') q e ih = on k s' q (run t (n + 1) s' ls δ) refl e (ih s')

  -- an accepted run passes the lines that it begins with
  pub accepted_passes : (ls more : List (List ℕ)) (n : ℕ) (s : State) (ms : List ℕ) (c : ℕ) → run t n s (ls ++ more) δ ≡ accepted ms c
      → (s' : State) × Passes t δ n s ls s'
  unfolding run
  accepted_passes [] more n s ms c e = (s, refl)
  accepted_passes (l ∷ ls) more n s ms c e = by (step t n s l δ) refl e (accepted_passes ls more (n + 1))
    where
      on : (k : ℕ) (s' : State) → step t n s l δ ≡ go k s' → (r : Result) → run t (n + 1) s' (ls ++ more) δ ≡ r → prepend k r ≡ accepted ms c
          → ((s' : State) (ms : List ℕ) (c : ℕ) → run t (n + 1) s' (ls ++ more) δ ≡ accepted ms c → (q : State) × Passes t δ (n + 1) s' ls q)
          → (q : State) × Passes t δ n s (l ∷ ls) q
      on k s' q (refused a b) p e ih = never _ a b ms c e
      on k s' q (accepted ns d) p e ih = let w = ih s' ns d p in (w.0, (k, s', q, w.1))

      by : (o : Outcome) → step t n s l δ ≡ o → after o n (λ s'. run t (n + 1) s' (ls ++ more) δ) ≡ accepted ms c
          → ((s' : State) (ms : List ℕ) (c : ℕ) → run t (n + 1) s' (ls ++ more) δ ≡ accepted ms c → (q : State) × Passes t δ (n + 1) s' ls q)
          → (q : State) × Passes t δ n s (l ∷ ls) q
      by (stop r) q e ih = never _ r n ms c e
      by (go k s') q e ih = on k s' q (run t (n + 1) s' (ls ++ more) δ) refl e ih

  -- a run over lines that are passed continues with the others
  pub passes_on : (ls : List (List ℕ)) (n : ℕ) (s s' : State) (rest : List (List ℕ)) → Passes t δ n s ls s'
      → (ms : List ℕ) × (run t n s (ls ++ rest) δ ≡ onto ms (run t (n + length ls) s' rest δ))
  passes_on [] n s s' rest e = ([], rw (e, add-zero n))
  passes_on (l ∷ ls) n s s' rest p =
      let r = passes_on ls (n + 1) p.1 s' rest p.3 in
      let q : n + suc (length ls) ≡ n + 1 + length ls = omega arith in
      (p.0 ∷ r.0, run_go t δ n s l (ls ++ rest) p.0 p.1 p.2 ∙ rw (r.1, q))

  pub passes_append : (ls ms : List (List ℕ)) (n : ℕ) (s s' s'' : State) → Passes t δ n s ls s' → Passes t δ (n + length ls) s' ms s''
      → Passes t δ n s (ls ++ ms) s''
  passes_append [] ms n s s' s'' e q = rw e (rw add-zero at q)
  passes_append (l ∷ ls) ms n s s' s'' p q =
      let z : n + suc (length ls) ≡ n + 1 + length ls = omega arith in
      (p.0, p.1, p.2, passes_append ls ms (n + 1) p.1 s' s'' p.3 (rw z at q))

  -- the state between some of the lines and the others
  pub passes_split : (ls ms : List (List ℕ)) (n : ℕ) (s s'' : State) → Passes t δ n s (ls ++ ms) s''
      → (s' : State) × Passes t δ n s ls s' × Passes t δ (n + length ls) s' ms s''
  passes_split [] ms n s s'' p = (s, refl, rw add-zero p)
  passes_split (l ∷ ls) ms n s s'' p =
      let w = passes_split ls ms (n + 1) p.1 s'' p.3 in
      let z : n + suc (length ls) ≡ n + 1 + length ls = omega arith in
      (w.0, (p.0, p.1, p.2, w.1), rw z w.2)

  -- lines lead from a state to one state only, so that there is one state before a line
  pub passes_one : (ls : List (List ℕ)) (n : ℕ) (s s' s'' : State) → Passes t δ n s ls s' → Passes t δ n s ls s'' → s' ≡ s''
  passes_one [] n s s' s'' p q = sym p ∙ q
  passes_one (l ∷ ls) n s s' s'' p q =
      let e : p.1 ≡ q.1 = cc (p.2, q.2) in
      passes_one ls (n + 1) p.1 s' s'' p.3 (rw e q.3)

  pub reaches_one : (ls : List (List ℕ)) (n : ℕ) (s s' : State) → Reaches t ls n s δ → Reaches t ls n s' δ → s ≡ s'
  reaches_one ls n s s' = passes_one (take (n - 1) ls) 1 start s s'
