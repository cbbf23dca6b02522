-- An accepted selection has a mark for each line. Assumes nothing.
use Prim.Native.Nat.{ℕ, suc, ◌+◌}
use mathlib.Core.Path.{◌≡◌, refl, ap}
use mathlib.Core.List.{List, [], ◌∷◌}
use lib.ListN.{length}
use Rattle.units.specs.declared.Dialect.{Dialect}
use Rattle.line.specs.Lines.{lines}
use Rattle.groups.specs.Groups.{Group, State, Outcome, go, stop}
use Rattle.select.specs.Step.{step}
use Rattle.select.specs.Select.{Result, accepted, refused, prepend, at_end, after, run, start, selection}
use Rattle.select.proofs.LimitsCorrect.{accepted_runs}

-- a result has n marks, if it is accepted
abbrev Many : ℕ → Result → Type 0
Many n (accepted ms c) = length ms ≡ n
Many n (refused x l) = Unit

many_end : (gs : List Group) (c : ℕ) → Many 0 (at_end gs c)
many_end [] c = refl
many_end (g ∷ gs) c = tt

many_more : (m n : ℕ) (r : Result) → Many n r → Many (suc n) (prepend m r)
many_more m n (accepted ms c) h = ap suc h
many_more m n (refused x l) h = tt

many_after : (o : Outcome) (n k : ℕ) (rest : State → Result) → ((s : State) → Many k (rest s)) → Many (suc k) (after o n rest)
many_after (go m s) n k rest h = many_more m k (rest s) (h s)
many_after (stop r) n k rest h = tt

many : (t : List ℕ) (δ : Dialect) (n : ℕ) (s : State) (ls : List (List ℕ)) → Many (length ls) (run t n s ls δ)
unfolding run
many t δ n s [] = many_end s.groups s.count
many t δ n s (l ∷ ls) = many_after (step t n s l δ) n (length ls) (λ s'. run t (n + 1) s' ls δ) (λ s'. many t δ (n + 1) s' ls)

pub marks_each_line : (f t : List ℕ) (δ : Dialect) (room : ℕ) (ms : List ℕ) (c : ℕ) → selection f t room δ ≡ accepted ms c → length ms ≡ length (lines f)
marks_each_line f t δ room ms c h = rw (accepted_runs f t δ room ms c h).0 at (many t δ 1 start (lines f))
