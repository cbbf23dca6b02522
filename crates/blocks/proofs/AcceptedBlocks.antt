-- The lines of an accepted run derive blocks. The proof goes from the last line back to the first and puts each line before those that may
-- follow it. Assumes nothing.
use Prim.Native.Nat.{ℕ, ◌+◌, ◌≤◌}
use native.Mathlib.Omega.{arith}
use mathlib.Core.Path.{◌≡◌, refl, sym, ◌∙◌}
use mathlib.Core.Bool.{Bool, true, false}
use mathlib.Core.List.{List, [], ◌∷◌}
use lib.ListN.{length}
use Rattle.units.specs.declared.Dialect.{Dialect}
use Rattle.line.specs.Directives.{directive_of}
use Rattle.line.specs.declared.Directive.TheVariants.{Plain}
use Rattle.groups.specs.Groups.{Group, State, Outcome, go, stop}
use Rattle.select.specs.Step.{defines, step}
use Rattle.select.proofs.Steps.{said, decided_step, short_step, Defines, step_defines}
use Rattle.select.specs.Select.{Result, accepted, refused, prepend, at_end, after, run}
use Rattle.select.proofs.LimitsCorrect.{never}
use Rattle.blocks.specs.Meaning.{WithinLimit}
use Rattle.blocks.proofs.StepByWord.{defines_plain}
use Rattle.blocks.proofs.MayFollow.{Rest, nothing_left}
use Rattle.blocks.proofs.GroupMoves.{flags, flags_length, Moved, moved_back, stays, decided_moves}

-- a line that was passed
pub passed : (t : List ℕ) (δ : Dialect) (n : ℕ) (s : State) (l : List ℕ) (m : ℕ) (s' : State) → step t n s l δ ≡ go m s'
    → (length l ≤ 1024) × Moved (directive_of l) n s.groups s'.groups
passed t δ n s l m s' e = (short, by (defines s l) refl)
  where
    short : length l ≤ 1024
    short = short_step t δ n s l (go m s') e (λ q. cc)

    by : (b : Bool) → defines s l ≡ b → Moved (directive_of l) n s.groups s'.groups
    by true f =
        let h : Defines t δ n s l (go m s') = rw e at (step_defines t δ n s l f) in
        let p : directive_of l ≡ Plain = defines_plain s l f in
        let g : s'.groups ≡ s.groups = h.1 in
        rw (p, g) (stays n s.groups)
    by false f =
        rw (sym (decided_step t δ n s l short f) ∙ e) at (decided_moves (directive_of l) (said t δ n s l) n s.count s.own s.groups)

abbrev Follows : (gs : List Group) → List (List ℕ) → Type 0
Follows gs ls = Rest 16 (flags gs) ls × WithinLimit ls

module _ (t : List ℕ) (δ : Dialect) where
  pub accepted_follows : (ls : List (List ℕ)) (n : ℕ) (s : State) (ms : List ℕ) (c : ℕ) → length s.groups ≤ 16 → run t n s ls δ ≡ accepted ms c
      → Follows s.groups ls
  unfolding run
  accepted_follows [] n s ms c h e = by s.groups e
    where
      by : (gs : List Group) → at_end gs s.count ≡ accepted ms c → Follows gs []
      by [] e = (nothing_left 16, tt)
      by (g ∷ gs) e = never _ _ g.line ms c e
  accepted_follows (l ∷ ls) n s ms c h e = by (step t n s l δ) refl e (accepted_follows ls (n + 1))
    where
      on : (m : ℕ) (s' : State) → step t n s l δ ≡ go m s' → (r : Result) → run t (n + 1) s' ls δ ≡ r → prepend m r ≡ accepted ms c
          → ((s' : State) (ms : List ℕ) (c : ℕ) → length s'.groups ≤ 16 → run t (n + 1) s' ls δ ≡ accepted ms c → Follows s'.groups ls)
          → Follows s.groups (l ∷ ls)
      on m s' q (refused x j) p e ih = never _ x j ms c e
      on m s' q (accepted ns d) p e ih =
          let v = passed t δ n s l m s' q in
          let k = v.1.few h in
          let w : Follows s'.groups ls = ih s' ns d k p in
          (moved_back 16 l ls v.1.moves refl (omega (arith, flags_length s.groups)) (omega (arith, flags_length s'.groups)) w.0, (v.0, w.1))

      by : (o : Outcome) → step t n s l δ ≡ o → after o n (λ s'. run t (n + 1) s' ls δ) ≡ accepted ms c
          → ((s' : State) (ms : List ℕ) (c : ℕ) → length s'.groups ≤ 16 → run t (n + 1) s' ls δ ≡ accepted ms c → Follows s'.groups ls)
          → Follows s.groups (l ∷ ls)
      by (stop x) q e ih = never _ x n ms c e
      by (go m s') q e ih = on m s' q (run t (n + 1) s' ls δ) refl e ih
