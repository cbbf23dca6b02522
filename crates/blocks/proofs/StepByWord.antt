-- The step over a directive with a given word, over one that opens a group, and over a kept DEFINE line. Assumes nothing.
use Prim.Native.Nat.{ℕ, ◌+◌, ◌≤◌, ◌<◌}
use native.Mathlib.Omega.{arith}
use mathlib.Core.Path.{◌≡◌, refl, sym, ap, ◌∙◌}
use mathlib.Core.Bool.{Bool, true, false, false≢true}
use mathlib.Core.List.{List, [], ◌∷◌}
use lib.ListN.{length}
use lib.Dec.{eqb}
use borrow.Author.Tests.{lt-leb, ne_eqb}
use Rattle.std.specs.Prelude.{Ok, Err, Result}
use Rattle.units.specs.declared.Dialect.{Dialect}
use Rattle.units.specs.declared.Fault.{Fault}
use Rattle.text.proofs.Laws.{and_left}
use Rattle.own.specs.Own.{Own, scope}
use Rattle.line.specs.Directives.{is_define, directive_of}
use Rattle.line.specs.declared.Directive.{Directive}
use Rattle.line.specs.declared.Directive.TheVariants.{Plain, If, Ifdef, Ifndef}
use Rattle.condition.specs.Conditions.{condition_of}
use Rattle.line.specs.declared.Condition.{Condition}
use Rattle.line.specs.declared.Condition.TheVariants.{Holds, Fails}
use Rattle.line.proofs.DefineLine.{define_plain}
use Rattle.define.specs.Define.{Definition, sets, fails, definition_of}
use Rattle.groups.specs.Rules.{MAX_GROUPS, first_branch, opening, plan, settled, read_if}
use Rattle.groups.specs.Groups.{Group, group, innermost, State, state, Outcome, go, stop}
use Rattle.groups.specs.declared.Flags.{Flags}
use Rattle.groups.specs.declared.Transition.TheVariants.{Push}
use Rattle.select.specs.Step.{planned, decided, defines, defined, step}
use Rattle.select.proofs.Steps.{defined_step, decided_step, other_line}
use Rattle.blocks.specs.Blocks.{opens}

-- the current branch is taken
abbrev pub live : List Group → Bool
live gs = (innermost gs).flags.taken

pub depth_length : (gs : List Group) → (innermost gs).depth ≡ length gs
depth_length [] = refl
depth_length (g ∷ gs) = refl

pub some_open : (g : Group) (gs : List Group) → eqb (length (g ∷ gs)) 0 ≡ false
some_open g gs = ne_eqb (length (g ∷ gs)) 0 (λ e. omega arith)

-- the flags of a group, one by one
abbrev pub flagged : (around earlier taken last : Bool) → Flags
flagged a e b l = record { around = a; earlier = e; taken = b; last = l }

-- a line that opens a group, by whether the branch around its group is taken and by its condition
abbrev pub begun : Bool → Result Condition Fault → (n k : ℕ) → List Group → List Own → Outcome
begun false c n k gs own = go 2 (state (group (first_branch false false) n ∷ gs) (k + 0) own)
begun true (Ok (Holds j)) n k gs own = go 4 (state (group (first_branch true true) n ∷ gs) (k + j) own)
begun true (Ok (Fails j)) n k gs own = go 3 (state (group (first_branch true false) n ∷ gs) (k + j) own)
begun true (Err x) n k gs own = stop x

-- the words that open a group have the same rules
pub opens_alike : (d : Directive) → opens d ≡ true → (R : Directive → Type 0) → R If → R Ifdef → R Ifndef → R d
opens_alike If o R x y z = x
opens_alike Ifdef o R x y z = y
opens_alike Ifndef o R x y z = z
opens_alike _ o R x y z = absurd (false≢true o)

-- the plan of such a word, and what it does if it is read
pub opens_plan : (d : Directive) → opens d ≡ true → (gs : List Group) → plan d (innermost gs) ≡ opening (innermost gs)
unfolding plan
opens_plan d o gs = opens_alike d o (λ d. plan d (innermost gs) ≡ opening (innermost gs)) refl refl refl

pub opens_settled : (d : Directive) → opens d ≡ true → (f : Flags) (b : Bool) → settled d f b ≡ settled If f b
unfolding settled
opens_settled d o f b = opens_alike d o (λ d. settled d f b ≡ settled If f b) refl refl refl

module _ (d : Directive) (o : opens d ≡ true) (n k : ℕ) (gs : List Group) (own : List Own) where
  planned_begun : (b : Bool) (c : Result Condition Fault)
      → planned (read_if b (Push 2 (first_branch false false))) d c n (state gs k own) ≡ begun b c n k gs own
  unfolding settled
  planned_begun false c = refl
  planned_begun true (Ok (Holds j)) = rw (opens_settled d o (innermost gs).flags true)
  planned_begun true (Ok (Fails j)) = rw (opens_settled d o (innermost gs).flags false)
  planned_begun true (Err x) = refl

  decided_begun : (c : Result Condition Fault) → length gs < 16 → decided d c n (state gs k own) ≡ begun (live gs) c n k gs own
  decided_begun c h = rw (opens_plan d o gs, depth_length gs, lt-leb MAX_GROUPS (length gs) h) (planned_begun (live gs) c)

-- a word that opens a group is not that of a plain line
pub opens_other : (d : Directive) → opens d ≡ true → d ≡ Plain → ⊥
opens_other d o e = false≢true (rw e at o)

module _ (t : List ℕ) (δ : Dialect) (n k : ℕ) (gs : List Group) (own : List Own) (l : List ℕ) (short : length l ≤ 1024) where
  -- a step over a given word
  pub step_word : (d : Directive) → (d ≡ Plain → ⊥) → directive_of l ≡ d
      → step t n (state gs k own) l δ ≡ decided d (condition_of (scope own t) d l δ) n (state gs k own)
  step_word d h e =
      let s = state gs k own in
      decided_step t δ n s l short (other_line t δ n s l (λ p. h (sym e ∙ p))) ∙ rw e

  pub opening_step : opens (directive_of l) ≡ true → length gs < 16
      → step t n (state gs k own) l δ ≡ begun (live gs) (condition_of (scope own t) (directive_of l) l δ) n k gs own
  opening_step o h =
      step_word (directive_of l) (opens_other (directive_of l) o) refl
      ∙ decided_begun (directive_of l) o n k gs own (condition_of (scope own t) (directive_of l) l δ) h

-- a kept line with the first word `DEFINE` is plain, and it is refused for what it sets, if it is not too long
pub defines_plain : (s : State) (l : List ℕ) → defines s l ≡ true → directive_of l ≡ Plain
defines_plain s l h = define_plain l (and_left (is_define l) _ h)

defined_stop : (d : Definition) (s : State) (x : Fault) → defined d s ≡ stop x → d ≡ fails x
defined_stop (sets y k) s x e = absurd cc
defined_stop (fails y) s x e = let z : y ≡ x = cc in ap fails z

pub define_stops : (t : List ℕ) (δ : Dialect) (n : ℕ) (s : State) (l : List ℕ) (x : Fault) → length l ≤ 1024 → defines s l ≡ true
    → step t n s l δ ≡ stop x → definition_of s.own t l δ ≡ fails x
define_stops t δ n s l x short h e = defined_stop (definition_of s.own t l δ) s x (sym (defined_step t δ n s l short h) ∙ e)
