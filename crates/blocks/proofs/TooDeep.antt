-- Refusal 20 by blocks: the lines with the refused line begin only blocks that are more than 16 deep. Assumes nothing.
use Prim.Native.Nat.{ℕ, ◌≤◌, ◌<◌}
use native.Mathlib.Omega.{arith}
use mathlib.Core.Path.{◌≡◌, refl, sym, ap, ◌∙◌}
use mathlib.Core.Bool.{Bool, true, false}
use mathlib.Core.List.{List, [], ◌∷◌, ◌++◌, append-nil}
use lib.ListN.{length}
use lib.Dec.{leb}
use borrow.Author.Tests.{le-leb, leb-true, leb-false}
use Rattle.std.specs.Prelude.{Ok, Err, Result}
use Rattle.units.specs.declared.Dialect.{Dialect}
use Rattle.units.specs.Refusals.{unplaced}
use Rattle.units.specs.declared.Fault.{Fault}
use Rattle.units.specs.declared.Reason.TheVariants.{NestingDeep}
use Rattle.own.specs.Own.{Own, scope}
use Rattle.line.specs.Directives.{directive_of}
use Rattle.line.specs.declared.Directive.{Directive}
use Rattle.line.specs.declared.Condition.{Condition}
use Rattle.line.specs.declared.Condition.TheVariants.{Holds, Fails}
use Rattle.text.specs.Bytes.{pick}
use Rattle.groups.specs.Rules.{MAX_GROUPS, UNREAD, first_branch, settled, read_if}
use Rattle.groups.specs.Groups.{Group, innermost, State, state, Outcome, go, stop, applied}
use Rattle.groups.specs.declared.Transition.TheVariants.{Push}
use Rattle.select.specs.Step.{planned, decided, step}
use Rattle.select.specs.Select.{start}
use Rattle.select.proofs.Steps.{said, decided_step, other_line}
use Rattle.blocks.specs.Blocks.{Blocks, opens, Derives, depth}
use Rattle.blocks.specs.Passing.{Passes}
use Rattle.blocks.proofs.StepByWord.{live, depth_length, opens_plan, opens_settled, opens_other}
use Rattle.blocks.proofs.GroupMoves.{flags, flags_length, enter, moved_back}
use Rattle.blocks.proofs.TextFaults.{never_own}
use Rattle.blocks.proofs.PassedLines.{walk_ahead, closers, completed, passes_walk, passes_back}
use Rattle.blocks.proofs.Stray.{whole_rest}
use Rattle.blocks.proofs.OneInnermost.{along}

-- with 16 groups open a further one is refused with 20; with fewer it is not
abbrev Fuller : Result Condition Fault → List Group → Outcome → Type 0
Fuller c gs (go m s) = Unit
Fuller c gs (stop x) = (c ≡ Err (unplaced NestingDeep) → ⊥) → x ≡ unplaced NestingDeep → 16 ≤ length gs

module _ (d : Directive) (o : opens d ≡ true) (n k : ℕ) (own : List Own) (gs : List Group) where
  pub full : (c : Result Condition Fault) → 16 ≤ length gs → decided d c n (state gs k own) ≡ stop (unplaced NestingDeep)
  full c h = rw (opens_plan d o gs, depth_length gs, le-leb MAX_GROUPS (length gs) h)

  decided_fuller : (c : Result Condition Fault) → Fuller c gs (decided d c n (state gs k own))
  unfolding settled
  decided_fuller c = rw (opens_plan d o gs, depth_length gs) (by (leb MAX_GROUPS (length gs)) refl (live gs) c)
    where
      read : (c : Result Condition Fault) (b : Bool) (j : ℕ) → Fuller c gs (applied (Ok (settled d (innermost gs).flags b)) n j (state gs k own))
      read c b j = rw (opens_settled d o (innermost gs).flags b) tt

      by : (a : Bool) → leb MAX_GROUPS (length gs) ≡ a → (b : Bool) (c : Result Condition Fault)
          → Fuller c gs (planned (pick a (Err (unplaced NestingDeep)) (read_if b (Push UNREAD (first_branch false false)))) d c n
          (state gs k own))
      by true e b c = λ w z. leb-true MAX_GROUPS (length gs) e
      by false e true (Ok (Holds j)) = read (Ok (Holds j)) true j
      by false e true (Ok (Fails j)) = read (Ok (Fails j)) false j
      by false e true (Err x) = λ w z. absurd (w (ap Err z))
      by false e false c = tt

module _ (t : List ℕ) (δ : Dialect) (ls : List (List ℕ)) (s : State) (p : Passes t δ 1 start ls s) (n : ℕ) (l : List ℕ) (short : length l ≤ 1024)
    (o : opens (directive_of l) ≡ true) where
  abbrev c : Result Condition Fault
  c = said t δ n s l

  -- the line is no plain one
  other : step t n s l δ ≡ decided (directive_of l) c n s
  other = decided_step t δ n s l short (other_line t δ n s l (opens_other (directive_of l) o))

  pub deeper : step t n s l δ ≡ stop (unplaced NestingDeep) → (more : List (List ℕ)) (bs : Blocks) → Derives (ls ++ (l ∷ more)) bs → 16 < depth bs
  deeper e more bs d =
      let f = decided_fuller (directive_of l) o n s.count s.own s.groups c in
      let g : Fuller c s.groups (stop (unplaced NestingDeep)) = rw (sym other ∙ e) at f in
      let h = g (never_own (scope s.own t) δ (directive_of l) l NestingDeep (omega arith) (omega arith)) refl in
      let r = walk_ahead (depth bs) ls [] (flags s.groups) (l ∷ more) (passes_walk t δ ls 1 start s p) (whole_rest _ bs d) in
      let q = along (depth bs) l more (directive_of l) (flags s.groups) (false ∷ flags s.groups) refl (enter o) r in
      omega (arith, q.deep, flags_length s.groups)

  pub refused_deep : ((more : List (List ℕ)) (bs : Blocks) → Derives (ls ++ (l ∷ more)) bs → 16 < depth bs) → step t n s l δ ≡ stop (unplaced NestingDeep)
  refused_deep h = other ∙ full (directive_of l) o n s.count s.own s.groups c (by (leb 16 (length s.groups)) refl)
    where
      by : (b : Bool) → leb 16 (length s.groups) ≡ b → 16 ≤ length s.groups
      by true e = leb-true 16 (length s.groups) e
      by false e =
          let k = leb-false 16 (length s.groups) e in
          let a = flags_length s.groups in
          let m = closers (false ∷ flags s.groups) in
          let ended = completed 16 (false ∷ flags s.groups) (omega arith) in
          let entered = moved_back 16 l m (enter {fs = flags s.groups} o) refl (omega arith) (omega arith) ended in
          let r = (passes_back t δ ls 1 start s (l ∷ m) p (omega arith)).1 entered in
          let d : Derives (ls ++ (l ∷ m)) r.blocks = record { lines = r.lines ∙ rw (r.next, append-nil); words = r.fits } in
          absurd (omega (arith, h m r.blocks d, r.deep))
