-- Refusal 19 by blocks: the lines with the refused line begin no blocks. Assumes nothing.
use Prim.Native.Nat.{ℕ, ◌+◌, ◌≤◌}
use native.Mathlib.Omega.{arith}
use mathlib.Core.Path.{◌≡◌, refl, sym, ◌∙◌}
use mathlib.Core.Bool.{Bool, true, false}
use mathlib.Core.List.{List, [], ◌∷◌, ◌++◌, append_assoc, append-nil}
use lib.ListN.{length}
use Rattle.std.specs.Prelude.{Result}
use Rattle.units.specs.declared.Dialect.{Dialect}
use Rattle.units.specs.Refusals.{unplaced}
use Rattle.units.specs.declared.Fault.{Fault}
use Rattle.units.specs.declared.Reason.TheVariants.{DirectiveStray}
use Rattle.own.specs.Own.{Own, scope}
use Rattle.line.specs.Directives.{directive_of}
use Rattle.line.specs.declared.Directive.{Directive}
use Rattle.line.specs.declared.Directive.TheVariants.{Plain, If, Ifdef, Ifndef, Elseif, Else, Endif, Unknown}
use Rattle.line.specs.declared.Condition.{Condition}
use Rattle.groups.specs.Rules.{plan}
use Rattle.groups.specs.Groups.{Group, State, state, stop}
use Rattle.select.specs.Step.{decided, defines, step}
use Rattle.select.specs.Select.{start}
use Rattle.select.proofs.Steps.{said, decided_step}
use Rattle.blocks.specs.Blocks.{Blocks, opens, Derives, depth}
use Rattle.blocks.specs.Beginnings.{Whole, Begins}
use Rattle.blocks.specs.Passing.{Passes}
use Rattle.blocks.proofs.Passing.{Stray}
use Rattle.blocks.proofs.MayFollow.{Rest}
use Rattle.blocks.proofs.StepByWord.{some_open, defines_plain, define_stops}
use Rattle.blocks.proofs.GroupMoves.{flags, Moves, stay, enter, turn, final, leave, Can, Moving, decided_moves}
use Rattle.blocks.proofs.TextFaults.{never_own}
use Rattle.blocks.proofs.DefineFaults.{define_never_own}
use Rattle.blocks.proofs.NextLine.{ahead}
use Rattle.blocks.proofs.PassedLines.{Walk, walk_back, walk_ahead, walk_append, closers, completed, passes_walk}

-- lines derive blocks exactly if they may follow while no group is open
pub whole_rest : (ls : List (List ℕ)) (bs : Blocks) → Derives ls bs → Rest (depth bs) [] ls
whole_rest ls bs d = record { blocks = bs; more = []; fits = d.words; deep = omega arith; lines = d.lines ∙ sym (append-nil _); next = refl }

pub rest_whole : (most : ℕ) (ls : List (List ℕ)) → Rest most [] ls → Whole ls
rest_whole most ls r = (r.blocks, record { lines = r.lines ∙ rw (r.next, append-nil); words = r.fits })

-- lines that can be passed begin blocks
pub walk_begins : (ls : List (List ℕ)) (gs : List Bool) → Walk [] ls gs → Begins ls
walk_begins ls gs w =
    let most : ℕ = length ls + length gs in
    (closers gs, rest_whole most (ls ++ closers gs) (walk_back most ls [] gs (closers gs) (omega arith) w (completed most gs (omega arith))))

-- a line that changes the groups is one that they and its word let pass
moves_can : {d : Directive} {fs gs : List Bool} → Moves d fs gs → Can d fs
moves_can stay = tt
moves_can (enter {d} {fs} o) = by d o
  where
    by : (d : Directive) → opens d ≡ true → Can d fs
    by Plain o = tt
    by If o = tt
    by Ifdef o = tt
    by Ifndef o = tt
    by Elseif o = absurd cc
    by Else o = absurd cc
    by Endif o = absurd cc
    by Unknown o = tt
moves_can turn = tt
moves_can final = tt
moves_can leave = tt

-- any other line is refused with 19, for any condition
module _ (c : Result Condition Fault) (n k : ℕ) (own : List Own) (R : Type 0) where
  before_else : (d : Directive) (g : Group) (gs : List Group) → (hs : List Bool) → Moves d (false ∷ flags gs) hs
      → (g.flags.last ≡ true → decided d c n (state (g ∷ gs) k own) ≡ stop (unplaced DirectiveStray))
      → ((hs : List Bool) → Moves d (flags (g ∷ gs)) hs → R) → (decided d c n (state (g ∷ gs) k own) ≡ stop (unplaced DirectiveStray) → R) → R
  before_else d g gs hs v s f h = by g.flags.last refl
    where
      by : (b : Bool) → g.flags.last ≡ b → R
      by true e = h (s e)
      by false e = f hs (rw e v)

  pub move_or_stray : (d : Directive) → (d ≡ Unknown → ⊥) → (gs : List Group) → ((hs : List Bool) → Moves d (flags gs) hs → R)
      → (decided d c n (state gs k own) ≡ stop (unplaced DirectiveStray) → R) → R
  unfolding plan
  move_or_stray Plain u gs f g = f (flags gs) stay
  move_or_stray If u gs f g = f (false ∷ flags gs) (enter refl)
  move_or_stray Ifdef u gs f g = f (false ∷ flags gs) (enter refl)
  move_or_stray Ifndef u gs f g = f (false ∷ flags gs) (enter refl)
  move_or_stray Elseif u [] f g = g refl
  move_or_stray Elseif u (x ∷ gs) f g = before_else Elseif x gs (false ∷ flags gs) turn (λ e. rw (some_open x gs, e)) f g
  move_or_stray Else u [] f g = g refl
  move_or_stray Else u (x ∷ gs) f g = before_else Else x gs (true ∷ flags gs) final (λ e. rw (some_open x gs, e)) f g
  move_or_stray Endif u [] f g = g refl
  move_or_stray Endif u (x ∷ gs) f g = f (flags gs) leave
  move_or_stray Unknown u gs f g = absurd (u refl)

module _ (t : List ℕ) (δ : Dialect) (ls : List (List ℕ)) (s : State) (p : Passes t δ 1 start ls s) where
  walked : Walk [] ls (flags s.groups)
  walked = passes_walk t δ ls 1 start s p

  -- a line with which the lines begin blocks changes the groups
  begins_moves : (l : List ℕ) → Begins (ls ++ (l ∷ [])) → (gs : List Bool) × Moves (directive_of l) (flags s.groups) gs
  begins_moves l b =
      let d : Derives (ls ++ (l ∷ b.0)) b.1.0 = rw append_assoc at b.1.1 in
      let a =
      ahead (depth b.1.0) l b.0 (flags s.groups)
      (walk_ahead (depth b.1.0) ls [] (flags s.groups) (l ∷ b.0) walked (whole_rest _ b.1.0 d)) in
      (a.0, a.1)

  pub moves_begins : (l : List ℕ) (gs : List Bool) → Moves (directive_of l) (flags s.groups) gs → Begins (ls ++ (l ∷ []))
  moves_begins l gs m = walk_begins (ls ++ (l ∷ [])) gs (walk_append ls (l ∷ []) [] (flags s.groups) gs walked (gs, m, refl))

  module _ (n : ℕ) (l : List ℕ) (short : length l ≤ 1024) where
    pub not_both : step t n s l δ ≡ stop (unplaced DirectiveStray) → Begins (ls ++ (l ∷ [])) → ⊥
    not_both e b = by (defines s l) refl
      where
        by : (a : Bool) → defines s l ≡ a → ⊥
        by true f = define_never_own s.own t l δ DirectiveStray (omega arith) (omega arith) (define_stops t δ n s l (unplaced DirectiveStray) short f e)
        by false f =
            let m = begins_moves l b in
            let w = decided_moves (directive_of l) (said t δ n s l) n s.count s.own s.groups in
            let g : Moving (said t δ n s l) (directive_of l) n s.groups (stop (unplaced DirectiveStray)) = rw (sym (decided_step t δ n s l short f) ∙ e) at w in
            g (never_own (scope s.own t) δ (directive_of l) l DirectiveStray (omega arith) (omega arith)) (moves_can m.1) refl

    pub refuses : (directive_of l ≡ Unknown → ⊥) → (Begins (ls ++ (l ∷ [])) → ⊥) → step t n s l δ ≡ stop (unplaced DirectiveStray)
    refuses known h = by (defines s l) refl
      where
        by : (a : Bool) → defines s l ≡ a → step t n s l δ ≡ stop (unplaced DirectiveStray)
        by true f = let w : directive_of l ≡ Plain = defines_plain s l f in absurd (h (moves_begins l (flags s.groups) (rw w stay)))
        by false f =
            decided_step t δ n s l short f
            ∙ move_or_stray (said t δ n s l) n s.count s.own _ (directive_of l) known s.groups (λ gs m. absurd (h (moves_begins l gs m))) (λ e. e)

pub stray : Stray
stray t δ ls s p =
    (walk_begins ls (flags s.groups) (walked t δ ls s p), λ n l short known. (not_both t δ ls s p n l short, refuses t δ ls s p n l short known))
