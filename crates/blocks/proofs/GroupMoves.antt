-- How a line that a run passes changes the open groups, for any condition. Assumes nothing.
use Prim.Native.Nat.{ℕ, suc, ◌≤◌}
use native.Mathlib.Omega.{arith}
use mathlib.Core.Path.{◌≡◌, refl, sym, ap, ◌∙◌}
use mathlib.Core.Bool.{Bool, true, false, not, ◌&&◌, false≢true}
use mathlib.Core.List.{List, [], ◌∷◌}
use lib.ListN.{length, drop}
use lib.Dec.{leb}
use borrow.Author.Tests.{leb-false}
use Rattle.std.specs.Prelude.{Ok, Err, Result}
use Rattle.units.specs.Refusals.{unplaced}
use Rattle.units.specs.declared.Fault.{Fault}
use Rattle.units.specs.declared.Reason.TheVariants.{DirectiveStray, NestingDeep}
use Rattle.text.specs.Bytes.{pick}
use Rattle.own.specs.Own.{Own}
use Rattle.line.specs.Directives.{directive_of}
use Rattle.line.specs.declared.Directive.{Directive}
use Rattle.line.specs.declared.Directive.TheVariants.{Plain, If, Ifdef, Ifndef, Elseif, Else, Endif, Unknown}
use Rattle.line.specs.declared.Condition.{Condition}
use Rattle.line.specs.declared.Condition.TheVariants.{Holds, Fails}
use Rattle.groups.specs.Rules.{MAX_GROUPS, UNREAD, first_branch, was_taken, next_branch, plan, settled, read_if}
use Rattle.groups.specs.Groups.{Group, group, innermost, State, state, Outcome, go, stop, applied}
use Rattle.groups.specs.declared.Flags.{Flags}
use Rattle.groups.specs.declared.Transition.TheVariants.{Push, Replace, Pop}
use Rattle.select.specs.Step.{planned, decided}
use Rattle.blocks.specs.Blocks.{opens}
use Rattle.blocks.proofs.Reasons.{same_reason}
use Rattle.blocks.proofs.StepByWord.{depth_length, some_open, live, opens_plan, opens_settled}
use Rattle.blocks.proofs.MayFollow.{Front, Others, After, None, Rest, before_plain, before_opening, before_elseif, before_else, before_endif}

-- for each open group, whether its `!else` was seen
abbrev pub flags : List Group → List Bool
flags [] = []
flags (g ∷ gs) = g.flags.last ∷ flags gs

pub flags_length : (gs : List Group) → length (flags gs) ≡ length gs
flags_length [] = refl
flags_length (g ∷ gs) = ap suc (flags_length gs)

-- for each open group, the line of its `!if`
abbrev pub starts : List Group → List ℕ
starts [] = []
starts (g ∷ gs) = g.line ∷ starts gs

-- the open groups before a line and after it
pub data Moves : Directive → List Bool → List Bool → Type 0 where
  stay : {fs : List Bool} → Moves Plain fs fs
  enter : {d : Directive} {fs : List Bool} → opens d ≡ true → Moves d fs (false ∷ fs)
  turn : {fs : List Bool} → Moves Elseif (false ∷ fs) (false ∷ fs)
  final : {fs : List Bool} → Moves Else (false ∷ fs) (true ∷ fs)
  leave : {b : Bool} {fs : List Bool} → Moves Endif (b ∷ fs) fs

-- the lines of their `!if` before and after line n
abbrev pub started : Directive → (n : ℕ) → List ℕ → List ℕ
started Plain n ns = ns
started If n ns = n ∷ ns
started Ifdef n ns = n ∷ ns
started Ifndef n ns = n ∷ ns
started Elseif n ns = ns
started Else n ns = ns
started Endif n ns = drop 1 ns
started Unknown n ns = ns

pub started_opens : (d : Directive) (n : ℕ) (ns : List ℕ) → opens d ≡ true → started d n ns ≡ n ∷ ns
started_opens If n ns o = refl
started_opens Ifdef n ns o = refl
started_opens Ifndef n ns o = refl
started_opens _ n ns o = absurd (false≢true o)

-- if lines may follow after a line inside a group, then that line and these may follow before it
abbrev pub Some : List Bool → Type 0
Some [] = ⊥
Some (b ∷ fs) = Unit

pub moved_in : (most : ℕ) (End : List (List ℕ) → Type 0) {d : Directive} {fs gs : List Bool} (l : List ℕ) (ls : List (List ℕ)) → Moves d fs gs
    → directive_of l ≡ d
    → Some fs → length fs ≤ most → length gs ≤ most → After most End gs ls → After most End fs (l ∷ ls)
moved_in most End l ls (stay {fs = []}) e i h k r = absurd i
moved_in most End l ls (stay {fs = b ∷ fs}) e i h k r = before_plain most (suc (length fs)) l ls (Others most (length fs) b (After most End fs)) e r
moved_in most End l ls (enter {fs = []} o) e i h k r = absurd i
moved_in most End l ls (enter {fs = b ∷ fs} o) e i h k r =
    before_opening most (suc (length fs)) l ls (Others most (length fs) b (After most End fs)) (ap opens e ∙ o) k r
moved_in most End l ls (turn {fs}) e i h k r = before_elseif most (length fs) l ls (After most End fs) e r
moved_in most End l ls (final {fs}) e i h k r = before_else most (length fs) l ls (After most End fs) e r
moved_in most End l ls (leave {b} {fs}) e i h k r = before_endif most (length fs) l ls (After most End fs) b e h r

-- the same for a line outside all groups
pub moved_back : (most : ℕ) {d : Directive} {fs gs : List Bool} (l : List ℕ) (ls : List (List ℕ)) → Moves d fs gs → directive_of l ≡ d
    → length fs ≤ most → length gs ≤ most → Rest most gs ls → Rest most fs (l ∷ ls)
moved_back most l ls (stay {fs = []}) e h k r = before_plain most 0 l ls None e r
moved_back most l ls (stay {fs = b ∷ fs}) e h k r = moved_in most (Front most 0 None) l ls (stay {fs = b ∷ fs}) e tt h k r
moved_back most l ls (enter {fs = []} o) e h k r = before_opening most 0 l ls None (ap opens e ∙ o) k r
moved_back most l ls (enter {fs = b ∷ fs} o) e h k r = moved_in most (Front most 0 None) l ls (enter {fs = b ∷ fs} o) e tt h k r
moved_back most l ls (turn {fs}) e h k r = moved_in most (Front most 0 None) l ls (turn {fs = fs}) e tt h k r
moved_back most l ls (final {fs}) e h k r = moved_in most (Front most 0 None) l ls (final {fs = fs}) e tt h k r
moved_back most l ls (leave {b} {fs}) e h k r = moved_in most (Front most 0 None) l ls (leave {b = b} {fs = fs}) e tt h k r

-- the open groups before line n and after it
pub record Moved (d : Directive) (n : ℕ) (gs hs : List Group) : Type 0 where
  pub moves : Moves d (flags gs) (flags hs)
  pub at : starts hs ≡ started d n (starts gs)
  pub few : length gs ≤ 16 → length hs ≤ 16

-- a plain line does not change them
pub stays : (n : ℕ) (gs : List Group) → Moved Plain n gs gs
stays n gs = record { moves = stay; at = refl; few = λ h. h }

-- the open groups and the word let a line pass
abbrev pub Can : Directive → List Bool → Type 0
Can Plain fs = Unit
Can If fs = Unit
Can Ifdef fs = Unit
Can Ifndef fs = Unit
Can Elseif [] = ⊥
Can Elseif (true ∷ fs) = ⊥
Can Elseif (false ∷ fs) = Unit
Can Else [] = ⊥
Can Else (true ∷ fs) = ⊥
Can Else (false ∷ fs) = Unit
Can Endif [] = ⊥
Can Endif (b ∷ fs) = Unit
Can Unknown fs = Unit

-- an outcome that is no refusal changes the groups so; a refusal is not 19 if the groups and the word let the line pass and the condition
-- is not refused with 19
abbrev pub Moving : Result Condition Fault → Directive → ℕ → List Group → Outcome → Type 0
Moving c d n gs (go m s) = Moved d n gs s.groups
Moving c d n gs (stop x) = (c ≡ Err (unplaced DirectiveStray) → ⊥) → Can d (flags gs) → x ≡ unplaced DirectiveStray → ⊥

-- a line that opens a group
module _ (d : Directive) (o : opens d ≡ true) (n k : ℕ) (own : List Own) (gs : List Group) where
  enters : (f : Flags) → f.last ≡ false → leb MAX_GROUPS (length gs) ≡ false → Moved d n gs (group f n ∷ gs)
  enters f e h = record { moves = rw e (enter o); at = sym (started_opens d n (starts gs) o); few = λ _. leb-false MAX_GROUPS (length gs) h }

  pub opening_moves : (c : Result Condition Fault) → Moving c d n gs (decided d c n (state gs k own))
  unfolding settled
  opening_moves c = rw (opens_plan d o gs, depth_length gs) (by (leb MAX_GROUPS (length gs)) refl (live gs) c)
    where
      read : (c : Result Condition Fault) (b : Bool) (j : ℕ) → leb MAX_GROUPS (length gs) ≡ false
          → Moving c d n gs (applied (Ok (settled d (innermost gs).flags b)) n j (state gs k own))
      read c b j e = rw (opens_settled d o (innermost gs).flags b) (enters (first_branch true b) refl e)

      by : (a : Bool) → leb MAX_GROUPS (length gs) ≡ a → (b : Bool) (c : Result Condition Fault)
          → Moving c d n gs
          (planned (pick a (Err (unplaced NestingDeep)) (read_if b (Push UNREAD (first_branch false false)))) d c n (state gs k own))
      by true e b c = λ w a z. let k = same_reason z in cc
      by false e true (Ok (Holds j)) = read (Ok (Holds j)) true j e
      by false e true (Ok (Fails j)) = read (Ok (Fails j)) false j e
      by false e true (Err x) = λ w a z. w (ap Err z)
      by false e false c = enters (first_branch false false) refl e

-- a line inside the group with these flags, or outside all groups
module _ (n k : ℕ) (own : List Own) (gs : List Group) (f : Flags) (m : ℕ) where
  abbrev around : State
  around = state (group f m ∷ gs) k own

  turns : (taken : Bool) → f.last ≡ false → Moved Elseif n (group f m ∷ gs) (group (next_branch f taken false) m ∷ gs)
  turns taken e = record { moves = rw e turn; at = refl; few = λ h. h }

  elseif_moves : (c : Result Condition Fault) → Moving c Elseif n (group f m ∷ gs) (decided Elseif c n around)
  unfolding plan settled
  elseif_moves c = rw (some_open (group f m) gs) (by f.last refl (f.around && not (was_taken f)) c)
    where
      by : (l : Bool) → f.last ≡ l → (r : Bool) (c : Result Condition Fault)
          → Moving c Elseif n (group f m ∷ gs)
          (planned (pick l (Err (unplaced DirectiveStray)) (read_if r (Replace UNREAD (next_branch f false false)))) Elseif c n around)
      by true e r c = λ w a z. let x : Can Elseif (true ∷ flags gs) = rw e at a in x
      by false e true (Ok (Holds j)) = turns true e
      by false e true (Ok (Fails j)) = turns false e
      by false e true (Err x) = λ w a z. w (ap Err z)
      by false e false c = turns false e

  ends : (taken : Bool) → f.last ≡ false → Moved Else n (group f m ∷ gs) (group (next_branch f taken true) m ∷ gs)
  ends taken e = record { moves = rw e final; at = refl; few = λ h. h }

  else_moves : (c : Result Condition Fault) → Moving c Else n (group f m ∷ gs) (decided Else c n around)
  unfolding plan settled
  else_moves c = rw (some_open (group f m) gs) (by f.last refl f.around c)
    where
      by : (l : Bool) → f.last ≡ l → (r : Bool) (c : Result Condition Fault)
          → Moving c Else n (group f m ∷ gs)
          (planned (pick l (Err (unplaced DirectiveStray)) (read_if r (Replace UNREAD (next_branch f false true)))) Else c n around)
      by true e r c = λ w a z. let x : Can Else (true ∷ flags gs) = rw e at a in x
      by false e true (Ok (Holds j)) = ends (not (was_taken f)) e
      by false e true (Ok (Fails j)) = ends (not (was_taken f)) e
      by false e true (Err x) = λ w a z. w (ap Err z)
      by false e false c = ends false e

  endif_moves : (c : Result Condition Fault) → Moving c Endif n (group f m ∷ gs) (decided Endif c n around)
  unfolding plan settled
  endif_moves c = rw (some_open (group f m) gs) (by f.around c)
    where
      leaves : Moved Endif n (group f m ∷ gs) gs
      leaves = record { moves = leave; at = refl; few = λ h. omega arith }

      by : (r : Bool) (c : Result Condition Fault) → Moving c Endif n (group f m ∷ gs) (planned (read_if r (Pop UNREAD)) Endif c n around)
      by true (Ok (Holds j)) = leaves
      by true (Ok (Fails j)) = leaves
      by true (Err x) = λ w a z. w (ap Err z)
      by false c = leaves

pub decided_moves : (d : Directive) (c : Result Condition Fault) (n k : ℕ) (own : List Own) (gs : List Group) → Moving c d n gs (decided d c n (state gs k own))
unfolding plan
decided_moves Plain c n k own gs = stays n gs
decided_moves If c n k own gs = opening_moves If refl n k own gs c
decided_moves Ifdef c n k own gs = opening_moves Ifdef refl n k own gs c
decided_moves Ifndef c n k own gs = opening_moves Ifndef refl n k own gs c
decided_moves Elseif c n k own [] = λ w a z. a
decided_moves Elseif c n k own (g ∷ gs) = elseif_moves n k own gs g.flags g.line c
decided_moves Else c n k own [] = λ w a z. a
decided_moves Else c n k own (g ∷ gs) = else_moves n k own gs g.flags g.line c
decided_moves Endif c n k own [] = λ w a z. a
decided_moves Endif c n k own (g ∷ gs) = endif_moves n k own gs g.flags g.line c
decided_moves Unknown c n k own gs = λ w a z. let k = same_reason z in cc
