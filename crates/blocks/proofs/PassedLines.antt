-- Lines that a run passes, by the open groups alone: some lines may follow after them exactly if these lines and then those may follow
-- before them. Assumes nothing.
use Prim.Native.Nat.{ℕ, suc, ◌+◌, ◌≤◌}
use native.Mathlib.Omega.{arith}
use mathlib.Core.Path.{◌≡◌, refl, sym, ap}
use mathlib.Core.Bool.{Bool, false≢true}
use mathlib.Core.List.{List, [], ◌∷◌, ◌++◌}
use lib.ListN.{length}
use Rattle.units.specs.declared.Dialect.{Dialect}
use Rattle.text.specs.Bytes.{bytes, class_of}
use Rattle.text.specs.Runs.{span}
use Rattle.text.specs.Order.{compared}
use Rattle.line.specs.Directives.{named, word_start, directive_of}
use Rattle.line.specs.declared.Directive.{Directive}
use Rattle.line.specs.declared.Directive.TheVariants.{Endif}
use Rattle.groups.specs.Groups.{State}
use Rattle.blocks.specs.Passing.{Passes}
use Rattle.blocks.proofs.MayFollow.{Rest, nothing_left, before_endif}
use Rattle.blocks.proofs.GroupMoves.{flags, flags_length, Moved, Moves, stay, enter, turn, final, leave, moved_back}
use Rattle.blocks.proofs.AcceptedBlocks.{passed}
use Rattle.blocks.proofs.NextLine.{ahead}

abbrev pub Walk : List Bool → List (List ℕ) → List Bool → Type 0
Walk fs [] gs = fs ≡ gs
Walk fs (l ∷ ls) gs = (hs : List Bool) × Moves (directive_of l) fs hs × Walk hs ls gs

-- a line opens one group at most
pub moves_grow : {d : Directive} {fs gs : List Bool} → Moves d fs gs → length gs ≤ suc (length fs)
moves_grow stay = omega arith
moves_grow (enter o) = omega arith
moves_grow turn = omega arith
moves_grow final = omega arith
moves_grow leave = omega arith

-- the groups before a line and its word decide those after it
pub moves_same : {d : Directive} {fs gs hs : List Bool} → Moves d fs gs → Moves d fs hs → gs ≡ hs
moves_same stay stay = refl
moves_same stay (enter o) = absurd (false≢true o)
moves_same (enter o) stay = absurd (false≢true o)
moves_same (enter o) (enter p) = refl
moves_same (enter o) turn = absurd (false≢true o)
moves_same (enter o) final = absurd (false≢true o)
moves_same (enter o) leave = absurd (false≢true o)
moves_same turn (enter o) = absurd (false≢true o)
moves_same turn turn = refl
moves_same final (enter o) = absurd (false≢true o)
moves_same final final = refl
moves_same leave (enter o) = absurd (false≢true o)
moves_same leave leave = refl

pub walk_back : (most : ℕ) (ls : List (List ℕ)) (fs gs : List Bool) (more : List (List ℕ)) → length fs + length ls ≤ most → Walk fs ls gs
    → Rest most gs more → Rest most fs (ls ++ more)
walk_back most [] fs gs more h e r = rw e r
walk_back most (l ∷ ls) fs gs more h w r =
    let k = moves_grow w.1 in
    moved_back most l (ls ++ more) w.1 refl (omega arith) (omega arith) (walk_back most ls w.0 gs more (omega arith) w.2 r)

pub walk_ahead : (most : ℕ) (ls : List (List ℕ)) (fs gs : List Bool) (more : List (List ℕ)) → Walk fs ls gs → Rest most fs (ls ++ more) → Rest most gs more
walk_ahead most [] fs gs more e r = rw (sym e) r
walk_ahead most (l ∷ ls) fs gs more w r =
    let a = ahead most l (ls ++ more) fs r in
    let e : w.0 ≡ a.0 = moves_same w.1 a.1 in
    walk_ahead most ls w.0 gs more w.2 (rw e a.2)

pub walk_append : (ls ms : List (List ℕ)) (fs gs hs : List Bool) → Walk fs ls gs → Walk gs ms hs → Walk fs (ls ++ ms) hs
walk_append [] ms fs gs hs e w = rw e w
walk_append (l ∷ ls) ms fs gs hs v w = (v.0, v.1, walk_append ls ms v.0 gs hs v.2 w)

-- every open group can be ended
pub an_endif : directive_of (bytes "!endif") ≡ Endif
unfolding named word_start directive_of span compared class_of
an_endif = refl

abbrev pub closers : List Bool → List (List ℕ)
closers [] = []
closers (b ∷ fs) = bytes "!endif" ∷ closers fs

pub completed : (most : ℕ) (fs : List Bool) → length fs ≤ most → Rest most fs (closers fs)
completed most [] h = nothing_left most
completed most (b ∷ fs) h =
    before_endif most (length fs) (bytes "!endif") (closers fs) (Rest most fs) b an_endif h (completed most fs (omega arith))

module _ (t : List ℕ) (δ : Dialect) where
  pub passes_walk : (ls : List (List ℕ)) (n : ℕ) (s s' : State) → Passes t δ n s ls s' → Walk (flags s.groups) ls (flags s'.groups)
  passes_walk [] n s s' e = ap (λ (x : State). flags x.groups) e
  passes_walk (l ∷ ls) n s s' p =
      (flags p.1.groups, (passed t δ n s l p.0 p.1 p.2).1.moves, passes_walk ls (n + 1) p.1 s' p.3)

-- the first statement with the limit of 16 groups
pub passes_back : (t : List ℕ) (δ : Dialect) (ls : List (List ℕ)) (n : ℕ) (s s' : State) (more : List (List ℕ)) → Passes t δ n s ls s' → length s.groups ≤ 16
    → (length s'.groups ≤ 16) × (Rest 16 (flags s'.groups) more → Rest 16 (flags s.groups) (ls ++ more))
passes_back t δ [] n s s' more e h = (rw (sym e) h, λ r. rw e r)
passes_back t δ (l ∷ ls) n s s' more p h =
    let v : Moved (directive_of l) n s.groups p.1.groups = (passed t δ n s l p.0 p.1 p.2).1 in
    let k = v.few h in
    let b = passes_back t δ ls (n + 1) p.1 s' more p.3 k in
    (b.0, λ r. moved_back 16 l (ls ++ more) v.moves refl (omega (arith, flags_length s.groups)) (omega (arith, flags_length p.1.groups)) (b.1 r))
