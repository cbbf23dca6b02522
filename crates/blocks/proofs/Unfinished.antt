-- Refusal 21 by the words alone: the lines after the innermost open `!if` stay inside its group. Assumes nothing.
use Prim.Native.Nat.{ℕ, ◌+◌, ◌≤◌, ◌<◌}
use native.Mathlib.Omega.{arith}
use mathlib.Core.Path.{◌≡◌, refl, sym, ap, ◌∙◌}
use mathlib.Core.Bool.{Bool, true, false}
use mathlib.Core.List.{List, [], ◌∷◌, ◌++◌, append_assoc, append-nil}
use lib.ListN.{length, length-append, drop}
use Rattle.units.specs.declared.Dialect.{Dialect}
use Rattle.units.specs.Refusals.{unplaced}
use Rattle.units.specs.declared.Reason.TheVariants.{FileUnfinished}
use Rattle.line.specs.Directives.{directive_of}
use Rattle.line.specs.declared.Directive.{Directive}
use Rattle.line.specs.declared.Directive.TheVariants.{Endif}
use Rattle.groups.specs.Groups.{Group, State}
use Rattle.select.specs.Select.{accepted, refused, at_end, run, start}
use Rattle.blocks.specs.Blocks.{Blocks, empty, group, Branches, endif, elseif, else, lines_of, lines_in, opens, Derives, depth}
use Rattle.blocks.specs.Beginnings.{Whole, Innermost}
use Rattle.blocks.specs.Passing.{Passes}
use Rattle.blocks.proofs.Passing.{Unfinished}
use Rattle.blocks.proofs.Continuation.{onto, onto_accepted, onto_refused}
use Rattle.blocks.proofs.RunMeaning.{run_go}
use Rattle.blocks.proofs.MayFollow.{Front, Others, After, None, Rest, nothing_left, before_endif}
use Rattle.blocks.proofs.GroupMoves.{flags, starts, Moves, stay, enter, turn, final, leave, started, started_opens, Some, moved_in, Moved}
use Rattle.blocks.proofs.AcceptedBlocks.{passed}
use Rattle.blocks.proofs.PassedLines.{Walk, moves_grow, walk_back, walk_ahead, passes_walk}
use Rattle.blocks.proofs.Stray.{whole_rest, rest_whole}

-- lines with an open group before each of them
abbrev Inner : List Bool → List (List ℕ) → List Bool → Type 0
Inner fs [] gs = fs ≡ gs
Inner fs (l ∷ ls) gs = Some fs × (hs : List Bool) × Moves (directive_of l) fs hs × Inner hs ls gs

inner_back : (most : ℕ) (ls : List (List ℕ)) (fs gs : List Bool) (more : List (List ℕ)) → length fs + length ls ≤ most → Inner fs ls gs
    → After most None gs more → After most None fs (ls ++ more)
inner_back most [] fs gs more h e r = rw e r
inner_back most (l ∷ ls) fs gs more h w r =
    let k = moves_grow w.2 in
    moved_in most None l (ls ++ more) w.2 refl w.0 (omega arith) (omega arith) (inner_back most ls w.1 gs more (omega arith) w.3 r)

inner_append : (ls ms : List (List ℕ)) (fs gs hs : List Bool) → Inner fs ls gs → Inner gs ms hs → Inner fs (ls ++ ms) hs
inner_append [] ms fs gs hs e w = rw e w
inner_append (l ∷ ls) ms fs gs hs v w = (v.0, v.1, v.2, inner_append ls ms v.1 gs hs v.3 w)

-- the same inside one more group
moves_lift : {d : Directive} {fs gs : List Bool} (hs : List Bool) → Moves d fs gs → Moves d (fs ++ hs) (gs ++ hs)
moves_lift hs stay = stay
moves_lift hs (enter o) = enter o
moves_lift hs turn = turn
moves_lift hs final = final
moves_lift hs leave = leave

some_lift : (fs hs : List Bool) → Some fs → Some (fs ++ hs)
some_lift [] hs i = absurd i
some_lift (b ∷ fs) hs i = tt

inner_lift : (hs : List Bool) (ls : List (List ℕ)) (fs gs : List Bool) → Inner fs ls gs → Inner (fs ++ hs) ls (gs ++ hs)
inner_lift hs [] fs gs e = ap (λ x. x ++ hs) e
inner_lift hs (l ∷ ls) fs gs w = (some_lift fs hs w.0, w.1 ++ hs, moves_lift hs w.2, inner_lift hs ls w.1 gs w.3)

-- the `!if` of an open group, in line m, and what is around it
record OpenIn (b : Bool) (m : ℕ) (Outer : List (List ℕ) → Type 0) (ls : List (List ℕ)) : Type 0 where
  before : List (List ℕ)
  opening : List ℕ
  since : List (List ℕ)
  lines : ls ≡ before ++ (opening ∷ since)
  number : m ≡ length before + 1
  opens_it : opens (directive_of opening) ≡ true
  inner : Inner (false ∷ []) since (b ∷ [])
  outer : Outer before

abbrev Opened : List Bool → List ℕ → List (List ℕ) → Type 0
Opened [] ns ls = Unit
Opened (b ∷ fs) [] ls = ⊥
Opened (b ∷ fs) (m ∷ ns) ls = OpenIn b m (Opened fs ns) ls

opened_more : (b c : Bool) (fs : List Bool) (ns : List ℕ) (ls extra : List (List ℕ)) → Inner (b ∷ []) extra (c ∷ []) → Opened (b ∷ fs) ns ls
    → Opened (c ∷ fs) ns (ls ++ extra)
opened_more b c fs [] ls extra w o = o
opened_more b c fs (m ∷ ns) ls extra w o = record {
  before = o.before;
  opening = o.opening;
  since = o.since ++ extra;
  lines = rw o.lines (simp append_assoc);
  number = o.number;
  opens_it = o.opens_it;
  inner = inner_append o.since extra (false ∷ []) (b ∷ []) (c ∷ []) o.inner w;
  outer = o.outer;
}

module _ (l : List ℕ) (n : ℕ) (ls : List (List ℕ)) (h : n ≡ length ls + 1) where
  left : (b : Bool) (fs : List Bool) (ns : List ℕ) → directive_of l ≡ Endif → Opened (b ∷ fs) ns ls → Opened fs (drop 1 ns) (ls ++ (l ∷ []))
  left b [] ns e o = tt
  left b (c ∷ fs) [] e o = absurd o
  left b (c ∷ fs) (m ∷ ns) e o =
      let w : Inner (c ∷ []) (o.opening ∷ (o.since ++ (l ∷ []))) (c ∷ []) = (
        tt,
        false ∷ c ∷ [],
        enter o.opens_it,
        inner_append o.since (l ∷ []) (false ∷ c ∷ []) (b ∷ c ∷ []) (c ∷ [])
            (inner_lift (c ∷ []) o.since (false ∷ []) (b ∷ []) o.inner) (tt, c ∷ [], rw e leave, refl),
      ) in
      let q : ls ++ (l ∷ []) ≡ o.before ++ (o.opening ∷ (o.since ++ (l ∷ []))) = rw o.lines (simp append_assoc) in
      rw q (opened_more c c fs ns o.before (o.opening ∷ (o.since ++ (l ∷ []))) w o.outer)

  opened_moves : {d : Directive} {fs gs : List Bool} (ns : List ℕ) → Moves d fs gs → directive_of l ≡ d → Opened fs ns ls
      → Opened gs (started d n ns) (ls ++ (l ∷ []))
  opened_moves ns (stay {fs = []}) e o = tt
  opened_moves ns (stay {fs = b ∷ fs}) e o = opened_more b b fs ns ls (l ∷ []) (tt, b ∷ [], rw e stay, refl) o
  opened_moves ns (enter {d} {fs} i) e o =
      rw (started_opens d n ns i)
      (record { before = ls; opening = l; since = []; lines = refl; number = h; opens_it = ap opens e ∙ i; inner = refl; outer = o })
  opened_moves ns (turn {fs}) e o = opened_more false false fs ns ls (l ∷ []) (tt, false ∷ [], rw e turn, refl) o
  opened_moves ns (final {fs}) e o = opened_more false true fs ns ls (l ∷ []) (tt, true ∷ [], rw e final, refl) o
  opened_moves ns (leave {b} {fs}) e o = left b fs ns e o

module _ (t : List ℕ) (δ : Dialect) where
  passes_opened : (ls : List (List ℕ)) (n : ℕ) (s s' : State) (past : List (List ℕ)) → n ≡ length past + 1 → Passes t δ n s ls s'
      → Opened (flags s.groups) (starts s.groups) past → Opened (flags s'.groups) (starts s'.groups) (past ++ ls)
  passes_opened [] n s s' past h e o = rw (append-nil, sym e) o
  passes_opened (l ∷ ls) n s s' past h p o =
      let v : Moved (directive_of l) n s.groups p.1.groups = (passed t δ n s l p.0 p.1 p.2).1 in
      let w = opened_moves l n past h (starts s.groups) v.moves refl o in
      let x : Opened (flags p.1.groups) (starts p.1.groups) (past ++ (l ∷ [])) = rw v.at w in
      let q : past ++ (l ∷ ls) ≡ (past ++ (l ∷ [])) ++ ls = sym (append_assoc past (l ∷ []) ls) in
      rw q (passes_opened ls (n + 1) p.1 s' (past ++ (l ∷ [])) (omega (arith, length-append past (l ∷ []))) p.3 x)

  -- a run over lines that are passed
  passes_run : (ls : List (List ℕ)) (n : ℕ) (s s' : State) → Passes t δ n s ls s' → (ms : List ℕ) × (run t n s ls δ ≡ onto ms (at_end s'.groups s'.count))
  unfolding run
  passes_run [] n s s' e = ([], ap (λ (x : State). at_end x.groups x.count) e)
  passes_run (l ∷ ls) n s s' p =
      let r = passes_run ls (n + 1) p.1 s' p.3 in
      (p.0 ∷ r.0, run_go t δ n s l ls p.0 p.1 p.2 ∙ rw r.1)

-- if a group is open, some line has to follow
some_lines : (os : Branches) (ls : List (List ℕ)) → 0 < length (lines_in os ++ ls)
some_lines (endif l) ls = omega arith
some_lines (elseif l body os) ls = omega arith
some_lines (else l body e) ls = omega arith

pub no_rest : (most : ℕ) (b : Bool) (fs : List Bool) → Rest most (b ∷ fs) [] → ⊥
no_rest most b fs r =
    omega (
      arith,
      ap length r.lines ∙ length-append (lines_of r.blocks) r.more,
      ap length r.next.lines,
      some_lines r.next.branches r.next.more,
    )

innermost : (b : Bool) (m : ℕ) (Outer : List (List ℕ) → Type 0) (ls : List (List ℕ)) → OpenIn b m Outer ls → Innermost ls m
innermost b m Outer ls o = record {
  before = o.before;
  opening = o.opening;
  since = o.since;
  lines = o.lines;
  number = o.number;
  opens_it = o.opens_it;
  closes = close;
}
  where
    close : (e : List ℕ) → directive_of e ≡ Endif
        → (body : Blocks) × (os : Branches) × Derives (o.opening ∷ (o.since ++ (e ∷ []))) (group o.opening body os empty)
    close e w =
        let most : ℕ = 1 + length o.since in
        let r : Front most 1 (Others most 0 false None) (o.since ++ (e ∷ [])) =
        inner_back most o.since (false ∷ []) (b ∷ []) (e ∷ []) (omega arith) o.inner (before_endif most 0 e [] None b w (omega arith) refl) in (
          r.blocks,
          r.next.branches,
          record {
            lines = ap (◌∷◌ o.opening) (r.lines ∙ rw (r.next.lines, r.next.next));
            words = (o.opens_it, r.fits, r.next.fits, tt);
          },
        )

pub unfinished : Unfinished
unfinished t δ ls s p = by s.groups refl (passes_run t δ ls 1 start s p) (passes_walk t δ ls 1 start s p) (passes_opened t δ ls 1 start s [] refl p tt)
  where
    by : (gs : List Group) → s.groups ≡ gs → ((ms : List ℕ) × (run t 1 start ls δ ≡ onto ms (at_end s.groups s.count)))
        → Walk [] ls (flags s.groups) → Opened (flags s.groups) (starts s.groups) ls
        → (Whole ls → (ms : List ℕ) × (run t 1 start ls δ ≡ accepted ms s.count))
        × ((Whole ls → ⊥) → (m : ℕ) × Innermost ls m × (run t 1 start ls δ ≡ refused (unplaced FileUnfinished) m))
    by [] e r w o = (
      λ _. (r.0 ++ [], r.1 ∙ rw e (onto_accepted r.0 [] s.count)),
      λ h. absurd (h (rest_whole (length ls) ls (rw append-nil at (walk_back (length ls) ls [] [] [] (omega arith) (rw e at w) (nothing_left (length ls)))))),
    )
    by (g ∷ gs) e r w o = (
      λ d. absurd (no_rest (depth d.0) g.flags.last (flags gs)
          (walk_ahead (depth d.0) ls [] (flags (g ∷ gs)) [] (rw e at w) (rw append-nil (whole_rest ls d.0 d.1)))),
      λ h. (
        g.line,
        innermost g.flags.last g.line (Opened (flags gs) (starts gs)) ls (rw e at o),
        r.1 ∙ rw e (onto_refused r.0 (unplaced FileUnfinished) g.line),
      ),
    )
