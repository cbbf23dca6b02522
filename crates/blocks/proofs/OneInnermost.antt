-- At most one line is the innermost open `!if`: of two, the group of the earlier one would end before that of the later one. Assumes
-- nothing.
use Prim.Native.Nat.{ℕ, ◌<◌}
use native.Mathlib.Omega.{arith}
use mathlib.Core.Path.{◌≡◌, refl, sym, ap, ◌∙◌}
use mathlib.Core.Bool.{Bool, true, false}
use mathlib.Core.List.{List, [], ◌∷◌, ◌++◌, append_assoc, append-nil}
use lib.ListN.{length, length-append}
use lib.Dec.{ltb}
use borrow.Author.Tests.{ltb-true, ltb-false}
use Rattle.text.specs.Bytes.{bytes}
use Rattle.line.specs.Directives.{directive_of}
use Rattle.line.specs.declared.Directive.{Directive}
use Rattle.line.specs.declared.Directive.TheVariants.{Plain, Elseif, Else, Endif}
use Rattle.blocks.specs.Blocks.{Blocks, empty, line, group, Branches, endif, elseif, else, lines_of, lines_in, Fits, FitsIn, Derives, depth}
use Rattle.blocks.specs.Beginnings.{Whole, Innermost}
use Rattle.blocks.proofs.Unambiguous.{place, place_opens, same_blocks, same_branches, stops_in}
use Rattle.blocks.proofs.MayFollow.{Rest, nothing_left}
use Rattle.blocks.proofs.GroupMoves.{Moves, stay, enter, turn, final, leave}
use Rattle.blocks.proofs.NextLine.{ahead}
use Rattle.blocks.proofs.PassedLines.{Walk, moves_same, walk_back, an_endif}
use Rattle.blocks.proofs.Stray.{whole_rest, rest_whole}
use Rattle.blocks.proofs.Unfinished.{no_rest}

-- the lines that may follow after a line with this change of the open groups
pub along : (most : ℕ) (l : List ℕ) (ls : List (List ℕ)) (d : Directive) (fs gs : List Bool) → directive_of l ≡ d → Moves d fs gs → Rest most fs (l ∷ ls)
    → Rest most gs ls
along most l ls d fs gs e m r =
    let a = ahead most l ls fs r in
    let v : Moves d fs a.0 = rw e at a.1 in
    let q : gs ≡ a.0 = moves_same m v in
    rw q a.2

-- whole blocks do not change the open groups, and the branches of a group end it
module _ (most : ℕ) where
  mutual
    past_blocks : (bs : Blocks) → Fits bs → (fs : List Bool) (ls : List (List ℕ)) → Rest most fs (lines_of bs ++ ls) → Rest most fs ls
    past_blocks empty w fs ls r = r
    past_blocks (line l bs) w fs ls r = past_blocks bs w.1 fs ls (along most l (lines_of bs ++ ls) Plain fs fs w.0 stay r)
    past_blocks (group l body os bs) w fs ls r =
        let a : Rest most fs (l ∷ (lines_of body ++ (lines_in os ++ (lines_of bs ++ ls)))) = simp append_assoc at r in
        let b = along most l (lines_of body ++ (lines_in os ++ (lines_of bs ++ ls))) (directive_of l) fs (false ∷ fs) refl (enter w.0) a in
        let c = past_blocks body w.1 (false ∷ fs) (lines_in os ++ (lines_of bs ++ ls)) b in
        past_blocks bs w.3 fs ls (past_branches os w.2 fs (lines_of bs ++ ls) c)

    past_branches : (os : Branches) → FitsIn os → (fs : List Bool) (ls : List (List ℕ)) → Rest most (false ∷ fs) (lines_in os ++ ls) → Rest most fs ls
    past_branches (endif l) w fs ls r = along most l ls Endif (false ∷ fs) fs w leave r
    past_branches (elseif l body os) w fs ls r =
        let a : Rest most (false ∷ fs) (l ∷ (lines_of body ++ (lines_in os ++ ls))) = simp append_assoc at r in
        let b = along most l (lines_of body ++ (lines_in os ++ ls)) Elseif (false ∷ fs) (false ∷ fs) w.0 turn a in
        past_branches os w.2 fs ls (past_blocks body w.1 (false ∷ fs) (lines_in os ++ ls) b)
    past_branches (else l body e) w fs ls r =
        let a : Rest most (false ∷ fs) (l ∷ (lines_of body ++ (e ∷ ls))) = simp append_assoc at r in
        let b = along most l (lines_of body ++ (e ∷ ls)) Else (false ∷ fs) (true ∷ fs) w.0 final a in
        along most e ls Endif (true ∷ fs) fs w.2 leave (past_blocks body w.1 (true ∷ fs) (e ∷ ls) b)

  -- lines at the front of lines that may follow can be passed
  walks : (ls more : List (List ℕ)) (fs : List Bool) → Rest most fs (ls ++ more) → (gs : List Bool) × Walk fs ls gs × Rest most gs more
  walks [] more fs r = (fs, refl, r)
  walks (l ∷ ls) more fs r =
      let a = ahead most l (ls ++ more) fs r in
      let b = walks ls more a.0 a.2 in
      (b.0, (a.0, a.1, b.1), b.2)

-- lines before whole blocks are whole blocks, if all lines together are
whole_before : (xs : List (List ℕ)) (bs w : Blocks) → Derives (xs ++ lines_of w) bs → Fits w → Whole xs
whole_before xs bs w d h =
    let r = walks (depth bs) xs (lines_of w) [] (whole_rest _ bs d) in
    let z : Rest (depth bs) r.0 [] = past_blocks (depth bs) w h r.0 [] (rw append-nil r.2) in
    by r.0 r.1 z
  where
    by : (gs : List Bool) → Walk [] xs gs → Rest (depth bs) gs [] → Whole xs
    by (b ∷ gs) v z = absurd (no_rest (depth bs) b gs z)
    by [] v z =
        rest_whole (length xs) xs (rw append-nil at (walk_back (length xs) xs [] [] [] (omega arith) v (nothing_left (length xs))))

-- so no group that contains an open group ends where that group ends
module _ (l m : List ℕ) (mid : List (List ℕ)) (body body' : Blocks) (os os' : Branches)
    (d : Derives (l ∷ (mid ++ lines_of (group m body' os' empty))) (group l body os empty)) (w : Fits (group m body' os' empty)) where
  never_both : ⊥
  never_both = by x.0 x.1.lines x.1.words
    where
      g : Blocks
      g = group m body' os' empty

      x : Whole (l ∷ mid)
      x = whole_before (l ∷ mid) (group l body os empty) g d w

      by : (bs : Blocks) → l ∷ mid ≡ lines_of bs → Fits bs → ⊥
      by empty e v = cc
      by (line y a) e v =
          let i : l ≡ y = cc in
          omega (arith, ap (λ k. place (directive_of k)) i, ap place v.0, place_opens (directive_of l) d.words.0)
      by (group y b o a) e v =
          let i : mid ≡ lines_of b ++ (lines_in o ++ lines_of a) = cc in
          let j : l ∷ (mid ++ lines_of g) ≡ l ∷ (lines_of body ++ (lines_in os ++ [])) = d.lines in
          let q : lines_of b ++ (lines_in o ++ (lines_of a ++ lines_of g)) ≡ mid ++ lines_of g = rw i (simp append_assoc) in
          let z : lines_of b ++ (lines_in o ++ (lines_of a ++ lines_of g)) ≡ lines_of body ++ (lines_in os ++ []) = cc in
          let s =
          same_blocks b v.1 body d.words.1 (lines_in o ++ (lines_of a ++ lines_of g)) (lines_in os ++ []) (stops_in o v.2 _)
          (stops_in os d.words.2 []) z in
          let r = same_branches o v.2 os d.words.2 (lines_of a ++ lines_of g) [] s.1 in
          omega (arith, ap length r.1, length-append (lines_of a) (lines_of g))

-- one list split at two places
split : (a b : List (List ℕ)) (x y : List ℕ) (s u : List (List ℕ)) → a ++ (x ∷ s) ≡ b ++ (y ∷ u) → length a < length b
    → (mid : List (List ℕ)) × (s ≡ mid ++ (y ∷ u))
split [] [] x y s u e h = absurd (omega arith)
split [] (z ∷ b) x y s u e h = (b, cc)
split (c ∷ a) [] x y s u e h = absurd (omega arith)
split (c ∷ a) (z ∷ b) x y s u e h = split a b x y s u (cc) (omega arith)

joined : (l y e : List ℕ) (since mid u w : List (List ℕ)) → since ≡ mid ++ (y ∷ u) → y ∷ (u ++ (e ∷ [])) ≡ w → l ∷ (since ++ (e ∷ [])) ≡ l ∷ (mid ++ w)
joined l y e since mid u w p q = rw (p, ← q) (simp append_assoc)

later : (ls : List (List ℕ)) (m k : ℕ) → Innermost ls m → Innermost ls k → m < k → ⊥
later ls m k p q h =
    let e : List ℕ = bytes "!endif" in
    let v = split p.before q.before p.opening q.opening p.since q.since (sym p.lines ∙ q.lines) (omega (arith, p.number, q.number)) in
    let c = p.closes e an_endif in
    let f = q.closes e an_endif in
    let i = joined p.opening q.opening e p.since v.0 q.since (lines_of (group q.opening f.0 f.1 empty)) v.1 f.2.lines in
    never_both p.opening q.opening v.0 c.0 f.0 c.1 f.1 (record { lines = sym i ∙ c.2.lines; words = c.2.words }) f.2.words

pub one_innermost : (ls : List (List ℕ)) (m k : ℕ) → Innermost ls m → Innermost ls k → m ≡ k
one_innermost ls m k p q = by (ltb m k) refl (ltb k m) refl
  where
    by : (a : Bool) → ltb m k ≡ a → (b : Bool) → ltb k m ≡ b → m ≡ k
    by true x b y = absurd (later ls m k p q (ltb-true m k x))
    by false x true y = absurd (later ls k m q p (ltb-true k m y))
    by false x false y = omega (arith, ltb-false m k x, ltb-false k m y)
