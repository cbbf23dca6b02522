-- Lines that may follow, by their first line: how it changes the open groups, and which lines may follow after it. Assumes nothing.
use Prim.Native.Nat.{ℕ, suc, ◌+◌, ◌≤◌}
use native.Mathlib.Omega.{arith}
use mathlib.Core.Path.{◌≡◌, refl, sym, ap, ◌∙◌, subst}
use mathlib.Core.Bool.{Bool, true, false}
use mathlib.Core.List.{List, [], ◌∷◌, ◌++◌, append_assoc}
use lib.ListN.{length}
use Rattle.line.specs.Directives.{directive_of}
use Rattle.line.specs.declared.Directive.TheVariants.{Plain, Elseif, Else, Endif}
use Rattle.blocks.specs.Blocks.{Blocks, empty, line, group, Branches, endif, elseif, else, lines_of, lines_in, opens, Fits, FitsIn, depth, depth_in}
use Rattle.blocks.proofs.MayFollow.{Allowed, Front, Others, None, Rest}
use Rattle.blocks.proofs.GroupMoves.{Moves, stay, enter, turn, final, leave}

module _ (most d : ℕ) (l : List ℕ) (ls : List (List ℕ)) (Next : List (List ℕ) → Type 0) (R : Type 0) where
  -- the first line of blocks, or of the lines after them
  front_ahead : Front most d Next (l ∷ ls)
      → (directive_of l ≡ Plain → Front most d Next ls → R)
      → (opens (directive_of l) ≡ true → Front most (suc d) (Others most d false (Front most d Next)) ls → R)
      → (Next (l ∷ ls) → R) → R
  front_ahead r f g h = by r.blocks r.fits r.deep r.lines
    where
      by : (bs : Blocks) → Fits bs → d + depth bs ≤ most → l ∷ ls ≡ lines_of bs ++ r.more → R
      by empty w k e = h (subst Next (sym e) r.next)
      by (line m bs) w k e =
          let i : l ≡ m = cc in
          f (ap directive_of i ∙ w.0) (record { blocks = bs; more = r.more; fits = w.1; deep = k; lines = cc; next = r.next })
      by (group m body os bs) w k e =
          let i : l ≡ m = cc in
          let z : l ∷ ls ≡ m ∷ (lines_of body ++ (lines_in os ++ (lines_of bs ++ r.more))) = simp append_assoc at e in
          g (ap (λ x. opens (directive_of x)) i ∙ w.0)
          (record {
            blocks = body;
            more = lines_in os ++ (lines_of bs ++ r.more);
            fits = w.1;
            deep = omega arith;
            lines = cc;
            next = record {
              branches = os;
              more = lines_of bs ++ r.more;
              fits = w.2;
              allowed = tt;
              deep = omega arith;
              lines = refl;
              next = record { blocks = bs; more = r.more; fits = w.3; deep = omega arith; lines = refl; next = r.next };
            };
          })

  -- the line of a branch
  others_ahead : (b : Bool) → Others most d b Next (l ∷ ls)
      → (b ≡ false → directive_of l ≡ Elseif → Front most (suc d) (Others most d false Next) ls → R)
      → (b ≡ false → directive_of l ≡ Else → Front most (suc d) (Others most d true Next) ls → R)
      → (directive_of l ≡ Endif → Next ls → R) → R
  others_ahead b r f g h = by r.branches r.fits b r.allowed refl r.deep r.lines
    where
      by : (os : Branches) → FitsIn os → (c : Bool) → Allowed c os → b ≡ c → suc d + depth_in os ≤ most → l ∷ ls ≡ lines_in os ++ r.more → R
      by (endif m) w c a q k e =
          let i : l ≡ m = cc in
          let j : r.more ≡ ls = cc in
          h (ap directive_of i ∙ w) (subst Next j r.next)
      by (elseif m body os) w true a q k e = absurd a
      by (elseif m body os) w false a q k e =
          let i : l ≡ m = cc in
          let z : l ∷ ls ≡ m ∷ (lines_of body ++ (lines_in os ++ r.more)) = simp append_assoc at e in
          f q (ap directive_of i ∙ w.0)
          (record {
            blocks = body;
            more = lines_in os ++ r.more;
            fits = w.1;
            deep = omega arith;
            lines = cc;
            next = record { branches = os; more = r.more; fits = w.2; allowed = tt; deep = omega arith; lines = refl; next = r.next };
          })
      by (else m body y) w true a q k e = absurd a
      by (else m body y) w false a q k e =
          let i : l ≡ m = cc in
          let z : l ∷ ls ≡ m ∷ (lines_of body ++ (y ∷ r.more)) = simp append_assoc at e in
          g q (ap directive_of i ∙ w.0)
          (record {
            blocks = body;
            more = y ∷ r.more;
            fits = w.1;
            deep = omega arith;
            lines = cc;
            next = record { branches = endif y; more = r.more; fits = w.2; allowed = tt; deep = omega arith; lines = refl; next = r.next };
          })

-- the groups after the line, and the lines that may follow then
abbrev pub Ahead : (most : ℕ) → List Bool → List ℕ → List (List ℕ) → Type 0
Ahead most fs l ls = (gs : List Bool) × Moves (directive_of l) fs gs × Rest most gs ls

module _ (most : ℕ) (l : List ℕ) (ls : List (List ℕ)) where
  nothing : (A : Type 0) → None (l ∷ ls) → A
  nothing A e = absurd cc

  plain_ahead : (fs : List Bool) → directive_of l ≡ Plain → Rest most fs ls → Ahead most fs l ls
  plain_ahead fs e r = (fs, rw e stay, r)

  pub ahead : (fs : List Bool) → Rest most fs (l ∷ ls) → Ahead most fs l ls
  ahead [] r =
      front_ahead most 0 l ls None (Ahead most [] l ls) r (plain_ahead []) (λ o q. (false ∷ [], enter o, q)) (nothing (Ahead most [] l ls))
  ahead (b ∷ fs) r =
      front_ahead most (suc (length fs)) l ls (Others most (length fs) b (Rest most fs)) (Ahead most (b ∷ fs) l ls) r
      (plain_ahead (b ∷ fs))
      (λ o q. (false ∷ b ∷ fs, enter o, q))
      (λ q. others_ahead most (length fs) l ls (Rest most fs) (Ahead most (b ∷ fs) l ls) b q
      (λ c e z. (false ∷ fs, rw (c, e) turn, z))
      (λ c e z. (true ∷ fs, rw (c, e) final, z))
      (λ e z. (fs, rw e leave, z)))
