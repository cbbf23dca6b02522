-- Lines derive at most one list of blocks: the word of a line decides which block or branch it begins, and blocks end at a word that begins
-- none. Assumes nothing.
use Prim.Native.Nat.{ℕ, ◌≤◌}
use native.Mathlib.Omega.{arith}
use mathlib.Core.Path.{◌≡◌, refl, sym, ap}
use mathlib.Core.Bool.{true, false≢true}
use mathlib.Core.List.{List, [], ◌∷◌, ◌++◌, append_assoc}
use Rattle.line.specs.Directives.{directive_of}
use Rattle.line.specs.declared.Directive.{Directive}
use Rattle.line.specs.declared.Directive.TheVariants.{Plain, If, Ifdef, Ifndef, Elseif, Else, Endif, Unknown}
use Rattle.blocks.specs.Blocks.{Blocks, empty, line, group, Branches, endif, elseif, else, lines_of, lines_in, opens, Fits, FitsIn}

-- a number for each place that a word can have
abbrev pub place : Directive → ℕ
place Plain = 0
place If = 1
place Ifdef = 1
place Ifndef = 1
place Elseif = 2
place Else = 3
place Endif = 4
place Unknown = 5

pub place_opens : (d : Directive) → opens d ≡ true → place d ≡ 1
place_opens Plain o = absurd (false≢true o)
place_opens If o = refl
place_opens Ifdef o = refl
place_opens Ifndef o = refl
place_opens Elseif o = absurd (false≢true o)
place_opens Else o = absurd (false≢true o)
place_opens Endif o = absurd (false≢true o)
place_opens Unknown o = absurd (false≢true o)

-- no block begins here
abbrev pub Stops : List (List ℕ) → Type 0
Stops [] = Unit
Stops (l ∷ ls) = 2 ≤ place (directive_of l)

pub stops_in : (os : Branches) → FitsIn os → (ls : List (List ℕ)) → Stops (lines_in os ++ ls)
stops_in (endif l) w ls = omega (arith, ap place w)
stops_in (elseif l body os) w ls = omega (arith, ap place w.0)
stops_in (else l body e) w ls = omega (arith, ap place w.0)

-- one line cannot have two places
clash : (A : Type 0) (l m : List ℕ) → l ≡ m → (place (directive_of l) ≡ place (directive_of m) → ⊥) → A
clash A l m e h = absurd (h (ap (λ x. place (directive_of x)) e))

stopped : (A : Type 0) (p : List (List ℕ)) (l : List ℕ) (ls : List (List ℕ)) → Stops p → p ≡ l ∷ ls → (2 ≤ place (directive_of l) → ⊥) → A
stopped A p l ls h e n = let z : Stops (l ∷ ls) = rw e at h in absurd (n z)

mutual
  pub same_blocks : (a : Blocks) → Fits a → (b : Blocks) → Fits b → (p q : List (List ℕ)) → Stops p → Stops q → lines_of a ++ p ≡ lines_of b ++ q
      → (a ≡ b) × (p ≡ q)
  same_blocks empty v empty w p q s r e = (refl, e)
  same_blocks empty v (line m b) w p q s r e = stopped _ p m (lines_of b ++ q) s e (λ h. omega (arith, ap place w.0))
  same_blocks empty v (group m body os b) w p q s r e = stopped _ p m _ s e (λ h. omega (arith, place_opens (directive_of m) w.0))
  same_blocks (line l a) v empty w p q s r e = stopped _ q l (lines_of a ++ p) r (sym e) (λ h. omega (arith, ap place v.0))
  same_blocks (line l a) v (line m b) w p q s r e =
      let i = same_blocks a v.1 b w.1 p q s r (cc) in
      let j : l ≡ m = cc in
      (cc i.0, i.1)
  same_blocks (line l a) v (group m body os b) w p q s r e = clash _ l m (cc) (λ h. omega (arith, ap place v.0, place_opens (directive_of m) w.0))
  same_blocks (group l body os a) v empty w p q s r e = stopped _ q l _ r (sym e) (λ h. omega (arith, place_opens (directive_of l) v.0))
  same_blocks (group l body os a) v (line m b) w p q s r e = clash _ l m (cc) (λ h. omega (arith, ap place w.0, place_opens (directive_of l) v.0))
  same_blocks (group l body os a) v (group m body' os' b) w p q s r e =
      let z : l ∷ (lines_of body ++ (lines_in os ++ (lines_of a ++ p)))
      ≡ m ∷ (lines_of body' ++ (lines_in os' ++ (lines_of b ++ q))) = simp append_assoc at e in
      let i =
      same_blocks body v.1 body' w.1 (lines_in os ++ (lines_of a ++ p)) (lines_in os' ++ (lines_of b ++ q)) (stops_in os v.2 _)
      (stops_in os' w.2 _) (cc) in
      let j = same_branches os v.2 os' w.2 (lines_of a ++ p) (lines_of b ++ q) i.1 in
      let k = same_blocks a v.3 b w.3 p q s r j.1 in
      let h : l ≡ m = cc in
      (cc (i.0, j.0, k.0), k.1)

  pub same_branches : (o : Branches) → FitsIn o → (o' : Branches) → FitsIn o' → (p q : List (List ℕ)) → lines_in o ++ p ≡ lines_in o' ++ q → (o ≡ o') × (p ≡ q)
  same_branches (endif l) v (endif m) w p q e = (cc, cc)
  same_branches (endif l) v (elseif m body os) w p q e = clash _ l m (cc) (λ h. omega (arith, ap place v, ap place w.0))
  same_branches (endif l) v (else m body z) w p q e = clash _ l m (cc) (λ h. omega (arith, ap place v, ap place w.0))
  same_branches (elseif l body os) v (endif m) w p q e = clash _ l m (cc) (λ h. omega (arith, ap place v.0, ap place w))
  same_branches (elseif l body os) v (elseif m body' os') w p q e =
      let z : l ∷ (lines_of body ++ (lines_in os ++ p)) ≡ m ∷ (lines_of body' ++ (lines_in os' ++ q)) = simp append_assoc at e in
      let i = same_blocks body v.1 body' w.1 (lines_in os ++ p) (lines_in os' ++ q) (stops_in os v.2 p) (stops_in os' w.2 q) (cc) in
      let j = same_branches os v.2 os' w.2 p q i.1 in
      let h : l ≡ m = cc in
      (cc (i.0, j.0), j.1)
  same_branches (elseif l body os) v (else m body' z) w p q e = clash _ l m (cc) (λ h. omega (arith, ap place v.0, ap place w.0))
  same_branches (else l body y) v (endif m) w p q e = clash _ l m (cc) (λ h. omega (arith, ap place v.0, ap place w))
  same_branches (else l body y) v (elseif m body' os') w p q e = clash _ l m (cc) (λ h. omega (arith, ap place v.0, ap place w.0))
  same_branches (else l body y) v (else m body' y') w p q e =
      let z : l ∷ (lines_of body ++ (y ∷ p)) ≡ m ∷ (lines_of body' ++ (y' ∷ q)) = simp append_assoc at e in
      let i = same_blocks body v.1 body' w.1 (y ∷ p) (y' ∷ q) (omega (arith, ap place v.2)) (omega (arith, ap place w.2)) (cc) in
      let j : ◌≡◌ {A = List (List ℕ)} (y ∷ p) (y' ∷ q) = i.1 in
      let h : l ≡ m = cc in
      (cc i.0, cc)
