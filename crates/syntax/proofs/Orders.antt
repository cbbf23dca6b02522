-- Entries appended to the order, and the runs of unary operators in it. Assumes nothing.
use Prim.Native.Nat.{ℕ, zero, suc, ◌+◌, ◌-◌, ◌≤◌, ◌<◌}
use native.Mathlib.Numerals.{add-one}
use native.Mathlib.Omega.{arith}
use mathlib.Core.Path.{◌≡◌}
use mathlib.Core.Bool.{true}
use mathlib.Core.List.{List, [], ◌∷◌, ◌++◌, append_assoc, append-nil}
use lib.ListN.{length, take, set, length-set}
use lib.Seq.{take-suc-set}
use borrow.Author.Tests.{le-ltb}
use Rattle.codes.specs.Levels.{is_unary}
use Rattle.grammar.specs.Grammar.{Nonterminal, level, expression}
use Rattle.grammar.specs.Parse.{Ends, Goal, bad, got, find}
use Rattle.grammar.specs.Decides.{InTable}
use Rattle.grammar.proofs.Steps.{moved, unary_bad, unary_made}
use Rattle.syntax.specs.Order.{code_at, UNARY, FILLER, Ordered, OrderTo}
use Rattle.syntax.specs.Descent.{Fit, Appended, back}

-- after the last token the code is END
pub ended : (cs : List ℕ) (n : ℕ) → Ends (code_at cs n) (λ i. i) n
ended cs n = record { past = λ i h. rw (le-ltb i n h) }

-- one more entry
pub put : (o p s : List ℕ) (m x : ℕ) {o' : List ℕ} {m' : ℕ} → o' ≡ set o m x → m' ≡ m + 1 → m < length o → take m o ≡ p ++ s → take m' o' ≡ p ++ (s ++ (x ∷ []))
put o p s m x e f h g = rw (e, f, add-one m, take-suc-set o m x h, g) (append_assoc p s (x ∷ []))

pub put_long : (o : List ℕ) (m x : ℕ) {o' : List ℕ} → o' ≡ set o m x → length o ≡ 200 → length o' ≡ 200
put_long o m x e h = rw (e, length-set o m x) h

-- the operator before the run
pub sooner : (j at : ℕ) → 0 < at → at ≤ j → back (j - (at - 1)) (at - 1) ≡ back (j - at) at ++ ((UNARY + (at - 1)) ∷ [])
unfolding back
sooner j at h l =
    let e : j - (at - 1) ≡ suc (j - at) = omega arith in
    let f : suc (at - 1) ≡ at = omega arith in
    rw (e, f)

pub no_back : (j : ℕ) → back (j - j) j ≡ []
unfolding back
no_back j = let e : j - j ≡ 0 = omega arith in rw e

module _ (cs : List ℕ) (n : ℕ) where
  -- an operand after a run, found or with a fault
  pub applied : (l : List ℕ) (q m i j : ℕ) → i + m ≡ j → ((x : ℕ) → i ≤ x → x < j → is_unary (code_at cs n x) ≡ true)
      → Ordered cs n (find (level 1) j) (got l q)
      → Ordered cs n (find (level 1) i) (got (l ++ back m i) q)
  unfolding back
  applied l q zero i j s f u = let h : i ≡ j = omega arith in rw (append-nil l, h) u
  applied l q (suc m) i j s f u =
      let v = applied l q m (i + 1) j (omega arith) (λ x a b. f x (omega arith) b) u in
      let made = unary_made (ended cs n) i (f i (omega arith) (omega arith)) (l ++ back m (i + 1)) q v in
      rw (← append_assoc l (back m (suc i)) ((UNARY + i) ∷ []), ← add-one i) made

  pub wrong : (z m i j : ℕ) → i + m ≡ j → ((x : ℕ) → i ≤ x → x < j → is_unary (code_at cs n x) ≡ true)
      → Ordered cs n (find (level 1) j) (bad z)
      → Ordered cs n (find (level 1) i) (bad z)
  wrong z zero i j q f u = let h : i ≡ j = omega arith in rw h u
  wrong z (suc m) i j q f u =
      unary_bad (ended cs n) i (f i (omega arith) (omega arith)) z (wrong z m (i + 1) j (omega arith) (λ x a b. f x (omega arith) b) u)

-- entries after entries
pub after : (t u a b : List ℕ) {r : List ℕ} → r ≡ u ++ b → u ≡ t ++ a → r ≡ t ++ (a ++ b)
after t u a b e f = rw (e, f) (append_assoc t a b)

-- the entries of a part that was found, and of another after it
pub both : {cs : List ℕ} {n : ℕ} {g : Goal (List ℕ)} {i m : ℕ} {o : List ℕ} {r m' : ℕ} {o' : List ℕ} (p : Appended cs n g i m o r m' o') (s : List ℕ)
    {l : List ℕ} → l ≡ take m' o' ++ s → l ≡ take m o ++ (p.entries ++ s)
both {m = m} {o = o} {m' = m'} {o' = o'} p s e = after (take m o) (take m' o') p.entries s e p.held

-- a part that was found has tokens, and there is room after it
module _ {cs : List ℕ} {n : ℕ} {x : Nonterminal} {i m : ℕ} {o : List ℕ} {r m' : ℕ} {o' : List ℕ} (p : Appended cs n (find x i) i m o r m' o') where
  pub passed : InTable x → (i < r) × (r ≤ n)
  passed h = moved (ended cs n) p.made h

  -- one more entry after its own
  pub extra : (x : ℕ) → m' < 200 → {o'' : List ℕ} {m'' : ℕ} → o'' ≡ set o' m' x → m'' ≡ m' + 1 → take m'' o'' ≡ take m o ++ (p.entries ++ (x ∷ []))
  extra x h e f = put o' (take m o) p.entries m' x e f (omega (arith, h, p.long)) p.held

  -- for a function that starts one token later
  pub onward : Fit n i m o → r < n → Fit n (r + 1) m' o'
  onward f l = record { few = f.few; within = omega (arith, l); room = omega (arith, p.most, f.room); long = p.long }

-- the entries of a choice
pub chosen : (t t₁ t₂ c a b : List ℕ) (q : ℕ) {r : List ℕ} → t₁ ≡ t ++ c → t₂ ≡ t₁ ++ a → r ≡ t₂ ++ ((b ++ (q ∷ [])) ++ (FILLER ∷ []))
    → r ≡ t ++ (c ++ (a ++ (b ++ (q ∷ FILLER ∷ []))))
chosen t t₁ t₂ c a b q e f g = rw (g, f, e) (simp append_assoc)

-- the entries of the whole expression, where none was before it: at most as many as there are tokens
pub whole_order : {cs : List ℕ} {n : ℕ} {o : List ℕ} {r m : ℕ} {o' o'' : List ℕ} → n ≤ 200
    → Appended cs n (find expression 0) 0 0 o r m o' → o'' ≡ o' → OrderTo cs n m r o''
whole_order h found e =
    rw e (record {
      made = rw (← found.held) at found.made;
      most = omega (arith, found.most, passed found tt, h);
      long = found.long;
    })
