-- The invariant of the loop over the operators of a level, its steps and its exits. Assumes nothing.
use Prim.Native.Nat.{ℕ, suc, ◌+◌, ◌≤◌, ◌<◌}
use native.Mathlib.Omega.{arith}
use mathlib.Core.Path.{◌≡◌, sym, ap, ◌∙◌}
use mathlib.Core.List.{List, [], ◌∷◌, ◌++◌, append_assoc, append-nil}
use lib.ListN.{length, take, set}
use Rattle.codes.specs.Levels.{level_of}
use Rattle.grammar.specs.Grammar.{level}
use Rattle.grammar.specs.Parse.{Result, bad, find}
use Rattle.grammar.specs.Climb.{Climbs}
use Rattle.grammar.proofs.Climb.{nothing, joined_bad, joined, climbed}
use Rattle.syntax.specs.Order.{code_at, postfix, Ordered}
use Rattle.syntax.specs.Descent.{Fit, Appended}
use Rattle.syntax.proofs.Orders.{ended, put_long, after, passed, extra, both}

-- the level of the code of a token
pub read : {o d l : ℕ} → o ≡ d → l ≡ level_of o → level_of d ≡ l
read e f = ap level_of (sym e) ∙ sym f

-- After the first operand, which ends at token at₀ with m₀ entries in o₀, the loop is at token at, with m entries in o: what was found is
-- an operand of a level up to `low`, and what extends it extends the first operand.
pub record Grown (cs : List ℕ) (n k at₀ m₀ : ℕ) (o₀ : List ℕ) (low at m : ℕ) (o : List ℕ) : Type 0 where
  pub some : 1 ≤ low
  pub within_level : low ≤ k
  pub on : at₀ ≤ at
  pub within : at ≤ n
  pub most : m + at₀ ≤ m₀ + at
  pub long : length o ≡ 200
  pub more : List ℕ
  pub held : take m o ≡ take m₀ o₀ ++ more
  pub goes : (a : List ℕ) (r : Result (List ℕ)) → Climbs (code_at cs n) postfix (λ i. i) n low k (a ++ more) at r
      → Climbs (code_at cs n) postfix (λ i. i) n 1 k a at₀ r

-- before the first operator
pub begun : {cs : List ℕ} {n k at m : ℕ} {o : List ℕ} → 1 ≤ k → at ≤ n → length o ≡ 200 → Grown cs n k at m o 1 at m o
begun {m = m} {o = o} h l e =
    record {
      some = omega arith;
      within_level = h;
      on = omega arith;
      within = l;
      most = omega arith;
      long = e;
      more = [];
      held = sym (append-nil (take m o));
      goes = λ a r v. rw (append-nil a) at v;
    }

module _ {cs : List ℕ} {n k : ℕ} (top : k ≤ 12) {i m₀ : ℕ} {o₀ : List ℕ} {at₁ m₁ : ℕ} {o₁ : List ℕ} (first : Appended cs n (find (level 1) i) i m₀ o₀ at₁ m₁ o₁)
    {low at m : ℕ} {o : List ℕ} (g : Grown cs n k at₁ m₁ o₁ low at m o) where
  -- no operator of the other levels follows
  pub stays : Fit n i m₀ o₀ → ((x : ℕ) → low ≤ x → x < k → level_of (code_at cs n at) ≡ suc x → ⊥) → Appended cs n (find (level k) i) i m₀ o₀ at m o
  stays f none =
      let entries = first.entries ++ g.more in
      let rest = nothing (ended cs n) low k entries at g.within_level none in
      record {
        entries = entries;
        made = climbed (ended cs n) i (omega arith) top first.made (g.goes first.entries _ rest);
        held = both first g.more g.held;
        most = omega (arith, g.most, first.most);
        long = g.long;
      }

  -- for the right operand of an operator that follows
  pub room : Fit n i m₀ o₀ → at < n → Fit n (at + 1) m o
  room f l = record { few = f.few; within = omega (arith, l); room = omega (arith, g.most, first.most, f.room); long = g.long }

  module _ {e : ℕ} (above : low ≤ e) (below : e < k) (follows : level_of (code_at cs n at) ≡ suc e) where
    -- its right operand has a fault
    pub refused : (z : ℕ) → Ordered cs n (find (level e) (at + 1)) (bad z) → Ordered cs n (find (level k) i) (bad z)
    refused z u =
        let rest = joined_bad (ended cs n) low e k (first.entries ++ g.more) at above below top follows z u in
        climbed (ended cs n) i (omega arith) top first.made (g.goes first.entries _ rest)

    -- its right operand was found, and the operator's entry appended
    pub extended : {q m₂ : ℕ} {o₂ : List ℕ} → Appended cs n (find (level e) (at + 1)) (at + 1) m o q m₂ o₂ → m₂ < 200
        → {m₃ : ℕ} {o₃ : List ℕ} → o₃ ≡ set o₂ m₂ at → m₃ ≡ m₂ + 1 → Grown cs n k at₁ m₁ o₁ e q m₃ o₃
    extended {q = q} {m₂ = m₂} {o₂ = o₂} right h e₃ f₃ =
        let on = passed right (omega (arith, below, top)) in
        let added = right.entries ++ (at ∷ []) in
        record {
          some = omega (arith, above, g.some);
          within_level = omega (arith, below);
          on = omega (arith, on, g.on);
          within = on.1;
          most = omega (arith, f₃, right.most, g.most);
          long = put_long o₂ m₂ at e₃ right.long;
          more = g.more ++ added;
          held = after (take m₁ o₁) (take m o) g.more added (extra right at h e₃ f₃) g.held;
          goes = λ a r u.
              let rest = rw (← append_assoc a g.more added) at u in
              g.goes a r (joined (ended cs n) low e k (a ++ g.more) at above below top follows right.entries q right.made r rest);
        }
