-- Of two tokens of an expression the later one starts at or after the end of the earlier one: so the first of some tokens is the leftmost.
-- By induction on `Scanned`. Assumes nothing.
use Rattle.std.specs.Prelude.{Result}
use Prim.Native.Nat.{ℕ, ◌+◌, ◌≤◌}
use native.Mathlib.Omega.{arith}
use mathlib.Core.Path.{◌≡◌, ap, sym}
use mathlib.Core.Bool.{Bool}
use mathlib.Core.List.{List, [], ◌∷◌, ◌++◌}
use lib.ListN.{length, length-append}
use lib.Dec.{ltb}
use Rattle.units.specs.declared.Dialect.{Dialect}
use Rattle.units.specs.declared.Offset.{Offset}
use Rattle.units.specs.declared.Refusal.{Refusal}
use Rattle.text.proofs.Laws.{pick_case}
use Rattle.token.specs.Tokens.{MAX_BYTES, Token, Reading, reading}
use Rattle.scanned.specs.Scanned.{Scanned, at_end, at_comment, at_blank, too_many, unreadable, token}
use Rattle.scanned.proofs.ReadingScanned.{reading_scanned}

none : (us vs : List Token) (b : Token) → [] ≡ us ++ (b ∷ vs) → ⊥
none us vs b q = omega (arith, simp length-append at (ap length q))

heads : {a b : Token} {ts us : List Token} → a ∷ ts ≡ b ∷ us → a ≡ b
heads q = cc

tails : {a b : Token} {ts us : List Token} → a ∷ ts ≡ b ∷ us → ts ≡ us
tails q = cc

module _ {e : List ℕ} {δ : Dialect} where
  -- every token that is read from byte `at` on starts there or after it
  after : {n at : ℕ} {q : Bool} {ts : List Token} {x : Result Offset Refusal} → Scanned e δ n at q ts x → (us vs : List Token) (b : Token)
      → ts ≡ us ++ (b ∷ vs)
      → at ≤ b.start
  after (at_end h) us vs b q = absurd (none us vs b q)
  after (at_comment i h) us vs b q = absurd (none us vs b q)
  after (at_blank i h d) us vs b q = omega (arith, after d us vs b q)
  after (too_many s h) us vs b q = absurd (none us vs b q)
  after (unreadable s h w) us vs b q = absurd (none us vs b q)
  after (token s h w d) [] vs b q = omega (arith, ap (λ (t : Token). t.start) (heads q))
  after (token s h w d) (u ∷ us) vs b q = omega (arith, after d us vs b (tails q))

  ascend : {n at : ℕ} {q : Bool} {ts : List Token} {x : Result Offset Refusal} → Scanned e δ n at q ts x → (us vs ws : List Token) (a b : Token)
      → ts ≡ us ++ (a ∷ (vs ++ (b ∷ ws)))
      → a.start + a.len ≤ b.start
  ascend (at_end h) us vs ws a b q = absurd (none us _ a q)
  ascend (at_comment i h) us vs ws a b q = absurd (none us _ a q)
  ascend (at_blank i h d) us vs ws a b q = ascend d us vs ws a b q
  ascend (too_many s h) us vs ws a b q = absurd (none us _ a q)
  ascend (unreadable s h w) us vs ws a b q = absurd (none us _ a q)
  ascend (token s h w d) [] vs ws a b q = rw (sym (heads q)) (after d vs ws b (tails q))
  ascend (token s h w d) (u ∷ us) vs ws a b q = ascend d us vs ws a b (tails q)

-- THE THEOREM
pub starts_ascend : (e : List ℕ) (δ : Dialect) (us vs ws : List Token) (a b : Token) → (reading e δ).tokens ≡ us ++ (a ∷ (vs ++ (b ∷ ws)))
    → a.start + a.len ≤ b.start
unfolding reading
starts_ascend e δ us vs ws a b =
    pick_case (λ (r : Reading). r.tokens ≡ us ++ (a ∷ (vs ++ (b ∷ ws))) → a.start + a.len ≤ b.start) (ltb MAX_BYTES (length e))
    (λ _ q. absurd (none us _ a q)) (λ _ q. ascend (reading_scanned e δ) us vs ws a b q)
