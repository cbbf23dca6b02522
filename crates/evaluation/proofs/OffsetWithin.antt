-- The offset of a refusal is within the expression: it is a token's place, or the place where reading ended. Assumes nothing.
use Rattle.std.specs.Prelude.{Err, None, Ok, Option, Result, Some}
use Prim.Native.Nat.{ℕ, zero, suc, ◌≤◌}
use native.Mathlib.Omega.{arith}
use mathlib.Core.Path.{◌≡◌, refl}
use mathlib.Core.Bool.{◌&&◌}
use mathlib.Core.List.{List, [], ◌∷◌, ◌++◌, Memᴰ}
use lib.ListN.{length}
use lib.Dec.{eqb, ltb}
use Rattle.units.specs.declared.Dialect.{Dialect}
use Rattle.units.specs.declared.Offset.{Offset}
use Rattle.units.specs.declared.Reason.{Reason}
use Rattle.units.specs.declared.Reason.TheVariants.{BarOutside, PcdMissing, KindsUnsuited}
use Rattle.units.specs.declared.Refusal.{Refusal}
use Rattle.text.proofs.Laws.{pick_case}
use Rattle.token.specs.Tokens.{Token, first_place, reading}
use Rattle.token.proofs.Within.{Within, tokens_in}
use Rattle.token.proofs.Endings.{every_ending}
use Rattle.grammar.specs.Bars.{is_bar, deeper, bars_outside}
use Rattle.grammar.specs.Parse.{Outcome, refused as underived, accepted, parse}
use Rattle.grammar.proofs.Decided.{evaluates}
use Rattle.grammar.proofs.Preserved.{Preserves, preserved}
use Rattle.value.specs.Places.{Memory}
use Rattle.value.specs.Values.{Value, number, text, fault, is_missing_pcd, missing_pcds}
use Rattle.value.specs.Attributes.{Attributes}
use Rattle.value.specs.declared.Kind.{Kind}
use Rattle.value.specs.declared.Kind.TheVariants.{Number, String, Wide, Clash}
use Rattle.soundness.proofs.PlacesWithin.{KindIn, ValueIn, PlacesIn, primary_places, unary_places, binary_places, choice_places}
use Rattle.expression.specs.Meaning.{code_of, meaning}
use Rattle.leftmost.specs.Leftmost.{bar_at, pcd_at}
use Rattle.evaluation.specs.Evaluation.{Evaluation, refused, offset_of, answer_value, clash_in, refused_or, check_then_answer}
use Rattle.evaluation.specs.Evaluation.{token_in, start_in, answer_tokens, of_tokens, ended, evaluation_in}
use Rattle.evaluation.proofs.FromTree.{tokens_read}

abbrev AllIn : ℕ → List Token → Type 0
AllIn n ts = (k : Token) → Memᴰ k ts → Within n k

-- a place, and an ending, at one of n bytes or after them
abbrev PlaceIn : ℕ → Option Offset → Type 0
PlaceIn n None = Unit
PlaceIn n (Some o) = o.0 ≤ n

abbrev EndsIn : ℕ → Result Offset Refusal → Type 0
EndsIn n (Ok end) = end.0 ≤ n
EndsIn n (Err r) = r.offset.0 ≤ n

ends_in : (e : List ℕ) (δ : Dialect) → EndsIn (length e) (reading e δ).ending
ends_in e δ =
    every_ending e δ (EndsIn (length e))
    (record { complete = λ at h. h; bad = λ at h q s r w. h; many = λ at h. h; deep = λ at h. h; long = omega arith })

-- tokens of a list
module _ (n : ℕ) where
  token_in_lem : (ts : List Token) → AllIn n ts → (i : ℕ) → (token_in ts i).start ≤ n
  token_in_lem [] all i = omega arith
  token_in_lem (t ∷ ts) all zero = omega (arith, (all t (Memᴰ.head refl)).ends)
  token_in_lem (t ∷ ts) all (suc i) = token_in_lem ts (λ k m. all k (Memᴰ.tail m)) i

  bars_in : (depth : ℕ) (ts : List Token) → AllIn n ts → PlaceIn n (first_place (bars_outside code_of depth ts))
  unfolding bars_outside
  bars_in depth [] all = tt
  bars_in depth (t ∷ ts) all =
      let rest : List Token = bars_outside code_of (deeper depth (code_of t)) ts in
      pick_case (λ (ks : List Token). PlaceIn n (first_place (ks ++ rest))) (is_bar (code_of t) && eqb depth 0)
      (λ _. omega (arith, (all t (Memᴰ.head refl)).ends)) (λ _. bars_in (deeper depth (code_of t)) ts (λ k m. all k (Memᴰ.tail m)))

  pcds_in : (m : Memory) (ts : List Token) → AllIn n ts → PlaceIn n (pcd_at m ts)
  unfolding missing_pcds
  pcds_in m [] all = tt
  pcds_in m (t ∷ ts) all =
      pick_case (λ (ks : List Token). PlaceIn n (first_place (ks ++ missing_pcds m ts))) (is_missing_pcd m t)
      (λ _. omega (arith, (all t (Memᴰ.head refl)).ends)) (λ _. pcds_in m ts (λ k i. all k (Memᴰ.tail i)))

  -- answers
  abbrev OffsetIn : Evaluation → Type 0
  OffsetIn x = offset_of x ≤ n

  value_in : (v : Value) (c : ℕ) → ValueIn n v → OffsetIn (answer_value v c)
  value_in (number x) c h = omega arith
  value_in (text k p s) c h = omega arith
  value_in (fault f) c h = h

  clash_in_lem : (k : Kind) → KindIn n k → PlaceIn n (clash_in k)
  clash_in_lem Number h = tt
  clash_in_lem String h = tt
  clash_in_lem Wide h = tt
  clash_in_lem (Clash p) h = h

  or_in : (w : Option Offset) (r : Reason) (x : Evaluation) → PlaceIn n w → OffsetIn x → OffsetIn (refused_or w r x)
  or_in None r x p h = h
  or_in (Some o) r x p h = p

  check_then_answer_in : (bar pcd : Option Offset) (a : Attributes) → PlaceIn n bar → PlaceIn n pcd → PlacesIn n a → OffsetIn (check_then_answer bar pcd a)
  check_then_answer_in bar pcd a p q h =
      or_in bar BarOutside _ p (or_in pcd PcdMissing _ q (or_in (clash_in a.kind) KindsUnsuited _ (clash_in_lem a.kind h.0) (value_in a.value a.count h.1)))

module _ (m : Memory) (δ : Dialect) where
  abbrev n : ℕ
  n = length m.expression

  abbrev read : List Token
  read = (reading m.expression δ).tokens

  all_in : AllIn n read
  all_in = tokens_in m.expression δ

  preserves : Preserves (meaning m) (Within n) (PlacesIn n)
  preserves =
      record {
        leaf = λ k _. primary_places n m k;
        unary = λ o a w h. unary_places n o a (omega (arith, w.ends)) h;
        binary = λ o a b w h i. binary_places n o a b (omega (arith, w.ends)) h i;
        choice = λ q c a b w h i j. choice_places n q c a b (omega (arith, w.ends)) h i j;
      }

  bar_in : PlaceIn n (bar_at read δ)
  bar_in = pick_case (PlaceIn n) δ.bars (λ _. tt) (λ _. bars_in n 0 read all_in)

  tokens_within : (end : ℕ) → end ≤ n → (o : Outcome Attributes) → parse code_of (meaning m) (token_in read) (length read) ≡ o
      → OffsetIn n (answer_tokens (start_in read end) (bar_at read δ) (pcd_at m read) o)
  tokens_within end h (underived i) p = pick_case (λ k. k ≤ n) (ltb i (length read)) (λ _. token_in_lem n read all_in i) (λ _. h)
  tokens_within end h (accepted a) p =
      let r = ((evaluates (tokens_read m δ) (meaning m)).accepted_exactly a).0 p in
      let places : PlacesIn n a = rw r.2 (preserved code_of preserves r.1 all_in) in
      check_then_answer_in n (bar_at read δ) (pcd_at m read) a bar_in (pcds_in n m read all_in) places

  pub answer_within : offset_of (evaluation_in m δ) ≤ n
  unfolding evaluation_in of_tokens
  answer_within = by (reading m.expression δ).ending (ends_in m.expression δ)
    where
      by : (x : Result Offset Refusal) → EndsIn n x → OffsetIn n (ended x (λ end. of_tokens m read end δ))
      by (Err r) h = h
      by (Ok end) h = tokens_within end.0 h (parse code_of (meaning m) (token_in read) (length read)) refl

pub offset_within : (m : Memory) (δ : Dialect) (r : Refusal) → evaluation_in m δ ≡ refused r → r.offset.0 ≤ length m.expression
offset_within m δ r e = rw e at (answer_within m δ)
