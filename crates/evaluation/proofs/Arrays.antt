-- After a scan the arrays hold the tokens of the list, one after the other. Assumes nothing.
use Rattle.std.specs.Prelude.{Ok}
use Prim.Native.Nat.{ℕ, zero, suc, ◌+◌, ◌≤◌, ◌<◌}
use native.Mathlib.Omega.{arith}
use mathlib.Core.Path.{◌≡◌, refl, sym, ap, ◌∙◌, fun_ext}
use mathlib.Core.Bool.{Bool, true, false}
use mathlib.Core.List.{List, [], ◌∷◌, ◌++◌, map, append_assoc}
use lib.ListN.{length, get_or, drop, length-map, length-append, get_or-eq_default}
use lib.Seq.{sets-eq}
use lib.Dec.{ltb}
use borrow.Author.Tests.{ltb-true, ltb-false}
use Rattle.units.specs.declared.Dialect.{Dialect}
use Rattle.units.specs.declared.Offset.{Offset}
use Rattle.text.specs.Parts.{stored}
use Rattle.token.specs.Tokens.{Token, Reading, reading, Stored}
use Rattle.token.specs.Steps.{Room}
use Rattle.value.specs.Places.{Memory}
use Rattle.expression.specs.Parsing.{token_at}
use Rattle.leftmost.specs.Tokens.{tokens_from}
use Rattle.evaluation.specs.Arrays.{of_arrays}
use Rattle.evaluation.specs.Evaluation.{END_TOKEN, token_in, of_tokens, evaluation_in}

-- one entry of each token, stored in a list with room for all
module _ (f : Token → ℕ) (ts : List Token) (l l' : List ℕ) (fits : length ts ≤ length l) (so : l' ≡ stored (map f ts) l) where
  rest : List ℕ
  rest = drop (0 + length (map f ts)) l

  split : l' ≡ map f ts ++ rest
  unfolding rest
  split = so ∙ sets-eq (map f ts) l 0 (omega (arith, length-map ts f))

  nth : (us : List Token) (r : List ℕ) (i : ℕ) → i < length us → get_or (map f us ++ r) i 0 ≡ f (get_or us i END_TOKEN)
  nth [] r i h = absurd (omega arith)
  nth (u ∷ us) r zero h = refl
  nth (u ∷ us) r (suc i) h = nth us r i (omega arith)

  entry : (i : ℕ) → i < length ts → get_or l' i 0 ≡ f (token_in ts i)
  entry i h = rw split (nth ts rest i h)

module _ (read : Reading) (cs ss ls vs cs' ss' ls' vs' : List ℕ) (so : Stored read cs ss ls vs cs' ss' ls' vs')
    (c : length read.tokens ≤ length cs) (s : length read.tokens ≤ length ss)
    (l : length read.tokens ≤ length ls) (v : length read.tokens ≤ length vs)
  where
    at : (i : ℕ) → token_at cs' ss' ls' vs' (length read.tokens) i ≡ token_in read.tokens i
    at i = by (ltb i (length read.tokens)) refl
      where
        by : (t : Bool) → ltb i (length read.tokens) ≡ t → token_at cs' ss' ls' vs' (length read.tokens) i ≡ token_in read.tokens i
        by true e =
            let h = ltb-true i (length read.tokens) e in
            let code = entry (λ t. t.code) read.tokens cs cs' c so.codes_are i h in
            let start = entry (λ t. t.start) read.tokens ss ss' s so.starts_are i h in
            let len = entry (λ t. t.len) read.tokens ls ls' l so.lens_are i h in
            let value = entry (λ t. t.value) read.tokens vs vs' v so.values_are i h in
            rw (e, code, start, len, value)
        by false e = rw (e, get_or-eq_default read.tokens END_TOKEN (ltb-false i (length read.tokens) e))

    pub tokens_read : token_at cs' ss' ls' vs' (length read.tokens) ≡ token_in read.tokens
    tokens_read = fun_ext at

get_d_at : (us : List Token) (t : Token) (ts : List Token) → get_or (us ++ (t ∷ ts)) (length us) END_TOKEN ≡ t
get_d_at [] t ts = refl
get_d_at (u ∷ us) t ts = get_d_at us t ts

-- the tokens of a list, read one after the other
from_list : (us ts : List Token) → tokens_from (token_in (us ++ ts)) (length us) (length ts) ≡ ts
unfolding tokens_from
from_list us [] = refl
from_list us (t ∷ ts) =
    let all : List Token = us ++ (t ∷ ts) in
    let past : List Token = us ++ (t ∷ []) in
    let here : token_in all (length us) ≡ t = get_d_at us t ts in
    let more : all ≡ past ++ ts = sym (append_assoc us (t ∷ []) ts) in
    let long : length us + 1 ≡ length past = sym (length-append us (t ∷ [])) in
    let moved = ap (λ (l : List Token). tokens_from (token_in l) (length us + 1) (length ts)) more in
    let shifted = ap (λ (k : ℕ). tokens_from (token_in (past ++ ts)) k (length ts)) long in
    let rest = tokens_from (token_in all) (length us + 1) (length ts) in
    ap (λ (u : Token). u ∷ rest) here ∙ ap (λ (l : List Token). t ∷ l) (moved ∙ shifted ∙ from_list past ts)

module _ (m : Memory) (δ : Dialect) {cs₀ ss₀ ls₀ vs₀ cs ss ls vs : List ℕ} (so : Stored (reading m.expression δ) cs₀ ss₀ ls₀ vs₀ cs ss ls vs)
    (room : Room (reading m.expression δ) cs₀ ss₀ ls₀ vs₀)
  where
    abbrev read : Reading
    read = reading m.expression δ

    -- if reading met no refusal, the answer to the arrays is the answer to the expression
    pub answers : (n : ℕ) (end : Offset) → n ≡ length read.tokens → read.ending ≡ Ok end
        → of_arrays m (token_at cs ss ls vs n) n end.0 δ ≡ evaluation_in m δ
    unfolding evaluation_in of_tokens
    answers n end c y =
        let read_all = tokens_read read cs₀ ss₀ ls₀ vs₀ cs ss ls vs so room.codes_hold room.starts_hold room.lens_hold room.values_hold in
        let tokens : token_at cs ss ls vs n ≡ token_in read.tokens = rw c read_all in
        ap (λ (tok : ℕ → Token). of_arrays m tok n end.0 δ) tokens ∙ rw (c, y, from_list [] read.tokens)
