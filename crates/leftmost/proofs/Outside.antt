-- The first bar outside parentheses from a token on. Assumes nothing.
use Rattle.std.specs.Prelude.{None}
use Prim.Native.Nat.{ℕ, suc, ◌+◌, ◌-◌, ◌≤◌, ◌<◌}
use native.Mathlib.Omega.{arith}
use mathlib.Core.Path.{◌≡◌}
use mathlib.Core.Bool.{Bool, true, false, ◌&&◌}
use lib.Dec.{eqb}
use Rattle.units.specs.Leftmost.{there}
use Rattle.text.specs.Bytes.{pick}
use Rattle.token.specs.Tokens.{Token, first_place}
use Rattle.grammar.specs.Bars.{is_bar, deeper, bars_outside}
use Rattle.expression.specs.Meaning.{code_of}
use Rattle.leftmost.specs.Tokens.{tokens_from}

module _ (tok : ℕ → Token) (n i depth : ℕ) where
  -- a bar where no parenthesis is open
  pub here : i < n → (is_bar (code_of (tok i)) && eqb depth 0) ≡ true
      → first_place (bars_outside code_of depth (tokens_from tok i (n - i))) ≡ there (tok i).start
  unfolding bars_outside tokens_from
  here h b = let e : n - i ≡ suc (n - (i + 1)) = omega arith in rw (e, b)

  -- any other token
  pub on : i < n → (is_bar (code_of (tok i)) && eqb depth 0) ≡ false
      → first_place (bars_outside code_of depth (tokens_from tok i (n - i)))
      ≡ first_place (bars_outside code_of (deeper depth (code_of (tok i))) (tokens_from tok (i + 1) (n - (i + 1))))
  unfolding bars_outside tokens_from
  on h b = let e : n - i ≡ suc (n - (i + 1)) = omega arith in rw (e, b)

  -- after the last token
  pub over : n ≤ i → first_place (bars_outside code_of depth (tokens_from tok i (n - i))) ≡ None
  unfolding bars_outside tokens_from
  over h = let e : n - i ≡ 0 = omega arith in rw e

-- at most one more open parenthesis
pub deeper_most : (depth c : ℕ) → deeper depth c ≤ depth + 1
deeper_most depth c = by (eqb c 10) (eqb c 11)
  where
    by : (s t : Bool) → pick s (depth + 1) (pick t (depth - 1) depth) ≤ depth + 1
    by true t = omega arith
    by false true = omega arith
    by false false = omega arith
