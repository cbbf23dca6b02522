-- The first PCD that is missing from a token on. Assumes nothing.
use Rattle.std.specs.Prelude.{None}
use Prim.Native.Nat.{ℕ, suc, ◌+◌, ◌-◌, ◌≤◌, ◌<◌}
use native.Mathlib.Omega.{arith}
use mathlib.Core.Path.{◌≡◌}
use mathlib.Core.Bool.{true, false}
use Rattle.units.specs.Leftmost.{there}
use Rattle.token.specs.Tokens.{Token}
use Rattle.value.specs.Places.{Memory}
use Rattle.value.specs.Values.{is_missing_pcd, missing_pcds}
use Rattle.leftmost.specs.Tokens.{tokens_from}
use Rattle.leftmost.specs.Leftmost.{pcd_at}

module _ (m : Memory) (tok : ℕ → Token) (n i : ℕ) where
  -- a PCD that is missing
  pub here : i < n → is_missing_pcd m (tok i) ≡ true → pcd_at m (tokens_from tok i (n - i)) ≡ there (tok i).start
  unfolding missing_pcds tokens_from
  here h b = let e : n - i ≡ suc (n - (i + 1)) = omega arith in rw (e, b)

  -- any other token
  pub on : i < n → is_missing_pcd m (tok i) ≡ false → pcd_at m (tokens_from tok i (n - i)) ≡ pcd_at m (tokens_from tok (i + 1) (n - (i + 1)))
  unfolding missing_pcds tokens_from
  on h b = let e : n - i ≡ suc (n - (i + 1)) = omega arith in rw (e, b)

  -- after the last token
  pub over : n ≤ i → pcd_at m (tokens_from tok i (n - i)) ≡ None
  unfolding missing_pcds tokens_from
  over h = let e : n - i ≡ 0 = omega arith in rw e
