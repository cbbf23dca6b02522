-- Bytes and then zeros: their number. Assumes nothing.
use Prim.Native.Nat.{ℕ, ◌≤◌}
use native.Mathlib.Omega.{arith}
use mathlib.Core.Path.{◌≡◌}
use mathlib.Core.List.{List, ◌++◌}
use lib.ListN.{length, replicate, length-append, length-replicate}
use lib.Seq.{length-take-le}
use Rattle.own.specs.Own.{padded}

module _ (n : ℕ) (s : List ℕ) where
  enough : n ≤ length (s ++ replicate n 0)
  enough = omega (arith, length-append s (replicate n 0), length-replicate {A = ℕ} n 0)

  pub padded_length : length (padded n s) ≡ n
  padded_length = length-take-le n (s ++ replicate n 0) enough
