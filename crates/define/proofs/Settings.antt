-- The setting that a number makes, as a record holds it. Assumes nothing.
use Prim.Native.Nat.{ℕ}
use mathlib.Core.Path.{◌≡◌, refl, sym}
use mathlib.Core.List.{List}
use Rattle.text.specs.Numbers.{lowest_bytes}
use Rattle.text.proofs.LowestBytes.{low_length}
use Rattle.own.specs.Own.{padded}
use Rattle.own.specs.Putting.{IsSetting}
use Rattle.define.specs.Define.{of_number}

pub number_setting : (name : List ℕ) (v k : ℕ) (b : List ℕ) → k ≡ 0 → b ≡ padded 56 (lowest_bytes 8 v) → IsSetting (of_number name v) name k 8 b
number_setting name v k b d e = record { its_name = refl; its_kind = sym d; its_length = low_length 8 v; its_content = sym e }
