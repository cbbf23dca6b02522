-- The end of the blanks in a text, and of the name in `$(NAME)`. Assumes nothing.
use Prim.Native.Nat.{ℕ, ◌+◌, ◌-◌, ◌≤◌, ◌<◌}
use native.Mathlib.Omega.{arith}
use mathlib.Core.Path.{◌≡◌, sym}
use mathlib.Core.Bool.{true}
use mathlib.Core.List.{List}
use lib.ListN.{length, get_or, take, drop, length-drop}
use lib.Seq.{get_or-drop}
use lib.Dec.{eqb}
use borrow.Author.Tests.{le-leb, lt-leb}
use Rattle.text.specs.Bytes.{byte}
use Rattle.text.specs.Runs.{span}
use Rattle.text.specs.Names.{macro_name}
use Rattle.text.specs.declared.runs.Set.TheVariants.{Blanks}
use Rattle.text.proofs.Laws.{inside, part_rest, span_fits, macro_fits}
use Rattle.condition.specs.Conditions.{idle}

-- the blanks from a place on go up to `end`
module _ (s : List ℕ) (from : ℕ) {end : ℕ} (to : end ≡ from + span Blanks (drop from s)) where
  pub idle_past : length s ≤ end → idle (drop from s) ≡ true
  unfolding idle
  idle_past h = rw (le-leb (length (drop from s)) (span Blanks (drop from s)) (omega (arith, length-drop from s)))

  pub idle_by_byte : end < length s → idle (drop from s) ≡ eqb (get_or s end 0) (byte "#")
  unfolding idle
  idle_by_byte h = rw (lt-leb (length (drop from s)) (span Blanks (drop from s)) (omega (arith, length-drop from s)), get_or-drop from s, ← to)

-- the blanks at the front go up to `first`
module _ (s : List ℕ) {first : ℕ} (to : first ≡ 0 + span Blanks s) where
  pub blanks_inside : first ≤ length s
  blanks_inside = omega (arith, span_fits Blanks s)

  pub past_blanks : take (length s - first) (drop first s) ≡ drop (span Blanks s) s
  past_blanks = let blanks : first ≡ span Blanks s = omega arith in rw (part_rest, blanks)

-- a text with a parenthesis after its first byte
pub parenthesis_inside : (s : List ℕ) → get_or s 1 0 ≡ byte "(" → 1 < length s
parenthesis_inside s h = inside s 1 (λ z. omega arith)

-- the name after that parenthesis has n bytes
module _ (s : List ℕ) {n : ℕ} (of : n ≡ macro_name (take (length s - 2) (drop 2 s))) where
  pub used_length : macro_name (drop 2 s) ≡ n
  used_length = rw (← part_rest s 2) (sym of)

  pub used_inside : get_or s 1 0 ≡ byte "(" → 2 + n ≤ length s
  used_inside h = omega (arith, used_length, macro_fits (drop 2 s), length-drop 2 s, parenthesis_inside s h)
