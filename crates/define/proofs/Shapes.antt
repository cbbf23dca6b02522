-- The shape of a DEFINE line, test by test. Assumes nothing.
use Prim.Native.Nat.{ℕ, ◌+◌, ◌≤◌, ◌<◌}
use native.Mathlib.Omega.{arith}
use mathlib.Core.Path.{◌≡◌, refl}
use mathlib.Core.Bool.{Bool, true, false, ◌&&◌, false≢true}
use mathlib.Core.List.{List}
use lib.ListN.{length, get_or}
use borrow.Author.Tests.{lt-ltb, le-leb, lt-leb, eq-eqb, ne_eqb}
use Rattle.text.specs.Bytes.{byte, blank}
use Rattle.text.specs.declared.runs.Set.TheVariants.{Blanks}
use Rattle.text.proofs.Laws.{inside, span_fits, span_fits_at, part_rest}
use Rattle.define.specs.Define.{after_word, name_start, name_length, equals_at, shaped}
use Rattle.define.specs.Settling.{Split}
use Rattle.define.specs.declared.shape.Parts.{Parts}

and_false : (a : Bool) → (a && false) ≡ false
and_false true = refl
and_false false = refl

module _ (l : List ℕ) where
  pub unspaced : blank (get_or l (after_word l) 0) ≡ false → shaped l ≡ false
  unfolding shaped
  unspaced e = rw e

  pub unnamed : name_length l ≡ 0 → shaped l ≡ false
  unfolding shaped
  unnamed e = rw e (and_false (blank (get_or l (after_word l) 0)))

  pub long_name : 64 < name_length l → shaped l ≡ false
  unfolding shaped
  long_name h = rw (lt-leb (name_length l) 64 h, and_false) (and_false (blank (get_or l (after_word l) 0)))

  pub no_equals : (get_or l (equals_at l) 0 ≡ byte "=" → ⊥) → shaped l ≡ false
  unfolding shaped
  no_equals h = rw (ne_eqb (get_or l (equals_at l) 0) (byte "=") h, and_false, and_false) (and_false (blank (get_or l (after_word l) 0)))

  pub is_shaped : blank (get_or l (after_word l) 0) ≡ true → 0 < name_length l → name_length l ≤ 64 → get_or l (equals_at l) 0 ≡ byte "=" → shaped l ≡ true
  unfolding shaped
  is_shaped a b c d = rw (a, lt-ltb 0 (name_length l) b, le-leb (name_length l) 64 c, eq-eqb (get_or l (equals_at l) 0) (byte "=") d)

  -- the places are within the line
  pub after_inside : blank (get_or l (after_word l) 0) ≡ true → after_word l < length l
  after_inside e = inside l (after_word l) (λ z. false≢true (rw z at e))

  pub start_inside : blank (get_or l (after_word l) 0) ≡ true → name_start l ≤ length l
  start_inside e = span_fits_at Blanks l (after_word l) (omega (arith, after_inside e))

  pub equals_inside : get_or l (equals_at l) 0 ≡ byte "=" → equals_at l < length l
  equals_inside e = inside l (equals_at l) (λ z. omega (arith, e, z))

  -- the parts of a line that passes every test
  pub is_split : (r : Parts) → blank (get_or l (after_word l) 0) ≡ true → r.name.0 ≡ name_start l → r.len ≡ name_length l → 0 < r.len → r.len ≤ 64
      → get_or l (equals_at l) 0 ≡ byte "=" → r.text.0 ≡ equals_at l + 1 → Split l r
  is_split r a b c d e f g =
      record {
        shape = is_shaped a (omega (arith, c, d)) (omega (arith, c, e)) f;
        name = b;
        name_long = c;
        text = g;
        within = omega (arith, g, equals_inside f);
      }

-- what each test of the code says of the shape, and that the places are within the line
pub ruleset shape_tests = (unspaced, unnamed, long_name, no_equals, start_inside, equals_inside, span_fits, part_rest)
