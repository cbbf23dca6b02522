-- The invariant of a loop that stores: the stored elements and the rest are the whole. Assumes nothing.
use Prim.Native.Nat.{ℕ, zero, suc, ◌+◌, ◌*◌, ◌/◌, ◌≤◌, ◌<◌}
use native.Mathlib.Omega.{arith}
use native.Mathlib.Numerals.{add-one}
use native.Mathlib.Nat.{add-zero, zero-add, add-suc, suc-add}
use mathlib.Core.Path.{◌≡◌, refl, sym, ap, ◌∙◌}
use mathlib.Core.List.{List, [], ◌∷◌, ◌++◌}
use lib.ListN.{length, get_or, set, take, drop, length-append, drop_of_length-le}
use lib.Seq.{sets, length-sets, drop-cons}
use Rattle.std.proofs.Common.{w64}
use Rattle.std.specs.Int.{to_le_bytes}
use Rattle.text.proofs.Prefixes.{stored_front}
use Rattle.text.specs.Parts.{stored}
use Rattle.text.specs.Numbers.{lowest_bytes}
use Rattle.text.proofs.LowestBytes.{low_length}
use Rattle.datum.specs.Encoding.{terminated, widened}

-- the list l, at first l₀, after storing all of `whole` except `rest`, which goes to index i and on
pub record Storing (whole rest l₀ l : List ℕ) (i : ℕ) : Type 0 where
  pub kept : length l ≡ length l₀
  pub so : stored whole l₀ ≡ sets l i rest

sets_append : (vs rest l : List ℕ) (i : ℕ) → sets l i (vs ++ rest) ≡ sets (sets l i vs) (i + length vs) rest
sets_append [] rest l i = rw add-zero
sets_append (v ∷ vs) rest l i = sets_append vs rest (set l i v) (suc i) ∙ rw (add-suc, suc-add)

module _ {whole left l₀ l l' : List ℕ} {i : ℕ} (vs : List ℕ) (e : l' ≡ sets l i vs) (u : Storing whole left l₀ l i) where
  -- some more elements
  pub onward : {rest : List ℕ} {j : ℕ} → left ≡ vs ++ rest → j ≡ i + length vs → Storing whole rest l₀ l' j
  onward {rest} h k =
      record {
        kept = ap length e ∙ length-sets l i vs ∙ u.kept;
        so = u.so ∙ rw (h, e, k) (sets_append vs rest l i);
      }

  -- the last elements
  pub ended : left ≡ vs → l' ≡ stored whole l₀
  ended h = e ∙ sym (u.so ∙ rw h)

-- the lowest bytes of a number are the first of its eight
low_first : (n m x : ℕ) → n ≤ m → take n (lowest_bytes m x) ≡ lowest_bytes n x
unfolding lowest_bytes
low_first zero m x h = refl
low_first (suc n) zero x h = absurd (omega arith)
low_first (suc n) (suc m) x h = rw (low_first n m (x / 256) (omega arith))

eight_bytes : (x : ℕ) → to_le_bytes w64 x ≡ lowest_bytes 8 x
unfolding lowest_bytes
eight_bytes x = grind arith

pub stored_number : (n x : ℕ) (l : List ℕ) → n ≤ 8 → n ≤ length l → take n (to_le_bytes w64 x) ++ drop n l ≡ stored (lowest_bytes n x) l
stored_number n x l h k =
    let e = low_length n x in
    let f : take n (to_le_bytes w64 x) ≡ lowest_bytes n x = rw (eight_bytes x) (low_first n 8 x h) in
    rw (f, stored_front (lowest_bytes n x) l (omega (arith, e)), e)

-- a string, and the zero after it
pub stored_string : (s l : List ℕ) → length s < length l → set (s ++ drop (length s) l) (length s) 0 ≡ stored (terminated s) l
stored_string s l h = rw (sets_append s (0 ∷ []) l 0, stored_front s l (omega arith), zero-add (length s))

pub string_length : (s : List ℕ) → length (terminated s) ≡ length s + 1
string_length s = length-append s (0 ∷ [])

-- the two bytes of a wide string that are stored next, and the two zeros
pub wide_next : (s : List ℕ) (i : ℕ) → i < length s → widened (drop i s) ≡ get_or s i 0 ∷ 0 ∷ widened (drop (i + 1) s)
unfolding widened
wide_next s i h = rw (add-one, drop-cons s i 0 h)

pub wide_last : (s : List ℕ) (i : ℕ) → length s ≤ i → widened (drop i s) ≡ 0 ∷ 0 ∷ []
unfolding widened
wide_last s i h = rw (drop_of_length-le s h)

pub wide_length : (s : List ℕ) → length (widened s) ≡ 2 * (length s + 1)
unfolding widened
wide_length [] = refl
wide_length (b ∷ s) = omega (arith, wide_length s)
