-- The number of lines of a file, by its LFs. Assumes nothing.
use Prim.Native.Nat.{ℕ, zero, suc, ◌+◌, ◌-◌, ◌<◌}
use native.Mathlib.Omega.{arith}
use native.Mathlib.Nat.{zero-add}
use mathlib.Core.Path.{◌≡◌, refl, sym, ◌∙◌}
use mathlib.Core.Bool.{Bool, true, false, not, ◌&&◌, false≢true}
use mathlib.Core.List.{List, [], ◌∷◌}
use lib.ListN.{length, get_or}
use lib.Dec.{eqb}
use borrow.Author.Tests.{lt-ltb}
use Rattle.text.specs.Bytes.{byte, pick}
use Rattle.line.specs.Lines.{onto, ends_line, lines}
use Rattle.line.specs.Cutting.{opened}
use Rattle.std.specs.List.{count_by, slice_get}
use Rattle.std.proofs.Common.{Some, None}
use Rattle.std.proofs.lemmas.Option.{none-some, slice_get-get_or, slice_get_within, get_or_from_slice_get}
use Rattle.std.proofs.lemmas.List.Sums.{sum_by-cons}
use Rattle.std.specs.Prelude.{cond}

-- the number of lines if k follow: one more if a line has begun and has not ended
abbrev pub joined : Bool → ℕ → ℕ
joined false k = k
joined true zero = 1
joined true (suc k) = suc k

joined_once : (u : Bool) (k : ℕ) → joined u (joined true k) ≡ joined true k
joined_once false k = refl
joined_once true zero = refl
joined_once true (suc k) = refl

joined_some : (u : Bool) (k : ℕ) → joined u (suc k) ≡ suc k
joined_some false k = refl
joined_some true k = refl

onto_joins : (b : ℕ) (ls : List (List ℕ)) → length (onto b ls) ≡ joined true (length ls)
unfolding onto
onto_joins b [] = refl
onto_joins b (l ∷ ls) = refl

ends_joined : (u : Bool) (s : List ℕ) → ends_line s ≡ true → joined u (length (lines s)) ≡ joined true (length (lines s))
unfolding ends_line lines
ends_joined u [] h = absurd (false≢true h)
ends_joined u (c ∷ s) h = rw h (joined_some u (length (lines s)))

-- a byte that is no LF begins a line or continues one
goes_on : (u : Bool) (b : ℕ) (s : List ℕ) → eqb b (byte "\n") ≡ false → joined u (length (lines (b ∷ s))) ≡ joined true (length (lines s))
unfolding lines
goes_on u b s e = rw e (by (eqb b (byte "\r")) (ends_line s) refl)
  where
    by : (t v : Bool) → ends_line s ≡ v → joined u (length (pick (t && v) (lines s) (onto b (lines s)))) ≡ joined true (length (lines s))
    by true true h = ends_joined u s h
    by true false h = rw (onto_joins b (lines s)) (joined_once u (length (lines s)))
    by false v h = rw (onto_joins b (lines s)) (joined_once u (length (lines s)))

-- whether a line is open after a text, where it was or was not before it
open_after : Bool → List ℕ → Bool
open_after u [] = u
open_after u (b ∷ s) = open_after (not (eqb b (byte "\n"))) s

-- the lines that have begun before a text or begin in it: one for each LF, and one that is open after it
counted : (u : Bool) (s : List ℕ) → joined u (length (lines s)) ≡ count_by (λ b. eqb b (byte "\n")) s + cond (open_after u s) 1 0
unfolding lines open_after
counted false [] = refl
counted true [] = refl
counted u (b ∷ s) = by (eqb b (byte "\n")) refl (counted false s) (counted true s)
  where
    by : (t : Bool) → eqb b (byte "\n") ≡ t
        → joined false (length (lines s)) ≡ count_by (λ c. eqb c (byte "\n")) s + cond (open_after false s) 1 0
        → joined true (length (lines s)) ≡ count_by (λ c. eqb c (byte "\n")) s + cond (open_after true s) 1 0
        → joined u (length (lines (b ∷ s))) ≡ count_by (λ c. eqb c (byte "\n")) (b ∷ s) + cond (open_after u (b ∷ s)) 1 0
    by true e f g = rw (sum_by-cons (λ c. cond (eqb c (byte "\n")) 1 0) b s, e) (joined_some u (length (lines s)) ∙ rw f (omega arith))
    by false e f g = rw (sum_by-cons (λ c. cond (eqb c (byte "\n")) 1 0) b s) (goes_on u b s e ∙ (g ∙ rw (e, zero-add)))

-- a line is open after a text that is not empty if its last byte is no LF
last_opens : (u : Bool) (b : ℕ) (s : List ℕ) → open_after u (b ∷ s) ≡ not (eqb (get_or (b ∷ s) (length s) 0) (byte "\n"))
unfolding open_after
last_opens u b [] = refl
last_opens u b (c ∷ s) = last_opens (not (eqb b (byte "\n"))) c s

open_last : (s : List ℕ) → open_after false s ≡ opened s (length s)
unfolding opened open_after
open_last [] = refl
open_last (b ∷ s) = let e : suc (length s) - 1 ≡ length s = omega arith in rw (lt-ltb 0 (suc (length s)) (omega arith), e, last_opens false b s)

-- the number of lines: the LFs, and the line that is open at the end
pub line_count : (s : List ℕ) → length (lines s) ≡ count_by (λ b. eqb b (byte "\n")) s + cond (opened s (length s)) 1 0
line_count s = counted false s ∙ rw (open_last s)

-- the last byte of a text tells whether a line is open
pub opened_some : (s : List ℕ) (b : ℕ) → slice_get s (length s - 1) ≡ Some b → opened s (length s) ≡ not (eqb b (byte "\n"))
unfolding opened
opened_some s b e =
    let h : 0 < length s = omega (arith, slice_get_within s (length s - 1) b e) in
    rw (lt-ltb 0 (length s) h, get_or_from_slice_get s (length s - 1) b 0 e)

pub opened_none : (s : List ℕ) → slice_get s (length s - 1) ≡ None → opened s (length s) ≡ false
unfolding opened
opened_none [] e = refl
opened_none (b ∷ s) e = absurd (none-some _ (sym e ∙ slice_get-get_or (b ∷ s) (length (b ∷ s) - 1) 0 (omega arith)))

pub none_counted : (s : List ℕ) → length s ≡ 0 → count_by (λ b. eqb b (byte "\n")) s ≡ 0
none_counted [] h = refl
none_counted (b ∷ s) h = absurd (omega arith)
