-- Runs and names of macros by themselves, and before other bytes. Assumes nothing.
use Prim.Native.Nat.{ℕ, zero, suc, ◌<◌}
use native.Mathlib.Omega.{arith}
use mathlib.Core.Path.{◌≡◌, refl, sym, ◌∙◌}
use mathlib.Core.Bool.{Bool, true, false, not, ◌&&◌, ◌||◌, false≢true}
use mathlib.Core.List.{List, [], ◌∷◌, ◌++◌}
use lib.ListN.{length, get_or, take, get_or-eq_default}
use lib.Seq.{length-take-le}
use lib.Dec.{eqb, leb}
use borrow.Author.Tests.{eqb-true}
use Rattle.text.specs.Bytes.{byte, pick, upper, digit, initial}
use Rattle.text.specs.Runs.{holds, span}
use Rattle.text.specs.Names.{macro_name, pcd_name}
use Rattle.text.specs.declared.runs.Set.{Set}
use Rattle.text.specs.declared.runs.Set.TheVariants.{Word, Macro, NonZero}
use Rattle.text.proofs.Laws.{macro_fits}

-- a run of a set, and a byte that is not in it
pub span_stops : (k : Set) (w r : List ℕ) → span k w ≡ length w → holds k (get_or r 0 0) ≡ false → span k (w ++ r) ≡ length w
unfolding span
span_stops k [] [] e h = refl
span_stops k [] (b ∷ r) e h = rw h
span_stops k (b ∷ w) r e h = by (holds k b) refl (λ f. span_stops k w r f h)
  where
    by : (x : Bool) → holds k b ≡ x → (span k w ≡ length w → span k (w ++ r) ≡ length w) → span k (b ∷ (w ++ r)) ≡ suc (length w)
    by true q ih = let f : suc (span k w) ≡ suc (length w) = rw q at e in rw (q, ih (omega arith))
    by false q ih = let f : ◌≡◌ {A = ℕ} 0 (suc (length w)) = rw q at e in absurd (omega arith)

-- the first byte of a run is in the set
pub span_first : (k : Set) (w : List ℕ) → 0 < length w → span k w ≡ length w → holds k (get_or w 0 0) ≡ true
unfolding span
span_first k [] l e = absurd (omega arith)
span_first k (b ∷ w) l e = by (holds k b) refl
  where
    by : (x : Bool) → holds k b ≡ x → holds k b ≡ true
    by true q = q
    by false q = let f : ◌≡◌ {A = ℕ} 0 (suc (length w)) = rw q at e in absurd (omega arith)

-- the run at the front of a text, by itself
span_take : (k : Set) (s : List ℕ) → span k (take (span k s) s) ≡ span k s
unfolding span
span_take k [] = refl
span_take k (b ∷ s) = by (holds k b) refl (span_take k s)
  where
    by : (x : Bool) → holds k b ≡ x → span k (take (span k s) s) ≡ span k s
        → span k (take (pick x (suc (span k s)) zero) (b ∷ s)) ≡ pick x (suc (span k s)) zero
    by true q ih = rw (q, ih)
    by false q ih = refl

-- a whole run of a set is one of each larger set
span_wider : (k j : Set) → ((b : ℕ) → holds k b ≡ true → holds j b ≡ true) → (w : List ℕ) → span k w ≡ length w → span j w ≡ length w
unfolding span
span_wider k j h [] e = refl
span_wider k j h (b ∷ w) e = by (holds k b) refl (span_wider k j h w)
  where
    by : (x : Bool) → holds k b ≡ x → (span k w ≡ length w → span j w ≡ length w) → span j (b ∷ w) ≡ suc (length w)
    by true q ih = let f : suc (span k w) ≡ suc (length w) = rw q at e in rw (h b q, ih (omega arith))
    by false q ih = let f : ◌≡◌ {A = ℕ} 0 (suc (length w)) = rw q at e in absurd (omega arith)

-- the first byte of a text that goes on
pub first_byte : (w r : List ℕ) → 0 < length w → get_or (w ++ r) 0 0 ≡ get_or w 0 0
first_byte [] r l = absurd (omega arith)
first_byte (b ∷ w) r l = refl

-- a macro's name starts with a capital letter
pub capital : (s : List ℕ) → 0 < macro_name s → upper (get_or s 0 0) ≡ true
unfolding macro_name
capital s l = by (upper (get_or s 0 0)) refl
  where
    by : (x : Bool) → upper (get_or s 0 0) ≡ x → upper (get_or s 0 0) ≡ true
    by true q = q
    by false q = let f : 0 < 0 = rw q at l in absurd (omega arith)

-- a text that starts with one has a run as its name
taken : (s : List ℕ) → upper (get_or s 0 0) ≡ true → macro_name s ≡ span Macro s
unfolding macro_name
taken s c = rw c

pub name_run : (s : List ℕ) → 0 < macro_name s → macro_name s ≡ span Macro s
name_run s l = taken s (capital s l)

-- the bytes of a macro's name are no zeros, and letters, digits or `_`
not_zero : (b : ℕ) → holds Macro b ≡ true → holds NonZero b ≡ true
not_zero b h = by (eqb b 0) refl
  where
    by : (x : Bool) → eqb b 0 ≡ x → not x ≡ true
    by true q = absurd (false≢true (rw (eqb-true b 0 q) at h))
    by false q = refl

in_word : (b : ℕ) → holds Macro b ≡ true → holds Word b ≡ true
in_word b h = by (leb (byte "A") b && leb b (byte "Z")) (leb (byte "a") b && leb b (byte "z")) (digit b) (eqb b (byte "_")) h
  where
    by : (u l d x : Bool) → (u || (d || x)) ≡ true → (((u || l) || x) || d) ≡ true
    by true l d x e = refl
    by false true d x e = refl
    by false false true true e = refl
    by false false true false e = refl
    by false false false true e = refl
    by false false false false e = e

-- the whole name of a macro is a run
whole_run : (n : List ℕ) → macro_name n ≡ length n → span Macro n ≡ length n
unfolding span
whole_run [] e = refl
whole_run (b ∷ n) e = let l : 0 < macro_name (b ∷ n) = rw e (omega arith) in sym (name_run (b ∷ n) l) ∙ e

pub no_zero : (n : List ℕ) → macro_name n ≡ length n → span NonZero n ≡ length n
no_zero n e = span_wider Macro NonZero not_zero n (whole_run n e)

-- no name of a macro is one of a PCD, which has a dot
pub no_pcd : (n : List ℕ) → macro_name n ≡ length n → pcd_name n ≡ 0
unfolding pcd_name
no_pcd n e =
    let w : span Word n ≡ length n = span_wider Macro Word in_word n (whole_run n e) in
    let d : get_or n (length n) 0 ≡ 0 = get_or-eq_default n 0 (omega arith) in
    rw (w, d) (by (initial (get_or n 0 0)) _)
  where
    by : (x : Bool) (y : ℕ) → pick (x && false) y 0 ≡ 0
    by true y = refl
    by false y = refl

first_taken : (n : ℕ) (s : List ℕ) → 0 < n → get_or (take n s) 0 0 ≡ get_or s 0 0
first_taken zero s l = absurd (omega arith)
first_taken (suc n) [] l = refl
first_taken (suc n) (b ∷ s) l = refl

-- the name at the front of a text, by itself
name_alone : (s : List ℕ) → 0 < macro_name s → macro_name (take (macro_name s) s) ≡ macro_name s
name_alone s l =
    let run : macro_name s ≡ span Macro s = name_run s l in
    let some : 0 < span Macro s = rw run at l in
    rw run (by some)
  where
    by : 0 < span Macro s → macro_name (take (span Macro s) s) ≡ span Macro s
    by some = taken (take (span Macro s) s) (rw (first_taken (span Macro s) s some) (capital s l)) ∙ span_take Macro s

-- it is whole
pub name_length_lem : (s : List ℕ) → length (take (macro_name s) s) ≡ macro_name s
name_length_lem s = length-take-le (macro_name s) s (macro_fits s)

pub name_whole : (s : List ℕ) → 0 < macro_name s → macro_name (take (macro_name s) s) ≡ length (take (macro_name s) s)
name_whole s l = name_alone s l ∙ sym (name_length_lem s)
