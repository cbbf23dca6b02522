-- Blanks, words and names of macros before other bytes, and a text cut at a place. Assumes nothing.
use Prim.Native.Nat.{ℕ, zero, suc, ◌+◌, ◌≤◌, ◌<◌}
use native.Mathlib.Omega.{arith}
use mathlib.Core.Path.{◌≡◌, refl, sym, ap, ◌∙◌}
use mathlib.Core.Bool.{Bool, true, false, false≢true}
use mathlib.Core.List.{List, [], ◌∷◌, ◌++◌}
use lib.ListN.{length, get_or, take, drop, take-append-drop}
use lib.Seq.{drop_at, drop-drop, get_or-drop}
use lib.Dec.{eqb}
use borrow.Author.Tests.{eqb-true}
use Rattle.text.specs.Bytes.{byte, pick, upper, blank}
use Rattle.text.specs.Runs.{holds, span}
use Rattle.text.specs.Names.{macro_name}
use Rattle.text.specs.declared.runs.Set.TheVariants.{Blanks, Word, Macro}
use Rattle.text.proofs.NameRuns.{span_stops, first_byte, capital, name_run}
use Rattle.define.specs.Lines.{AllBlank, EndsWord}

-- a text from a place on, after one more piece
pub rest_after : (l a r : List ℕ) (p n : ℕ) → drop p l ≡ a ++ r → length a ≡ n → drop (p + n) l ≡ r
rest_after l a r p n e k = sym (drop-drop n p l) ∙ ap (drop n) e ∙ drop_at a r n k

pub first_at : (l r : List ℕ) (p : ℕ) → drop p l ≡ r → get_or l p 0 ≡ get_or r 0 0
first_at l r p e = let z : p + 0 ≡ p = omega arith in sym (get_or-drop p l 0 0 ∙ rw z) ∙ ap (λ s. get_or s 0 0) e

-- a piece of n bytes, and the rest
pub piece : (l : List ℕ) (p n : ℕ) → drop p l ≡ take n (drop p l) ++ drop (p + n) l
piece l p n = sym (take-append-drop n (drop p l)) ∙ ap (λ s. take n (drop p l) ++ s) (drop-drop n p l)

-- blanks are a run of them
pub blank_run : (b : List ℕ) → AllBlank b → span Blanks b ≡ length b
unfolding span
blank_run [] h = refl
blank_run (x ∷ b) h = rw (h.0, blank_run b h.1)

-- the run of blanks at the front of a text
pub run_blank : (s : List ℕ) → AllBlank (take (span Blanks s) s)
unfolding span
run_blank [] = tt
run_blank (x ∷ s) = by (blank x) refl (run_blank s)
  where
    by : (t : Bool) → blank x ≡ t → AllBlank (take (span Blanks s) s) → AllBlank (take (pick t (suc (span Blanks s)) zero) (x ∷ s))
    by true q h = (q, h)
    by false q h = tt

-- the first of some blanks
pub some_blank : (b : List ℕ) → 1 ≤ length b → AllBlank b → blank (get_or b 0 0) ≡ true
some_blank [] l h = absurd (omega arith)
some_blank (x ∷ b) l h = h.0

-- a blank is a space or a tab
pub blank_case : (P : ℕ → Type 0) → P (byte " ") → P (byte "\t") → (b : ℕ) → blank b ≡ true → P b
blank_case P p q b h = by (eqb b (byte " ")) (eqb b (byte "\t")) refl refl
  where
    by : (x y : Bool) → eqb b (byte " ") ≡ x → eqb b (byte "\t") ≡ y → P b
    by true y e f = rw (eqb-true b (byte " ") e) p
    by false true e f = rw (eqb-true b (byte "\t") f) q
    by false false e f = absurd (false≢true (rw (e, f) at h))

-- and no letter
pub no_blank : (b : ℕ) → upper b ≡ true → holds Blanks b ≡ false
no_blank b c = by (blank b) refl
  where
    by : (x : Bool) → blank b ≡ x → blank b ≡ false
    by true e = absurd (false≢true (sym (blank_case (λ y. upper y ≡ false) refl refl b e) ∙ c))
    by false e = e

-- a word, and the end of one
pub ends_word : (r : List ℕ) → EndsWord r → holds Word (get_or r 0 0) ≡ false
ends_word [] h = refl
ends_word (x ∷ r) h = h

pub word_ends : (s : List ℕ) → EndsWord (drop (span Word s) s)
unfolding span
word_ends [] = tt
word_ends (x ∷ s) = by (holds Word x) refl (word_ends s)
  where
    by : (t : Bool) → holds Word x ≡ t → EndsWord (drop (span Word s) s) → EndsWord (drop (pick t (suc (span Word s)) zero) (x ∷ s))
    by true q h = h
    by false q h = q

-- blanks end one
pub blanks_end : (b s : List ℕ) → 1 ≤ length b → AllBlank b → EndsWord (b ++ s)
blanks_end [] s l h = absurd (omega arith)
blanks_end (x ∷ b) s l h = blank_case (λ y. holds Word y ≡ false) refl refl x h.0

-- a name, and a byte that belongs to none
pub name_before : (w r : List ℕ) → 0 < length w → macro_name w ≡ length w → holds Macro (get_or r 0 0) ≡ false → macro_name (w ++ r) ≡ length w
unfolding macro_name
name_before w r l whole h =
    let some : 0 < macro_name w = rw whole l in
    let run : span Macro w ≡ length w = sym (name_run w some) ∙ whole in
    rw (first_byte w r l, capital w some) (span_stops Macro w r run h)

-- blanks, or none, and then the `=`, end a name
pub equals_ends : (b e : List ℕ) → AllBlank b → holds Macro (get_or (b ++ (byte "=" ∷ e)) 0 0) ≡ false
equals_ends [] e h = refl
equals_ends (x ∷ b) e h = blank_case (λ y. holds Macro y ≡ false) refl refl x h.0
