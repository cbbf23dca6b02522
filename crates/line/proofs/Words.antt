-- Words compared by their length first, and the start of the text after a word. Assumes nothing.
use Prim.Native.Nat.{ℕ, ◌+◌, ◌-◌, ◌≤◌, ◌<◌}
use native.Mathlib.Omega.{arith}
use mathlib.Core.Path.{◌≡◌, refl, ◌∙◌}
use mathlib.Core.List.{List}
use mathlib.Core.Bool.{Bool, true, false, ◌&&◌}
use lib.ListN.{length, get_or, take, drop}
use lib.Dec.{eqb}
use borrow.Author.Tests.{eqb-true, eq-eqb, ne_eqb}
use Rattle.text.specs.Bytes.{byte, bytes, pick}
use Rattle.text.specs.Runs.{span}
use Rattle.text.specs.declared.runs.Set.TheVariants.{Blanks, Letters}
use Rattle.text.proofs.Laws.{inside, span_fits_at}
use Rattle.text.proofs.Compared.{has_bytes, equal_reads}
use Rattle.line.specs.Directives.{words, named, word_start, text_start, directive_of}
use Rattle.line.specs.declared.Directive.{Directive}
use Rattle.line.specs.declared.Directive.TheVariants.{Plain, If, Ifdef, Ifndef, Elseif, Else, Endif, Unknown}

-- the directive of a word of n bytes, by its bytes
abbrev pub reads : ℕ → List ℕ → Directive
reads n w =
    pick (eqb n 7) (pick (has_bytes w 0 (bytes "include")) Plain Unknown)
    (pick (eqb n 6) (pick (has_bytes w 0 (bytes "ifndef")) Ifndef (pick (has_bytes w 0 (bytes "elseif")) Elseif Unknown))
    (pick (eqb n 5) (pick (has_bytes w 0 (bytes "ifdef")) Ifdef
    (pick (has_bytes w 0 (bytes "endif")) Endif (pick (has_bytes w 0 (bytes "error")) Plain Unknown)))
    (pick (eqb n 4) (pick (has_bytes w 0 (bytes "elif")) Elseif (pick (has_bytes w 0 (bytes "else")) Else Unknown))
    (pick (eqb n 2) (pick (has_bytes w 0 (bytes "if")) If Unknown)
    Unknown))))

module _ (w : List ℕ) where
  named_long : named words w
      ≡ pick (eqb (length w) 2 && has_bytes w 0 (bytes "if")) If
      (pick (eqb (length w) 5 && has_bytes w 0 (bytes "ifdef")) Ifdef
      (pick (eqb (length w) 6 && has_bytes w 0 (bytes "ifndef")) Ifndef
      (pick (eqb (length w) 6 && has_bytes w 0 (bytes "elseif")) Elseif
      (pick (eqb (length w) 4 && has_bytes w 0 (bytes "elif")) Elseif
      (pick (eqb (length w) 4 && has_bytes w 0 (bytes "else")) Else
      (pick (eqb (length w) 5 && has_bytes w 0 (bytes "endif")) Endif
      (pick (eqb (length w) 7 && has_bytes w 0 (bytes "include")) Plain
      (pick (eqb (length w) 5 && has_bytes w 0 (bytes "error")) Plain Unknown))))))))
  unfolding named
  named_long = rw (
    equal_reads w (bytes "if"),
    equal_reads w (bytes "ifdef"),
    equal_reads w (bytes "ifndef"),
    equal_reads w (bytes "elseif"),
    equal_reads w (bytes "elif"),
    equal_reads w (bytes "else"),
    equal_reads w (bytes "endif"),
    equal_reads w (bytes "include"),
    equal_reads w (bytes "error"),
  )

-- a word is looked up among the words of its length
pub named_reads : (w : List ℕ) → named words w ≡ reads (length w) w
named_reads w = named_long w ∙ by (length w)
    (eqb (length w) 2) refl (eqb (length w) 4) refl (eqb (length w) 5) refl (eqb (length w) 6) refl (eqb (length w) 7) refl
  where
    by : (n : ℕ) → (a : Bool) → eqb n 2 ≡ a → (b : Bool) → eqb n 4 ≡ b → (c : Bool) → eqb n 5 ≡ c → (d : Bool) → eqb n 6 ≡ d → (e : Bool) → eqb n 7 ≡ e
        → pick (eqb n 2 && has_bytes w 0 (bytes "if")) If
        (pick (eqb n 5 && has_bytes w 0 (bytes "ifdef")) Ifdef
        (pick (eqb n 6 && has_bytes w 0 (bytes "ifndef")) Ifndef
        (pick (eqb n 6 && has_bytes w 0 (bytes "elseif")) Elseif
        (pick (eqb n 4 && has_bytes w 0 (bytes "elif")) Elseif
        (pick (eqb n 4 && has_bytes w 0 (bytes "else")) Else
        (pick (eqb n 5 && has_bytes w 0 (bytes "endif")) Endif
        (pick (eqb n 7 && has_bytes w 0 (bytes "include")) Plain
        (pick (eqb n 5 && has_bytes w 0 (bytes "error")) Plain Unknown))))))))
        ≡ reads n w
    by n true ha b hb c hc d hd e he = let l : n ≡ 2 = eqb-true _ _ ha in rw l
    by n false ha true hb c hc d hd e he = let l : n ≡ 4 = eqb-true _ _ hb in rw l
    by n false ha false hb true hc d hd e he = let l : n ≡ 5 = eqb-true _ _ hc in rw l
    by n false ha false hb false hc true hd e he = let l : n ≡ 6 = eqb-true _ _ hd in rw l
    by n false ha false hb false hc false hd true he = let l : n ≡ 7 = eqb-true _ _ he in rw l
    by n false ha false hb false hc false hd false he = rw (ha, hb, hc, hd, he)

-- a line whose first byte that is no blank is at `first`
module _ (l : List ℕ) {first : ℕ} (at : first ≡ 0 + span Blanks l) where
  blanks : span Blanks l ≡ first
  blanks = omega arith

  word_start_lem : word_start l ≡ first + 1
  unfolding word_start
  word_start_lem = rw blanks

  pub bang_inside : get_or l first 0 ≡ byte "!" → first < length l
  bang_inside h = inside l first (λ z. omega arith)

  pub plain_line : (get_or l first 0 ≡ byte "!" → ⊥) → directive_of l ≡ Plain
  unfolding directive_of
  plain_line h = rw (blanks, ne_eqb _ _ h)

  -- the letters after that byte go up to `after`
  module _ {after : ℕ} (to : after ≡ first + 1 + span Letters (drop (first + 1) l)) where
    pub word_inside : first < length l → after ≤ length l
    word_inside h = omega (arith, span_fits_at Letters l (first + 1) (omega arith))

    pub marked_line : get_or l first 0 ≡ byte "!" → directive_of l ≡ named words (take (after - (first + 1)) (drop (first + 1) l))
    unfolding directive_of
    marked_line h =
        let n : after - (first + 1) ≡ span Letters (drop (first + 1) l) = omega arith in
        rw (blanks, eq-eqb _ _ h, word_start_lem, n)

    pub text_starts : after ≡ text_start l
    unfolding text_start
    text_starts = rw (word_start_lem, ← to)
