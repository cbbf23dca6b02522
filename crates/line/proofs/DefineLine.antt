-- A line whose first word is `DEFINE` is plain, and starts with its first letter. Assumes nothing.
use Prim.Native.Nat.{ℕ, zero, suc, ◌+◌}
use native.Mathlib.Omega.{arith}
use mathlib.Core.Path.{◌≡◌, refl, sym, ◌∙◌}
use mathlib.Core.Bool.{Bool, true, false, false≢true}
use mathlib.Core.List.{List}
use lib.ListN.{get_or, take, drop}
use lib.Seq.{get_or-take, get_or-drop}
use lib.Dec.{eqb}
use borrow.Author.Tests.{eqb-true}
use Rattle.text.specs.Bytes.{byte, bytes}
use Rattle.text.specs.Order.{compared}
use Rattle.text.specs.Runs.{holds, span}
use Rattle.text.specs.declared.runs.Set.TheVariants.{Blanks, Word}
use Rattle.text.proofs.Laws.{inside, span_stop, unlike_at}
use Rattle.line.specs.Directives.{first_word, is_define, directive_of}
use Rattle.line.specs.declared.Directive.TheVariants.{Plain}

-- a line whose first byte that is no blank is another letter
pub other_letter : (l : List ℕ) → (get_or l (span Blanks l) 0 ≡ byte "D" → ⊥) → is_define l ≡ false
unfolding is_define
other_letter l h = unlike_at (first_word l) (bytes "DEFINE") 0 (λ e. by (drop (span Blanks l) l) refl (span Word (drop (span Blanks l) l)) e)
  where
    by : (s : List ℕ) → s ≡ drop (span Blanks l) l → (n : ℕ) → get_or (take n s) 0 0 ≡ byte "D" → ⊥
    by s q zero e = omega (arith, e)
    by s q (suc n) e =
        let z : span Blanks l + 0 ≡ span Blanks l = omega arith in
        let here : get_or s 0 0 ≡ get_or l (span Blanks l) 0 = rw q (get_or-drop (span Blanks l) l 0 0 ∙ rw z) in
        h (sym here ∙ sym (get_or-take (suc n) s 0 0 (omega arith)) ∙ e)

-- after blanks and `!` there is no word of letters, digits and `_`
pub marked_other : (l : List ℕ) → get_or l (span Blanks l) 0 ≡ byte "!" → is_define l ≡ false
unfolding is_define compared
marked_other l e =
    let there = inside l (span Blanks l) (λ z. omega (arith, e, z)) in
    let no_word : holds Word (get_or l (span Blanks l) 0) ≡ false = rw e in
    rw (span_stop Word l (span Blanks l) there no_word)

pub define_plain : (l : List ℕ) → is_define l ≡ true → directive_of l ≡ Plain
unfolding directive_of
define_plain l h = by (eqb (get_or l (span Blanks l) 0) (byte "!")) refl
  where
    by : (b : Bool) → eqb (get_or l (span Blanks l) 0) (byte "!") ≡ b → directive_of l ≡ Plain
    by true e = absurd (false≢true (sym (marked_other l (eqb-true (get_or l (span Blanks l) 0) (byte "!") e)) ∙ h))
    by false e = rw e
