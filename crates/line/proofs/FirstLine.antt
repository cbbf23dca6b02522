-- The first line of the rest of a file, as the code cuts it off. Assumes nothing.
use Prim.Native.Nat.{ℕ, zero, suc, ◌+◌, ◌-◌, ◌≤◌, ◌<◌}
use native.Mathlib.Nat.{add-zero}
use native.Mathlib.Omega.{arith}
use mathlib.Core.Path.{◌≡◌, refl, ap, ◌∙◌}
use mathlib.Core.List.{List, [], ◌∷◌}
use mathlib.Core.Bool.{Bool, true, false, ◌&&◌, and-false}
use lib.ListN.{length, get_or, take, drop, length-drop}
use lib.Seq.{drop-drop, get_or-drop}
use lib.Dec.{eqb, ltb, leb-suc-suc}
use borrow.Author.Tests.{lt-ltb, le-ltb, ltb-true, ltb-false, eq-eqb, ne_eqb}
use Rattle.text.specs.Bytes.{byte, pick}
use Rattle.text.specs.Runs.{span}
use Rattle.text.specs.declared.runs.Set.TheVariants.{NotLineFeed}
use Rattle.text.proofs.Laws.{span_fits_at}
use Rattle.line.specs.Lines.{onto, ends_line, lines}
use Rattle.line.specs.Cutting.{line_end, Cuts}

-- the first line of a text ends as in the code, and the others follow
abbrev Splits : List ℕ → Type 0
Splits s = lines s ≡ take (line_end s 0 (span NotLineFeed s)) s ∷ lines (drop (suc (span NotLineFeed s)) s)

pick_suc : (t : Bool) (n : ℕ) → pick t (suc n) (suc (suc n)) ≡ suc (pick t n (suc n))
pick_suc true n = refl
pick_suc false n = refl

-- the end of a first line with some byte before its LF, or before the end
end_at : (s : List ℕ) (n : ℕ) → line_end s 0 (suc n) ≡ pick (ltb (suc n) (length s) && eqb (get_or s n 0) (byte "\r")) n (suc n)
unfolding line_end
end_at s n = let last : suc n - 1 ≡ n = omega arith in rw (lt-ltb 0 (suc n) (omega arith), last)

module _ (b : ℕ) where
  one_byte : (t : Bool) → eqb b (byte "\n") ≡ t → Splits (b ∷ [])
  unfolding lines onto ends_line span line_end
  one_byte true e = rw e
  one_byte false e = rw (e, and-false (eqb b (byte "\r")))

  empty_line : (s : List ℕ) → eqb b (byte "\n") ≡ true → Splits (b ∷ s)
  unfolding lines span line_end
  empty_line s e = rw (e, lt-ltb 0 (suc (length s)) (omega arith))

  module _ (c : ℕ) (s : List ℕ) (eb : eqb b (byte "\n") ≡ false) where
    -- the LF follows b directly
    short_line : (t : Bool) → eqb b (byte "\r") ≡ t → eqb c (byte "\n") ≡ true → Splits (b ∷ c ∷ s)
    unfolding lines onto ends_line span line_end
    short_line true e ec = rw (eb, ec, e, lt-ltb 1 (suc (suc (length s))) (omega arith))
    short_line false e ec = rw (eb, ec, e, lt-ltb 1 (suc (suc (length s))) (omega arith))

    module _ (ec : eqb c (byte "\n") ≡ false) where
      more_lines : lines (b ∷ c ∷ s) ≡ onto b (lines (c ∷ s))
      unfolding lines ends_line
      more_lines = rw (eb, ec, and-false (eqb b (byte "\r")))

      span_one : span NotLineFeed (c ∷ s) ≡ suc (span NotLineFeed s)
      unfolding span
      span_one = rw ec

      span_two : span NotLineFeed (b ∷ c ∷ s) ≡ suc (suc (span NotLineFeed s))
      unfolding span
      span_two = rw (eb, ec)

      end_more : (n : ℕ) → line_end (b ∷ c ∷ s) 0 (suc (suc n)) ≡ suc (line_end (c ∷ s) 0 (suc n))
      end_more n =
          rw (end_at (b ∷ c ∷ s) (suc n), end_at (c ∷ s) n, leb-suc-suc (suc (suc n)) (suc (length s)))
          (pick_suc (ltb (suc n) (suc (length s)) && eqb (get_or (c ∷ s) n 0) (byte "\r")) n)

      long_line : Splits (c ∷ s) → Splits (b ∷ c ∷ s)
      unfolding onto
      long_line h = more_lines ∙ ap (onto b) h ∙ rw (span_two, span_one, end_more (span NotLineFeed s))

  later_line : (c : ℕ) (s : List ℕ) (t : Bool) → eqb c (byte "\n") ≡ t → (u : Bool) → eqb b (byte "\n") ≡ u
      → Splits (c ∷ s) → Splits (b ∷ c ∷ s)
  later_line c s t ec true eb h = empty_line (c ∷ s) eb
  later_line c s true ec false eb h = short_line c s eb (eqb b (byte "\r")) refl ec
  later_line c s false ec false eb h = long_line c s eb ec h

splits : (b : ℕ) (s : List ℕ) → Splits (b ∷ s)
splits b [] = one_byte b (eqb b (byte "\n")) refl
splits b (c ∷ s) = later_line b c s (eqb c (byte "\n")) refl (eqb b (byte "\n")) refl (splits c s)

splits_all : (s : List ℕ) → 0 < length s → Splits s
splits_all [] h = absurd (omega arith)
splits_all (b ∷ s) h = splits b s

module _ (f : List ℕ) (a : ℕ) where
  pick_add : (t : Bool) (k : ℕ) → pick t (a + k) (a + suc k) ≡ a + pick t k (suc k)
  pick_add true k = refl
  pick_add false k = refl

  same_bound : (k : ℕ) → ltb (a + k) (length f) ≡ ltb k (length (drop a f))
  same_bound k = by (ltb k (length (drop a f))) refl
    where
      by : (t : Bool) → ltb k (length (drop a f)) ≡ t → ltb (a + k) (length f) ≡ t
      by true e = lt-ltb (a + k) (length f) (omega (arith, ltb-true k (length (drop a f)) e, length-drop a f))
      by false e = le-ltb (a + k) (length f) (omega (arith, ltb-false k (length (drop a f)) e, length-drop a f))

  -- the end of a line, counted from the file's start and from the line's
  shifted : (k : ℕ) → line_end f a (a + k) ≡ a + line_end (drop a f) 0 k
  unfolding line_end
  shifted zero = simp (add-zero, le-ltb a a (omega arith), and-false)
  shifted (suc k) =
      let n : a + suc k - 1 ≡ a + k = omega arith in
      rw (lt-ltb a (a + suc k) (omega arith), n, same_bound (suc k), ← get_or-drop a f k 0, end_at (drop a f) k)
      (pick_add (ltb (suc k) (length (drop a f)) && eqb (get_or (drop a f) k 0) (byte "\r")) k)

-- the line that starts at a and has its LF, or the end of the file, at e
module _ (f : List ℕ) (a e : ℕ) where
  -- it ends within its file, at its start or later
  end_within : a ≤ e → e ≤ length f → (a ≤ line_end f a e) × (line_end f a e ≤ length f)
  unfolding line_end
  end_within h k = by (ltb e (length f)) (ltb a e) refl (eqb (get_or f (e - 1) 0) (byte "\r"))
    where
      by : (t u : Bool) → ltb a e ≡ u → (v : Bool) → (a ≤ pick (t && (u && v)) (e - 1) e) × (pick (t && (u && v)) (e - 1) e ≤ length f)
      by true true q true = omega (arith, ltb-true a e q)
      by true true q false = omega arith
      by true false q v = omega arith
      by false u q v = omega arith

  cut_off : a < length f → e ≡ a + span NotLineFeed (drop a f) → lines (drop a f) ≡ take (line_end f a e - a) (drop a f) ∷ lines (drop (e + 1) f)
  cut_off h at =
      let end : line_end f a e - a ≡ line_end (drop a f) 0 (span NotLineFeed (drop a f)) = omega
      (arith, ap (line_end f a) at, shifted f a (span NotLineFeed (drop a f))) in
      let after : a + suc (span NotLineFeed (drop a f)) ≡ e + 1 = omega arith in
      let rest : drop (suc (span NotLineFeed (drop a f))) (drop a f) ≡ drop (e + 1) f = drop-drop (suc (span NotLineFeed (drop a f))) a f ∙
      ap (λ (i : ℕ). drop i f) after in
      rw (end, ← rest) (splits_all (drop a f) (omega (arith, length-drop a f)))

  pub lf_fits : a < length f → e ≡ a + span NotLineFeed (drop a f) → e ≤ length f
  lf_fits h at = omega (arith, span_fits_at NotLineFeed f a (omega arith))

  pub cuts : a < length f → e ≡ a + span NotLineFeed (drop a f) → (z : ℕ) → z ≡ line_end f a e
      → Cuts f a (record { end = record { 0 = z }; after = record { 0 = e + 1 } })
  cuts h at z q =
      let within = end_within (omega arith) (lf_fits h at) in
      record { first = rw q (cut_off h at); starts = rw q within.0; within = rw q within.1; onward = omega arith; after_is = rw at }

  -- the ways in which the code finds its end: no LF, no byte before the LF, no CR there, and a CR
  pub end_no_lf : length f ≤ e → e ≡ line_end f a e
  unfolding line_end
  end_no_lf h = rw (le-ltb e (length f) h)

  pub end_empty : e ≤ a → e ≡ line_end f a e
  unfolding line_end
  end_empty h = rw (le-ltb a e h, and-false)

  pub end_no_cr : (get_or f (e - 1) 0 ≡ byte "\r" → ⊥) → e ≡ line_end f a e
  unfolding line_end
  end_no_cr h = rw (ne_eqb _ _ h, and-false (ltb a e), and-false)

  pub end_cr : e < length f → a < e → get_or f (e - 1) 0 ≡ byte "\r" → e - 1 ≡ line_end f a e
  unfolding line_end
  end_cr h k l = rw (lt-ltb e (length f) h, lt-ltb a e k, eq-eqb _ _ l)

-- the ways together, for `line_end`
pub ruleset line_ends = (end_no_lf, end_empty, end_no_cr, end_cr)
