-- The shape of a DEFINE line as a text: the tests by places decide exactly this shape, and find its parts. Assumes nothing.
use Prim.Native.Nat.{ℕ, ◌+◌, ◌≤◌, ◌<◌}
use native.Mathlib.Omega.{arith}
use native.Mathlib.Numerals.{add-one}
use mathlib.Core.Path.{◌≡◌, refl, sym, ap, ◌∙◌}
use mathlib.Core.Logic.{◌↔◌}
use mathlib.Core.Bool.{Bool, true, false}
use mathlib.Core.List.{List, ◌++◌}
use lib.ListN.{length, get_or, take, drop, take-append-drop, length-drop}
use lib.Seq.{take_at, drop_at, drop-cons, drop-drop, length-take-le}
use lib.Dec.{eqb, ltb, leb}
use borrow.Author.Tests.{eqb-true}
use Rattle.text.specs.Bytes.{byte, bytes, blank}
use Rattle.text.specs.Order.{is_equal}
use Rattle.text.specs.Runs.{holds, span}
use Rattle.text.specs.Names.{macro_name}
use Rattle.text.specs.declared.runs.Set.TheVariants.{Blanks, Word}
use Rattle.text.proofs.Laws.{and_left, and_right, span_fits, span_more}
use Rattle.text.proofs.NameRuns.{span_stops, first_byte, capital}
use Rattle.text.proofs.Orders.{same_equal, equals}
use Rattle.line.specs.Directives.{first_word, is_define}
use Rattle.define.specs.Define.{after_word, name_start, name_length, name_end, equals_at, MAX_NAME, shaped, macro_of, expression_start, expression_of}
use Rattle.define.specs.Lines.{DefineFirst, DefineText, DefineLine}
use Rattle.define.proofs.Pieces.{rest_after, first_at, piece, blank_run, run_blank, some_blank, no_blank, ends_word, word_ends, blanks_end, name_before}
use Rattle.define.proofs.Pieces.{equals_ends}
use Rattle.define.proofs.Shapes.{is_shaped, after_inside, equals_inside}
use Rattle.define.proofs.MacroNames.{OwnName, shaped_name}

-- a line with the first word `DEFINE`
module _ (l r : List ℕ) (d : DefineFirst l r) where
  indent_run : span Blanks l ≡ length d.indent
  indent_run = ap (span Blanks) d.text ∙ span_stops Blanks d.indent (bytes "DEFINE" ++ r) (blank_run d.indent d.indented) refl

  word_on : drop (span Blanks l) l ≡ bytes "DEFINE" ++ r
  word_on = ap (drop (span Blanks l)) d.text ∙ drop_at d.indent (bytes "DEFINE" ++ r) (span Blanks l) (sym indent_run)

  word_run : span Word (drop (span Blanks l) l) ≡ 6
  unfolding span
  word_run = ap (span Word) word_on ∙ span_stops Word (bytes "DEFINE") r refl (ends_word r d.ends)

  word_is : first_word l ≡ bytes "DEFINE"
  word_is = rw (word_run, word_on)

  first_so : is_define l ≡ true
  unfolding is_define
  first_so = rw word_is (ap is_equal (same_equal (bytes "DEFINE")))

  after_word_lem : drop (after_word l) l ≡ r
  after_word_lem = rest_after l (bytes "DEFINE") r (span Blanks l) 6 word_on refl

module _ (l : List ℕ) (h : is_define l ≡ true) where
  abbrev from_word : List ℕ
  from_word = drop (span Blanks l) l

  the_word : first_word l ≡ bytes "DEFINE"
  unfolding is_define
  the_word = equals (first_word l) (bytes "DEFINE") h

  six : span Word from_word ≡ 6
  six = sym (length-take-le (span Word from_word) from_word (span_fits Word from_word)) ∙ ap length the_word

  so_first : DefineFirst l (drop (after_word l) l)
  so_first =
      let w : take 6 from_word ≡ bytes "DEFINE" = rw six at the_word in
      let s : from_word ≡ bytes "DEFINE" ++ drop (after_word l) l = piece l (span Blanks l) 6 ∙ ap (λ x. x ++ drop (after_word l) l) w in
      let e : drop (span Word from_word) from_word ≡ drop (after_word l) l = ap (λ n. drop n from_word) six ∙ drop-drop 6 (span Blanks l) l in
      record {
        indent = take (span Blanks l) l;
        text = sym (take-append-drop (span Blanks l) l) ∙ ap (λ x. take (span Blanks l) l ++ x) s;
        indented = run_blank l;
        ends = rw e at (word_ends from_word);
      }

-- THE FIRST THEOREM
pub define_first : (l : List ℕ) → (is_define l ≡ true) ↔ ((r : List ℕ) × DefineFirst l r)
define_first l = (λ h. (drop (after_word l) l, so_first l h), λ w. first_so l w.0 w.1)

-- a line of the right shape, with a name of any length
module _ (l name e : List ℕ) (d : DefineText l name e) where
  abbrev from_equals : List ℕ
  from_equals = bytes "=" ++ e

  abbrev from_name : List ℕ
  from_name = name ++ (d.free ++ from_equals)

  first : DefineFirst l (d.gap ++ from_name)
  first = record { indent = d.indent; text = d.text; indented = d.indented; ends = blanks_end d.gap from_name d.some_gap d.gap_blank }

  at_gap : drop (after_word l) l ≡ d.gap ++ from_name
  at_gap = after_word_lem l (d.gap ++ from_name) first

  named : 0 < macro_name name
  named = rw d.whole d.some

  gap_run : span Blanks (drop (after_word l) l) ≡ length d.gap
  gap_run =
      let h : holds Blanks (get_or from_name 0 0) ≡ false =
      rw (first_byte name (d.free ++ from_equals) d.some) (no_blank (get_or name 0 0) (capital name named)) in
      ap (span Blanks) at_gap ∙ span_stops Blanks d.gap from_name (blank_run d.gap d.gap_blank) h

  at_name : drop (name_start l) l ≡ from_name
  at_name = rest_after l d.gap from_name (after_word l) _ at_gap (sym gap_run)

  pub name_run : name_length l ≡ length name
  name_run = ap macro_name at_name ∙ name_before name (d.free ++ from_equals) d.some d.whole (equals_ends d.free e d.free_blank)

  name_is : macro_of l ≡ name
  name_is = ap (take (name_length l)) at_name ∙ take_at name (d.free ++ from_equals) (name_length l) (sym name_run)

  at_free : drop (name_end l) l ≡ d.free ++ from_equals
  at_free = rest_after l name (d.free ++ from_equals) (name_start l) (name_length l) at_name (sym name_run)

  free_run : span Blanks (drop (name_end l) l) ≡ length d.free
  free_run = ap (span Blanks) at_free ∙ span_stops Blanks d.free from_equals (blank_run d.free d.free_blank) refl

  at_equals : drop (equals_at l) l ≡ from_equals
  at_equals = rest_after l d.free from_equals (name_end l) _ at_free (sym free_run)

  expression_is : expression_of l ≡ e
  expression_is = rest_after l (bytes "=") e (equals_at l) 1 at_equals refl

  spaced : blank (get_or l (after_word l) 0) ≡ true
  spaced =
      let b = first_at l (d.gap ++ from_name) (after_word l) at_gap ∙ first_byte d.gap from_name d.some_gap in
      rw b (some_blank d.gap d.some_gap d.gap_blank)

  equals_there : get_or l (equals_at l) 0 ≡ byte "="
  equals_there = first_at l from_equals (equals_at l) at_equals

  is_short : length name ≤ 64 → shaped l ≡ true
  is_short h = is_shaped l spaced (rw name_run d.some) (rw name_run h) equals_there

  start_is : expression_start l + length e ≡ length l
  start_is = omega (arith, length-drop (expression_start l) l, ap length expression_is, equals_inside l equals_there)

  is_first : is_define l ≡ true
  is_first = first_so l (d.gap ++ from_name) first

-- THE SECOND THEOREM
pub line_parts : (l name e : List ℕ) → DefineLine l name e
    → (is_define l ≡ true) × (shaped l ≡ true) × (macro_of l ≡ name) × (expression_of l ≡ e) × (expression_start l + length e ≡ length l)
line_parts l name e h =
    let d = h.shape in
    (is_first l name e d, is_short l name e d h.short, name_is l name e d, expression_is l name e d, start_is l name e d)

module _ (l : List ℕ) (word : is_define l ≡ true) (h : shaped l ≡ true) where
  there : (blank (get_or l (after_word l) 0) ≡ true) × (get_or l (equals_at l) 0 ≡ byte "=")
  unfolding shaped
  there =
      let equals : Bool = eqb (get_or l (equals_at l) 0) (byte "=") in
      let fits : Bool = leb (name_length l) MAX_NAME in
      let named = and_right (blank (get_or l (after_word l) 0)) _ h in
      (and_left (blank (get_or l (after_word l) 0)) _ h, eqb-true _ _ (and_right fits equals (and_right (ltb 0 (name_length l)) _ named)))

  abbrev gap : ℕ
  gap = span Blanks (drop (after_word l) l)

  abbrev free : ℕ
  free = span Blanks (drop (name_end l) l)

  on_equals : drop (equals_at l) l ≡ bytes "=" ++ expression_of l
  on_equals = drop-cons l (equals_at l) 0 (equals_inside l there.1) ∙ rw (there.1, add-one (equals_at l))

  on_gap : drop (after_word l) l ≡ take gap (drop (after_word l) l) ++ (macro_of l ++ (take free (drop (name_end l) l) ++ (bytes "=" ++ expression_of l)))
  on_gap =
      let f = piece l (name_end l) free ∙ ap (λ x. take free (drop (name_end l) l) ++ x) on_equals in
      let n = piece l (name_start l) (name_length l) ∙ ap (λ x. macro_of l ++ x) f in
      piece l (after_word l) gap ∙ ap (λ x. take gap (drop (after_word l) l) ++ x) n

  gap_length : length (take gap (drop (after_word l) l)) ≡ gap
  gap_length = length-take-le gap (drop (after_word l) l) (span_fits Blanks (drop (after_word l) l))

  -- THE THIRD THEOREM
  pub parts_line : DefineLine l (macro_of l) (expression_of l)
  parts_line =
      let first = so_first l word in
      let name : OwnName (macro_of l) = shaped_name l h in
      let more = span_more Blanks l (after_word l) (after_inside l there.0) there.0 in
      record {
        shape = record {
          indent = first.indent;
          gap = take gap (drop (after_word l) l);
          free = take free (drop (name_end l) l);
          text = first.text ∙ ap (λ x. first.indent ++ (bytes "DEFINE" ++ x)) on_gap;
          indented = first.indented;
          some_gap = omega (arith, gap_length, more);
          gap_blank = run_blank (drop (after_word l) l);
          free_blank = run_blank (drop (name_end l) l);
          some = name.some;
          whole = name.whole;
        };
        short = name.short;
      }

-- THE FOURTH THEOREM: there is one way at most to read a line so
pub line_once : (l n e n' e' : List ℕ) → DefineText l n e → DefineText l n' e' → (n ≡ n') × (e ≡ e')
line_once l n e n' e' d d' =
    (sym (name_is l n e d) ∙ name_is l n' e' d', sym (expression_is l n e d) ∙ expression_is l n' e' d')
