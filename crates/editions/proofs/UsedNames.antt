-- After `!ifdef` and `!ifndef` the editions differ in `$(NAME)` alone: the old one takes it for NAME, and to the new one it is malformed. Assumes
-- nothing.
use Rattle.std.specs.Option.{is_some}
use Rattle.std.specs.Prelude.{Err, Result}
use Prim.Native.Nat.{ℕ, suc, ◌+◌, ◌<◌}
use native.Mathlib.Omega.{arith}
use mathlib.Core.Path.{◌≡◌, refl, sym, ap, ◌∙◌}
use mathlib.Core.Logic.{◌⊎◌, inl, inr}
use mathlib.Core.Bool.{Bool, true, false}
use mathlib.Core.List.{List, ◌∷◌, ◌++◌}
use lib.ListN.{length, get_or, take, drop, take-append-drop}
use lib.Seq.{take-append_seam, drop-append_seam, drop-append-add, drop-cons, drop-drop}
use lib.Dec.{eqb, ltb}
use borrow.Author.Tests.{eqb-true, ne_eqb, ltb-true, lt-ltb}
use Rattle.units.specs.Refusals.{unplaced}
use Rattle.units.specs.Dialects.{in_new, in_old}
use Rattle.units.specs.declared.Dialect.{Dialect}
use Rattle.units.specs.declared.Fault.{Fault}
use Rattle.units.specs.declared.Reason.TheVariants.{TextMalformed}
use Rattle.text.specs.Bytes.{byte, bytes}
use Rattle.text.specs.Runs.{holds}
use Rattle.text.specs.Names.{macro_name}
use Rattle.text.specs.declared.runs.Set.TheVariants.{Blanks}
use Rattle.text.proofs.Laws.{inside}
use Rattle.text.proofs.NameRuns.{span_stops, span_first, first_byte, capital}
use Rattle.lookup.specs.Setting.{setting_under}
use Rattle.line.specs.declared.Directive.{Directive}
use Rattle.line.specs.declared.Directive.TheVariants.{Ifdef, Ifndef, Else, Endif}
use Rattle.line.specs.declared.Condition.{Condition}
use Rattle.condition.specs.Conditions.{spaced, idle, name_over, name_at, present, decided, of_named, of_macro, evaluate}
use Rattle.define.proofs.Pieces.{no_blank, name_before}
use Rattle.editions.specs.UsedNames.{past_blanks, SomeBlanks, Name, used, Uses}
use Rattle.editions.proofs.SameConditions.{no_name, new_name}
use Rattle.editions.proofs.Names.{byte_after, ends_name, name_taken}

-- what is malformed
abbrev malformed : Result Condition Fault
malformed = Err (unplaced TextMalformed)

-- the two directives
abbrev pub OfMacro : Directive → Type 0
OfMacro d = (d ≡ Ifdef) ⊎ (d ≡ Ifndef)

-- a text that starts with `$`, and one that does not
module _ (t : List ℕ) (δ : Dialect) where
  dollar_named : (wanted : Bool) (s : List ℕ) → get_or s 0 0 ≡ byte "$" → of_named t wanted s (name_at s (in_new δ)) ≡ malformed
  unfolding of_named
  dollar_named wanted s e = rw (new_name s δ, no_name s (rw e))

  dollar_macro : (wanted : Bool) (s : List ℕ) → get_or (past_blanks s) 0 0 ≡ byte "$" → of_macro t wanted s (in_new δ) ≡ malformed
  unfolding of_macro
  dollar_macro wanted s e = by (spaced s) refl
    where
      by : (b : Bool) → spaced s ≡ b → of_macro t wanted s (in_new δ) ≡ malformed
      by true q = rw q (dollar_named wanted (past_blanks s) e)
      by false q = rw q

  -- THE FIRST THEOREM
  pub no_dollar_in_new : (d : Directive) → OfMacro d → (s : List ℕ) → get_or (past_blanks s) 0 0 ≡ byte "$" → evaluate t d s (in_new δ) ≡ malformed
  unfolding evaluate
  no_dollar_in_new d (inl q) s e = rw q (dollar_macro true s e)
  no_dollar_in_new d (inr q) s e = rw q (dollar_macro false s e)

  plain_macro : (wanted : Bool) (s : List ℕ) → (get_or (past_blanks s) 0 0 ≡ byte "$" → ⊥) → of_macro t wanted s (in_old δ) ≡ of_macro t wanted s (in_new δ)
  unfolding of_macro name_at
  plain_macro wanted s e = rw (ne_eqb (get_or (past_blanks s) 0 0) (byte "$") e)

  -- THE SECOND THEOREM
  pub same_without_dollar : (d : Directive) → OfMacro d → (s : List ℕ) → (get_or (past_blanks s) 0 0 ≡ byte "$" → ⊥)
      → evaluate t d s (in_old δ) ≡ evaluate t d s (in_new δ)
  unfolding evaluate
  same_without_dollar d (inl q) s e = rw q (plain_macro true s e)
  same_without_dollar d (inr q) s e = rw q (plain_macro false s e)

-- a text after blanks
after_blanks : (t : List ℕ) (δ : Dialect) (wanted : Bool) (b s : List ℕ) → SomeBlanks b → holds Blanks (get_or s 0 0) ≡ false
    → of_macro t wanted (b ++ s) δ ≡ of_named t wanted s (name_at s δ)
unfolding of_macro
after_blanks t δ wanted b s blanks h =
    rw (
      first_byte b s blanks.some,
      span_first Blanks b blanks.some blanks.blanks,
      span_stops Blanks b s blanks.blanks h,
      drop-append_seam b s,
    )

closed : (w r : List ℕ) → get_or (used w r) (2 + length w) 0 ≡ byte ")"
closed w r = let e : 2 + length w ≡ suc (suc (length w)) = omega arith in rw e (byte_after w r (byte ")"))

after_use : (w r : List ℕ) → drop (length w + 3) (used w r) ≡ r
after_use w r = let e : length w + 3 ≡ suc (suc (length w + 1)) = omega arith in rw e (drop-append-add w (bytes ")" ++ r) 1)

module _ (t : List ℕ) (δ : Dialect) (b w r : List ℕ) (blanks : SomeBlanks b) (name : Name w) (h : idle r ≡ true) where
  used_found : present t (used w r) (name_over 2 (length w) (length w + 3)) ≡ is_some (setting_under t w)
  used_found = ap (λ n. is_some (setting_under t n)) (take-append_seam w (bytes ")" ++ r))

  plain_found : present t (w ++ r) (name_over 0 (length w) (length w)) ≡ is_some (setting_under t w)
  plain_found = ap (λ n. is_some (setting_under t n)) (take-append_seam w r)

  -- `$(NAME)` in the old edition
  used_named : (wanted : Bool) → of_named t wanted (used w r) (name_at (used w r) (in_old δ)) ≡ decided wanted (is_some (setting_under t w))
  unfolding of_named name_at
  used_named wanted =
      rw (name_before w (bytes ")" ++ r) name.some name.whole refl, closed w r, lt-ltb 0 (length w) name.some, after_use w r, h, used_found)

  -- NAME in the new one
  plain_named : (wanted : Bool) → of_named t wanted (w ++ r) (name_at (w ++ r) (in_new δ)) ≡ decided wanted (is_some (setting_under t w))
  unfolding of_named
  plain_named wanted =
      let n = name_before w r name.some name.whole (ends_name r h) in
      rw (new_name (w ++ r) δ, n, lt-ltb 0 (length w) name.some, drop-append_seam w r, h, plain_found)

  used_macro : (wanted : Bool) → of_macro t wanted (b ++ used w r) (in_old δ) ≡ of_macro t wanted (b ++ (w ++ r)) (in_new δ)
  used_macro wanted =
      let some : 0 < macro_name w = rw name.whole name.some in
      let h' : holds Blanks (get_or (w ++ r) 0 0) ≡ false = rw (first_byte w r name.some) (no_blank (get_or w 0 0) (capital w some)) in
      after_blanks t (in_old δ) wanted b (used w r) blanks refl ∙ used_named wanted
      ∙ sym (after_blanks t (in_new δ) wanted b (w ++ r) blanks h' ∙ plain_named wanted)

  -- THE THIRD THEOREM
  pub used_is_plain : (d : Directive) → OfMacro d → evaluate t d (b ++ used w r) (in_old δ) ≡ evaluate t d (b ++ (w ++ r)) (in_new δ)
  unfolding evaluate
  used_is_plain d (inl q) = rw q (used_macro true)
  used_is_plain d (inr q) = rw q (used_macro false)

-- the parts of a text that is `$(NAME)`: its two parentheses are where they should be
module _ (s : List ℕ) (dollar : get_or s 0 0 ≡ byte "$") (opened : eqb (get_or s 1 0) (byte "(") ≡ true)
    (closes : eqb (get_or s (2 + macro_name (drop 2 s)) 0) (byte ")") ≡ true) where
  abbrev n : ℕ
  n = macro_name (drop 2 s)

  close_on : drop (2 + n) s ≡ bytes ")" ++ drop (n + 3) s
  close_on =
      let c : get_or s (2 + n) 0 ≡ byte ")" = eqb-true _ _ closes in
      let l : 2 + n < length s = inside s (2 + n) (λ z. omega arith) in
      let k : suc (2 + n) ≡ n + 3 = omega arith in
      drop-cons s (2 + n) 0 l ∙ rw (c, k)

  parts : s ≡ used (take n (drop 2 s)) (drop (n + 3) s)
  parts =
      let o : get_or s 1 0 ≡ byte "(" = eqb-true _ _ opened in
      let name : drop 2 s ≡ take n (drop 2 s) ++ (bytes ")" ++ drop (n + 3) s) =
      sym (take-append-drop n (drop 2 s)) ∙ ap (λ x. take n (drop 2 s) ++ x) (drop-drop n 2 s ∙ close_on) in
      drop-cons s 0 0 (inside s 0 (λ z. omega arith)) ∙ ap (λ x. get_or s 0 0 ∷ x) (drop-cons s 1 0 (inside s 1 (λ z. omega arith)))
      ∙ rw (dollar, o) (ap (λ x. bytes "$(" ++ x) name)

-- what is no use is malformed
module _ (t : List ℕ) (δ : Dialect) where
  abbrev UsesOr : Result Condition Fault → List ℕ → Type 0
  UsesOr c s = (c ≡ malformed) ⊎ ((w : List ℕ) × (r : List ℕ) × Uses s w r)

  named_or : (wanted : Bool) (s : List ℕ) → get_or s 0 0 ≡ byte "$" → UsesOr (of_named t wanted s (name_at s (in_old δ))) s
  unfolding of_named name_at
  named_or wanted s e =
      by (eqb (get_or s 1 0) (byte "(")) (eqb (get_or s (2 + n) 0) (byte ")")) (ltb 0 n) (idle (drop (n + 3) s)) refl refl refl refl
    where
      n : ℕ
      n = macro_name (drop 2 s)

      by : (o c l i : Bool) → eqb (get_or s 1 0) (byte "(") ≡ o → eqb (get_or s (2 + macro_name (drop 2 s)) 0) (byte ")") ≡ c
          → ltb 0 (macro_name (drop 2 s)) ≡ l → idle (drop (macro_name (drop 2 s) + 3) s) ≡ i
          → UsesOr (of_named t wanted s (name_at s (in_old δ))) s
      by true true true true p q x y =
          inr (_, _, record { text = parts s e p q; name = name_taken (drop 2 s) (ltb-true 0 (macro_name (drop 2 s)) x); rest = y })
      by true true true false p q x y = inl (rw (e, p, q, x, y))
      by true true false i p q x y = inl (rw (e, p, q, x))
      by true false l i p q x y = inl (rw (e, p, q))
      by false c l i p q x y = inl (rw (e, p))

  -- the same after a word, where a blank has to come first
  abbrev SpacedUseOr : Result Condition Fault → List ℕ → Type 0
  SpacedUseOr c s = (c ≡ malformed) ⊎ ((spaced s ≡ true) × (w : List ℕ) × (r : List ℕ) × Uses (past_blanks s) w r)

  macro_or : (wanted : Bool) (s : List ℕ) → get_or (past_blanks s) 0 0 ≡ byte "$" → SpacedUseOr (of_macro t wanted s (in_old δ)) s
  unfolding of_macro
  macro_or wanted s e = by (spaced s) refl (named_or wanted (past_blanks s) e)
    where
      by : (b : Bool) → spaced s ≡ b → UsesOr (of_named t wanted (past_blanks s) (name_at (past_blanks s) (in_old δ))) (past_blanks s)
          → SpacedUseOr (of_macro t wanted s (in_old δ)) s
      by true q (inl x) = inl (rw q x)
      by true q (inr u) = inr (q, u.0, u.1, u.2)
      by false q u = inl (rw q)

  -- THE FOURTH THEOREM
  pub uses_or_malformed : (d : Directive) → OfMacro d → (s : List ℕ) → get_or (past_blanks s) 0 0 ≡ byte "$"
      → (evaluate t d s (in_old δ) ≡ malformed) ⊎ ((spaced s ≡ true) × (w : List ℕ) × (r : List ℕ) × Uses (past_blanks s) w r)
  unfolding evaluate
  uses_or_malformed d (inl q) s e = rw q (macro_or true s e)
  uses_or_malformed d (inr q) s e = rw q (macro_or false s e)

-- THE FIFTH THEOREM: `!else` and `!endif` do not know of editions
pub same_without_argument : (t : List ℕ) (δ : Dialect) (d : Directive) → (d ≡ Else) ⊎ (d ≡ Endif) → (s : List ℕ)
    → evaluate t d s (in_old δ) ≡ evaluate t d s (in_new δ)
unfolding evaluate
same_without_argument t δ d (inl q) s = rw q refl
same_without_argument t δ d (inr q) s = rw q refl
