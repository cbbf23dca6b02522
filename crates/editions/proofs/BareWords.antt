-- The token of the old edition is a bare word exactly where the order says, and its value is a string of its own bytes. Assumes nothing.
use Rattle.std.specs.Prelude.{Err, Ok, Result}
use Prim.Native.Nat.{ℕ}
use native.Mathlib.Omega.{arith}
use mathlib.Core.Path.{◌≡◌, refl, sym, ap, ◌∙◌}
use mathlib.Core.Logic.{◌↔◌}
use mathlib.Core.Bool.{Bool, true, false, ◌&&◌, false≢true}
use mathlib.Core.List.{List}
use lib.ListN.{get_or, take, drop}
use lib.Dec.{ltb}
use Rattle.units.specs.Dialects.{in_new, in_old}
use Rattle.units.specs.declared.Dialect.{Dialect}
use Rattle.units.specs.declared.Reason.{Reason}
use Rattle.units.specs.declared.Reason.TheVariants.{TokenBad}
use Rattle.text.specs.Bytes.{initial, class_of}
use Rattle.text.specs.Runs.{span}
use Rattle.text.specs.Names.{macro_name, pcd_name}
use Rattle.text.specs.declared.bytes.Class.{Class}
use Rattle.text.specs.declared.bytes.Class.TheVariants.{Initial}
use Rattle.text.specs.declared.runs.Set.TheVariants.{Word}
use Rattle.text.proofs.Laws.{pick_both, class_case}
use Rattle.codes.specs.Codes.{STRING, WIDE, BARE}
use Rattle.codes.specs.Spellings.{words, found}
use Rattle.codes.specs.declared.Lexeme.{Lexeme}
use Rattle.lookup.specs.declared.TextKind.TheVariants.{String}
use Rattle.lexeme.specs.Lexeme.{spelled, is_wide, or_bare, word_of, lexeme_by, lexeme}
use Rattle.token.specs.Tokens.{Token}
use Rattle.value.specs.Places.{Memory, in_expression}
use Rattle.value.specs.Values.{text, primary_value}
use Rattle.editions.specs.BareWords.{BareWord}
use Rattle.editions.proofs.SameTokens.{new_alone}
use Rattle.editions.proofs.Codes.{Unbare, never_bare, number_unbare, string_unbare, macro_unbare, word_unbare, symbol_unbare, Only3, word_only_3}

-- the length of a token
abbrev length_of : Result Lexeme Reason → ℕ
length_of (Ok f) = f.len
length_of (Err r) = 0

module _ (after : Bool) (s : List ℕ) (n : ℕ) (δ : Dialect) where
  abbrev run : ℕ
  run = span Word s

  -- what is known of the old edition's x and the new one's y, if x is a bare word
  abbrev Then : (x y : Result Lexeme Reason) → Type 0
  Then x y = x ≡ found BARE n 0 → (after ≡ true) × (n ≡ run) × (is_wide s run ≡ false) × (y ≡ Err TokenBad)

  bare_then : (a : Bool) → after ≡ a → is_wide s run ≡ false → (x : Result Lexeme Reason) → Unbare x → Only3 x
      → Then (or_bare (a && true) run x) (or_bare (a && false) run x)
  bare_then a q w (Ok f) u h e = never_bare (Ok f) n 0 u e
  bare_then true q w (Err r) u h e = (q, sym (ap length_of e), w, ap Err h)
  bare_then false q w (Err r) u h e = never_bare (Err r) n 0 tt e

  word_then : Then (word_of run after s (in_old δ)) (word_of run after s (in_new δ))
  unfolding word_of
  word_then =
      pick_both Then (ltb 0 (pcd_name s)) (λ _ e. never_bare (found 5 (pcd_name s) 0) n 0 (λ c. omega arith) e)
      (λ _. pick_both Then (is_wide s run) (λ _ e. never_bare _ n 0 (string_unbare WIDE 1 s (λ c. omega arith)) e)
      (λ w. bare_then after refl w (spelled words (take run s)) (word_unbare (take run s)) (word_only_3 (take run s))))

  -- a bare word, by the class c of the first byte
  abbrev ThenBare : Class → Type 0
  ThenBare c = lexeme_by c after s (in_old δ) ≡ found BARE n 0
      → (initial (get_or s 0 0) ≡ true) × (after ≡ true) × (n ≡ run) × (is_wide s run ≡ false) × (lexeme_by c after s (in_new δ) ≡ Err TokenBad)

  is_bare : ThenBare (class_of (get_or s 0 0))
  unfolding lexeme_by
  is_bare =
      class_case (get_or s 0 0) ThenBare (λ i e. let w = word_then e in (i, w.0, w.1, w.2, w.3))
      (λ _ e. never_bare _ n 0 (number_unbare run s) e)
      (λ _ e. never_bare _ n 0 (string_unbare STRING 0 s (λ c. omega arith)) e)
      (λ e. never_bare (Err TokenBad) n 0 tt e)
      (λ e. never_bare _ n 0 (symbol_unbare s) e)
      (λ e. never_bare _ n 0 (macro_unbare (macro_name (drop 2 s)) s) e)
      (λ e. never_bare (Err TokenBad) n 0 tt e)
      (λ e. never_bare (Err TokenBad) n 0 tt e)

  to : lexeme after s (in_old δ) ≡ found BARE n 0 → BareWord after s n δ
  unfolding lexeme
  to e =
      let b = is_bare e in
      record {
        after_equality = b.1;
        no_digit_first = b.0;
        whole_run = b.2;
        no_wide_string = rw b.2 b.3;
        refused_in_new = sym (new_alone after s δ) ∙ b.4;
      }

  module _ (b : BareWord after s n δ) where
    abbrev Back : (x y : Result Lexeme Reason) → Type 0
    Back x y = y ≡ Err TokenBad → x ≡ found BARE n 0

    found_not : {A : Type 0} (c k v : ℕ) → found c k v ≡ Err TokenBad → A
    found_not c k v e = absurd cc

    bare_back : (x : Result Lexeme Reason) → Back (or_bare (after && true) run x) (or_bare (after && false) run x)
    bare_back (Ok f) e = found_not f.code f.len f.value e
    bare_back (Err r) e = rw (b.after_equality, b.whole_run)

    word_back : Back (word_of run after s (in_old δ)) (word_of run after s (in_new δ))
    unfolding word_of
    word_back =
        pick_both Back (ltb 0 (pcd_name s)) (λ _ e. found_not 5 (pcd_name s) 0 e)
        (λ _. pick_both Back (is_wide s run) (λ w. absurd (false≢true (sym (rw b.whole_run at b.no_wide_string) ∙ w)))
        (λ _. bare_back (spelled words (take run s))))

    first_class : class_of (get_or s 0 0) ≡ Initial
    unfolding class_of
    first_class = rw b.no_digit_first

    from : lexeme after s (in_old δ) ≡ found BARE n 0
    unfolding lexeme lexeme_by
    from =
        let e : lexeme_by Initial after s (in_new δ) ≡ Err TokenBad = rw first_class at (new_alone after s δ ∙ b.refused_in_new) in
        rw first_class (word_back e)

  -- THE THEOREM
  pub bare_exactly : (lexeme after s (in_old δ) ≡ found BARE n 0) ↔ BareWord after s n δ
  bare_exactly = (to, from)

pub own_bytes : (m : Memory) (k : Token) → k.code ≡ BARE
    → primary_value m k ≡ text String (in_expression k.start k.len) (take k.len (drop k.start m.expression))
unfolding primary_value
own_bytes m k e = rw e
