-- The code of a bare word is no other token's, and a run is refused with 3 only. Assumes nothing.
use Rattle.std.specs.Prelude.{Err, Ok, Result}
use Prim.Native.Nat.{ℕ, ◌+◌}
use native.Mathlib.Omega.{arith}
use mathlib.Core.Path.{◌≡◌, refl}
use mathlib.Core.Bool.{Bool, true, not, ◌&&◌}
use mathlib.Core.List.{List, [], ◌∷◌}
use lib.ListN.{get_or, drop}
use lib.Dec.{eqb, ltb}
use borrow.Author.Tests.{eqb-false, not-true}
use Rattle.units.specs.declared.Reason.{Reason}
use Rattle.units.specs.declared.Reason.TheVariants.{TokenBad}
use Rattle.text.specs.Bytes.{byte}
use Rattle.text.specs.Runs.{span, string_set}
use Rattle.text.specs.Order.{equal}
use Rattle.text.proofs.Laws.{pick_case, and_left, and_right}
use Rattle.codes.specs.Codes.{BARE}
use Rattle.codes.specs.Spellings.{Spelling, words, symbols}
use Rattle.codes.specs.declared.Lexeme.{Lexeme}
use Rattle.literal.specs.Literal.{literal, is_decimal, is_hexadecimal, hexadecimal_of, number_of}
use Rattle.lexeme.specs.Lexeme.{string_of, string_at, spelled, macro_of, begins, leading}

abbrev pub Unbare : Result Lexeme Reason → Type 0
Unbare (Ok f) = f.code ≡ BARE → ⊥
Unbare (Err r) = Unit

-- so a token of that code is not such a one
pub never_bare : {A : Type 0} (x : Result Lexeme Reason) (n v : ℕ) → Unbare x → x ≡ Ok (record { code = BARE; len = n; value = v }) → A
never_bare x n v u e = let w : Unbare (Ok (record { code = BARE; len = n; value = v })) = rw e at u in absurd (w refl)

literal_unbare : (n v : ℕ) → Unbare (literal n v)
unfolding literal
literal_unbare n v = pick_case Unbare (ltb v _) (λ _ c. omega arith) (λ _. tt)

pub number_unbare : (n : ℕ) (s : List ℕ) → Unbare (number_of n s)
unfolding number_of hexadecimal_of
number_unbare n s =
    pick_case Unbare (is_decimal s n) (λ _. literal_unbare n _)
    (λ _. pick_case Unbare (is_hexadecimal s n) (λ _. literal_unbare n _) (λ _. tt))

pub string_unbare : (code k : ℕ) (s : List ℕ) → (code ≡ BARE → ⊥) → Unbare (string_at code k s)
unfolding string_at string_of
string_unbare code k s h =
    pick_case Unbare (eqb (get_or s (k + 1 + span (string_set (get_or s k 0)) (drop (k + 1) s)) 0) (get_or s k 0)) (λ _. h) (λ _. tt)

pub macro_unbare : (n : ℕ) (s : List ℕ) → Unbare (macro_of n s)
unfolding macro_of
macro_unbare n s = pick_case Unbare (eqb (get_or s 1 0) (byte "(") && (ltb 0 n && eqb (get_or s (2 + n) 0) (byte ")"))) (λ _ c. omega arith) (λ _. tt)

-- no spelling has the code
abbrev others : List Spelling → Bool
others [] = true
others (x ∷ xs) = not (eqb x.code BARE) && others xs

other_code : (x : Spelling) (xs : List Spelling) → others (x ∷ xs) ≡ true → x.code ≡ BARE → ⊥
other_code x xs h = eqb-false _ _ (not-true _ (and_left (not (eqb x.code BARE)) (others xs) h))

other_codes : (x : Spelling) (xs : List Spelling) → others (x ∷ xs) ≡ true → others xs ≡ true
other_codes x xs h = and_right (not (eqb x.code BARE)) (others xs) h

spelled_unbare : (xs : List Spelling) (w : List ℕ) → others xs ≡ true → Unbare (spelled xs w)
unfolding spelled
spelled_unbare [] w h = tt
spelled_unbare (x ∷ xs) w h = pick_case Unbare (equal w x.text) (λ _. other_code x xs h) (λ _. spelled_unbare xs w (other_codes x xs h))

leading_unbare : (xs : List Spelling) (s : List ℕ) → others xs ≡ true → Unbare (leading xs s)
unfolding leading
leading_unbare [] s h = tt
leading_unbare (x ∷ xs) s h = pick_case Unbare (begins x.text s) (λ _. other_code x xs h) (λ _. leading_unbare xs s (other_codes x xs h))

pub word_unbare : (w : List ℕ) → Unbare (spelled words w)
word_unbare w = spelled_unbare words w refl

pub symbol_unbare : (s : List ℕ) → Unbare (leading symbols s)
symbol_unbare s = leading_unbare symbols s refl

-- refused with 3, if refused
abbrev pub Only3 : Result Lexeme Reason → Type 0
Only3 (Ok f) = Unit
Only3 (Err r) = r ≡ TokenBad

spelled_only_3 : (xs : List Spelling) (w : List ℕ) → Only3 (spelled xs w)
unfolding spelled
spelled_only_3 [] w = refl
spelled_only_3 (x ∷ xs) w = pick_case Only3 (equal w x.text) (λ _. tt) (λ _. spelled_only_3 xs w)

pub word_only_3 : (w : List ℕ) → Only3 (spelled words w)
word_only_3 w = spelled_only_3 words w
