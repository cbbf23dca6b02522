-- Spellings by their length and by the first two bytes of a text. Assumes nothing.
use Rattle.std.specs.Prelude.{Err, Result}
use Rattle.std.proofs.lemmas.Bool.Decides.{nat_tests}
use Prim.Native.Nat.{ℕ, ◌<◌}
use native.Mathlib.Omega.{arith}
use mathlib.Core.Path.{◌≡◌, refl, sym, ap, ◌∙◌}
use mathlib.Core.Bool.{Bool, true, false, ◌&&◌, and-true, false≢true}
use mathlib.Core.List.{List, [], ◌∷◌}
use lib.ListN.{length, get_or}
use lib.Dec.{eqb, ltb}
use borrow.Author.Tests.{ltb-true, ne_eqb, eqb-false, eqb-true, eq-eqb}
use Rattle.units.specs.declared.Reason.{Reason}
use Rattle.units.specs.declared.Reason.TheVariants.{TokenBad}
use Rattle.text.specs.Bytes.{pick, among, quote}
use Rattle.text.specs.Order.{equal}
use Rattle.text.proofs.Laws.{unlike_lengths, inside, and_left, and_right}
use Rattle.text.proofs.Compared.{has_bytes, equal_reads}
use Rattle.codes.specs.Spellings.{Spelling, of_length, words, symbols, found}
use Rattle.codes.specs.declared.Lexeme.{Lexeme}
use Rattle.lexeme.specs.Lexeme.{spelled, is_wide, begins, leading}

-- every spelling has one of some lengths
abbrev all_of : List ℕ → List Spelling → Bool
all_of ns [] = true
all_of ns (x ∷ xs) = among ns (length x.text) && all_of ns xs

-- a run of another length has none of these spellings
pub other_length : (ns : List ℕ) (xs : List Spelling) (w : List ℕ) → all_of ns xs ≡ true → among ns (length w) ≡ false → spelled xs w ≡ Err TokenBad
unfolding spelled
other_length ns [] w e h = refl
other_length ns (x ∷ xs) w e h =
    let l : among ns (length x.text) ≡ true = and_left (among ns (length x.text)) (all_of ns xs) e in
    rw (unlike_lengths w x.text (λ k. false≢true (sym h ∙ ap (among ns) k ∙ l)))
    (other_length ns xs w (and_right (among ns (length x.text)) (all_of ns xs) e) h)

-- only spellings of its own length can spell a run
pub own_length : (n : ℕ) (xs : List Spelling) (w : List ℕ) → length w ≡ n → spelled xs w ≡ spelled (of_length n xs) w
unfolding spelled
own_length n [] w e = refl
own_length n (x ∷ xs) w e = by (eqb (length x.text) n) refl (own_length n xs w e)
  where
    by : (t : Bool) → eqb (length x.text) n ≡ t → spelled xs w ≡ spelled (of_length n xs) w
        → pick (equal w x.text) (found x.code (length w) x.value) (spelled xs w) ≡ spelled (pick t (x ∷ of_length n xs) (of_length n xs)) w
    by true k ih = ap (pick (equal w x.text) (found x.code (length w) x.value)) ih
    by false k ih = rw (unlike_lengths w x.text (λ h. eqb-false _ _ k (sym h ∙ e))) ih

-- the first spelling of a list whose bytes a run has from the front on
abbrev pub read_among : List Spelling → List ℕ → Result Lexeme Reason
read_among [] w = Err TokenBad
read_among (x ∷ xs) w = pick (has_bytes w 0 x.text) (found x.code (length x.text) x.value) (read_among xs w)

-- spellings of the run's length, by their bytes
of_length_read : (n : ℕ) (xs : List Spelling) (w : List ℕ) → length w ≡ n → spelled (of_length n xs) w ≡ read_among (of_length n xs) w
unfolding spelled
of_length_read n [] w e = refl
of_length_read n (x ∷ xs) w e = by (eqb (length x.text) n) refl (of_length_read n xs w e)
  where
    by : (t : Bool) → eqb (length x.text) n ≡ t → spelled (of_length n xs) w ≡ read_among (of_length n xs) w
        → spelled (pick t (x ∷ of_length n xs) (of_length n xs)) w ≡ read_among (pick t (x ∷ of_length n xs) (of_length n xs)) w
    by true k ih =
        let l : length w ≡ length x.text = e ∙ sym (eqb-true _ _ k) in
        rw (equal_reads w x.text, eq-eqb _ _ l, l, ih)
    by false k ih = ih

-- Only words of its own length can spell a run.
module _ (w : List ℕ) where
  own_read : (n : ℕ) → length w ≡ n → spelled words w ≡ read_among (of_length n words) w
  own_read n e = own_length n words w e ∙ of_length_read n words w e

  pub read_2 : length w ≡ 2 → spelled words w ≡ read_among (of_length 2 words) w
  read_2 = own_read 2

  pub read_3 : length w ≡ 3 → spelled words w ≡ read_among (of_length 3 words) w
  read_3 = own_read 3

  pub read_4 : length w ≡ 4 → spelled words w ≡ read_among (of_length 4 words) w
  read_4 = own_read 4

  pub read_5 : length w ≡ 5 → spelled words w ≡ read_among (of_length 5 words) w
  read_5 = own_read 5

  pub read_other : among (2 ∷ 3 ∷ 4 ∷ 5 ∷ []) (length w) ≡ false → spelled words w ≡ Err TokenBad
  read_other = other_length (2 ∷ 3 ∷ 4 ∷ 5 ∷ []) words w refl

-- what the arms of a `match` on a run decide
pub ruleset word_reads = (read_2, read_3, read_4, read_5, read_other, nat_tests)

-- whether a text of which a and b are the first two bytes, 0 past its end, begins with a spelling of one or two bytes
abbrev pub hits : List ℕ → ℕ → ℕ → Bool
hits [] a b = true
hits (x ∷ []) a b = eqb a x
hits (x ∷ y ∷ t) a b = eqb a x && eqb b y

-- one or two bytes, none of them zero
abbrev short : List ℕ → Bool
short [] = false
short (x ∷ []) = ltb 0 x
short (x ∷ y ∷ []) = ltb 0 x && ltb 0 y
short (x ∷ y ∷ z ∷ t) = false

zero_not : (x : ℕ) → ltb 0 x ≡ true → eqb 0 x ≡ false
zero_not x e = ne_eqb 0 x (λ z. omega (arith, ltb-true 0 x e))

begins_hits : (t s : List ℕ) → short t ≡ true → begins t s ≡ hits t (get_or s 0 0) (get_or s 1 0)
unfolding begins
begins_hits [] s e = refl
begins_hits (x ∷ []) [] e = sym (zero_not x e)
begins_hits (x ∷ []) (b ∷ s) e = and-true (eqb b x)
begins_hits (x ∷ y ∷ []) [] e = rw (zero_not x (and_left (ltb 0 x) (ltb 0 y) e))
begins_hits (x ∷ y ∷ []) (b ∷ []) e = rw (zero_not y (and_right (ltb 0 x) (ltb 0 y) e))
begins_hits (x ∷ y ∷ []) (b ∷ b' ∷ s) e = rw (and-true (eqb b' y))
begins_hits (x ∷ y ∷ z ∷ t) s e = absurd (false≢true e)

-- the first spelling that agrees with the two bytes
abbrev pub hit : List Spelling → ℕ → ℕ → Result Lexeme Reason
hit [] a b = Err TokenBad
hit (x ∷ xs) a b = pick (hits x.text a b) (found x.code (length x.text) x.value) (hit xs a b)

abbrev all_short : List Spelling → Bool
all_short [] = true
all_short (x ∷ xs) = short x.text && all_short xs

leading_hit : (xs : List Spelling) (s : List ℕ) → all_short xs ≡ true → leading xs s ≡ hit xs (get_or s 0 0) (get_or s 1 0)
unfolding leading
leading_hit [] s e = refl
leading_hit (x ∷ xs) s e =
    rw (begins_hits x.text s (and_left (short x.text) (all_short xs) e), leading_hit xs s (and_right (short x.text) (all_short xs) e))

-- the first two bytes decide the symbol
pub symbol_hit : (s : List ℕ) → leading symbols s ≡ hit symbols (get_or s 0 0) (get_or s 1 0)
symbol_hit s = leading_hit symbols s refl

-- the quote of a wide string is not zero, and so is within the text
pub wide_quote : (s : List ℕ) (n : ℕ) → is_wide s n ≡ true → get_or s 1 0 ≡ 0 → ⊥
unfolding is_wide
wide_quote s n e z =
    false≢true (sym (ap quote z) ∙ and_right (eqb (get_or s 0 0) 76) (quote (get_or s 1 0)) (and_right (eqb n 1) _ e))

pub wide_inside : (s : List ℕ) (n : ℕ) → is_wide s n ≡ true → 1 < length s
wide_inside s n e = inside s 1 (wide_quote s n e)
