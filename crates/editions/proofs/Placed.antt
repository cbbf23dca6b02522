-- A bare word that is read is the next token after an equality operator, and the edition is the old one: by induction on the bytes. Assumes
-- nothing.
use Rattle.std.specs.Prelude.{Err, Ok, Result}
use Prim.Native.Nat.{ℕ, zero, suc, ◌-◌}
use native.Mathlib.Omega.{arith}
use mathlib.Core.Path.{◌≡◌, refl}
use mathlib.Core.Logic.{⊎_elim}
use mathlib.Core.Bool.{Bool, true, false, ◌&&◌, false≢true}
use mathlib.Core.List.Memᴰ
use mathlib.Core.List.{List, [], ◌∷◌, Memᴰ}
use lib.ListN.{length, get_or, take, drop}
use lib.Dec.{ltb}
use Rattle.units.specs.Dialects.{in_new}
use Rattle.units.specs.declared.Dialect.{Dialect}
use Rattle.units.specs.declared.Reason.{Reason}
use Rattle.text.specs.Bytes.{class_of}
use Rattle.text.specs.Runs.{span}
use Rattle.text.specs.Names.{macro_name, pcd_name}
use Rattle.text.specs.declared.bytes.Class.{Class}
use Rattle.text.specs.declared.bytes.Class.TheVariants.{Initial, Digit, Quote, Blank, Operator, Dollar, Comment}
use Rattle.text.specs.declared.runs.Set.TheVariants.{Word}
use Rattle.text.proofs.Laws.{pick_case}
use Rattle.codes.specs.Codes.{STRING, WIDE, BARE}
use Rattle.codes.specs.Levels.{is_equality}
use Rattle.codes.specs.Spellings.{words, symbols}
use Rattle.codes.specs.declared.Lexeme.{Lexeme}
use Rattle.literal.specs.Literal.{number_of}
use Rattle.lexeme.specs.Lexeme.{string_at, spelled, is_wide, or_bare, word_of, macro_of, leading, lexeme_by, lexeme}
use Rattle.token.specs.Tokens.{MAX_BYTES, MAX_TOKENS, Token, Reading, read_token, read_byte, read_from, reading}
use Rattle.editions.specs.BareWords.{FollowEqualities}
use Rattle.editions.proofs.Codes.{Unbare, number_unbare, string_unbare, macro_unbare, word_unbare, symbol_unbare}

-- a bare word may be a token: after an equality operator, in the old edition
abbrev May : (after old : Bool) → Type 0
May after old = (after ≡ true) × (old ≡ true)

abbrev OnlyThere : (after old : Bool) → Result Lexeme Reason → Type 0
OnlyThere after old (Ok f) = f.code ≡ BARE → May after old
OnlyThere after old (Err r) = Unit

abbrev Placed : (after old : Bool) → List Token → Type 0
Placed after old [] = Unit
Placed after old (k ∷ ks) = (k.code ≡ BARE → May after old) × Placed (is_equality k.code) old ks

other_there : (after old : Bool) (x : Result Lexeme Reason) → Unbare x → OnlyThere after old x
other_there after old (Ok f) u = λ c. absurd (u c)
other_there after old (Err r) u = tt

run_there : (after old : Bool) (n : ℕ) (x : Result Lexeme Reason) → Unbare x → OnlyThere after old (or_bare (after && old) n x)
run_there after old n (Ok f) u = λ c. absurd (u c)
run_there true true n (Err r) u = λ c. (refl, refl)
run_there true false n (Err r) u = tt
run_there false old n (Err r) u = tt

module _ (δ : Dialect) where
  lexeme_there : (after : Bool) (s : List ℕ) → OnlyThere after δ.old (lexeme after s δ)
  unfolding lexeme lexeme_by word_of
  lexeme_there after s = by (class_of (get_or s 0 0))
    where
      by : (c : Class) → OnlyThere after δ.old (lexeme_by c after s δ)
      by Initial =
          let run : ℕ = span Word s in
          pick_case (OnlyThere after δ.old) (ltb 0 (pcd_name s)) (λ _ c. let z : ⊥ = omega arith in absurd z)
          (λ _. pick_case (OnlyThere after δ.old) (is_wide s run)
          (λ _. other_there after δ.old (string_at WIDE 1 s) (string_unbare WIDE 1 s (λ c. omega arith)))
          (λ _. run_there after δ.old run (spelled words (take run s)) (word_unbare (take run s))))
      by Digit = other_there after δ.old (number_of (span Word s) s) (number_unbare (span Word s) s)
      by Quote = other_there after δ.old (string_at STRING 0 s) (string_unbare STRING 0 s (λ c. omega arith))
      by Operator = other_there after δ.old (leading symbols s) (symbol_unbare s)
      by Dollar = other_there after δ.old (macro_of (macro_name (drop 2 s)) s) (macro_unbare (macro_name (drop 2 s)) s)
      by _ = tt

  abbrev PlacedFrom : (at room k : ℕ) → (after : Bool) → List ℕ → Type 0
  PlacedFrom at room k after s = Placed after δ.old (read_from at room k after s δ).tokens

  placed_from : (at room k : ℕ) (after : Bool) (s : List ℕ) → PlacedFrom at room k after s
  unfolding read_from read_byte read_token
  placed_from at room k after [] = tt
  placed_from at room (suc k) after (b ∷ s) = placed_from (suc at) room k after s
  placed_from at room zero after (b ∷ s) =
      by_byte (class_of b) room (lexeme after (b ∷ s) δ) (lexeme_there after (b ∷ s)) (λ room' k' a'. placed_from (suc at) room' k' a' s)
    where
      by_token : (room : ℕ) (x : Result Lexeme Reason) → OnlyThere after δ.old x → ((room' k' : ℕ) (a' : Bool) → PlacedFrom (suc at) room' k' a' s)
          → Placed after δ.old (read_token room x at (λ room' k' a'. read_from (suc at) room' k' a' s δ)).tokens
      by_token zero x u ih = tt
      by_token (suc room) (Err r) u ih = tt
      by_token (suc room) (Ok f) u ih = (u, ih room (f.len - 1) (is_equality f.code))

      by_byte : (c : Class) (room : ℕ) (x : Result Lexeme Reason) → OnlyThere after δ.old x → ((room' k' : ℕ) (a' : Bool) → PlacedFrom (suc at) room' k' a' s)
          → Placed after δ.old (read_byte c after room x at (λ room' k' a'. read_from (suc at) room' k' a' s δ)).tokens
      by_byte Blank room x u ih = ih room 0 after
      by_byte Comment room x u ih = tt
      by_byte _ room x u ih = by_token room x u ih

  placed : (e : List ℕ) → Placed false δ.old (reading e δ).tokens
  unfolding reading
  placed e =
      pick_case (λ (r : Reading). Placed false δ.old r.tokens) (ltb MAX_BYTES (length e)) (λ _. tt) (λ _. placed_from 0 MAX_TOKENS 0 false e)

following : (after old : Bool) (ks : List Token) → Placed after old ks → FollowEqualities after ks
following after old [] p = tt
following after old (k ∷ ks) p = (λ c. (p.0 c).0, following (is_equality k.code) old ks p.1)

-- THE FIRST THEOREM
pub follow_equalities : (δ : Dialect) (e : List ℕ) → FollowEqualities false (reading e δ).tokens
follow_equalities δ e = following false δ.old (reading e δ).tokens (placed δ e)

none_placed : (after : Bool) (ks : List Token) → Placed after false ks → (k : Token) → Memᴰ k ks → k.code ≡ BARE → ⊥
none_placed after [] p k m c = Memᴰ.not-nil m
none_placed after (j ∷ ks) p k m c =
    ⊎_elim (λ e. false≢true (p.0 (rw e at c)).1) (λ m'. none_placed (is_equality j.code) ks p.1 k m' c) (Memᴰ.cases_cons m)

-- THE SECOND THEOREM
pub none_in_new : (δ : Dialect) (e : List ℕ) (k : Token) → Memᴰ k (reading e (in_new δ)).tokens → k.code ≡ BARE → ⊥
none_in_new δ e = none_placed false (reading e (in_new δ)).tokens (placed (in_new δ) e)
