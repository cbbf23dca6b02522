-- Where the new edition's reading does not end in 3, the old one's is the same: by induction on the bytes. Assumes nothing.
use Rattle.std.specs.Prelude.{Err, Ok, Option, Result}
use Prim.Native.Nat.{ℕ, zero, suc, ◌-◌}
use native.Mathlib.Omega.{arith}
use mathlib.Core.Path.{◌≡◌, refl, ap, ◌∙◌}
use mathlib.Core.Logic.{◌⊎◌, inl, inr, ⊎_elim}
use mathlib.Core.Bool.{Bool, false}
use mathlib.Core.List.{List, [], ◌∷◌}
use lib.ListN.{length}
use lib.Dec.{ltb}
use Rattle.units.specs.Dialects.{in_new, in_old}
use Rattle.units.specs.declared.Dialect.{Dialect}
use Rattle.units.specs.Refusals.{TOKEN_BAD}
use Rattle.units.specs.declared.Offset.{Offset}
use Rattle.units.specs.declared.Reason.{Reason}
use Rattle.units.specs.declared.Reason.TheVariants.{TokenBad}
use Rattle.units.specs.declared.Refusal.{Refusal}
use Rattle.text.specs.Bytes.{class_of}
use Rattle.text.specs.declared.bytes.Class.{Class}
use Rattle.text.specs.declared.bytes.Class.TheVariants.{Blank, Comment}
use Rattle.text.proofs.Laws.{pick_both}
use Rattle.codes.specs.Levels.{is_equality}
use Rattle.codes.specs.declared.Lexeme.{Lexeme}
use Rattle.lexeme.specs.Lexeme.{lexeme}
use Rattle.token.specs.Tokens.{MAX_BYTES, MAX_TOKENS, Reading, ending_number, ◌followed_by◌, read_token, read_byte, read_from, check_depth, checked, reading}
use Rattle.editions.specs.BareWords.{BareWord}
use Rattle.editions.proofs.SameTokens.{new_alone, only_bare_words}

-- the old edition's y is the new one's x, or x is refused with 3
abbrev Alike : (x y : Result Lexeme Reason) → Type 0
Alike x y = (y ≡ x) ⊎ (x ≡ Err TokenBad)

lexeme_alike : (after : Bool) (s : List ℕ) (δ : Dialect) → Alike (lexeme after s (in_new δ)) (lexeme after s (in_old δ))
lexeme_alike after s δ = ⊎_elim inl (λ (b : BareWord after s _ δ). inr (new_alone after s δ ∙ b.refused_in_new)) (only_bare_words after s δ)

abbrev pub Not3 : Reading → Type 0
Not3 r = ending_number r.ending ≡ TOKEN_BAD → ⊥

-- the reading after a byte, as `read_token` and `read_byte` take it
abbrev rest : (at : ℕ) → List ℕ → Dialect → ℕ → ℕ → Bool → Reading
rest at s δ room k after = read_from (suc at) room k after s δ

module _ (δ : Dialect) where
  abbrev SameFrom : (at room k : ℕ) → (after : Bool) → List ℕ → Type 0
  SameFrom at room k after s = Not3 (read_from at room k after s (in_new δ)) → read_from at room k after s (in_old δ) ≡ read_from at room k after s (in_new δ)

  same_from : (at room k : ℕ) (after : Bool) (s : List ℕ) → SameFrom at room k after s
  unfolding read_from read_byte read_token
  same_from at room k after [] h = refl
  same_from at room (suc k) after (b ∷ s) h = same_from (suc at) room k after s h
  same_from at room zero after (b ∷ s) h =
      by_byte (class_of b) room (lexeme after (b ∷ s) (in_new δ)) (lexeme after (b ∷ s) (in_old δ)) (lexeme_alike after (b ∷ s) δ)
      (λ room' k' a'. same_from (suc at) room' k' a' s) h
    where
      by_token : (room : ℕ) (x y : Result Lexeme Reason) → Alike x y → ((room' k' : ℕ) (a' : Bool) → SameFrom (suc at) room' k' a' s)
          → Not3 (read_token room x at (rest at s (in_new δ))) → read_token room y at (rest at s (in_old δ)) ≡ read_token room x at (rest at s (in_new δ))
      by_token zero x y w ih h = refl
      by_token (suc room) (Err r) y (inl e) ih h = rw e
      by_token (suc room) (Ok f) y (inl e) ih h =
          rw e (ap (λ r. record { code = f.code; start = at; len = f.len; value = f.value } followed_by r) (ih room (f.len - 1) (is_equality f.code) h))
      by_token (suc room) x y (inr e) ih h = let n : Not3 (read_token (suc room) (Err TokenBad) at (rest at s (in_new δ))) = rw e at h in absurd (n refl)

      by_byte : (c : Class) (room : ℕ) (x y : Result Lexeme Reason) → Alike x y → ((room' k' : ℕ) (a' : Bool) → SameFrom (suc at) room' k' a' s)
          → Not3 (read_byte c after room x at (rest at s (in_new δ)))
          → read_byte c after room y at (rest at s (in_old δ)) ≡ read_byte c after room x at (rest at s (in_new δ))
      by_byte Blank room x y w ih h = ih room 0 after h
      by_byte Comment room x y w ih h = refl
      by_byte _ room x y w ih h = by_token room x y w ih h

-- the check of the depth keeps a 3
unchecked : (x : Result Offset Refusal) (w : Option Offset) → (ending_number (check_depth x w) ≡ TOKEN_BAD → ⊥) → ending_number x ≡ TOKEN_BAD → ⊥
unfolding check_depth
unchecked (Err r) w h e = h e
unchecked (Ok end) w h e = omega arith

-- THE THEOREM
pub same_reading : (e : List ℕ) (δ : Dialect) → Not3 (reading e (in_new δ)) → reading e (in_old δ) ≡ reading e (in_new δ)
unfolding reading
same_reading e δ =
    pick_both (λ x y. Not3 y → x ≡ y) (ltb MAX_BYTES (length e)) (λ _ _. refl)
    (λ _ h. ap checked (same_from δ 0 MAX_TOKENS 0 false e (unchecked (read_from 0 MAX_TOKENS 0 false e (in_new δ)).ending _ h)))
