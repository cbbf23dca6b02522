-- A bare word that is the next one after an equality operator is read: the old edition does not end in 3 there. Assumes nothing.
use Rattle.std.specs.Prelude.{Err, None, Ok, Option, Result, Some}
use Prim.Native.Nat.{ℕ}
use native.Mathlib.Omega.{arith}
use mathlib.Core.Path.{◌≡◌, refl, sym, ap, ◌∙◌}
use mathlib.Core.Bool.{Bool, true, false}
use mathlib.Core.List.{List, [], ◌∷◌, ◌++◌}
use lib.ListN.{length, drop}
use lib.Dec.{ltb}
use Rattle.units.specs.Refusals.{refusal_at}
use Rattle.units.specs.Dialects.{in_old}
use Rattle.units.specs.declared.Dialect.{Dialect}
use Rattle.units.specs.declared.Offset.{Offset}
use Rattle.units.specs.declared.Reason.TheVariants.{TokenBad}
use Rattle.units.specs.declared.Refusal.{Refusal}
use Rattle.text.proofs.Laws.{pick_case}
use Rattle.codes.specs.Levels.{is_equality}
use Rattle.token.specs.Tokens.{MAX_BYTES, MAX_TOKENS, Token, Reading, ending_number, read_from, too_deep, check_depth, reading}
use Rattle.scanned.specs.Scanned.{Scanned, at_end, at_comment, at_blank, too_many, unreadable, token}
use Rattle.scanned.proofs.ReadingScanned.{reading_scanned}
use Rattle.editions.specs.BareWords.{BareWord}
use Rattle.editions.proofs.BareWords.{bare_exactly}

-- whether the last of some tokens is an equality operator; `after` says it of the token before them
abbrev last_of : (after : Bool) → List Token → Bool
last_of after [] = after
last_of after (k ∷ ks) = last_of (is_equality k.code) ks

last_of_all : (after : Bool) (us : List Token) (k : Token) → last_of after (us ++ (k ∷ [])) ≡ is_equality k.code
last_of_all after [] k = refl
last_of_all after (u ∷ us) k = last_of_all (is_equality u.code) us k

-- the place of a refusal
abbrev place_of : Result Offset Refusal → ℕ
place_of (Ok end) = 0
place_of (Err r) = r.offset.0

-- reading ends in 3 at this byte
abbrev ends3 : (o : ℕ) → Result Offset Refusal
ends3 o = Err (refusal_at TokenBad o)

module _ (e : List ℕ) (δ : Dialect) (o n : ℕ) (b : BareWord true (drop o e) n δ) where
  not_there : {i at : ℕ} {after : Bool} {ts : List Token} {x : Result Offset Refusal}
      → Scanned e (in_old δ) i at after ts x → x ≡ ends3 o → last_of after ts ≡ true → ⊥
  not_there (at_end h) q l = cc
  not_there (at_comment i h) q l = cc
  not_there (at_blank i h d) q l = not_there d q l
  not_there (too_many s h) q l = omega (arith, ap ending_number q)
  not_there {at = at} (unreadable s h w) q l =
      let p : at ≡ o = ap place_of q in
      let read = (bare_exactly true (drop o e) n δ).1 b in
      let u = rw (l, p) at w in
      cc (sym read ∙ u)
  not_there (token s h w d) q l = not_there d q l

-- the check of the depth makes no 3
unchecked_3 : (o : ℕ) (x : Result Offset Refusal) (w : Option Offset) → check_depth x w ≡ ends3 o → x ≡ ends3 o
unfolding check_depth
unchecked_3 o (Err r) w q = q
unchecked_3 o (Ok end) None q = absurd cc
unchecked_3 o (Ok end) (Some p) q = absurd (omega (arith, ap ending_number q))

-- THE THEOREM
pub read_where_due : (e : List ℕ) (δ : Dialect) (us : List Token) (k : Token) (o n : ℕ)
    → reading e (in_old δ) ≡ record { tokens = us ++ (k ∷ []); ending = ends3 o } → is_equality k.code ≡ true → BareWord true (drop o e) n δ → ⊥
unfolding reading
read_where_due e δ us k o n =
    let all : Reading = read_from 0 MAX_TOKENS 0 false e (in_old δ) in
    pick_case (λ (r : Reading). r ≡ record { tokens = us ++ (k ∷ []); ending = ends3 o } → is_equality k.code ≡ true → BareWord true (drop o e) n δ → ⊥)
    (ltb MAX_BYTES (length e))
    (λ _ q l b. omega (arith, ap (λ (r : Reading). ending_number r.ending) q))
    (λ _ q l b.
    let ts : all.tokens ≡ us ++ (k ∷ []) = ap (λ (r : Reading). r.tokens) q in
    let x : all.ending ≡ ends3 o = unchecked_3 o all.ending (too_deep 0 0 all.tokens) (ap (λ (r : Reading). r.ending) q) in
    not_there e δ o n b (reading_scanned e (in_old δ)) x (rw ts (last_of_all false us k ∙ l)))
