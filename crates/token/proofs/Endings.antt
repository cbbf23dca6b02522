-- A property of every way in which the reading of an expression can end is one of the ending of every reading. Assumes nothing.
use Rattle.std.specs.Prelude.{Err, Ok, Option, Result}
use Prim.Native.Nat.{ℕ, zero, suc, ◌+◌, ◌-◌, ◌≤◌}
use native.Mathlib.Omega.{arith}
use mathlib.Core.Path.{◌≡◌, refl}
use mathlib.Core.Bool.{Bool, false}
use mathlib.Core.List.{List, [], ◌∷◌, Memᴰ}
use lib.ListN.{length}
use lib.Dec.{eqb, ltb}
use Rattle.units.specs.Refusals.{refusal, refusal_at}
use Rattle.units.specs.declared.Dialect.{Dialect}
use Rattle.units.specs.declared.Offset.{Offset}
use Rattle.units.specs.declared.Reason.{Reason}
use Rattle.units.specs.declared.Reason.TheVariants.{ExpressionLong, ParenthesesDeep, TokensMany}
use Rattle.units.specs.declared.Refusal.{Refusal}
use Rattle.text.specs.Bytes.{pick, class_of}
use Rattle.text.proofs.Laws.{pick_case}
use Rattle.codes.specs.Codes.{OPEN, CLOSE}
use Rattle.codes.specs.Levels.{is_equality}
use Rattle.codes.specs.declared.Lexeme.{Lexeme}
use Rattle.lexeme.specs.Lexeme.{lexeme}
use Rattle.token.specs.Tokens.{MAX_BYTES, MAX_TOKENS, MAX_OPEN, Token, Reading, read_token, read_from, too_deep, check_depth, reading}
use Rattle.token.proofs.Reading.{byte_case}
use Rattle.token.proofs.Within.{Within, read_in}

-- E holds of every ending at one of n bytes or after them
pub record Every (n : ℕ) (δ : Dialect) (E : Result Offset Refusal → Type 0) : Type 0 where
  pub complete : (at : ℕ) → at ≤ n → E (Ok (record { 0 = at }))
  pub bad : (at : ℕ) → at ≤ n → (after : Bool) (s : List ℕ) (r : Reason) → lexeme after s δ ≡ Err r → E (Err (refusal_at r at))
  pub many : (at : ℕ) → at ≤ n → E (Err (refusal_at TokensMany at))
  pub deep : (at : ℕ) → at ≤ n → E (Err (refusal_at ParenthesesDeep at))
  pub long : E (Err (refusal ExpressionLong))

module _ {n : ℕ} {δ : Dialect} {E : Result Offset Refusal → Type 0} (every : Every n δ E) where
  read_ends : (at room k : ℕ) (after : Bool) (s : List ℕ) → at + length s ≤ n → E (read_from at room k after s δ).ending
  unfolding read_from read_token
  read_ends at room k after [] h = every.complete at (omega arith)
  read_ends at room (suc k) after (b ∷ s) h = read_ends (suc at) room k after s (omega arith)
  read_ends at room zero after (b ∷ s) h =
      byte_case (λ r. E r.ending) (class_of b) _ _ _ _ _ (read_ends (suc at) room 0 after s (omega arith)) (every.complete at (omega arith))
      (by_token room (lexeme after (b ∷ s) δ) refl (λ room' k' a'. read_ends (suc at) room' k' a' s (omega arith)))
    where
      by_token : (room : ℕ) (x : Result Lexeme Reason) → lexeme after (b ∷ s) δ ≡ x
          → ((room' k' : ℕ) (a' : Bool) → E (read_from (suc at) room' k' a' s δ).ending)
          → E (read_token room x at (λ room' inside' after'. read_from (suc at) room' inside' after' s δ)).ending
      by_token zero x w ih = every.many at (omega arith)
      by_token (suc room) (Err r) w ih = every.bad at (omega arith) after (b ∷ s) r w
      by_token (suc room) (Ok f) w ih = ih room (f.len - 1) (is_equality f.code)

  checked_ends : (x : Result Offset Refusal) (opened closed : ℕ) (ts : List Token) → ((k : Token) → Memᴰ k ts → Within n k) → E x
      → E (check_depth x (too_deep opened closed ts))
  unfolding check_depth too_deep
  checked_ends (Err r) opened closed ts all h = h
  checked_ends (Ok end) opened closed [] all h = h
  checked_ends (Ok end) opened closed (t ∷ ts) all h =
      let opened' : ℕ = opened + pick (eqb t.code OPEN) 1 0 in
      let closed' : ℕ = closed + pick (eqb t.code CLOSE) 1 0 in
      pick_case (λ (w : Option Offset). E (check_depth (Ok end) w)) (ltb (closed' + MAX_OPEN) opened')
      (λ _. every.deep t.start (omega (arith, (all t (Memᴰ.head refl)).ends)))
      (λ _. checked_ends (Ok end) opened' closed' ts (λ k m. all k (Memᴰ.tail m)) h)

-- THE THEOREM
pub every_ending : (e : List ℕ) (δ : Dialect) (E : Result Offset Refusal → Type 0) → Every (length e) δ E → E (reading e δ).ending
unfolding reading
every_ending e δ E every =
    let read = read_from 0 MAX_TOKENS 0 false e δ in
    let tokens = read_in (length e) δ 0 MAX_TOKENS 0 false e (omega arith) in
    pick_case (λ (r : Reading). E r.ending) (ltb MAX_BYTES (length e)) (λ _. every.long)
    (λ _. checked_ends every read.ending 0 0 read.tokens tokens (read_ends every 0 MAX_TOKENS 0 false e (omega arith)))
