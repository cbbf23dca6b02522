-- Where the tokens of an expression are (document 01, "Tokens"), and where reading is refused with 3, 4 or 5 (document 02, order 3). What a
-- token is can depend on the one before it (document 02, order 5).
use Rattle.std.specs.Prelude.{ℕ, ◌+◌, ◌<◌, ◌≡◌, Bool, true, false, List, [], ◌∷◌, length, get_or, drop, eqb, Err, Ok, Result}
use Rattle.units.specs.Refusals.{refusal_at}
use Rattle.units.specs.declared.Dialect.{Dialect}
use Rattle.units.specs.declared.Offset.{Offset}
use Rattle.units.specs.declared.Reason.{Reason}
use Rattle.units.specs.declared.Reason.TheVariants.{TokensMany}
use Rattle.units.specs.declared.Refusal.{Refusal}
use Rattle.text.specs.Bytes.{byte, blank}
use Rattle.codes.specs.Levels.{is_equality}
use Rattle.codes.specs.declared.Lexeme.{Lexeme}
use Rattle.lexeme.specs.Lexeme.{lexeme}
use Rattle.token.specs.Tokens.{Token, MAX_TOKENS}

-- a token has to start at byte `at`: there is such a byte, and it is neither a blank nor `#`
pub record Starts (e : List ℕ) (at : ℕ) : Type 0 where
  pub inside : at < length e
  pub no_blank : blank (get_or e at 0) ≡ false
  pub no_comment : eqb (get_or e at 0) (byte "#") ≡ false

-- From byte `at` of the expression e on, after n tokens, these tokens are read, and the reading ends so. `after` says whether the last of the
-- n tokens is an equality operator.
module _ (e : List ℕ) (δ : Dialect) where
  pub data Scanned : (n at : ℕ) → (after : Bool) → List Token → Result Offset Refusal → Type 0 where
    -- the expression ends here: at its length, or at `#`
    at_end : {n at : ℕ} {after : Bool} → at ≡ length e → Scanned n at after [] (Ok (record { 0 = at }))
    at_comment : {n at : ℕ} {after : Bool} → at < length e → eqb (get_or e at 0) (byte "#") ≡ true
        → Scanned n at after [] (Ok (record { 0 = at }))
    -- a blank is skipped
    at_blank : {n at : ℕ} {after : Bool} {ts : List Token} {x : Result Offset Refusal} → at < length e → blank (get_or e at 0) ≡ true
        → Scanned n (at + 1) after ts x
        → Scanned n at after ts x
    -- 5: a token has to start here, and 200 came before
    too_many : {n at : ℕ} {after : Bool} → Starts e at → n ≡ MAX_TOKENS → Scanned n at after [] (Err (refusal_at TokensMany at))
    -- 3 or 4: a token has to start here, and none can be read
    unreadable : {n at : ℕ} {r : Reason} {after : Bool} → Starts e at → n < MAX_TOKENS → lexeme after (drop at e) δ ≡ Err r
        → Scanned n at after [] (Err (refusal_at r at))
    -- a token, and what is read after its last byte
    token : {n at : ℕ} {after : Bool} {f : Lexeme} {ts : List Token} {x : Result Offset Refusal} → Starts e at → n < MAX_TOKENS
        → lexeme after (drop at e) δ ≡ Ok f
        → Scanned (n + 1) (at + f.len) (is_equality f.code) ts x
        → Scanned n at after (record { code = f.code; start = at; len = f.len; value = f.value } ∷ ts) x
