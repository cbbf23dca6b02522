-- What a bare word is (document 02, order 5), in the order's terms; what document 01 refuses is what `lexeme` refuses in the new edition.
use Rattle.std.specs.Prelude.{ℕ, ◌≡◌, Bool, true, false, List, [], ◌∷◌, get_or, Err}
use Rattle.units.specs.Dialects.{in_new}
use Rattle.units.specs.declared.Dialect.{Dialect}
use Rattle.units.specs.declared.Reason.TheVariants.{TokenBad}
use Rattle.text.specs.Bytes.{initial}
use Rattle.text.specs.Runs.{span}
use Rattle.text.specs.declared.runs.Set.TheVariants.{Word}
use Rattle.codes.specs.Codes.{BARE}
use Rattle.codes.specs.Levels.{is_equality}
use Rattle.lexeme.specs.Lexeme.{is_wide, lexeme}
use Rattle.token.specs.Tokens.{Token}

-- A bare word of n bytes is at the front of a text s: a whole run of letters, digits and `_`, no digit first, that the new edition, by itself,
-- refuses with 3, as the next token after an equality operator. An `L` with a quote after it begins a wide string, and if that has no end, the
-- string is what is refused and not the run.
pub record BareWord (after : Bool) (s : List ℕ) (n : ℕ) (δ : Dialect) : Type 0 where
  pub after_equality : after ≡ true
  pub no_digit_first : initial (get_or s 0 0) ≡ true
  pub whole_run : n ≡ span Word s
  pub no_wide_string : is_wide s n ≡ false
  pub refused_in_new : lexeme false s (in_new δ) ≡ Err TokenBad

-- each bare word of a list of tokens is the next one after an equality operator; `before` says whether the first token of the list is
abbrev pub FollowEqualities : (before : Bool) → List Token → Type 0
FollowEqualities before [] = Unit
FollowEqualities before (k ∷ ks) = (k.code ≡ BARE → before ≡ true) × FollowEqualities (is_equality k.code) ks
