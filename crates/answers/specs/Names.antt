-- The names in an expression (document 01, "For demand 3"): those of its macros and PCDs.
use Rattle.std.specs.Prelude.{ℕ, ◌≡◌}
use mathlib.Core.List.{List, Memᴰ}
use Rattle.units.specs.declared.Dialect.{Dialect}
use Rattle.token.specs.Tokens.{Token, reading}
use Rattle.value.specs.Values.{name_in, Naming}

-- an expression e names n: n is the name of a macro or a PCD among its tokens, also in a skipped operand
pub record Names (e n : List ℕ) (δ : Dialect) : Type 0 where
  pub token : Token
  pub among : Memᴰ token (reading e δ).tokens
  pub naming : Naming token
  pub name : n ≡ name_in e token
