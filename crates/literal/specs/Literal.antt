-- Number literals (document 01, "Tokens").
use Rattle.std.specs.Prelude.{ℕ, ◌+◌, ◌*◌, ◌-◌, ◌^◌, Bool, ◌&&◌, ◌||◌, List, [], ◌∷◌, get_or, take, drop, eqb, ltb, Err, Result}
use Rattle.units.specs.declared.Reason.{Reason}
use Rattle.units.specs.declared.Reason.TheVariants.{LiteralLarge, TokenBad}
use Rattle.text.specs.Bytes.{byte, pick, within, digit}
use Rattle.text.specs.Runs.{span}
use Rattle.text.specs.declared.runs.Set.TheVariants.{Decimal, Hex}
use Rattle.codes.specs.Codes.{NUMBER}
use Rattle.codes.specs.Spellings.{found}
use Rattle.codes.specs.declared.Lexeme.{Lexeme}

-- the value of a digit
unfoldable pub digit_of : ℕ → ℕ
digit_of b =
    pick (digit b) (b - byte "0")
    (pick (within "a" "f" b) (b - byte "a" + 10)
    (pick (within "A" "F" b) (b - byte "A" + 10)
    0))

-- the value of digits in a base, where `high` is the value of the digits before them
unfoldable pub value_in : ℕ → ℕ → List ℕ → ℕ
value_in base high [] = high
value_in base high (b ∷ s) = value_in base (high * base + digit_of b) s

-- a number literal of n bytes with value v, refused from 2^64 up
unfoldable pub literal : ℕ → ℕ → Result Lexeme Reason
literal n v = pick (ltb v (2 ^ 64)) (found NUMBER n v) (Err LiteralLarge)

-- a run of n bytes is a decimal: `0`, or a digit from 1 to 9 and then digits
unfoldable pub is_decimal : List ℕ → ℕ → Bool
is_decimal s n = (eqb (get_or s 0 0) (byte "0") && eqb n 1) || (within "1" "9" (get_or s 0 0) && eqb (span Decimal s) n)

-- a run of n bytes is `0x` or `0X` and at least one hexadecimal digit
unfoldable pub is_hexadecimal : List ℕ → ℕ → Bool
is_hexadecimal s n =
    eqb (get_or s 0 0) (byte "0")
    && ((eqb (get_or s 1 0) (byte "x") || eqb (get_or s 1 0) (byte "X"))
    && (ltb 2 n && eqb (2 + span Hex (drop 2 s)) n))

-- the token of a run of n bytes that is no decimal
unfoldable pub hexadecimal_of : ℕ → List ℕ → Result Lexeme Reason
hexadecimal_of n s = pick (is_hexadecimal s n) (literal n (value_in 16 0 (take (n - 2) (drop 2 s)))) (Err TokenBad)

-- the token of a run of n bytes that starts with a digit
unfoldable pub number_of : ℕ → List ℕ → Result Lexeme Reason
number_of n s = pick (is_decimal s n) (literal n (value_in 10 0 (take n s))) (hexadecimal_of n s)
