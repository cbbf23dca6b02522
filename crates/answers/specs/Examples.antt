-- The small expressions that document 01 wants proved ("Small ones to prove"), in one table: antt computes each answer from the
-- definitions, over a table of no settings.
use Rattle.std.specs.Prelude.{ℕ, ◌≡◌, refl, Bool, List, [], ◌∷◌, map}
use Prim.Native.String.{String}
use Rattle.units.specs.Dialects.{by_itself, OLD}
use Rattle.units.specs.declared.Reason.{Reason}
use Rattle.units.specs.declared.Reason.TheVariants.{TokenBad, LiteralLarge, ParenthesesDeep, NoDerivation, BarOutside, PcdMissing}
use Rattle.units.specs.declared.Reason.TheVariants.{KindsUnsuited, ResultRange, DivisorZero}
use Rattle.text.specs.Bytes.{bytes, class_of}
use Rattle.text.specs.Runs.{span}
use Rattle.text.specs.Order.{compared}
use Rattle.text.specs.Names.{macro_name, pcd_name}
use Rattle.codes.specs.Levels.{is_unary, level_of, is_equality}
use Rattle.settings.specs.Table.{records_in, ordered_names, ordered, plain_records, well_formed}
use Rattle.lookup.specs.Setting.{value_at, setting_under_at, setting_under}
use Rattle.literal.specs.Literal.{digit_of, value_in, literal, is_decimal, is_hexadecimal, hexadecimal_of, number_of}
use Rattle.lexeme.specs.Lexeme.{string_of, string_at, spelled, is_wide, word_of, macro_of, begins, leading, lexeme_by, lexeme}
use Rattle.token.specs.Tokens.{read_token, read_byte, read_from, too_deep, check_depth, reading}
use Rattle.arithmetic.specs.Digits.{and_digits, or_digits}
use Rattle.arithmetic.specs.Operators.{apply_unary, apply_binary, comparison, compare_numbers}
use Rattle.grammar.specs.Grammar.{is_primary}
use Rattle.grammar.specs.Parse.{run, parse}
use Rattle.grammar.specs.Bars.{bars_outside}
use Rattle.value.specs.Places.{over}
use Rattle.value.specs.Kinds.{clash_or, unary_kind, binary_kind, choice_kind}
use Rattle.value.specs.Values.{number, primary_value, missing_pcds, unary_value, both_values, binary_value, choice_value}
use Rattle.evaluation.specs.Evaluation.{Evaluation, value, refused_at, evaluation_in, evaluation, of_tokens}

-- an expression and its answer
pub record Example : Type 0 where
  pub expression : String
  pub answer : Evaluation

abbrev gives : String → (x count : ℕ) → Example
gives e x n = record { expression = e; answer = value (number x) n }

abbrev refuses : String → Reason → (offset : ℕ) → Example
refuses e n o = record { expression = e; answer = refused_at n o }

-- each value is a number, with its count of operators
abbrev pub examples : List Example
examples =
    gives "1 + 2 * 3" 7 2
    ∷ gives "10 - 4 - 3" 3 2
    ∷ gives "2 == 2 == 2" 0 2
    ∷ gives "6 & 3 == 3" 0 2
    ∷ gives "NOT 0 == 0" 0 2
    ∷ gives "0 AND 1 / 0" 0 1
    ∷ refuses "0 AND \"a\"" KindsUnsuited 2
    ∷ gives "1 ? 2 : 1 / 0" 2 1
    ∷ refuses "1 | 2" BarOutside 2
    ∷ gives "(1 | 2)" 3 1
    ∷ refuses "1 << 64" ResultRange 2
    ∷ gives "\"zero\" < \"three\"" 0 1
    ∷ gives "\"thirty\" < \"thirty1\"" 1 1
    ∷ []

-- in both editions
pub examples_hold : (old : Bool) → map (λ x. evaluation (over (bytes x.expression) []) (by_itself old)) examples ≡ map (λ x. x.answer) examples
unfolding evaluation evaluation_in of_tokens bars_outside records_in ordered_names ordered plain_records well_formed reading is_equality read_token read_byte read_from too_deep check_depth class_of span compared macro_name pcd_name digit_of value_in literal is_decimal is_hexadecimal hexadecimal_of number_of string_of string_at spelled is_wide word_of macro_of begins leading lexeme_by lexeme is_primary is_unary level_of run parse clash_or unary_kind binary_kind choice_kind and_digits or_digits apply_unary apply_binary comparison compare_numbers value_at setting_under_at setting_under primary_value missing_pcds unary_value both_values binary_value choice_value
examples_hold old = refl

-- refusals with their places (document 02, order 3)
abbrev pub places : List Example
places =
    -- 7: the token, or where reading ended
    refuses "" NoDerivation 0
    ∷ refuses "  # c" NoDerivation 2
    ∷ refuses "1 +  " NoDerivation 5
    ∷ refuses "1  2" NoDerivation 3
    ∷ refuses "(1 ? 2) : 3" NoDerivation 6
    -- 8: the leftmost bar
    ∷ refuses "(1 | 2) | 3 || 4" BarOutside 8
    -- 9: the leftmost PCD, skipped or not
    ∷ refuses "0 AND a.b + c.d" PcdMissing 6
    -- 10: the leftmost operator with no wrong one inside its operands; `?` for a choice
    ∷ refuses "- (1 + 'a')" KindsUnsuited 5
    ∷ refuses "1 + ('a' * 2) == (3 - 'b')" KindsUnsuited 9
    ∷ refuses "1 ? 2 : 'a'" KindsUnsuited 2
    ∷ refuses "'a' ? 'b' : NOT 'c'" KindsUnsuited 12
    -- 11 and 12: the operator at which evaluation met its first fault
    ∷ refuses "- (1 / 0)" DivisorZero 5
    ∷ refuses "1 / 0 + (5 - 7)" DivisorZero 2
    ∷ refuses "(5 - 7) + 1 / 0" ResultRange 3
    ∷ refuses "0 ? 1 / 0 : - 3" ResultRange 12
    -- 6: the first parenthesis too deep; 3 and 4: the bad token
    ∷ refuses "1+((((((((((((((((((" ParenthesesDeep 18
    ∷ refuses "1 + L'a" TokenBad 4
    ∷ refuses "1 + 18446744073709551616" LiteralLarge 4
    ∷ []

pub places_hold : (old : Bool) → map (λ x. evaluation (over (bytes x.expression) []) (by_itself old)) places ≡ map (λ x. x.answer) places
unfolding evaluation evaluation_in of_tokens bars_outside records_in ordered_names ordered plain_records well_formed reading is_equality read_token read_byte read_from too_deep check_depth class_of span compared macro_name pcd_name digit_of value_in literal is_decimal is_hexadecimal hexadecimal_of number_of string_of string_at spelled is_wide word_of macro_of begins leading lexeme_by lexeme is_primary is_unary level_of run parse clash_or unary_kind binary_kind choice_kind and_digits or_digits apply_unary apply_binary comparison compare_numbers value_at setting_under_at setting_under primary_value missing_pcds unary_value both_values binary_value choice_value
places_hold old = refl

-- bare words (document 02, order 5): strings of their own bytes, each the first token after an equality operator
abbrev pub bare_words : List Example
bare_words =
    gives "\"b1\" == b1" 1 1
    ∷ gives "'b' != B" 1 1
    ∷ gives "\"a\" EQ a AND 1 NE 2" 1 3
    ∷ gives "0 == b < \"c\"" 0 2
    ∷ refuses "1 == b" KindsUnsuited 2
    ∷ refuses "L\"b\" == b" KindsUnsuited 5
    ∷ refuses "\"b\" == b c" TokenBad 9
    ∷ refuses "== b" NoDerivation 0
    ∷ []

-- in the old edition
pub bare_words_hold : map (λ x. evaluation (over (bytes x.expression) []) OLD) bare_words ≡ map (λ x. x.answer) bare_words
unfolding evaluation evaluation_in of_tokens bars_outside records_in ordered_names ordered plain_records well_formed reading is_equality read_token read_byte read_from too_deep check_depth class_of span compared macro_name pcd_name digit_of value_in literal is_decimal is_hexadecimal hexadecimal_of number_of string_of string_at spelled is_wide word_of macro_of begins leading lexeme_by lexeme is_primary is_unary level_of run parse clash_or unary_kind binary_kind choice_kind and_digits or_digits apply_unary apply_binary comparison compare_numbers value_at setting_under_at setting_under primary_value missing_pcds unary_value both_values binary_value choice_value
bare_words_hold = refl
