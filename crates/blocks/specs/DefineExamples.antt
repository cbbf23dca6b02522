-- Small files with DEFINE lines (document 02, order 6) whose selections antt computes from the definitions.
use Rattle.std.specs.Prelude.{ℕ, zero, suc, ◌≡◌, refl, Bool, List, [], ◌∷◌, map, replicate}
use Prim.Native.String.{String}
use Rattle.units.specs.Dialects.{by_itself}
use Rattle.units.specs.Refusals.{fault_at, unplaced}
use Rattle.units.specs.declared.Reason.TheVariants.{BarOutside, DefinedLong, DefinedMany, NoDerivation, TextMalformed, TokenBad}
use Rattle.text.specs.Bytes.{byte, bytes, class_of}
use Rattle.text.specs.Runs.{span}
use Rattle.text.specs.Order.{compared}
use Rattle.text.specs.Numbers.{little_endian, lowest_bytes}
use Rattle.text.specs.Names.{macro_name, pcd_name}
use Rattle.settings.specs.Table.{records_in, zeros, is_name, well_formed_name, ordered_names, ordered, plain_kind, plain_record, plain_records, well_formed}
use Rattle.lookup.specs.Setting.{value_at, setting_under_at, setting_under}
use Rattle.literal.specs.Literal.{digit_of, value_in, literal, is_decimal, is_hexadecimal, hexadecimal_of, number_of}
use Rattle.lexeme.specs.Lexeme.{string_of, string_at, spelled, is_wide, word_of, macro_of, begins, leading, lexeme_by, lexeme}
use Rattle.token.specs.Tokens.{read_token, read_byte, read_from, too_deep, check_depth, reading}
use Rattle.arithmetic.specs.Digits.{and_digits, or_digits}
use Rattle.arithmetic.specs.Operators.{apply_unary, apply_binary, comparison, compare_numbers}
use Rattle.codes.specs.Levels.{is_unary, level_of, is_equality}
use Rattle.grammar.specs.Grammar.{is_primary}
use Rattle.grammar.specs.Parse.{run as run_goal, parse}
use Rattle.grammar.specs.Bars.{bars_outside}
use Rattle.value.specs.Kinds.{clash_or, unary_kind, binary_kind, choice_kind}
use Rattle.value.specs.Values.{primary_value, missing_pcds, unary_value, both_values, binary_value, choice_value}
use Rattle.evaluation.specs.Evaluation.{evaluation_in, of_tokens}
use Rattle.line.specs.Lines.{onto, ends_line, lines}
use Rattle.own.specs.Own.{Own, record_of, records_of, put, has}
use Rattle.line.specs.Directives.{named, word_start, text_start, is_define, directive_of}
use Rattle.condition.specs.Conditions.{idle, of_answer, of_expression, name_at, of_named, of_macro, evaluate}
use Rattle.define.specs.Define.{shaped, Definition, sets, fails, of_number, of_answer as define_answer, definition_of}
use Rattle.groups.specs.Rules.{plan, settled}
use Rattle.select.specs.Step.{step}
use Rattle.select.specs.Select.{Result, accepted, refused, run, selection}
use Rattle.blocks.specs.SelectionExamples.{setting}

-- a file and its selection
pub record Example : Type 0 where
  pub file : String
  pub result : Result

abbrev selects : String → Result → Example
selects s r = record { file = s; result = r }

-- over a table of no settings
abbrev examples : List Example
examples =
    -- set and used; the operators of both lines count
    selects "DEFINE A = 1 + 1\n!if $(A) == 2\nX\n!endif\n" (accepted (6 ∷ 4 ∷ 1 ∷ 5 ∷ []) 2)
    -- a later line overrides an earlier one
    ∷ selects "DEFINE A=1\n\tDEFINE  A\t= 'x' # c\n!if $(A) == 'x'\nX\n!endif\n" (accepted (6 ∷ 6 ∷ 4 ∷ 1 ∷ 5 ∷ []) 1)
    -- it sets its macro from the next line on, in `!ifdef` too
    ∷ selects "!ifdef A\nX\n!endif\nDEFINE A = 0\n!ifdef A\nX\n!endif\n" (accepted (3 ∷ 0 ∷ 5 ∷ 6 ∷ 4 ∷ 1 ∷ 5 ∷ []) 0)
    -- the value is settled at the line
    ∷ selects "DEFINE A = $(B)\nDEFINE B = 1\n!if $(A) == 0\nX\n!endif\n" (accepted (6 ∷ 6 ∷ 4 ∷ 1 ∷ 5 ∷ []) 1)
    -- in a branch that is not taken any text is left alone
    ∷ selects "!if 0\nDEFINE\nDEFINE A = 1 |\nDEFINE A = 1\n!endif\n!ifdef A\n!endif\n" (accepted (3 ∷ 0 ∷ 0 ∷ 0 ∷ 5 ∷ 3 ∷ 5 ∷ []) 0)
    -- other first words
    ∷ selects "DEFINED A\nDEFINE_A = 1\n-DEFINE\n" (accepted (1 ∷ 1 ∷ 1 ∷ []) 0)
    -- 22
    ∷ selects "X\nDEFINE\n" (refused (unplaced TextMalformed) 2)
    ∷ selects "DEFINE=1\n" (refused (unplaced TextMalformed) 1)
    ∷ selects "DEFINE A 1\n" (refused (unplaced TextMalformed) 1)
    ∷ selects "DEFINE $(A) = 1\n" (refused (unplaced TextMalformed) 1)
    -- the refusals of the expression, with their places in the line; bars need parentheses
    ∷ selects "DEFINE A = 1 | 0\n" (refused (fault_at BarOutside 13) 1)
    ∷ selects "DEFINE A = (1 | 0)\n" (accepted (6 ∷ []) 1)
    ∷ selects "DEFINE A == 1\n" (refused (fault_at TokenBad 10) 1)
    ∷ selects "DEFINE A =\n" (refused (fault_at NoDerivation 10) 1)
    -- strings of 56 bytes and of 57
    ∷ selects "DEFINE A = '01234567012345670123456701234567012345670123456701234567'\n" (accepted (6 ∷ []) 0)
    ∷ selects "DEFINE A = '012345670123456701234567012345670123456701234567012345678'\n" (refused (unplaced DefinedLong) 1)
    ∷ []

-- in both editions, here and below
pub examples_hold : (old : Bool) → map (λ x. selection (bytes x.file) [] 9 (by_itself old)) examples ≡ map (λ x. x.result) examples
unfolding selection run step plan settled onto ends_line lines named word_start text_start is_define directive_of record_of records_of put has shaped define_answer definition_of lowest_bytes evaluate of_expression of_macro of_named name_at idle of_answer evaluation_in of_tokens bars_outside records_in zeros is_name well_formed_name ordered_names ordered plain_kind plain_record plain_records well_formed little_endian value_at setting_under_at setting_under reading is_equality read_token read_byte read_from too_deep check_depth class_of span compared macro_name pcd_name digit_of value_in literal is_decimal is_hexadecimal hexadecimal_of number_of string_of string_at spelled is_wide word_of macro_of begins leading lexeme_by lexeme is_primary is_unary level_of run_goal parse clash_or unary_kind binary_kind choice_kind and_digits or_digits apply_unary apply_binary comparison compare_numbers primary_value missing_pcds unary_value both_values binary_value choice_value
examples_hold old = refl

-- settings of k macros, with the names of one letter `A`, of two, and so on
abbrev settings_of : (k : ℕ) → List Own
settings_of zero = []
settings_of (suc k) = of_number (replicate (suc k) (byte "A")) 0 ∷ settings_of k

-- 27: after 64 names one of them can be set again, and no other; 28 comes before 27
pub sixty_five_names : (old : Bool) → ◌≡◌ {A = List Definition}
    (definition_of (settings_of 64) [] (bytes "DEFINE AAA = 1") (by_itself old)
    ∷ definition_of (settings_of 64) [] (bytes "DEFINE B = 1") (by_itself old)
    ∷ definition_of (settings_of 63) [] (bytes "DEFINE B = 1") (by_itself old)
    ∷ definition_of (settings_of 64) [] (bytes "DEFINE B = '012345670123456701234567012345670123456701234567012345678'") (by_itself old)
    ∷ [])
    (sets (of_number (bytes "AAA") 1) 0
    ∷ fails (unplaced DefinedMany)
    ∷ sets (of_number (bytes "B") 1) 0
    ∷ fails (unplaced DefinedLong)
    ∷ [])
unfolding record_of records_of put has shaped define_answer definition_of lowest_bytes evaluation_in of_tokens bars_outside records_in little_endian value_at setting_under_at setting_under reading is_equality read_token read_byte read_from too_deep check_depth class_of span compared macro_name pcd_name digit_of value_in literal is_decimal is_hexadecimal hexadecimal_of number_of string_of string_at spelled is_wide word_of macro_of begins leading lexeme_by lexeme is_primary is_unary level_of run_goal parse clash_or unary_kind binary_kind choice_kind and_digits or_digits apply_unary apply_binary comparison compare_numbers primary_value missing_pcds unary_value both_values binary_value choice_value
sixty_five_names old = refl

-- the setting of a file wins over that of the table
pub table_overridden : (old : Bool)
    → selection (bytes "!if $(FOO) == 3\n!endif\nDEFINE FOO = 2\n!if $(FOO) == 2\nX\n!endif\n") (setting "FOO" 61 3) 9 (by_itself old)
    ≡ accepted (4 ∷ 5 ∷ 6 ∷ 4 ∷ 1 ∷ 5 ∷ []) 2
unfolding selection run step plan settled onto ends_line lines named word_start text_start is_define directive_of record_of records_of put has shaped define_answer definition_of lowest_bytes evaluate of_expression of_macro of_named name_at idle of_answer evaluation_in of_tokens bars_outside records_in zeros is_name well_formed_name ordered_names ordered plain_kind plain_record plain_records well_formed little_endian value_at setting_under_at setting_under reading is_equality read_token read_byte read_from too_deep check_depth class_of span compared macro_name pcd_name digit_of value_in literal is_decimal is_hexadecimal hexadecimal_of number_of string_of string_at spelled is_wide word_of macro_of begins leading lexeme_by lexeme is_primary is_unary level_of run_goal parse clash_or unary_kind binary_kind choice_kind and_digits or_digits apply_unary apply_binary comparison compare_numbers primary_value missing_pcds unary_value both_values binary_value choice_value
table_overridden old = refl
