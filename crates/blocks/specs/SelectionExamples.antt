-- The whole case of document 01 ("Lines and directives"): antt computes its marks, its count and its refusal from the definitions. Then
-- the year window of document 00, in the form that never holds and in the form that was meant.
use Rattle.std.specs.Prelude.{ℕ, ◌≡◌, refl, Bool, List, [], ◌∷◌, ◌++◌, replicate}
use Prim.Native.String.{String}
use Rattle.units.specs.Dialects.{by_itself}
use Rattle.units.specs.Refusals.{fault_at}
use Rattle.units.specs.declared.Reason.TheVariants.{DivisorZero}
use Rattle.text.specs.Bytes.{bytes, class_of}
use Rattle.text.specs.Runs.{span}
use Rattle.text.specs.Order.{compared}
use Rattle.text.specs.Numbers.{little_endian}
use Rattle.text.specs.Names.{macro_name, pcd_name}
use Rattle.settings.specs.Table.{records_in, zeros, is_name, well_formed_name, ordered_names, ordered, plain_kind, plain_record, plain_records, well_formed}
use Rattle.lookup.specs.Setting.{value_at, setting_under_at, setting_under}
use Rattle.literal.specs.Literal.{digit_of, value_in, literal, is_decimal, is_hexadecimal, hexadecimal_of, number_of}
use Rattle.lexeme.specs.Lexeme.{string_of, string_at, spelled, is_wide, word_of, macro_of, begins, leading, lexeme_by, lexeme}
use Rattle.token.specs.Tokens.{read_token, read_byte, read_from, too_deep, check_depth, reading}
use Rattle.arithmetic.specs.Digits.{and_digits, or_digits}
use Rattle.arithmetic.specs.Operators.{apply_unary, apply_binary, comparison, compare_numbers}
use Rattle.codes.specs.Levels.{is_unary, level_of, is_equality}
use Rattle.grammar.specs.Grammar.{is_primary}
use Rattle.grammar.specs.Parse.{run as run_goal, parse}
use Rattle.grammar.specs.Bars.{bars_outside}
use Rattle.value.specs.Kinds.{clash_or, unary_kind, binary_kind, choice_kind}
use Rattle.value.specs.Values.{primary_value, missing_pcds, unary_value, both_values, binary_value, choice_value}
use Rattle.evaluation.specs.Evaluation.{evaluation_in, of_tokens}
use Rattle.line.specs.Lines.{onto, ends_line, lines}
use Rattle.own.specs.Own.{records_of}
use Rattle.line.specs.Directives.{named, word_start, text_start, is_define, directive_of}
use Rattle.condition.specs.Conditions.{idle, of_answer, of_expression, name_at, of_named, of_macro, evaluate}
use Rattle.groups.specs.Rules.{plan, settled}
use Rattle.select.specs.Step.{step}
use Rattle.select.specs.Select.{Result, accepted, refused, run, selection}

-- a table of one number, below 256, under a name of three or four letters
abbrev pub setting : String → (padding : ℕ) → ℕ → List ℕ
setting name p x = bytes name ++ replicate p 0 ++ (0 ∷ 8 ∷ []) ++ replicate 6 0 ++ (x ∷ []) ++ replicate 55 0

abbrev pub file : List ℕ
file = bytes "!if $(FOO) == 2\nA\n!elseif 1 / 0\nB\n!else\nC\n!endif\nD\n"

-- the driver of a watchdog, from week 48 to week 5
abbrev pub never : List ℕ
never = bytes "!if $(WEEK) GE 48 AND $(WEEK) LE 5\nWatchdog\n!endif\n"

abbrev pub meant : List ℕ
meant = bytes "!if $(WEEK) GE 48 OR $(WEEK) LE 5\nWatchdog\n!endif\n"

-- with room for eight marks
abbrev pub results : (old : Bool) → List Result
results old =
    selection file (setting "FOO" 61 2) 8 (by_itself old)
    ∷ selection file (setting "FOO" 61 3) 8 (by_itself old)
    ∷ selection never (setting "WEEK" 60 50) 8 (by_itself old)
    ∷ selection meant (setting "WEEK" 60 50) 8 (by_itself old)
    ∷ []

-- in both editions
pub results_hold : (old : Bool) → results old ≡ accepted (4 ∷ 1 ∷ 2 ∷ 0 ∷ 3 ∷ 0 ∷ 5 ∷ 1 ∷ []) 1
    ∷ refused (fault_at DivisorZero 10) 3
    ∷ accepted (3 ∷ 0 ∷ 5 ∷ []) 3
    ∷ accepted (4 ∷ 1 ∷ 5 ∷ []) 2
    ∷ []
unfolding selection run step plan settled onto ends_line lines named word_start text_start is_define directive_of records_of evaluate of_expression of_macro of_named name_at idle of_answer evaluation_in of_tokens bars_outside records_in zeros is_name well_formed_name ordered_names ordered plain_kind plain_record plain_records well_formed little_endian value_at setting_under_at setting_under reading is_equality read_token read_byte read_from too_deep check_depth class_of span compared macro_name pcd_name digit_of value_in literal is_decimal is_hexadecimal hexadecimal_of number_of string_of string_at spelled is_wide word_of macro_of begins leading lexeme_by lexeme is_primary is_unary level_of run_goal parse clash_or unary_kind binary_kind choice_kind and_digits or_digits apply_unary apply_binary comparison compare_numbers primary_value missing_pcds unary_value both_values binary_value choice_value
results_hold old = refl
