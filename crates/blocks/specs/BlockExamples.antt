-- The whole case of document 01 ("Lines and directives") by its blocks: antt computes that its lines derive them, and what they mean. Then
-- a group in a branch that is not taken, of which no directive is read, and blocks that set macros (document 02, order 6). Last a file with
-- two `!else` in a group that is not read, which derives no blocks (proofs/TwoElses.antt) and is refused.
use Rattle.std.specs.Prelude.{ℕ, ◌≡◌, refl, Bool, true, false, List, [], ◌∷◌}
use Rattle.units.specs.Dialects.{by_itself}
use Rattle.units.specs.Refusals.{fault_at, unplaced}
use Rattle.units.specs.declared.Reason.TheVariants.{DirectiveStray, DivisorZero}
use Rattle.text.specs.Bytes.{bytes, class_of}
use Rattle.text.specs.Runs.{span}
use Rattle.text.specs.Order.{compared}
use Rattle.text.specs.Numbers.{little_endian, lowest_bytes}
use Rattle.text.specs.Names.{macro_name, pcd_name}
use Rattle.settings.specs.Table.{records_in, ordered_names, ordered, plain_records, well_formed}
use Rattle.lookup.specs.Setting.{value_at, setting_under_at, setting_under}
use Rattle.literal.specs.Literal.{digit_of, value_in, literal, is_decimal, is_hexadecimal, hexadecimal_of, number_of}
use Rattle.lexeme.specs.Lexeme.{string_of, string_at, spelled, is_wide, word_of, macro_of, begins, leading, lexeme_by, lexeme}
use Rattle.token.specs.Tokens.{read_token, read_byte, read_from, too_deep, check_depth, reading}
use Rattle.arithmetic.specs.Digits.{and_digits, or_digits}
use Rattle.arithmetic.specs.Operators.{apply_unary, apply_binary, comparison, compare_numbers}
use Rattle.codes.specs.Levels.{is_unary, level_of, is_equality}
use Rattle.grammar.specs.Grammar.{is_primary}
use Rattle.grammar.specs.Parse.{run as run_goal, parse}
use Rattle.grammar.specs.Bars.{bars_outside}
use Rattle.value.specs.Kinds.{clash_or, unary_kind, binary_kind, choice_kind}
use Rattle.value.specs.Values.{primary_value, missing_pcds, unary_value, both_values, binary_value, choice_value}
use Rattle.evaluation.specs.Evaluation.{evaluation_in, of_tokens}
use Rattle.line.specs.Lines.{onto, ends_line, lines}
use Rattle.own.specs.Own.{record_of, records_of, put, has}
use Rattle.line.specs.Directives.{named, word_start, text_start, is_define, directive_of}
use Rattle.condition.specs.Conditions.{idle, of_answer, of_expression, name_at, of_named, of_macro, evaluate}
use Rattle.define.specs.Define.{shaped, of_number, of_answer as define_answer, definition_of}
use Rattle.groups.specs.Rules.{plan, settled}
use Rattle.select.specs.Step.{step}
use Rattle.select.specs.Select.{refused, run, start, selection}
use Rattle.blocks.specs.SelectionExamples.{setting, file}
use Rattle.blocks.specs.Blocks.{Blocks, empty, line, group, endif, elseif, else, Derives}
use Rattle.blocks.specs.Meaning.{Meaning, means, fault, meaning}
use Rattle.blocks.specs.Reading.{reads_of}

abbrev pub whole : Blocks
whole =
    group (bytes "!if $(FOO) == 2") (line (bytes "A") empty)
    (elseif (bytes "!elseif 1 / 0") (line (bytes "B") empty)
    (else (bytes "!else") (line (bytes "C") empty)
    (bytes "!endif")))
    (line (bytes "D") empty)

-- a skipped group with every directive, whose conditions would be faults
abbrev pub skipped : Blocks
skipped =
    group (bytes "!if 0")
    (group (bytes "!ifdef ?") (line (bytes "A") empty)
    (elseif (bytes "!elif 1 / 0") (line (bytes "B") empty)
    (else (bytes "!else x") empty
    (bytes "!endif x")))
    empty)
    (else (bytes "!else") (line (bytes "C") empty)
    (bytes "!endif"))
    empty

-- where the table's `FOO` is 2, `A` is 1 at the first `!if`: the second DEFINE line is kept, and the third one, which is malformed, is dropped
abbrev pub defined : Blocks
defined =
    line (bytes "DEFINE A = $(FOO) - 1")
    (group (bytes "!if $(A)") (line (bytes "DEFINE A = 0") empty)
    (else (bytes "!else") (line (bytes "DEFINE A = |") empty)
    (bytes "!endif"))
    (group (bytes "!if $(A) == 0") (line (bytes "X") empty)
    (endif (bytes "!endif"))
    empty))

-- the second `!else`, in line 4, belongs to a group that is not read
abbrev pub two_elses : List ℕ
two_elses = bytes "!ifdef A\n!ifdef B\n!else\n!else\n!endif\n!endif\n"

pub whole_derives : Derives (lines file) whole
unfolding onto ends_line lines named word_start text_start directive_of span compared class_of
whole_derives = record { lines = refl; words = (refl, (refl, tt), (refl, (refl, tt), (refl, (refl, tt), refl)), (refl, tt)) }

-- in both editions, here and below
pub meanings_hold : (old : Bool) → ◌≡◌ {A = List Meaning}
    (meaning (setting "FOO" 61 2) [] true whole (by_itself old)
    ∷ meaning (setting "FOO" 61 3) [] true whole (by_itself old)
    ∷ meaning [] [] true skipped (by_itself old)
    ∷ meaning (setting "FOO" 61 2) [] true defined (by_itself old)
    ∷ [])
    (means (4 ∷ 1 ∷ 2 ∷ 0 ∷ 3 ∷ 0 ∷ 5 ∷ 1 ∷ []) 1 []
    ∷ fault (fault_at DivisorZero 10) 2
    ∷ means (3 ∷ 2 ∷ 0 ∷ 2 ∷ 0 ∷ 2 ∷ 2 ∷ 4 ∷ 1 ∷ 5 ∷ []) 0 []
    ∷ means (6 ∷ 4 ∷ 6 ∷ 3 ∷ 0 ∷ 5 ∷ 4 ∷ 1 ∷ 5 ∷ []) 2 (of_number (bytes "A") 0 ∷ [])
    ∷ [])
unfolding meaning named word_start text_start is_define directive_of record_of records_of put has shaped define_answer definition_of lowest_bytes evaluate of_expression of_macro of_named name_at idle of_answer evaluation_in of_tokens bars_outside records_in little_endian value_at setting_under_at setting_under reading is_equality read_token read_byte read_from too_deep check_depth class_of span compared macro_name pcd_name digit_of value_in literal is_decimal is_hexadecimal hexadecimal_of number_of string_of string_at spelled is_wide word_of macro_of begins leading lexeme_by lexeme is_primary is_unary level_of run_goal parse clash_or unary_kind binary_kind choice_kind and_digits or_digits apply_unary apply_binary comparison compare_numbers primary_value missing_pcds unary_value both_values binary_value choice_value
meanings_hold old = refl

-- which of their lines are read
pub readings_hold : (old : Bool) → ◌≡◌ {A = List (List Bool)}
    (reads_of (setting "FOO" 61 2) [] true whole (by_itself old)
    ∷ reads_of [] [] true skipped (by_itself old)
    ∷ reads_of (setting "FOO" 61 2) [] true defined (by_itself old)
    ∷ [])
    ((true ∷ false ∷ false ∷ false ∷ true ∷ false ∷ true ∷ false ∷ [])
    ∷ (true ∷ false ∷ false ∷ false ∷ false ∷ false ∷ false ∷ true ∷ false ∷ true ∷ [])
    ∷ (true ∷ true ∷ true ∷ true ∷ false ∷ true ∷ true ∷ false ∷ true ∷ [])
    ∷ [])
unfolding meaning reads_of named word_start text_start is_define directive_of record_of records_of put has shaped define_answer definition_of lowest_bytes evaluate of_expression of_macro of_named name_at idle of_answer evaluation_in of_tokens bars_outside records_in little_endian value_at setting_under_at setting_under reading is_equality read_token read_byte read_from too_deep check_depth class_of span compared macro_name pcd_name digit_of value_in literal is_decimal is_hexadecimal hexadecimal_of number_of string_of string_at spelled is_wide word_of macro_of begins leading lexeme_by lexeme is_primary is_unary level_of run_goal parse clash_or unary_kind binary_kind choice_kind and_digits or_digits apply_unary apply_binary comparison compare_numbers primary_value missing_pcds unary_value both_values binary_value choice_value
readings_hold old = refl

pub two_elses_refused : (old : Bool) → (run [] 1 start (lines two_elses) (by_itself old) ≡ refused (unplaced DirectiveStray) 4)
    × (selection two_elses [] 6 (by_itself old) ≡ refused (unplaced DirectiveStray) 4)
unfolding selection run step plan settled onto ends_line lines named word_start text_start is_define directive_of records_of evaluate of_macro of_named name_at idle records_in ordered_names ordered plain_records well_formed little_endian value_at setting_under_at setting_under class_of span compared macro_name pcd_name
two_elses_refused old = (refl, refl)
