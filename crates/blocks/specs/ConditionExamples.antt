-- Small texts whose conditions antt computes from the definitions, over a table of no settings and over one of a single setting.
use Rattle.std.specs.Prelude.{ℕ, ◌≡◌, refl, Bool, true, List, [], ◌∷◌, ◌++◌, map, replicate, Ok, Err, Result}
use Prim.Native.String.{String}
use Rattle.units.specs.Dialects.{by_itself, NEW, OLD}
use Rattle.units.specs.Refusals.{fault_at, unplaced}
use Rattle.units.specs.declared.Fault.{Fault}
use Rattle.units.specs.declared.Reason.TheVariants.{ConditionValue, NoDerivation, TextMalformed}
use Rattle.text.specs.Bytes.{bytes, class_of}
use Rattle.text.specs.Runs.{span}
use Rattle.text.specs.Order.{compared}
use Rattle.text.specs.Numbers.{little_endian}
use Rattle.text.specs.Names.{macro_name, pcd_name}
use Rattle.settings.specs.Table.{records_in, zeros, is_name, well_formed_name, ordered_names, ordered, plain_kind, plain_record, plain_records, well_formed}
use Rattle.lookup.specs.Setting.{value_at, setting_under_at, setting_under}
use Rattle.literal.specs.Literal.{digit_of, value_in, literal, is_decimal, is_hexadecimal, hexadecimal_of, number_of}
use Rattle.lexeme.specs.Lexeme.{string_of, string_at, spelled, is_wide, word_of, macro_of, begins, leading, lexeme_by, lexeme}
use Rattle.token.specs.Tokens.{read_token, read_byte, read_from, too_deep, check_depth, reading}
use Rattle.arithmetic.specs.Digits.{and_digits, or_digits}
use Rattle.arithmetic.specs.Operators.{apply_unary, apply_binary, comparison, compare_numbers}
use Rattle.codes.specs.Levels.{is_unary, level_of, is_equality}
use Rattle.grammar.specs.Grammar.{is_primary}
use Rattle.grammar.specs.Parse.{run, parse}
use Rattle.grammar.specs.Bars.{bars_outside}
use Rattle.value.specs.Kinds.{clash_or, unary_kind, binary_kind, choice_kind}
use Rattle.value.specs.Values.{primary_value, missing_pcds, unary_value, both_values, binary_value, choice_value}
use Rattle.evaluation.specs.Evaluation.{evaluation_in, of_tokens}
use Rattle.line.specs.declared.Directive.{Directive}
use Rattle.line.specs.declared.Directive.TheVariants.{If, Ifdef, Ifndef, Elseif, Else, Endif}
use Rattle.condition.specs.Conditions.{idle, of_answer, of_expression, name_at, of_named, of_macro, evaluate}
use Rattle.line.specs.declared.Condition.{Condition}
use Rattle.line.specs.declared.Condition.TheVariants.{Holds, Fails}

-- a directive, the text after its word, and its condition
pub record Example : Type 0 where
  pub directive : Directive
  pub text : String
  pub condition : Result Condition Fault

abbrev reads : Directive → String → Result Condition Fault → Example
reads d s c = record { directive = d; text = s; condition = c }

-- expressions
abbrev conditions : List Example
conditions =
    reads If " 1" (Ok (Holds 0))
    ∷ reads If " 0" (Ok (Fails 0))
    ∷ reads If " 2" (Err (unplaced ConditionValue))
    ∷ reads If " 'a'" (Err (unplaced ConditionValue))
    ∷ reads If " 1 + 1 == 2" (Ok (Holds 2))
    ∷ reads If " # c" (Err (fault_at NoDerivation 1))
    ∷ reads If "" (Err (unplaced TextMalformed))
    ∷ reads If "(1)" (Err (unplaced TextMalformed))
    ∷ reads Elseif "\t1" (Ok (Holds 0))
    ∷ reads If " 1 | 0" (Ok (Holds 1))
    ∷ reads If " 2 | 1" (Err (unplaced ConditionValue))
    ∷ reads If " 0 || 0" (Ok (Fails 1))
    ∷ reads Elseif " 1 || 1 / 0" (Ok (Holds 1))
    ∷ reads Elseif " 1 |" (Err (fault_at NoDerivation 4))
    ∷ []

-- in both editions
conditions_hold : (old : Bool) → map (λ x. evaluate [] x.directive (bytes x.text) (by_itself old)) conditions ≡ map (λ x. x.condition) conditions
unfolding evaluate of_expression of_answer evaluation_in of_tokens bars_outside records_in reading is_equality read_token read_byte read_from too_deep check_depth class_of span compared macro_name pcd_name digit_of value_in literal is_decimal is_hexadecimal hexadecimal_of number_of string_of string_at spelled is_wide word_of macro_of begins leading lexeme_by lexeme is_primary is_unary level_of run parse clash_or unary_kind binary_kind choice_kind and_digits or_digits apply_unary apply_binary comparison compare_numbers primary_value missing_pcds unary_value both_values binary_value choice_value
conditions_hold old = refl

-- names that the table does not have, one too long for any table, texts that are no name, and directives that take none
abbrev texts : List Example
texts =
    reads Ifdef " A" (Ok (Fails 0))
    ∷ reads Ifdef " A#c" (Ok (Fails 0))
    ∷ reads Ifdef " X0123456789ABCDEF0123456789ABCDEF0123456789ABCDEF0123456789ABCDEF" (Ok (Fails 0))
    ∷ reads Ifndef " A" (Ok (Holds 0))
    ∷ reads Ifdef " a" (Err (unplaced TextMalformed))
    ∷ reads Ifdef " A B" (Err (unplaced TextMalformed))
    ∷ reads Ifdef " A || B" (Err (unplaced TextMalformed))
    ∷ reads Ifdef " # A" (Err (unplaced TextMalformed))
    ∷ reads Ifdef "A" (Err (unplaced TextMalformed))
    ∷ reads Else "" (Ok (Holds 0))
    ∷ reads Else " # c" (Ok (Holds 0))
    ∷ reads Else "#c" (Ok (Holds 0))
    ∷ reads Else "x" (Err (unplaced TextMalformed))
    ∷ reads Endif " 1" (Err (unplaced TextMalformed))
    ∷ []

-- in both editions
texts_hold : (old : Bool) → map (λ x. evaluate [] x.directive (bytes x.text) (by_itself old)) texts ≡ map (λ x. x.condition) texts
unfolding evaluate of_macro of_named name_at idle span macro_name records_in setting_under_at setting_under
texts_hold old = refl

-- A = 0: the name and 63 zeros, the kind, a length of 8, and zeros
abbrev table : List ℕ
table = bytes "A" ++ (replicate 64 0 ++ (8 ∷ replicate 62 0))

well_formed_table : well_formed table ≡ true
unfolding span compared macro_name pcd_name records_in zeros is_name well_formed_name ordered_names ordered plain_kind plain_record plain_records well_formed
well_formed_table = refl

-- whether a name is in the table, whatever its setting
abbrev names : List Example
names =
    reads Ifdef " A" (Ok (Holds 0))
    ∷ reads Ifndef " \tA # c" (Ok (Fails 0))
    ∷ reads Ifdef " AA" (Ok (Fails 0))
    ∷ []

-- in both editions
names_hold : (old : Bool) → map (λ x. evaluate table x.directive (bytes x.text) (by_itself old)) names ≡ map (λ x. x.condition) names
unfolding evaluate of_macro of_named name_at idle span compared macro_name records_in little_endian value_at setting_under_at setting_under
names_hold old = refl

-- `$(NAME)`, and what looks like it (document 02, order 5)
abbrev uses : List Example
uses =
    reads Ifdef " $(A)" (Ok (Holds 0))
    ∷ reads Ifndef " \t$(A) # c" (Ok (Fails 0))
    ∷ reads Ifdef " $(AA)" (Ok (Fails 0))
    ∷ reads Ifdef " $(A" (Err (unplaced TextMalformed))
    ∷ reads Ifdef " $A" (Err (unplaced TextMalformed))
    ∷ reads Ifdef " $()" (Err (unplaced TextMalformed))
    ∷ reads Ifdef " $( A)" (Err (unplaced TextMalformed))
    ∷ reads Ifdef " $(A) B" (Err (unplaced TextMalformed))
    ∷ reads Ifdef "$(A)" (Err (unplaced TextMalformed))
    ∷ []

-- in the old edition; in the new one all of them are malformed
uses_hold : map (λ x. evaluate table x.directive (bytes x.text) OLD) uses ≡ map (λ x. x.condition) uses
unfolding evaluate of_macro of_named name_at idle span compared macro_name records_in little_endian value_at setting_under_at setting_under
uses_hold = refl

uses_refused : map (λ x. evaluate table x.directive (bytes x.text) NEW) uses ≡ map (λ x. Err (unplaced TextMalformed)) uses
unfolding evaluate of_macro of_named name_at idle span compared macro_name records_in little_endian value_at setting_under_at setting_under
uses_refused = refl
