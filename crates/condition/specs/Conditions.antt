-- The condition in the text after the word of a directive that is read (document 01, "Lines and directives"): it holds or fails, with the
-- number of operators that were applied; or it is refused: 22, then the refusals of the expression, except 8, then 13. `δ` is the dialect.
-- A refusal of the expression has its place (document 02, order 3), first in the text after the word, then in the line.
use Rattle.std.specs.Prelude.{ℕ, ◌+◌, Bool, true, false, not, ◌&&◌, ◌||◌, List, length, get_or, take, drop, eqb, ltb, leb, Result, Ok, Err}
use Rattle.std.specs.Option.{is_some}
use Rattle.units.specs.Refusals.{fault_at, unplaced, placed}
use Rattle.units.specs.Dialects.{in_directives}
use Rattle.units.specs.declared.Dialect.{Dialect}
use Rattle.units.specs.declared.Fault.{Fault}
use Rattle.units.specs.declared.Reason.TheVariants.{ConditionValue, TextMalformed}
use Rattle.text.specs.Bytes.{byte, pick, blank}
use Rattle.text.specs.Runs.{span}
use Rattle.text.specs.Names.{macro_name}
use Rattle.text.specs.declared.runs.Set.TheVariants.{Blanks}
use Rattle.lookup.specs.Setting.{setting_under}
use Rattle.value.specs.Places.{over}
use Rattle.value.specs.Values.{number, text, fault}
use Rattle.evaluation.specs.Evaluation.{Evaluation, value, refused, evaluation_in}
use Rattle.line.specs.Directives.{text_start, text_of}
use Rattle.line.specs.declared.Directive.{Directive}
use Rattle.line.specs.declared.Directive.TheVariants.{Plain, If, Ifdef, Ifndef, Elseif, Else, Endif, Unknown}
use Rattle.line.specs.declared.Condition.{Condition}
use Rattle.line.specs.declared.Condition.TheVariants.{Holds, Fails}
use Rattle.condition.specs.declared.macros.Named.{Named}

-- the number of operators that were applied, 0 for a refusal
abbrev pub count_of : Result Condition Fault → ℕ
count_of (Ok (Holds n)) = n
count_of (Ok (Fails n)) = n
count_of (Err f) = 0

-- the offset of a refusal, 0 if there is none
abbrev pub offset_of : Result Condition Fault → ℕ
offset_of (Ok (Holds n)) = 0
offset_of (Ok (Fails n)) = 0
offset_of (Err f) = f.at.0

-- a blank follows the word directly
abbrev pub spaced : List ℕ → Bool
spaced s = blank (get_or s 0 0)

-- only blanks and an optional comment
unfoldable pub idle : List ℕ → Bool
idle s = leb (length s) (span Blanks s) || eqb (get_or s (span Blanks s) 0) (byte "#")

-- a number, with its count of operators, as a condition: 1 holds, 0 fails, any other is refused
abbrev pub of_number : (x count : ℕ) → Result Condition Fault
of_number x n = pick (eqb x 1) (Ok (Holds n)) (pick (eqb x 0) (Ok (Fails n)) (Err (unplaced ConditionValue)))

-- the answer to an expression as a condition (the value of an answer is never a fault)
unfoldable pub of_answer : Evaluation → Result Condition Fault
of_answer (value (number x) n) = of_number x n
of_answer (value (text k p s) n) = Err (unplaced ConditionValue)
of_answer (value (fault r) n) = Err (unplaced ConditionValue)
of_answer (refused r) = Err (record { reason = r.reason; at = r.offset })

-- `!if` and `!elseif`: the argument is all of the text, and bars need no parentheses in it (document 02, order 1)
unfoldable pub of_expression : (t : List ℕ) → List ℕ → Dialect → Result Condition Fault
of_expression t s δ = pick (spaced s) (of_answer (evaluation_in (over s t) (in_directives δ))) (Err (unplaced TextMalformed))

-- the name of a macro at the front of a text: its start, its length, which is 0 if there is none, and the start of the text after it
abbrev pub name_over : (start len after : ℕ) → Named
name_over a n z = record { start = record { 0 = a }; len = n; after = record { 0 = z } }

-- `NAME`
abbrev pub plain_name : List ℕ → Named
plain_name s = name_over 0 (macro_name s) (macro_name s)

-- `$(NAME)` with a name of n bytes; there is none if a parenthesis is missing
abbrev pub used_over : ℕ → List ℕ → Named
used_over n s = pick (eqb (get_or s 1 0) (byte "(") && eqb (get_or s (2 + n) 0) (byte ")")) (name_over 2 n (n + 3)) (name_over 0 0 0)

abbrev pub used_name : List ℕ → Named
used_name s = used_over (macro_name (drop 2 s)) s

-- one of the two; `$(NAME)` in the old edition only (document 02, order 5). In the new one nothing that starts with `$` has a name at its front
unfoldable pub name_at : List ℕ → Dialect → Named
name_at s δ = pick (eqb (get_or s 0 0) (byte "$") && δ.old) (used_name s) (plain_name s)

-- a test as a condition; no operator is applied
abbrev pub tested : Bool → Result Condition Fault
tested b = pick b (Ok (Holds 0)) (Ok (Fails 0))

-- whether a name is in the table, or is not, as wanted
abbrev pub decided : (wanted found : Bool) → Result Condition Fault
decided wanted found = tested (pick wanted found (not found))

-- there is a name at the front, and only blanks and an optional comment follow it
abbrev pub alone : List ℕ → Named → Bool
alone s n = ltb 0 n.len && idle (drop n.after.0 s)

-- the table has a record under the name
abbrev pub present : (t : List ℕ) → List ℕ → Named → Bool
present t s n = is_some (setting_under t (take n.len (drop n.start.0 s)))

-- the condition in a text s with this name at its front
unfoldable pub of_named : (t : List ℕ) → (wanted : Bool) → List ℕ → Named → Result Condition Fault
of_named t wanted s n = pick (alone s n) (decided wanted (present t s n)) (Err (unplaced TextMalformed))

-- `!ifdef` if `wanted` is true, `!ifndef` if it is false: the name of one macro, after blanks, before blanks and an optional comment
unfoldable pub of_macro : (t : List ℕ) → (wanted : Bool) → List ℕ → Dialect → Result Condition Fault
of_macro t wanted s δ =
    let m : List ℕ = drop (span Blanks s) s in
    pick (spaced s) (of_named t wanted m (name_at m δ)) (Err (unplaced TextMalformed))

-- `!else` and `!endif`
abbrev pub of_nothing : List ℕ → Result Condition Fault
of_nothing s = pick (idle s) (Ok (Holds 0)) (Err (unplaced TextMalformed))

-- the condition in the text s after the word of a directive, over a table t; a plain line and an unknown word get a fixed one
unfoldable pub evaluate : (t : List ℕ) → Directive → List ℕ → Dialect → Result Condition Fault
evaluate t If s δ = of_expression t s δ
evaluate t Elseif s δ = of_expression t s δ
evaluate t Ifdef s δ = of_macro t true s δ
evaluate t Ifndef s δ = of_macro t false s δ
evaluate t Else s δ = of_nothing s
evaluate t Endif s δ = of_nothing s
evaluate t Plain s δ = Ok (Fails 0)
evaluate t Unknown s δ = Ok (Fails 0)

-- a condition whose text starts at this byte of its line: a place in the text becomes a place in the line; a refusal that has no place keeps 0
abbrev pub in_line : (start : ℕ) → Result Condition Fault → Result Condition Fault
in_line p (Ok (Holds n)) = Ok (Holds n)
in_line p (Ok (Fails n)) = Ok (Fails n)
in_line p (Err f) = Err (fault_at f.reason (pick (placed f.reason) (p + f.at.0) 0))

-- the condition of a directive d in the line l
abbrev pub condition_of : (t : List ℕ) → Directive → (l : List ℕ) → Dialect → Result Condition Fault
condition_of t d l δ = in_line (text_start l) (evaluate t d (text_of l) δ)
