-- What is proved, on one page: each promise of docs/PROMISES.md that is a theorem, with its full statement, proved by citing its lemma.
-- Bytes are natural numbers; `t` is a table of settings, `f` a file, each a list of bytes; `m` is a memory: an expression and a table; `δ` is
-- any dialect. The definitions in the statements are in the files that the imports name.
-- Demand 1 is no theorem here: the toolchain proves of each function that it ends, does nothing undefined and gives an answer for any bytes.
use Rattle.std.specs.Prelude.{ℕ, ◌+◌, ◌-◌, ◌^◌, ◌≤◌, ◌<◌, ◌≡◌, ◌↔◌, ◌⊎◌, Bool, true, false, ◌||◌, length, get_or, take, drop, replicate}
use Rattle.std.specs.Prelude.{Option, Some, None, unwrap_or, Result, Ok, Err}
use Rattle.std.specs.Option.{is_some, option_map}
use mathlib.Core.List.{List, [], ◌∷◌, ◌++◌, map, Memᴰ, Sublistᴰ}
use Rattle.units.specs.Refusals.{TOKEN_BAD, NO_DERIVATION, BAR_OUTSIDE, TEXT_MALFORMED}
use Rattle.units.specs.Refusals.{reason_number, refusal_at, fault_at, unplaced, placed}
use Rattle.units.specs.Leftmost.{there}
use Rattle.units.specs.Dialects.{by_itself, in_directives, in_new, in_old}
use Rattle.units.specs.declared.Refusal.{Refusal}
use Rattle.units.specs.declared.Dialect.{Dialect}
use Rattle.units.specs.declared.Fault.{Fault}
use Rattle.units.specs.declared.Offset.{Offset}
use Rattle.units.specs.declared.Reason.TheVariants.{TableMalformed, TokenBad, NoDerivation, BarOutside, PcdMissing, KindsUnsuited}
use Rattle.units.specs.declared.Reason.TheVariants.{FileUnfinished, TextMalformed, DefinedMany, DefinedLong}
use Rattle.text.specs.Bytes.{byte, bytes, pick}
use Rattle.text.specs.Runs.{span}
use Rattle.text.specs.declared.runs.Set.TheVariants.{Word}
use Rattle.settings.specs.Table.{records, ordered, well_formed}
use Rattle.settings.proofs.Ordered.{in_order}
use Rattle.halving.specs.Halving.{name_of_record, halving, Finds}
use Rattle.halving.proofs.Ascending.{ascends}
use Rattle.halving.proofs.Finds.{finds, one_record}
use Rattle.halving.proofs.RoundsBounded.{at_most_ten, ten_in_a_table, first_takes_ten}
use Rattle.halving.proofs.Beginning.{first_bytes_decide}
use Rattle.halving.proofs.FullTable.{full_table}
use Rattle.lookup.specs.Setting.{setting_under, record_among, record_under}
use Rattle.lookup.specs.declared.Place.{Place}
use Rattle.lookup.specs.declared.TextKind.{TextKind}
use Rattle.lookup.specs.declared.TextKind.TheVariants.{String}
use Rattle.lookup.specs.declared.Value.TheVariants.{Number, Text}
use Rattle.lookup.proofs.Halved.{halved_record}
use Rattle.own.specs.Own.{Own, record_of, scope, put, has}
use Rattle.scoped.specs.Macros.{IsPcd, AllMacros, AllDiffer}
use Rattle.scoped.proofs.UnderName.{under_scope, found_scope}
use Rattle.codes.specs.Codes.{BARE, OPEN, EQUAL, NOT_EQUAL}
use Rattle.codes.specs.Levels.{is_equality}
use Rattle.codes.specs.Spellings.{found}
use Rattle.lexeme.specs.Lexeme.{lexeme}
use Rattle.token.specs.Tokens.{MAX_TOKENS, Token, first_place, ending_number, read_from, too_deep, codes_of, reading}
use Rattle.scanned.specs.Scanned.{Scanned}
use Rattle.scanned.specs.Depth.{FirstOver}
use Rattle.scanned.proofs.ReadingScanned.{reading_scanned, scanned_reading}
use Rattle.scanned.proofs.StartsAscend.{starts_ascend}
use Rattle.scanned.proofs.TooDeepPlace.{too_deep_place, first_over_opens}
use Rattle.grammar.specs.Grammar.{Tree, expression, Derives}
use Rattle.grammar.specs.Fold.{Algebra, Counts, fold}
use Rattle.grammar.specs.Bars.{bare_bars, bars_outside}
use Rattle.grammar.specs.Parse.{Reads, parse, accepted as parsed, refused as unparsed}
use Rattle.grammar.proofs.Decided.{unambiguous, bounded, evaluates}
use Rattle.grammar.proofs.Bars.{bars_seen}
use Rattle.value.specs.Places.{Memory, over, in_expression}
use Rattle.beginnings.specs.Beginnings.{Begins, FirstBad, Supply}
use Rattle.beginnings.proofs.FirstBad.{shorter, first_bad_single, locates}
use Rattle.blame.specs.Blame.{to_blame}
use Rattle.blame.specs.Nodes.{root}
use Rattle.blame.specs.Applied.{faulty_nodes}
use Rattle.blame.proofs.InOrder.{in_order as blame_in_order}
use Rattle.value.specs.Kinds.{clashes}
use Rattle.value.specs.Values.{Value, number as number_value, text, fault as fault_value, kind_of, HasKind, InBounds, primary_value, is_missing_pcd}
use Rattle.expression.specs.Meaning.{code_of, meaning as attributes}
use Rattle.leftmost.specs.Leftmost.{pcd_at}
use Rattle.evaluation.specs.Evaluation.{Evaluation, value, refused as refused_by, refused_at, refused_with, refusal_number, line_of, offset_of}
use Rattle.evaluation.specs.Evaluation.{answer_value, refused_or}
use Rattle.evaluation.specs.Evaluation.{start_in, evaluation_in, evaluation}
use Rattle.answers.specs.Tests.{wrong_kinds, is_fault, fails, skips_right, takes_first}
use Rattle.answers.proofs.AnswersExact.{malformed, is_well_formed, unreadable as not_read, kind_sound, value_kind, counted}
use Rattle.answers.proofs.NoDerivation.{seven, seven_at, first_bad_of}
use Rattle.answers.proofs.MissingPcd.{nine_at, nine_nowhere}
use Rattle.answers.proofs.Blamed.{tree_decides as by_the_tree}
use Rattle.answers.proofs.Faulted.{fault_met, no_fault_met}
use Rattle.answers.proofs.Unplaced.{offset_zero, offset_in_expression}
use Rattle.answers.proofs.StringsInBounds.{strings_in_bounds}
use Rattle.answers.proofs.LineZero.{without_line}
use Rattle.answers.proofs.Bars.{same_reading, bars_only, eight_at, eight_without}
use Rattle.line.specs.Lines.{lines}
use Rattle.line.specs.Directives.{is_define}
use Rattle.line.specs.declared.Directive.{Directive}
use Rattle.line.specs.declared.Directive.TheVariants.{If, Ifdef, Ifndef, Elseif, Else, Endif}
use Rattle.condition.specs.Conditions.{spaced, idle, of_answer, evaluate}
use Rattle.define.specs.Define.{Definition, sets, fails as failing, shaped, macro_of, expression_of, expression_start, definition_of}
use Rattle.define.specs.Lines.{DefineFirst, DefineText, DefineLine}
use Rattle.define.specs.Outcomes.{Says}
use Rattle.define.proofs.LineParts.{define_first, line_parts, parts_line, line_once}
use Rattle.define.proofs.Outcomes.{says_once, line_says, other_shape, long_name_refused}
use Rattle.define.proofs.Sets.{record_set, record_kept, line_number, line_text}
use Rattle.groups.specs.Groups.{State}
use Rattle.select.specs.Step.{defines}
use Rattle.select.specs.Select.{accepted, refused, run, start, selection, Answer, answer_of, refusal_number as selection_number, Selects}
use Rattle.select.proofs.MarksEachLine.{marks_each_line}
use Rattle.blocks.specs.Blocks.{Blocks, Derives as DerivesBlocks, depth}
use Rattle.blocks.specs.Meaning.{means, fault, meaning, result_of, WithinLimit}
use Rattle.blocks.specs.Reading.{reads_of}
use Rattle.blocks.specs.Beginnings.{Innermost}
use Rattle.blocks.specs.Passing.{Reaches, SetsUntil}
use Rattle.blocks.specs.LastSetting.{SetBefore, NotSetBefore}
use Rattle.blocks.specs.Offsets.{PlacedIn}
use Rattle.blocks.specs.Refused.{RefusedAt, RefusedAtEnd}
use Rattle.blocks.proofs.Decided.{unambiguous as blocks_unambiguous, run_complete}
use Rattle.blocks.proofs.WholeSelections.{sound, complete}
use Rattle.blocks.proofs.MarksTellReading.{marks_tell_reading}
use Rattle.blocks.proofs.Refused.{refused_by_blocks}
use Rattle.blocks.proofs.FaultNumbers.{fault_numbers}
use Rattle.blocks.proofs.OneInnermost.{one_innermost}
use Rattle.blocks.proofs.SelectionOffset.{selection_unplaced, selection_placed}
use Rattle.blocks.proofs.TextFaults.{never_bar}
use Rattle.blocks.proofs.DefineOnly.{define_only}
use Rattle.blocks.proofs.Stops.{reaches_one}
use Rattle.blocks.proofs.SettingsByLine.{none_first, line_leaves, line_puts, reached_few, reached_macros, reached_differ, reached_records}
use Rattle.blocks.proofs.SettingsByLine.{pcd_record, pcd_there}
use Rattle.blocks.proofs.DefineMarks.{defines_marked}
use Rattle.blocks.proofs.SettingsByBlocks.{settings_by_blocks}
use Rattle.blocks.proofs.ValueStays.{number_stays, text_stays}
use Rattle.blocks.proofs.LastSetting.{set_or_table, among_exactly}
use Rattle.blocks.proofs.ConditionAnswer.{condition_answer, unspaced}
use Rattle.isolation.specs.Isolation.{Comparable}
use Rattle.isolation.proofs.SelectionIsolated.{isolation, two_calls}
use Rattle.field.specs.Fields.{written_number, field_of, line_of as line_of_field}
use Rattle.field.proofs.LineZero.{without_line as field_without_line}
use Rattle.field.proofs.Refused.{refused_field}
use Rattle.field.proofs.Unplaced.{field_unplaced}
use Rattle.editions.specs.BareWords.{BareWord, FollowEqualities}
use Rattle.editions.specs.UsedNames.{past_blanks, SomeBlanks, Name, used, Uses}
use Rattle.editions.proofs.Equalities.{equality_exactly}
use Rattle.editions.proofs.SameTokens.{new_alone, only_bare_words}
use Rattle.editions.proofs.BareWords.{bare_exactly, own_bytes}
use Rattle.editions.proofs.Read.{read_where_due}
use Rattle.editions.proofs.Placed.{follow_equalities, none_in_new}
use Rattle.editions.proofs.UsedNames.{no_dollar_in_new, same_without_dollar, used_is_plain, uses_or_malformed, same_without_argument}
use Rattle.editions.proofs.SameReading.{same_reading as old_reading}
use Rattle.editions.proofs.SameAnswers.{same_answer, same_value, same_field, same_written}
use Rattle.editions.proofs.SameSelections.{same_selection, same_accepted}

-- EXPRESSIONS (demand 2)

-- A list of tokens derives at most one tree. `code` is the code of a token; tokens may be of any type.
pub one_tree : {K : Type 0} (code : K → ℕ) (ts : List K) (s u : Tree K)
    → Derives code expression ts s → Derives code expression ts u → s ≡ u
one_tree = unambiguous

-- Over a malformed table every expression is refused with 1. Over any other the answer is that without the check of the table, which is also
-- what a condition of a selection takes, in its own dialect; the theorems after these say what it is. So a value is answered over a
-- well-formed table only.
pub malformed_table : (m : Memory) (δ : Dialect) → well_formed m.table ≡ false → evaluation m δ ≡ refused_with TableMalformed
malformed_table = malformed

pub well_formed_table : (m : Memory) (δ : Dialect) → well_formed m.table ≡ true → evaluation m δ ≡ evaluation_in m δ
well_formed_table = is_well_formed

-- The refusals of reading the tokens come first: 2 to 6.
pub unreadable : (m : Memory) (δ : Dialect) (r : Refusal) → (reading m.expression δ).ending ≡ Err r → evaluation_in m δ ≡ refused_by r
unreadable = not_read

-- If reading is complete, it ended at `end`, the place of the expression's `#` or its length. The answer is refusal 7 at offset o exactly if the
-- tokens derive no tree and o is the place of the first token after which no continuation derives; if there is no such token, o is `end`.
pub no_derivation : (m : Memory) (δ : Dialect) (end : Offset) → (reading m.expression δ).ending ≡ Ok end → (o : ℕ)
    → (evaluation_in m δ ≡ refused_at NoDerivation o)
    ↔ (((s : Tree Token) → Derives code_of expression (reading m.expression δ).tokens s → ⊥)
    × ((e : ℕ) × FirstBad code_of (reading m.expression δ).tokens e × (o ≡ start_in (reading m.expression δ).tokens end.0 e)))
no_derivation = seven_at

-- So the number is 7 exactly if the tokens derive no tree.
pub seven_exactly : (m : Memory) (δ : Dialect) (end : Offset) → (reading m.expression δ).ending ≡ Ok end
    → (refusal_number (evaluation_in m δ) ≡ NO_DERIVATION) ↔ ((s : Tree Token) → Derives code_of expression (reading m.expression δ).tokens s → ⊥)
seven_exactly = seven

-- If they derive a tree, it decides: 8 at the leftmost bar outside parentheses unless the dialect allows it, then 9 at the leftmost PCD that the
-- table does not have, then 10 at the first operator to blame, else the value and the count of the tree, or 11 or 12.
pub tree_decides : (m : Memory) (δ : Dialect) (end : Offset) → (reading m.expression δ).ending ≡ Ok end
    → (s : Tree Token) (d : Derives code_of expression (reading m.expression δ).tokens s)
    → evaluation_in m δ
    ≡ refused_or (pick δ.bars None (first_place (bare_bars code_of d))) BarOutside
    (refused_or (pcd_at m (reading m.expression δ).tokens) PcdMissing
    (refused_or (first_place (to_blame (attributes m) wrong_kinds s)) KindsUnsuited
    (answer_value (fold (attributes m) s).value (fold (attributes m) s).count)))
tree_decides = by_the_tree

-- If the kinds in a tree do not clash, its value has the kind of the tree, or it is refusal 11 or 12.
pub kinds_settle : (m : Memory) (s : Tree Token)
    → clashes (fold (attributes m) s).kind ≡ false → HasKind (fold (attributes m) s).kind (fold (attributes m) s).value
kinds_settle = kind_sound

-- So an answered value has the kind of the tree, also if operands were skipped.
pub value_has_its_kind : (m : Memory) (δ : Dialect) (end : Offset) → (reading m.expression δ).ending ≡ Ok end
    → (s : Tree Token) → Derives code_of expression (reading m.expression δ).tokens s
    → (v : Value) (n : ℕ) → evaluation_in m δ ≡ value v n → kind_of v ≡ (fold (attributes m) s).kind
value_has_its_kind = value_kind

-- For an answered value, fewer operators were applied than the expression has tokens.
pub count_below_tokens : (m : Memory) (δ : Dialect) (v : Value) (n : ℕ) → evaluation_in m δ ≡ value v n → n < length (reading m.expression δ).tokens
count_below_tokens = counted

-- An answered string has the bytes at its place, and the place is within the expression or the table.
pub string_at_its_place : (m : Memory) (δ : Dialect) (v : Value) (n : ℕ) → evaluation_in m δ ≡ value v n → InBounds m v
string_at_its_place = strings_in_bounds

-- The answer to an expression has line 0, also if it is a refusal; so has the answer of a data field.
pub expression_has_no_line : (m : Memory) (δ : Dialect) → line_of (evaluation m δ) ≡ 0
expression_has_no_line = without_line

pub field_has_no_line : (m : Memory) (datum : ℕ) (buffer : List ℕ) (δ : Dialect) → line_of_field (field_of m datum buffer δ).answer ≡ 0
field_has_no_line = field_without_line

-- PLACES (document 02, order 3). They are offsets in bytes, from the expression's start; in a selection from the line's start.

-- What `FirstBad` names. A list of tokens begins an expression if it derives with some continuation, any list of tokens; a shorter beginning of
-- such a list begins one too. So of any tokens there is one first after which no continuation derives, or all of them begin an expression.
pub beginnings_begin : {K : Type 0} (code : K → ℕ) (ts : List K) (i j : ℕ) → j ≤ i → Begins code (take i ts) → Begins code (take j ts)
beginnings_begin = shorter

pub one_first_bad_token : {K : Type 0} (code : K → ℕ) (ts : List K) (d e : ℕ) → FirstBad code ts d → FirstBad code ts e → d ≡ e
one_first_bad_token = first_bad_single

pub first_bad_token_exists : (ts : List Token) → (e : ℕ) × FirstBad code_of ts e
first_bad_token_exists = first_bad_of

-- 3, 4 and 5: where the tokens of an expression are, and where reading ends or is refused, up to the checks of 2 and 6. `Scanned` goes from byte
-- to byte: a blank is skipped, a token is the one at the front of what is left, and it starts there; so does one that cannot be read, and what
-- follows token 200. Nothing else is read.
pub tokens_at_their_places : (e : List ℕ) (δ : Dialect)
    → Scanned e δ 0 0 false (read_from 0 MAX_TOKENS 0 false e δ).tokens (read_from 0 MAX_TOKENS 0 false e δ).ending
tokens_at_their_places = reading_scanned

pub nothing_else_is_read : (e : List ℕ) (δ : Dialect) (ts : List Token) (x : Result Offset Refusal) → Scanned e δ 0 0 false ts x
    → read_from 0 MAX_TOKENS 0 false e δ ≡ record { tokens = ts; ending = x }
nothing_else_is_read e δ ts x = scanned_reading e δ

-- Of two tokens of an expression the later one in the list is further right.
pub tokens_from_left_to_right : (e : List ℕ) (δ : Dialect) (us vs ws : List Token) (a b : Token)
    → (reading e δ).tokens ≡ us ++ (a ∷ (vs ++ (b ∷ ws))) → a.start + a.len ≤ b.start
tokens_from_left_to_right = starts_ascend

-- 6: the first token with which the opening parentheses outnumber the closing ones by more than 16; it is an opening one.
pub deep_parenthesis_place : (ts : List Token) (o : ℕ) → (too_deep 0 0 ts ≡ there o) ↔ FirstOver ts o
deep_parenthesis_place = too_deep_place

pub deep_parenthesis_opens : (ts : List Token) (o : ℕ) (r : FirstOver ts o) → get_or (codes_of ts) r.index 0 ≡ OPEN
deep_parenthesis_opens = first_over_opens

-- 9: the place of a PCD that the table does not have is that of the one before which none is missing, and there is none if no token is one.
pub missing_pcd_place : (m : Memory) (us : List Token) (k : Token) (vs : List Token)
    → ((j : Token) → Memᴰ j us → is_missing_pcd m j ≡ false) → is_missing_pcd m k ≡ true → pcd_at m (us ++ k ∷ vs) ≡ there k.start
missing_pcd_place = nine_at

pub no_missing_pcd : (m : Memory) (ts : List Token) → ((j : Token) → Memᴰ j ts → is_missing_pcd m j ≡ false) → pcd_at m ts ≡ None
no_missing_pcd = nine_nowhere

-- 10: the operators to blame are those that are wrong while none of their operands is. They come in the order of the tokens, so that the first of
-- them, which is that of `tree_decides`, is the leftmost.
pub blamed_from_left_to_right : (m : Memory) (ts : List Token) (s : Tree Token)
    → Derives code_of expression ts s → Sublistᴰ (to_blame (attributes m) wrong_kinds s) ts
blamed_from_left_to_right m = blame_in_order code_of (attributes m) wrong_kinds expression

-- 11 and 12: if the kinds do not clash and the value of a tree is a fault, it is the fault, with the same number, of the first node, in the order of
-- evaluation, that fails while none of its evaluated operands does, at the place of its operator; if the value is no fault, there is no such node.
pub fault_place : (m : Memory) (s : Tree Token) → clashes (fold (attributes m) s).kind ≡ false
    → (f : Fault) → (fold (attributes m) s).value ≡ fault_value f
    → (n : Tree Token) × (ns : List (Tree Token)) × (faulty_nodes (attributes m) skips_right takes_first fails s ≡ n ∷ ns)
    × ((fold (attributes m) n).value ≡ fault_value f) × (f.at.0 ≡ (root n).start)
fault_place = fault_met

pub no_fault_no_place : (m : Memory) (s : Tree Token) → clashes (fold (attributes m) s).kind ≡ false
    → is_fault (fold (attributes m) s).value ≡ false → faulty_nodes (attributes m) skips_right takes_first fails s ≡ []
no_fault_no_place = no_fault_met

-- The offset of a refusal is at most the length of the expression, and 0 if the number is none of 3 to 12. A data field takes over the refusals
-- of its expression, and its own have 0.
pub offset_in_the_expression : (m : Memory) (δ : Dialect) → offset_of (evaluation m δ) ≤ length m.expression
offset_in_the_expression = offset_in_expression

pub other_refusals_have_offset_0 : (m : Memory) (δ : Dialect) (r : Refusal)
    → evaluation m δ ≡ refused_by r → placed r.reason ≡ false → r.offset.0 ≡ 0
other_refusals_have_offset_0 = offset_zero

pub field_refusals_have_offset_0 : (m : Memory) (datum : ℕ) (buffer : List ℕ) (δ : Dialect) (r : Refusal)
    → (field_of m datum buffer δ).answer ≡ Err r → placed r.reason ≡ false → r.offset.0 ≡ 0
field_refusals_have_offset_0 = field_unplaced

-- A selection that is refused with a number from 3 to 12 is so at a line with an `!if` or an `!elseif`, or at a kept DEFINE line, whose expression
-- is refused with that number over the table and the settings that the lines before it made; the offset is where the expression starts in the
-- line plus the offset in the expression, and at most the line's length. With any other number it is 0. `Reaches t ls n s δ` is that s is the
-- state before line n of the lines ls, of which no earlier one is refused; there is at most one.
pub selection_place : (f t : List ℕ) (δ : Dialect) (x : Fault) (n room : ℕ) → selection f t room δ ≡ refused x n
    → placed x.reason ≡ true → (s : State) × Reaches t (lines f) n s δ × PlacedIn t s (get_or (lines f) (n - 1) []) x δ
selection_place = selection_placed

pub other_selections_have_offset_0 : (f t : List ℕ) (δ : Dialect) (x : Fault) (n room : ℕ) → selection f t room δ ≡ refused x n
    → placed x.reason ≡ false → x.at.0 ≡ 0
other_selections_have_offset_0 = selection_unplaced

pub one_state_before_a_line : (t : List ℕ) (δ : Dialect) (ls : List (List ℕ)) (n : ℕ) (s s' : State)
    → Reaches t ls n s δ → Reaches t ls n s' δ → s ≡ s'
one_state_before_a_line = reaches_one

-- LOOKUP BY HALVING (document 02, order 4). By its contract, `halving::find` gives what `halving` is, the count of its rounds included; a round
-- compares one name. By its contract `lookup` gives the setting of the record that `halving` finds. The method `get` of `Settings` looks first
-- among the settings that lines made (order 6), which are no part of the table, from the front.

-- No two records of a well-formed table have the same name.
pub one_record_under_a_name : (t : List ℕ) → well_formed t ≡ true
    → (i j : ℕ) → i < length (records t) → j < length (records t) → name_of_record (records t) i ≡ name_of_record (records t) j → i ≡ j
one_record_under_a_name t h = one_record (records t) (ascends t (in_order t h))

-- For any bytes as the name, halving gives the place of the record with that name, or tells that there is none. So it finds the record under
-- the name. The first 65 bytes of a name decide; the code hands on no more.
pub halving_finds : (t n : List ℕ) → ordered t ≡ true → Finds (records t) n (halving (records t) n)
halving_finds t n h = finds (records t) n (ascends t h)

pub halving_finds_the_record : (t n : List ℕ) → ordered t ≡ true
    → record_under t n ≡ unwrap_or (option_map (λ i. get_or (records t) i []) (halving (records t) n).at) []
halving_finds_the_record = halved_record

pub first_65_bytes_decide : (rs : List (List ℕ)) (n : List ℕ) → halving rs (take 65 n) ≡ halving rs n
first_65_bytes_decide = first_bytes_decide

-- A search in a table takes at most 10 rounds; among 512 records that are in no order, too. In a table of 512 records the first one's name takes
-- 10, and there is such a table.
pub ten_rounds_at_most : (t n : List ℕ) → ordered t ≡ true → (halving (records t) n).rounds ≤ 10
ten_rounds_at_most = ten_in_a_table

pub ten_rounds_at_most_in_any_order : (rs : List (List ℕ)) (n : List ℕ) → length rs ≤ 512 → (halving rs n).rounds ≤ 10
ten_rounds_at_most_in_any_order = at_most_ten

pub ten_rounds_reached : (t : List ℕ) → ordered t ≡ true → length (records t) ≡ 512
    → halving (records t) (name_of_record (records t) 0) ≡ record { at = Some 0; rounds = 10 }
ten_rounds_reached t h = first_takes_ten (records t) (ascends t h)

pub full_table_exists : (t : List ℕ) × (well_formed t ≡ true) × (length (records t) ≡ 512)
full_table_exists = full_table

-- THE SELECTION OF LINES, by the blocks of a file

-- Lines derive at most one list of blocks.
pub one_list_of_blocks : (ls : List (List ℕ)) (a b : Blocks) → DerivesBlocks ls a → DerivesBlocks ls b → a ≡ b
one_list_of_blocks = blocks_unambiguous

-- Sound: the lines of an accepted selection derive blocks within the limits, and its marks and count are the meaning of the blocks, with the
-- settings `own` after the last line. The first line has none before it.
pub selection_sound : (f t : List ℕ) (δ : Dialect) (room : ℕ) (ms : List ℕ) (c : ℕ) → selection f t room δ ≡ accepted ms c
    → (bs : Blocks) × DerivesBlocks (lines f) bs × (depth bs ≤ 16) × WithinLimit (lines f)
    × (own : List Own) × (meaning t [] true bs δ ≡ means ms c own)
selection_sound = sound

-- Complete: if nothing is refused before the first line (1, 14, 15, 16) and the lines derive blocks within the limits, the selection is the
-- meaning of the blocks, a fault with its line included.
pub selection_complete : (f t : List ℕ) (δ : Dialect) (room : ℕ) (bs : Blocks)
    → well_formed t ≡ true → length f ≤ 65536 → length (lines f) ≤ 4096 → length (lines f) ≤ room
    → DerivesBlocks (lines f) bs → depth bs ≤ 16 → WithinLimit (lines f) → selection f t room δ ≡ result_of (meaning t [] true bs δ)
selection_complete = complete

-- The same for the run over lines that a selection makes after its first checks.
pub run_is_complete : (t : List ℕ) (δ : Dialect) (ls : List (List ℕ)) (bs : Blocks) → DerivesBlocks ls bs → depth bs ≤ 16 → WithinLimit ls
    → run t 1 start ls δ ≡ result_of (meaning t [] true bs δ)
run_is_complete = run_complete

-- An accepted selection has one mark per line.
pub one_mark_per_line : (f t : List ℕ) (δ : Dialect) (room : ℕ) (ms : List ℕ) (c : ℕ) → selection f t room δ ≡ accepted ms c → length ms ≡ length (lines f)
one_mark_per_line = marks_each_line

-- In an accepted selection a line is read, by the reading rule over blocks, exactly if its mark is 3, 4, 5 or 6, and it is a kept DEFINE line
-- exactly if its mark is 6; any other line that is read is a directive.
pub marks_show_reading : (f t : List ℕ) (δ : Dialect) (room : ℕ) (ms : List ℕ) (c : ℕ) → selection f t room δ ≡ accepted ms c
    → (bs : Blocks) → DerivesBlocks (lines f) bs → (i : ℕ) → i < length (lines f)
    → ((get_or (reads_of t [] true bs δ) i false ≡ true) ↔ (3 ≤ get_or ms i 0))
    × ((get_or ms i 0 ≡ 6) ↔ ((get_or (reads_of t [] true bs δ) i false ≡ true) × (is_define (get_or (lines f) i []) ≡ true)))
    × (get_or ms i 0 ≤ 6)
marks_show_reading = marks_tell_reading

-- A run is refused with a fault x, its number and its place in the line, at line n exactly if line n is the first line with a reason to be
-- refused, and x is the fault of the reason; or if no line has a reason, x is 21 without a place, a group is open at the end, and line n is the
-- innermost open `!if`.
pub refused_exactly : (t : List ℕ) (δ : Dialect) (ls : List (List ℕ)) (x : Fault) (n : ℕ)
    → (run t 1 start ls δ ≡ refused x n) ↔ (RefusedAt t ls x n δ ⊎ ((x ≡ unplaced FileUnfinished) × RefusedAtEnd t ls n δ))
refused_exactly = refused_by_blocks

-- No two reasons share a number: a fault in the text of a directive or of a DEFINE line never has a number from 17 to 21.
pub faults_have_other_numbers : (t : List ℕ) (δ : Dialect) (bs : Blocks) (x : Fault) (i : ℕ)
    → meaning t [] true bs δ ≡ fault x i → 17 ≤ reason_number x.reason → reason_number x.reason ≤ 21 → ⊥
faults_have_other_numbers = fault_numbers

-- At most one line is the innermost open `!if`.
pub innermost_is_one_line : (ls : List (List ℕ)) (n k : ℕ) → Innermost ls n → Innermost ls k → n ≡ k
innermost_is_one_line = one_innermost

-- BARS (document 02, order 1)

-- In directives bars need no parentheses. After `!if` and `!elseif` the text without a blank at its front is refused with 22. With one it is
-- evaluated as any expression is, in a dialect that frees bars: the theorems on `evaluation_in` say what its answer is, and by `tree_decides` no
-- bar is refused.
pub condition_needs_a_blank : (t : List ℕ) (d : Directive) (s : List ℕ) (δ : Dialect) → (d ≡ If) ⊎ (d ≡ Elseif) → spaced s ≡ false
    → evaluate t d s δ ≡ Err (unplaced TextMalformed)
condition_needs_a_blank = unspaced

pub condition_is_an_answer : (t : List ℕ) (d : Directive) (s : List ℕ) (δ : Dialect) → (d ≡ If) ⊎ (d ≡ Elseif) → spaced s ≡ true
    → evaluate t d s δ ≡ of_answer (evaluation_in (over s t) (in_directives δ))
condition_is_an_answer = condition_answer

-- No directive is refused with 8, whatever its text is. A selection is refused with 8, and with 27 or 28, only at a kept DEFINE line, where bars
-- are as in a data field.
pub directive_never_8 : (t : List ℕ) (d : Directive) (s : List ℕ) (δ : Dialect) (o : ℕ)
    → evaluate t d s δ ≡ Err (fault_at BarOutside o) → ⊥
directive_never_8 = never_bar

pub define_lines_only : (f t : List ℕ) (δ : Dialect) (x : Fault) (n room : ℕ) → selection f t room δ ≡ refused x n
    → (x.reason ≡ BarOutside) ⊎ ((x.reason ≡ DefinedMany) ⊎ (x.reason ≡ DefinedLong))
    → (s : State) × Reaches t (lines f) n s δ × (defines s (get_or (lines f) (n - 1) []) ≡ true)
define_lines_only = define_only

-- Nothing else differs in directives: a text has the same tokens there, and the same answer if that is not 8.
pub bars_leave_tokens : (e : List ℕ) (δ : Dialect) → reading e (in_directives δ) ≡ reading e δ
bars_leave_tokens = same_reading

pub bars_decide_8_only : (m : Memory) (δ : Dialect)
    → (refusal_number (evaluation_in m δ) ≡ BAR_OUTSIDE → ⊥) → evaluation_in m (in_directives δ) ≡ evaluation_in m δ
bars_decide_8_only = bars_only

-- By itself, in either edition, if reading is complete and the tokens derive a tree, an expression is refused with 8 exactly if a bar is outside
-- parentheses, at the leftmost such bar.
pub bar_by_itself : (old : Bool) (m : Memory) (end : Offset) → (reading m.expression (by_itself old)).ending ≡ Ok end
    → (s : Tree Token) (d : Derives code_of expression (reading m.expression (by_itself old)).tokens s)
    → (k : Token) (ks : List Token) → bare_bars code_of d ≡ k ∷ ks → evaluation_in m (by_itself old) ≡ refused_at BarOutside k.start
bar_by_itself = eight_at

pub no_bar_by_itself : (old : Bool) (m : Memory) (end : Offset) → (reading m.expression (by_itself old)).ending ≡ Ok end
    → (s : Tree Token) (d : Derives code_of expression (reading m.expression (by_itself old)).tokens s)
    → bare_bars code_of d ≡ [] → refusal_number (evaluation_in m (by_itself old)) ≡ BAR_OUTSIDE → ⊥
no_bar_by_itself = eight_without

-- A data field has the refusals of its expression, in any dialect, and the buffer then stays as it was.
pub field_refuses_expression : (m : Memory) (datum : ℕ) (buffer : List ℕ) (δ : Dialect) (r : Refusal) → evaluation m δ ≡ refused_by r
    → field_of m datum buffer δ ≡ record { answer = Err r; buffer = buffer }
field_refuses_expression = refused_field

-- EDITIONS (document 02, order 5). `in_new δ` and `in_old δ` are the rules of δ in the new and in the old edition.

-- At the front of a text, in the old edition, a token is a bare word exactly where the order says so: a whole run, no digit first, that the new
-- edition refuses with 3, as the next token after an equality operator, and where no wide string begins. Every other token, and every other
-- refusal of a token, is that of the new edition. In the new edition no token depends on the one before it.
pub bare_word_exactly : (after : Bool) (s : List ℕ) (n : ℕ) (δ : Dialect) → (lexeme after s (in_old δ) ≡ found BARE n 0) ↔ BareWord after s n δ
bare_word_exactly = bare_exactly

pub only_bare_words_differ : (after : Bool) (s : List ℕ) (δ : Dialect)
    → (lexeme after s (in_old δ) ≡ lexeme after s (in_new δ)) ⊎ BareWord after s (span Word s) δ
only_bare_words_differ = only_bare_words

pub new_tokens_by_themselves : (after : Bool) (s : List ℕ) (δ : Dialect) → lexeme after s (in_new δ) ≡ lexeme false s (in_new δ)
new_tokens_by_themselves = new_alone

-- The equality operators are those of two codes. Among the tokens of an expression each bare word is the next one after such an operator, and
-- in the new edition there is none. The value of a bare word is a string of its own bytes.
pub equality_operators : (c : ℕ) → (is_equality c ≡ true) ↔ ((c ≡ EQUAL) ⊎ (c ≡ NOT_EQUAL))
equality_operators = equality_exactly

pub bare_words_follow_equalities : (δ : Dialect) (e : List ℕ) → FollowEqualities false (reading e δ).tokens
bare_words_follow_equalities = follow_equalities

-- And where one may be, it is read: if a reading of the old edition ends in 3 right after an equality operator, no bare word is there.
pub bare_words_are_read : (e : List ℕ) (δ : Dialect) (us : List Token) (k : Token) (o n : ℕ)
    → reading e (in_old δ) ≡ record { tokens = us ++ (k ∷ []); ending = Err (refusal_at TokenBad o) } → is_equality k.code ≡ true
    → BareWord true (drop o e) n δ → ⊥
bare_words_are_read = read_where_due

pub no_bare_word_in_new : (δ : Dialect) (e : List ℕ) (k : Token) → Memᴰ k (reading e (in_new δ)).tokens → k.code ≡ BARE → ⊥
no_bare_word_in_new = none_in_new

pub bare_word_is_its_bytes : (m : Memory) (k : Token) → k.code ≡ BARE
    → primary_value m k ≡ text String (in_expression k.start k.len) (take k.len (drop k.start m.expression))
bare_word_is_its_bytes = own_bytes

-- After the blanks that follow `!ifdef` and `!ifndef` the editions differ only in what starts with `$`: the new one refuses it with 22. To the old
-- one `$(NAME)`, with nothing but blanks and a comment after it, is what NAME is to the new one. It refuses anything else that starts so, and
-- `$(NAME)` without a blank before it, with 22. After `!else` and `!endif` the editions do not differ.
pub same_without_dollar_after_ifdef : (t : List ℕ) (δ : Dialect) (d : Directive) → (d ≡ Ifdef) ⊎ (d ≡ Ifndef) → (s : List ℕ)
    → (get_or (past_blanks s) 0 0 ≡ byte "$" → ⊥) → evaluate t d s (in_old δ) ≡ evaluate t d s (in_new δ)
same_without_dollar_after_ifdef = same_without_dollar

pub no_dollar_after_ifdef_in_new : (t : List ℕ) (δ : Dialect) (d : Directive) → (d ≡ Ifdef) ⊎ (d ≡ Ifndef) → (s : List ℕ)
    → get_or (past_blanks s) 0 0 ≡ byte "$" → evaluate t d s (in_new δ) ≡ Err (unplaced TextMalformed)
no_dollar_after_ifdef_in_new = no_dollar_in_new

pub used_name_is_its_name : (t : List ℕ) (δ : Dialect) (b w r : List ℕ) → SomeBlanks b → Name w → idle r ≡ true
    → (d : Directive) → (d ≡ Ifdef) ⊎ (d ≡ Ifndef) → evaluate t d (b ++ used w r) (in_old δ) ≡ evaluate t d (b ++ (w ++ r)) (in_new δ)
used_name_is_its_name = used_is_plain

pub only_used_names_in_old : (t : List ℕ) (δ : Dialect) (d : Directive) → (d ≡ Ifdef) ⊎ (d ≡ Ifndef) → (s : List ℕ)
    → get_or (past_blanks s) 0 0 ≡ byte "$"
    → (evaluate t d s (in_old δ) ≡ Err (unplaced TextMalformed))
    ⊎ ((spaced s ≡ true) × (w : List ℕ) × (r : List ℕ) × Uses (past_blanks s) w r)
only_used_names_in_old = uses_or_malformed

pub same_after_else_and_endif : (t : List ℕ) (δ : Dialect) (d : Directive) → (d ≡ Else) ⊎ (d ≡ Endif) → (s : List ℕ)
    → evaluate t d s (in_old δ) ≡ evaluate t d s (in_new δ)
same_after_else_and_endif = same_without_argument

-- Where the new edition's reading of an expression does not end in 3, the old one's is the same: tokens, ending and place.
pub old_reads_alike : (e : List ℕ) (δ : Dialect) → (ending_number (reading e (in_new δ)).ending ≡ TOKEN_BAD → ⊥)
    → reading e (in_old δ) ≡ reading e (in_new δ)
old_reads_alike = old_reading

-- An expression that the new edition does not refuse with 3 has the same answer in the old one, whether it is a value or a refusal; so has a data
-- field, with every byte of its buffer.
pub old_answers_alike : (m : Memory) (δ : Dialect) → (refusal_number (evaluation m (in_new δ)) ≡ TOKEN_BAD → ⊥)
    → evaluation m (in_old δ) ≡ evaluation m (in_new δ)
old_answers_alike = same_answer

pub old_fills_alike : (m : Memory) (δ : Dialect) (datum : ℕ) (buffer : List ℕ)
    → (written_number (field_of m datum buffer (in_new δ)).answer ≡ TOKEN_BAD → ⊥)
    → field_of m datum buffer (in_old δ) ≡ field_of m datum buffer (in_new δ)
old_fills_alike = same_field

-- A selection that the new edition refuses neither with 3 nor with 22 is the same in the old one: marks and count, or number, line and place.
pub old_selects_alike : (t : List ℕ) (δ : Dialect) (f : List ℕ) (room : ℕ)
    → (selection_number (answer_of (selection f t room (in_new δ))) ≡ TOKEN_BAD → ⊥)
    × (selection_number (answer_of (selection f t room (in_new δ))) ≡ TEXT_MALFORMED → ⊥)
    → selection f t room (in_old δ) ≡ selection f t room (in_new δ)
old_selects_alike = same_selection

-- So whatever the new edition accepts, the old one accepts with the same answer: an expression with its value, kind, place and count; a data
-- field with its length and bytes; a selection with its marks and count.
pub old_accepts_expressions : (m : Memory) (δ : Dialect) (v : Value) (n : ℕ) → evaluation m (in_new δ) ≡ value v n → evaluation m (in_old δ) ≡ value v n
old_accepts_expressions = same_value

pub old_accepts_fields : (m : Memory) (δ : Dialect) (datum : ℕ) (buffer : List ℕ) (n : ℕ) (left : List ℕ)
    → field_of m datum buffer (in_new δ) ≡ record { answer = Ok n; buffer = left }
    → field_of m datum buffer (in_old δ) ≡ record { answer = Ok n; buffer = left }
old_accepts_fields = same_written

pub old_accepts_selections : (t : List ℕ) (δ : Dialect) (f : List ℕ) (room : ℕ) (ms : List ℕ) (c : ℕ)
    → selection f t room (in_new δ) ≡ accepted ms c → selection f t room (in_old δ) ≡ accepted ms c
old_accepts_selections = same_accepted

-- DEFINE INSIDE THE FILE (document 02, order 6). `definition_of o t l δ` is what a kept line l with the first word `DEFINE` says after the settings
-- o that the lines before it made: the setting x that it makes and its count of operators, or its refusal. The settings are then `put x o`.
-- `scope o t` is the table t with the records of o in front of it. The names in the line's own expression are looked up in it, and with the new
-- setting in front those in the lines after it, also after `!ifdef`; `setting_under` of a name there is what `$(NAME)` means.

-- The first word of a line is `DEFINE` exactly if the line is blanks or nothing, `DEFINE`, and then nothing or a byte that is no letter, no digit
-- and no `_`.
pub define_is_the_first_word : (l : List ℕ) → (is_define l ≡ true) ↔ ((r : List ℕ) × DefineFirst l r)
define_is_the_first_word = define_first

-- The shape of a DEFINE line as a text: blanks or nothing, `DEFINE`, blanks, a macro's name, blanks or nothing, `=` and an expression. No line
-- reads so in two ways. If the name has at most 64 bytes, and only then, the tests by places accept the line; they find the name, the expression
-- and its start.
pub define_lines_have_their_parts : (l name e : List ℕ) → DefineLine l name e
    → (is_define l ≡ true) × (shaped l ≡ true) × (macro_of l ≡ name) × (expression_of l ≡ e) × (expression_start l + length e ≡ length l)
define_lines_have_their_parts = line_parts

pub shaped_lines_are_define_lines : (l : List ℕ) → is_define l ≡ true → shaped l ≡ true → DefineLine l (macro_of l) (expression_of l)
shaped_lines_are_define_lines = parts_line

pub define_lines_read_one_way : (l n e n' e' : List ℕ) → DefineText l n e → DefineText l n' e' → (n ≡ n') × (e ≡ e')
define_lines_read_one_way = line_once

-- What a line of this shape says follows from the answer to its expression by the rules of `Says`, which give one thing only; its expression
-- starts at byte `length l - length e`. A line with the first word `DEFINE` and another shape is refused with 22, and so is one with a name of
-- more than 64 bytes.
pub define_lines_say : (o : List Own) (t l : List ℕ) (δ : Dialect) (name e : List ℕ) → DefineLine l name e
    → Says o name (length l - length e) (evaluation_in (over e (scope o t)) (by_itself δ.old)) (definition_of o t l δ)
define_lines_say = line_says

pub define_lines_say_one_thing : (o : List Own) (name : List ℕ) (p : ℕ) {x : Evaluation} {d d' : Definition}
    → Says o name p x d → Says o name p x d' → d ≡ d'
define_lines_say_one_thing = says_once

pub other_shapes_are_refused : (o : List Own) (t l : List ℕ) (δ : Dialect) → is_define l ≡ true → ((name e : List ℕ) → DefineLine l name e → ⊥)
    → definition_of o t l δ ≡ failing (unplaced TextMalformed)
other_shapes_are_refused = other_shape

pub long_names_are_refused : (o : List Own) (t l : List ℕ) (δ : Dialect) (name e : List ℕ) → DefineText l name e → 64 < length name
    → definition_of o t l δ ≡ failing (unplaced TextMalformed)
long_names_are_refused = long_name_refused

-- Such a line changes one record: the one under the name of its macro is that of the new setting, and under every other name it is as before.
pub define_sets_its_name : (o : List Own) (x : Own) (k : ℕ) (t l : List ℕ) (δ : Dialect) → definition_of o t l δ ≡ sets x k
    → record_under (scope (put x o) t) (macro_of l) ≡ record_of x
define_sets_its_name = record_set

pub define_leaves_other_names : (o : List Own) (x : Own) (k : ℕ) (t l : List ℕ) (δ : Dialect) → definition_of o t l δ ≡ sets x k
    → (n : List ℕ) → (n ≡ macro_of l → ⊥) → record_under (scope (put x o) t) n ≡ record_under (scope o t) n
define_leaves_other_names = record_kept

-- The settings win over the table: the record under a name is the table's only if no setting has the name. A name is set, as `!ifdef` tests, if
-- a setting has it or the table does.
pub settings_win_over_the_table : (o : List Own) (t n : List ℕ)
    → record_under (scope o t) n ≡ pick (has n o) (record_among (map record_of o) n) (record_under t n)
settings_win_over_the_table = under_scope

pub set_by_a_line_or_the_table : (o : List Own) (t n : List ℕ) → is_some (setting_under (scope o t) n) ≡ (has n o || is_some (setting_under t n))
set_by_a_line_or_the_table = found_scope

-- The macro gets exactly the value of the line's expression, a number below 2^64 or a string with its kind and its bytes, whatever the table and
-- the other settings are; the operators of the expression are counted.
pub define_sets_a_number : (o : List Own) (x : Own) (k : ℕ) (t l : List ℕ) (δ : Dialect) → definition_of o t l δ ≡ sets x k
    → (v c : ℕ) → evaluation_in (over (expression_of l) (scope o t)) (by_itself δ.old) ≡ value (number_value v) c → v < 2 ^ 64
    → (setting_under (scope (put x o) t) (macro_of l) ≡ Some (Number v)) × (k ≡ c)
define_sets_a_number = line_number

pub define_sets_a_string : (o : List Own) (x : Own) (k : ℕ) (t l : List ℕ) (δ : Dialect) → definition_of o t l δ ≡ sets x k
    → (j : TextKind) (p : Place) (w : List ℕ) (c : ℕ) → evaluation_in (over (expression_of l) (scope o t)) (by_itself δ.old) ≡ value (text j p w) c
    → ((q : Place) × (setting_under (scope (put x o) t) (macro_of l) ≡ Some (Text j q))
    × (take q.len (drop q.start.0 (scope (put x o) t)) ≡ w)) × (k ≡ c)
define_sets_a_string = line_text

-- The settings line by line: the first line has none before it, a line that is no kept DEFINE line leaves them, and a kept one puts the
-- setting that it makes among them. In an accepted selection the kept DEFINE lines are those with mark 6.
pub no_settings_at_first : (t : List ℕ) (δ : Dialect) (ls : List (List ℕ)) (s : State) → Reaches t ls 1 s δ → s.own ≡ []
no_settings_at_first = none_first

pub other_lines_leave_settings : (t : List ℕ) (δ : Dialect) (ls : List (List ℕ)) (n : ℕ) → 1 ≤ n → n ≤ length ls
    → (s s' : State) → Reaches t ls n s δ → Reaches t ls (n + 1) s' δ → defines s (get_or ls (n - 1) []) ≡ false → s'.own ≡ s.own
other_lines_leave_settings = line_leaves

pub define_lines_make_settings : (t : List ℕ) (δ : Dialect) (ls : List (List ℕ)) (n : ℕ) → 1 ≤ n → n ≤ length ls
    → (s s' : State) → Reaches t ls n s δ → Reaches t ls (n + 1) s' δ → defines s (get_or ls (n - 1) []) ≡ true
    → (x : Own) × (k : ℕ) × (definition_of s.own t (get_or ls (n - 1) []) δ ≡ sets x k) × (s'.own ≡ put x s.own)
define_lines_make_settings = line_puts

pub define_lines_have_mark_6 : (f t : List ℕ) (δ : Dialect) (room : ℕ) (ms : List ℕ) (c : ℕ) → selection f t room δ ≡ accepted ms c
    → (n : ℕ) → 1 ≤ n → n ≤ length (lines f)
    → (s : State) × Reaches t (lines f) n s δ × ((defines s (get_or (lines f) (n - 1) []) ≡ true) ↔ (get_or ms (n - 1) 0 ≡ 6))
define_lines_have_mark_6 = defines_marked

-- By blocks: with some `!endif` lines after them, the lines before line n derive blocks, and the settings before line n are those that the meaning
-- of these blocks ends with.
pub settings_are_those_of_blocks : (t : List ℕ) (δ : Dialect) (ls : List (List ℕ)) (n : ℕ) (s : State) → Reaches t ls n s δ
    → (k : ℕ) × (bs : Blocks) × DerivesBlocks (take (n - 1) ls ++ replicate k (bytes "!endif")) bs × (depth bs ≤ 16)
    × (ms : List ℕ) × (c : ℕ) × (meaning t [] true bs δ ≡ means ms c s.own)
settings_are_those_of_blocks = settings_by_blocks

-- The value is settled at the line: from line a, which sets a macro, to line b, if no kept DEFINE line between them sets it again, the macro has
-- the value that the expression had at line a, whatever these lines are.
pub number_is_settled : (t : List ℕ) (δ : Dialect) (ls : List (List ℕ)) (a b : ℕ) (s s' : State) → SetsUntil t ls a b s s' δ
    → (v c : ℕ) → evaluation_in (over (expression_of (get_or ls (a - 1) [])) (scope s.own t)) (by_itself δ.old) ≡ value (number_value v) c → v < 2 ^ 64
    → setting_under (scope s'.own t) (macro_of (get_or ls (a - 1) [])) ≡ Some (Number v)
number_is_settled = number_stays

pub string_is_settled : (t : List ℕ) (δ : Dialect) (ls : List (List ℕ)) (a b : ℕ) (s s' : State) → SetsUntil t ls a b s s' δ
    → (j : TextKind) (p : Place) (w : List ℕ) (c : ℕ)
    → evaluation_in (over (expression_of (get_or ls (a - 1) [])) (scope s.own t)) (by_itself δ.old) ≡ value (text j p w) c
    → (q : Place) × (setting_under (scope s'.own t) (macro_of (get_or ls (a - 1) [])) ≡ Some (Text j q))
    × (take q.len (drop q.start.0 (scope s'.own t)) ≡ w)
string_is_settled = text_stays

-- At every line, the record under a name is that of the last kept DEFINE line before it with this macro, and the table's if there is none.
pub last_define_or_the_table : (t : List ℕ) (δ : Dialect) (ls : List (List ℕ)) (n : List ℕ) (b : ℕ) → 1 ≤ b → b ≤ length ls + 1
    → (s : State) → Reaches t ls b s δ → SetBefore t ls b n s δ ⊎ NotSetBefore t ls b n s δ
last_define_or_the_table = set_or_table

-- The settings have exactly the macros of the kept DEFINE lines so far as their names; no name is there twice (below), so there are as many of
-- them as different macros that lines have set, which is what 27 counts.
pub settings_are_the_macros_set : (t : List ℕ) (δ : Dialect) (ls : List (List ℕ)) (n : List ℕ) (b : ℕ) → 1 ≤ b → b ≤ length ls + 1
    → (s : State) → Reaches t ls b s δ
    → (has n s.own ≡ true) ↔ ((a : ℕ) × (q : State) × (1 ≤ a) × (a < b) × Reaches t ls a q δ
    × (defines q (get_or ls (a - 1) []) ≡ true) × (macro_of (get_or ls (a - 1) []) ≡ n))
settings_are_the_macros_set = among_exactly

-- At every line there are at most 64 settings. Each has the name of a macro, no two have the same name, so that 64 settings are 64 different
-- names, and the record of each by itself is a well-formed table.
pub at_most_64_settings : (t : List ℕ) (δ : Dialect) (ls : List (List ℕ)) (n : ℕ) (s : State) → Reaches t ls n s δ → length s.own ≤ 64
at_most_64_settings = reached_few

pub settings_are_macros : (t : List ℕ) (δ : Dialect) (ls : List (List ℕ)) (n : ℕ) (s : State) → Reaches t ls n s δ → AllMacros s.own
settings_are_macros = reached_macros

pub settings_have_different_names : (t : List ℕ) (δ : Dialect) (ls : List (List ℕ)) (n : ℕ) (s : State) → Reaches t ls n s δ → AllDiffer s.own
settings_have_different_names = reached_differ

pub settings_are_well_formed : (t : List ℕ) (δ : Dialect) (ls : List (List ℕ)) (n : ℕ) (s : State) → Reaches t ls n s δ
    → (x : Own) → Memᴰ x s.own → well_formed (record_of x) ≡ true
settings_are_well_formed = reached_records

-- So a PCD comes from the table alone, and no DEFINE line changes whether 9 is given for it.
pub pcds_are_of_the_table : (t : List ℕ) (δ : Dialect) (ls : List (List ℕ)) (n : ℕ) (s : State) → Reaches t ls n s δ
    → (p : List ℕ) → IsPcd p → record_under (scope s.own t) p ≡ record_under t p
pcds_are_of_the_table = pcd_record

pub pcds_are_set_by_the_table : (t : List ℕ) (δ : Dialect) (ls : List (List ℕ)) (n : ℕ) (s : State) → Reaches t ls n s δ
    → (p : List ℕ) → IsPcd p → is_some (setting_under (scope s.own t) p) ≡ is_some (setting_under t p)
pcds_are_set_by_the_table = pcd_there

-- ISOLATION (demand 3, as order 6 restates it)

-- A second selection has the same marks and count as an accepted one if its file has as many lines, with the same words, the lines that the
-- first one read have the same bytes, the tables have the same records under the names in these, no plain line that the first one kept gets
-- `DEFINE` as its first word, well shaped or not, the second table is well formed, and the second file, its lines and its marks keep the limits
-- of 14, 17 and 16. A kept DEFINE line counts as a directive that is read, and so stays; it names the macros and PCDs of its expression. DEFINE
-- lines in branches that are not taken are free. Both selections are in one dialect, so in one edition.
pub isolated : (δ : Dialect) (f₁ t₁ : List ℕ) (room₁ : ℕ) (ms : List ℕ) (c : ℕ) → selection f₁ t₁ room₁ δ ≡ accepted ms c
    → (f₂ t₂ : List ℕ) (room₂ : ℕ) → Comparable f₁ t₁ ms f₂ t₂ room₂ δ → selection f₂ t₂ room₂ δ ≡ accepted ms c
isolated = isolation

-- The same for two calls: `r` is the answer of a call, and `left` are the marks after it.
pub isolated_calls : (δ : Dialect) (f₁ t₁ marks₁ : List ℕ) (r₁ : Answer) (left₁ : List ℕ) → Selects f₁ t₁ marks₁ r₁ left₁ δ
    → (n c : ℕ) → r₁ ≡ Ok (record { lines = record { 0 = n }; count = c })
    → (f₂ t₂ marks₂ : List ℕ) (r₂ : Answer) (left₂ : List ℕ) → Selects f₂ t₂ marks₂ r₂ left₂ δ
    → Comparable f₁ t₁ (take n left₁) f₂ t₂ (length marks₂) δ
    → (r₂ ≡ Ok (record { lines = record { 0 = n }; count = c })) × (take n left₂ ≡ take n left₁)
isolated_calls = two_calls

-- THE PARSER, which no statement above mentions, AND THE GRAMMAR, for tokens of any type

-- Over any algebra the parser accepts with exactly what the tree of the tokens folds to, and refuses exactly if there is no tree.
pub parser_accepts : {K A : Type 0} {code : K → ℕ} {ts : List K} {tok : ℕ → K} → Reads code ts tok → (alg : Algebra K A) (a : A)
    → (parse code alg tok (length ts) ≡ parsed a) ↔ ((s : Tree K) × Derives code expression ts s × (a ≡ fold alg s))
parser_accepts reads alg = (evaluates reads alg).accepted_exactly

pub parser_refuses : {K A : Type 0} {code : K → ℕ} {ts : List K} {tok : ℕ → K} → Reads code ts tok → (alg : Algebra K A)
    → ((i : ℕ) × (parse code alg tok (length ts) ≡ unparsed i)) ↔ ((s : Tree K) → Derives code expression ts s → ⊥)
parser_refuses reads alg = (evaluates reads alg).refused_exactly

-- It refuses at the first token after which no continuation derives, if there is a token of every code.
pub parser_refuses_at : {K A : Type 0} {code : K → ℕ} {ts : List K} {tok : ℕ → K} → Supply code → Reads code ts tok → (alg : Algebra K A) (e : ℕ)
    → (parse code alg tok (length ts) ≡ unparsed e) ↔ (((s : Tree K) → Derives code expression ts s → ⊥) × FirstBad code ts e)
parser_refuses_at supply reads alg = locates supply reads alg

-- An algebra that counts at most one per operator counts fewer than there are tokens.
pub algebra_counts_below_tokens : {K A : Type 0} (code : K → ℕ) (alg : Algebra K A) (count : A → ℕ) → Counts alg count
    → (ts : List K) (s : Tree K) → Derives code expression ts s → count (fold alg s) < length ts
algebra_counts_below_tokens = bounded

-- The bars outside parentheses that the tokens have are those of their derivation, from left to right.
pub bars_are_seen : {K : Type 0} (code : K → ℕ) {ts : List K} {s : Tree K} (d : Derives code expression ts s)
    → bars_outside code 0 ts ≡ bare_bars code d
bars_are_seen = bars_seen
