-- The answer to an expression (document 01, "Kinds and values" and "Refusal numbers"): its value and the number of operators that were
-- applied, or a refusal with its place (document 02, order 3). The order of refusals: 1; 2; 3, 4 and 5 as reading meets them; 6; 7; 8, unless
-- the dialect frees bars; 9; 10; and last those of evaluation itself, 11 and 12. The definition computes, so it calls the parser; the page of
-- theorems states the answer in terms of derivations alone. `m` is the memory, an expression and a table; `δ` is the dialect.
use Rattle.std.specs.Prelude.{ℕ, ◌≡◌, List, [], length, get_or, ltb, Option, Some, None, Result, Ok, Err}
use Rattle.std.specs.Borrow.{Bor}
use Rattle.units.specs.Refusals.{reason_number, refusal_at}
use Rattle.units.specs.Leftmost.{there}
use Rattle.units.specs.declared.Refusal.{Refusal}
use Rattle.units.specs.declared.Dialect.{Dialect}
use Rattle.units.specs.declared.Offset.{Offset}
use Rattle.units.specs.declared.Reason.{Reason}
use Rattle.units.specs.declared.Reason.TheVariants.{BarOutside, KindsUnsuited, NoDerivation, PcdMissing, TableMalformed}
use Rattle.text.specs.Bytes.{pick}
use Rattle.settings.specs.Table.{well_formed}
use Rattle.lookup.specs.declared.Place.{Place}
use Rattle.token.specs.Tokens.{Token, reading}
use Rattle.grammar.specs.Parse.{END, Outcome, refused as underived, accepted, parse}
use Rattle.value.specs.Kinds.{kind_number}
use Rattle.value.specs.Places.{Memory, over, in_expression, PartAt}
use Rattle.value.specs.Values.{Value, number, text, fault, kind_of, denote_value}
use Rattle.value.specs.Attributes.{Attributes}
use Rattle.value.specs.declared.Kind.{Kind}
use Rattle.value.specs.declared.Kind.TheVariants.{Number as NumberKind, String as StringKind, Wide as WideKind, Clash}
use Rattle.expression.specs.Meaning.{code_of, meaning}
use Rattle.leftmost.specs.Leftmost.{bar_at, pcd_at}
use Rattle.evaluation.specs.declared.Evaluated.{Evaluated}

-- a value, which is never a fault, with its count of applied operators, or a refusal with its number, line and offset
pub data Evaluation : Type 0 where
  value : Value → (count : ℕ) → Evaluation
  refused : Refusal → Evaluation

-- an expression by itself has line 0; a refusal at an offset in it, and one that has no place
abbrev pub refused_at : Reason → (offset : ℕ) → Evaluation
refused_at n o = refused (refusal_at n o)

abbrev pub refused_with : Reason → Evaluation
refused_with n = refused_at n 0

-- the value, or the refusal that evaluation met first, at its operator: 11 or 12 if the kinds do not clash
abbrev pub answer_value : Value → (count : ℕ) → Evaluation
answer_value (number x) n = value (number x) n
answer_value (text k p s) n = value (text k p s) n
answer_value (fault f) n = refused_at f.reason f.at.0

-- the operator to blame for wrong kinds
abbrev pub clash_in : Kind → Option Offset
clash_in NumberKind = None
clash_in StringKind = None
clash_in WideKind = None
clash_in (Clash p) = there p

-- the refusal with this number at a place, if there is one; else the answer x
abbrev pub refused_or : Option Offset → Reason → Evaluation → Evaluation
refused_or None n x = x
refused_or (Some o) n x = refused_at n o.0

-- the answer to an expression that derives, from the places of a bar that is refused and of a PCD that is missing in it, and from its
-- attributes: 8, 9, 10, else the value or 11, 12
abbrev pub check_then_answer : (bar pcd : Option Offset) → Attributes → Evaluation
check_then_answer bar pcd a =
    refused_or bar BarOutside
    (refused_or pcd PcdMissing
    (refused_or (clash_in a.kind) KindsUnsuited
    (answer_value a.value a.count)))

-- token i of a list; past its end a token that nothing derives
abbrev pub END_TOKEN : Token
END_TOKEN = record { code = END; start = 0; len = 0; value = 0 }

abbrev pub token_in : List Token → ℕ → Token
token_in ts i = get_or ts i END_TOKEN

-- where token i of a list starts; past its tokens, where the expression ends
abbrev pub start_in : List Token → (end : ℕ) → ℕ → ℕ
start_in ts end i = pick (ltb i (length ts)) (token_in ts i).start end

-- 7 if the tokens have no derivation, at the token where they go wrong; else the answer from the attributes of their tree
abbrev pub answer_tokens : (start : ℕ → ℕ) → (bar pcd : Option Offset) → Outcome Attributes → Evaluation
answer_tokens start bar pcd (underived i) = refused_at NoDerivation (start i)
answer_tokens start bar pcd (accepted a) = check_then_answer bar pcd a

-- the answer to a list of tokens that was read in the expression, which ends at this byte
unfoldable pub of_tokens : Memory → List Token → (end : ℕ) → Dialect → Evaluation
of_tokens m ts end δ = answer_tokens (start_in ts end) (bar_at ts δ) (pcd_at m ts) (parse code_of (meaning m) (token_in ts) (length ts))

-- the refusal that reading met, else the answer to the tokens by where the expression ends
abbrev pub ended : Result Offset Refusal → (ℕ → Evaluation) → Evaluation
ended (Err r) x = refused r
ended (Ok end) x = x end.0

-- the answer without the check of the table, which a selection makes once for all its conditions
unfoldable pub evaluation_in : Memory → Dialect → Evaluation
evaluation_in m δ =
    let read = reading m.expression δ in
    ended read.ending (λ end. of_tokens m read.tokens end δ)

-- the answer to an expression over a table
unfoldable pub evaluation : Memory → Dialect → Evaluation
evaluation m δ = pick (well_formed m.table) (evaluation_in m δ) (refused_with TableMalformed)

-- what the answer of the code denotes: a string at a place denotes the place with its bytes
abbrev pub denote_answer : Memory → Result Evaluated Refusal → Evaluation
denote_answer m (Ok a) = value (denote_value m a.value) a.count
denote_answer m (Err r) = refused r

-- The parts of an answer (document 01). A refusal has its number, its line and its offset, no value and a count of 0; a value has 0 for the
-- refusal number, for the line and for the offset. Kinds have their numbers in the table of settings.
abbrev pub refusal_number : Evaluation → ℕ
refusal_number (value v n) = 0
refusal_number (refused r) = reason_number r.reason

abbrev pub line_of : Evaluation → ℕ
line_of (value v n) = 0
line_of (refused r) = r.line.0

abbrev pub offset_of : Evaluation → ℕ
offset_of (value v n) = 0
offset_of (refused r) = r.offset.0

abbrev pub count_of : Evaluation → ℕ
count_of (value v n) = n
count_of (refused r) = 0

abbrev pub kind_number_of : Evaluation → ℕ
kind_number_of (value v n) = kind_number (kind_of v)
kind_number_of (refused r) = 0

-- the number, 0 for a string
abbrev pub number_of : Evaluation → ℕ
number_of (value (number x) n) = x
number_of (value (text k p s) n) = 0
number_of (value (fault r) n) = 0
number_of (refused r) = 0

-- the place of a string; an empty place for a number and for a refusal
abbrev pub place_of : Evaluation → Place
place_of (value (number x) n) = in_expression 0 0
place_of (value (text k p s) n) = p
place_of (value (fault r) n) = in_expression 0 0
place_of (refused r) = in_expression 0 0

-- the bytes of a string, none for a number and for a refusal
abbrev pub text_of : Evaluation → List ℕ
text_of (value (number x) n) = []
text_of (value (text k p s) n) = s
text_of (value (fault r) n) = []
text_of (refused r) = []

-- the string of an answer is handed back: the part of the caller's memory at its place, with the bytes of the string
pub record HandsBack (e t : Bor (List ℕ)) (a : Result Evaluated Refusal) (r : Bor (List ℕ)) : Type 0 where
  pub part : PartAt e t (place_of (denote_answer (over e.now t.now) a)) r
  pub bytes : r.now ≡ text_of (denote_answer (over e.now t.now) a)
