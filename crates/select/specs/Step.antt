-- One line of a selection (document 01, "Lines and directives"): 17, then the outcome of its directive, or, if it is kept and has `DEFINE`
-- as its first word, of what it says (document 02, order 6). The text after a directive's word has an effect only if the directive is read,
-- that of a plain line only if it is kept and its first word is `DEFINE`.
use Rattle.std.specs.Prelude.{ℕ, ◌+◌, Bool, ◌&&◌, List, length, ltb, Result, Ok, Err}
use Rattle.units.specs.declared.Dialect.{Dialect}
use Rattle.units.specs.Refusals.{unplaced}
use Rattle.units.specs.declared.Fault.{Fault}
use Rattle.text.specs.Bytes.{pick}
use Rattle.own.specs.Own.{scope, put}
use Rattle.line.specs.Directives.{is_define, directive_of}
use Rattle.line.specs.declared.Directive.{Directive}
use Rattle.line.specs.declared.Condition.{Condition}
use Rattle.condition.specs.Conditions.{count_of, condition_of}
use Rattle.define.specs.Define.{Definition, sets, fails, definition_of}
use Rattle.groups.specs.Rules.{DEFINED, plan, conclude}
use Rattle.groups.specs.Groups.{innermost, State, state, Outcome, go, stop, applied}
use Rattle.groups.specs.declared.Plan.{Plan}
use Rattle.groups.specs.declared.Plan.TheVariants.{Read, Unread}
use Rattle.units.specs.declared.Reason.TheVariants.{LineLong}

-- the largest number of bytes in a line, without its end
abbrev pub MAX_LINE : ℕ
MAX_LINE = 1024

-- line n by the plan of its directive, with the condition c that its text makes
abbrev pub planned : Result Plan Fault → Directive → Result Condition Fault → (n : ℕ) → State → Outcome
planned (Ok Read) d c n s = applied (conclude d (innermost s.groups) c) n (count_of c) s
planned (Ok (Unread r)) d c n s = applied (Ok r) n 0 s
planned (Err f) d c n s = stop f

-- line n by its directive, with that condition
abbrev pub decided : Directive → Result Condition Fault → (n : ℕ) → State → Outcome
decided d c n s = planned (plan d (innermost s.groups)) d c n s

-- whether a line has the first word `DEFINE`, which makes it a plain line, and is kept
abbrev pub defines : State → List ℕ → Bool
defines s l = is_define l && (innermost s.groups).flags.taken

-- such a line by what it says: the macro is set from the next line on, and the operators count
abbrev pub defined : Definition → State → Outcome
defined (sets x k) s = go DEFINED (state s.groups (s.count + k) (put x s.own))
defined (fails f) s = stop f

-- line n, which is l, over a table t and the settings that lines before it made
unfoldable pub step : (t : List ℕ) → (n : ℕ) → State → List ℕ → Dialect → Outcome
step t n s l δ =
    pick (ltb MAX_LINE (length l)) (stop (unplaced LineLong))
    (pick (defines s l) (defined (definition_of s.own t l δ) s)
    (decided (directive_of l) (condition_of (scope s.own t) (directive_of l) l δ) n s))
