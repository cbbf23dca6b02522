-- The rules of groups (document 01, "Lines and directives" and "Refusal numbers"): which directives are read, what each does to the
-- innermost group, and the mark of its line.
use Rattle.std.specs.Prelude.{ℕ, Bool, true, false, not, ◌&&◌, ◌||◌, eqb, leb, Result, Ok, Err}
use Rattle.units.specs.Refusals.{unplaced}
use Rattle.units.specs.declared.Fault.{Fault}
use Rattle.units.specs.declared.Reason.TheVariants.{DirectiveStray, NestingDeep, WordUnknown}
use Rattle.text.specs.Bytes.{pick}
use Rattle.line.specs.declared.Directive.{Directive}
use Rattle.line.specs.declared.Directive.TheVariants.{Plain, If, Ifdef, Ifndef, Elseif, Else, Endif, Unknown}
use Rattle.line.specs.declared.Condition.{Condition}
use Rattle.line.specs.declared.Condition.TheVariants.{Holds, Fails}
use Rattle.groups.specs.declared.Flags.{Flags}
use Rattle.groups.specs.declared.Innermost.{Innermost}
use Rattle.groups.specs.declared.Transition.{Transition}
use Rattle.groups.specs.declared.Transition.TheVariants.{Stay, Push, Replace, Pop}
use Rattle.groups.specs.declared.Plan.{Plan}
use Rattle.groups.specs.declared.Plan.TheVariants.{Read, Unread}

-- the marks of lines: a plain line that is dropped or kept; a directive that is not read; one that is read and whose branch is not taken,
-- or is; a read `!endif`; a kept line that sets a macro (document 02, order 6)
abbrev pub DROPPED : ℕ
DROPPED = 0

abbrev pub KEPT : ℕ
KEPT = 1

abbrev pub UNREAD : ℕ
UNREAD = 2

abbrev pub NOT_TAKEN : ℕ
NOT_TAKEN = 3

abbrev pub TAKEN : ℕ
TAKEN = 4

abbrev pub ENDED : ℕ
ENDED = 5

abbrev pub DEFINED : ℕ
DEFINED = 6

-- the largest number of open groups, those in branches that are not taken included
abbrev pub MAX_GROUPS : ℕ
MAX_GROUPS = 16

-- the flags of a new group
abbrev pub first_branch : (around taken : Bool) → Flags
first_branch around taken = record { around = around; earlier = false; taken = taken; last = false }

-- a branch of the group was taken so far
abbrev pub was_taken : Flags → Bool
was_taken f = f.earlier || f.taken

-- the flags of a group in its next branch
abbrev pub next_branch : Flags → (taken last : Bool) → Flags
next_branch f taken last = record { around = f.around; earlier = was_taken f; taken = taken; last = last }

-- a plan: read if a test holds, else this transition
abbrev pub read_if : Bool → Transition → Result Plan Fault
read_if b r = pick b (Ok Read) (Ok (Unread r))

abbrev pub stray : Result Plan Fault
stray = Err (unplaced DirectiveStray)

-- the mark of a plain line
abbrev pub plain_mark : Innermost → ℕ
plain_mark s = pick s.flags.taken KEPT DROPPED

-- `!if`, `!ifdef` and `!ifndef`: the current branch is the one around the new group
abbrev pub opening : Innermost → Result Plan Fault
opening s = pick (leb MAX_GROUPS s.depth) (Err (unplaced NestingDeep)) (read_if s.flags.taken (Push UNREAD (first_branch false false)))

-- Each directive before its text is looked at. `!elseif` and `!else` are stray outside a group and after its `!else`, `!endif` outside.
unfoldable pub plan : Directive → Innermost → Result Plan Fault
plan Plain s = Ok (Unread (Stay (plain_mark s)))
plan If s = opening s
plan Ifdef s = opening s
plan Ifndef s = opening s
plan Elseif s =
    pick (eqb s.depth 0 || s.flags.last) stray
    (read_if (s.flags.around && not (was_taken s.flags)) (Replace UNREAD (next_branch s.flags false false)))
plan Else s =
    pick (eqb s.depth 0 || s.flags.last) stray
    (read_if s.flags.around (Replace UNREAD (next_branch s.flags false true)))
plan Endif s = pick (eqb s.depth 0) stray (read_if s.flags.around (Pop UNREAD))
plan Unknown s = Err (unplaced WordUnknown)

-- the mark of a read directive that begins a branch
abbrev pub branch_mark : (taken : Bool) → ℕ
branch_mark taken = pick taken TAKEN NOT_TAKEN

-- Each directive that is read, if its condition holds or fails. An `!else` takes its branch exactly if none before it was taken. Plain
-- lines and unknown words are never read.
unfoldable pub settled : Directive → Flags → (holds : Bool) → Transition
settled If f b = Push (branch_mark b) (first_branch true b)
settled Ifdef f b = Push (branch_mark b) (first_branch true b)
settled Ifndef f b = Push (branch_mark b) (first_branch true b)
settled Elseif f b = Replace (branch_mark b) (next_branch f b false)
settled Else f b = Replace (branch_mark (not (was_taken f))) (next_branch f (not (was_taken f)) true)
settled Endif f b = Pop ENDED
settled Plain f b = Stay UNREAD
settled Unknown f b = Stay UNREAD

-- a directive that is read, by its condition
abbrev pub conclude : Directive → Innermost → Result Condition Fault → Result Transition Fault
conclude d s (Ok (Holds n)) = Ok (settled d s.flags true)
conclude d s (Ok (Fails n)) = Ok (settled d s.flags false)
conclude d s (Err f) = Err f
