-- The meaning of blocks over a table (document 01, "Lines and directives"): a mark for each line and the number of operators that were
-- applied, or the first fault, with its place in its line (document 02, order 3). The recursion goes over blocks. It carries whether the
-- branch around them is taken, and hands on the settings that kept DEFINE lines made (document 02, order 6).
use Rattle.std.specs.Prelude.{ℕ, ◌+◌, ◌≤◌, Bool, true, false, not, ◌&&◌, List, [], ◌∷◌, ◌++◌, length, Ok, Err, Result as Answered}
use Rattle.units.specs.declared.Dialect.{Dialect}
use Rattle.units.specs.declared.Fault.{Fault}
use Rattle.text.specs.Bytes.{pick}
use Rattle.own.specs.Own.{Own, scope, put}
use Rattle.line.specs.Directives.{is_define, directive_of}
use Rattle.line.specs.declared.Directive.TheVariants.{Elseif, Else, Endif}
use Rattle.condition.specs.Conditions.{condition_of}
use Rattle.line.specs.declared.Condition.{Condition}
use Rattle.line.specs.declared.Condition.TheVariants.{Holds, Fails}
use Rattle.define.specs.Define.{Definition, sets, fails, definition_of}
use Rattle.select.specs.Select.{Result, accepted, refused}
use Rattle.blocks.specs.Blocks.{Blocks, empty, line, group, Branches, endif, elseif, else}

-- The marks of lines, their count of operators, and the settings after them; or the first fault, with its place in its line, and the number
-- of lines before it. Marks: 0 plain line, dropped; 1 plain line, kept; 2 directive not read; 3 read, branch not taken; 4 read, branch taken;
-- 5 read `!endif`; 6 kept line that sets a macro.
pub data Meaning : Type 0 where
  means : (marks : List ℕ) → (count : ℕ) → (own : List Own) → Meaning
  fault : Fault → (before : ℕ) → Meaning

-- one line, with its mark, its count, and the settings after it
abbrev pub single : (mark count : ℕ) → (own : List Own) → Meaning
single m c own = means (m ∷ []) c own

-- lines with these marks and this count, and the lines after them: marks in order, the sum of counts ("the sum of operator counts")
abbrev pub joined : (marks : List ℕ) → (count : ℕ) → Meaning → Meaning
joined ms c (means ns d own) = means (ms ++ ns) (c + d) own
joined ms c (fault x i) = fault x (length ms + i)

-- lines and the lines after them, which begin with the settings after the first ones; the first fault
infixl 60 ◌then◌
abbrev pub ◌then◌ : Meaning → (List Own → Meaning) → Meaning
means ms c own then rest = joined ms c (rest own)
fault x i then rest = fault x i

-- what a kept line with the first word `DEFINE` says: the macro is set from the next line on, and the operators count
abbrev pub defining : (own : List Own) → Definition → Meaning
defining own (sets x c) = single 6 c (put x own)
defining own (fails x) = fault x 0

-- a plain line; it is kept if the branch around it is taken
abbrev pub plain : (t : List ℕ) → (own : List Own) → (around : Bool) → (l : List ℕ) → Dialect → Meaning
plain t own around l δ = pick (is_define l && around) (defining own (definition_of own t l δ)) (single (pick around 1 0) 0 own)

-- A branch: its line, its body, and the branches after it. The condition counts only if the line is read. The arguments of `body` are
-- whether this branch is taken, and the settings; those of `others` are whether a branch of the group was taken so far, and the settings.
abbrev pub branch : (read : Bool) → Answered Condition Fault → (earlier : Bool) → (own : List Own) → (body others : Bool → List Own → Meaning) → Meaning
branch false c earlier own body others = single 2 0 own then body false then others earlier
branch true (Ok (Holds n)) earlier own body others = single 4 n own then body true then others true
branch true (Ok (Fails n)) earlier own body others = single 3 n own then body false then others earlier
branch true (Err x) earlier own body others = fault x 0

-- a read `!else` takes its branch exactly if no earlier one was taken, unless its text is malformed
abbrev pub otherwise : (earlier : Bool) → Answered Condition Fault → Answered Condition Fault
otherwise earlier (Ok (Holds n)) = Ok (pick earlier (Fails n) (Holds n))
otherwise earlier (Ok (Fails n)) = Ok (pick earlier (Fails n) (Holds n))
otherwise earlier (Err x) = Err x

-- an `!endif`
abbrev pub closing : (read : Bool) → Answered Condition Fault → (own : List Own) → Meaning
closing false c own = single 2 0 own
closing true (Ok (Holds n)) own = single 5 n own
closing true (Ok (Fails n)) own = single 5 n own
closing true (Err x) own = fault x 0

-- The reading rule: `!if`, `!ifdef`, `!ifndef`, `!else` and `!endif` are read if the branch around their group is taken; `!elseif` is read
-- if also no earlier branch of its group was taken. The blocks of a whole file have no branch around them, which counts as taken, and no
-- settings before them. A condition is over the table and, in front of it, the settings that lines before it made.
unfoldable mutual
  pub meaning : (t : List ℕ) → (own : List Own) → (around : Bool) → Blocks → Dialect → Meaning
  meaning t own around empty δ = means [] 0 own
  meaning t own around (line l bs) δ = plain t own around l δ then (λ own'. meaning t own' around bs δ)
  meaning t own around (group l body os bs) δ =
      branch around (condition_of (scope own t) (directive_of l) l δ) false own (λ live own'. meaning t own' live body δ)
      (λ earlier own'. branches t own' around earlier os δ)
      then (λ own'. meaning t own' around bs δ)

  pub branches : (t : List ℕ) → (own : List Own) → (around earlier : Bool) → Branches → Dialect → Meaning
  branches t own around earlier (endif l) δ = closing around (condition_of (scope own t) Endif l δ) own
  branches t own around earlier (elseif l body os) δ =
      branch (around && not earlier) (condition_of (scope own t) Elseif l δ) earlier own (λ live own'. meaning t own' live body δ)
      (λ earlier' own'. branches t own' around earlier' os δ)
  branches t own around earlier (else l body e) δ =
      branch around (otherwise earlier (condition_of (scope own t) Else l δ)) earlier own (λ live own'. meaning t own' live body δ)
      (λ _ own'. closing around (condition_of (scope own' t) Endif e δ) own')

-- the result of a run over lines with this meaning: a fault is refused at its line, and lines count from 1
abbrev pub result_of : Meaning → Result
result_of (means ms c own) = accepted ms c
result_of (fault x i) = refused x (i + 1)

-- no line is over 1,024 bytes (document 01, refusal 17)
abbrev pub WithinLimit : List (List ℕ) → Type 0
WithinLimit [] = Unit
WithinLimit (l ∷ ls) = (length l ≤ 1024) × WithinLimit ls
