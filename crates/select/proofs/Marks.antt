-- Whether a line defines, by the mark that plain lines have in its state. Assumes nothing.
use Prim.Native.Nat.{ℕ}
use mathlib.Core.Path.{◌≡◌, refl, sym, ◌∙◌}
use mathlib.Core.Bool.{Bool, true, false, ◌&&◌}
use mathlib.Core.List.{List}
use lib.Dec.{eqb}
use Rattle.text.specs.Bytes.{pick}
use Rattle.own.specs.Own.{Own}
use Rattle.line.specs.Directives.{is_define}
use Rattle.groups.specs.Rules.{KEPT, DROPPED}
use Rattle.groups.specs.Groups.{innermost}
use Rattle.groups.specs.Stack.{groups_of, denote_selection}
use Rattle.groups.specs.declared.Selection.{Selection}
use Rattle.select.specs.Step.{defines}
use Rattle.select.specs.Running.{MarksPlain}

pub and_false : (a : Bool) → (a && false) ≡ false
and_false true = refl
and_false false = refl

pub and_true : (a : Bool) → (a && true) ≡ a
and_true true = refl
and_true false = refl

-- the first of two tests fails if both do not hold and the second does
pub first_fails : (a b : Bool) → (a && b) ≡ false → b ≡ true → a ≡ false
first_fails true b e h = sym h ∙ e
first_fails false b e h = refl

kept_mark : (b : Bool) → eqb (pick b KEPT DROPPED) KEPT ≡ b
kept_mark true = refl
kept_mark false = refl

pub defining : (x : Selection) (o : List Own) (mark : ℕ) → MarksPlain x mark → (l : List ℕ) → (is_define l && eqb mark KEPT) ≡ defines (denote_selection x o) l
defining x o mark h l = rw (h, kept_mark (innermost (groups_of x)).flags.taken)
