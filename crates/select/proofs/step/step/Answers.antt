-- The length decides, then the plan of the directive, and, if it is read, its condition.
use Rattle.std.proofs.Common.{◌≡◌, ◌++◌, Ok, length, refl, ap, ◌∙◌, arith, length-drop}
use Rattle.std.proofs.lemmas.Result.{err_from_is_err_and}
use Rattle.own.specs.Own.{scope}
use Rattle.line.specs.Directives.{directive_of, text_start}
use Rattle.condition.specs.Conditions.{count_of, offset_of, condition_of}
use Rattle.condition.proofs.Counts.{count_small}
use Rattle.condition.proofs.PlaceWithin.{within_text, same_count}
use Rattle.groups.specs.Stack.{denote_selection}
use Rattle.groups.specs.declared.Plan.TheVariants.{Read}
use Rattle.select.proofs.Steps.{other_read, long_step, planned_step, unread_suits, read_suits, line_planned}
use Rattle.select.proofs.step.step.Goals as goal

pub returns-then-line-gt-MAX_LINE : goal.returns-then-line-gt-MAX_LINE
returns-then-line-gt-MAX_LINE c =
    let a = c.args in
    λ o e. rw (long_step a.settings.table.now a.dialect a.n.0 (denote_selection a.x o) a.line.now c.if-line-gt-MAX_LINE.true) c.into.ensures

pub returns-in_err-transition : goal.returns-in_err-transition
returns-in_err-transition c =
    let a = c.args in
    let l = a.line.now in
    let failed = err_from_is_err_and c.from_residual.result c.from_residual.ensures.1 in
    let planned = line_planned a.x a.head.directive _ c.innermost-s.ensures l _ c.requires.3.directive c.in_err-transition.ensures in
    λ o e.
    let s = denote_selection a.x o in
    let other = c.requires.4 c.if-line-gt-MAX_LINE.false in
    rw (failed.1, failed.2, planned_step a.settings.table.now a.dialect a.n.0 s l _ c.if-line-gt-MAX_LINE.false other planned) refl

pub apply-requires : goal.apply-requires
apply-requires c =
    let a = c.args in (
      c.requires.1,
      unread_suits a.x a.head.directive _ c.innermost-s.ensures _ (rw c.in-Unread.is at c.in_ok-transition.ensures),
      c.requires.0,
      omega (arith, c.requires.2),
    )

pub in_line-condition-requires : goal.in_line-condition-requires
in_line-condition-requires c =
    let a = c.args in
    let l = a.line.now in
    let head = c.requires.3 in
    let plan = rw c.in-Read.is at c.in_ok-transition.ensures in
    let planned = line_planned a.x a.head.directive _ c.innermost-s.ensures l (Ok Read) head.directive plan in
    let handed = c.text-text.ensures (head.starts (other_read _ _ planned)) in
    let near = within_text (a.settings.own.now ++ a.settings.table.now) a.head.directive c.text-text.result.now a.dialect in
    omega (
      arith,
      near,
      ap offset_of c.evaluate-condition.ensures,
      ap length handed.bytes,
      length-drop (text_start l) l,
      c.if-line-gt-MAX_LINE.false,
      head.within,
    )

pub apply-requires-in-Read : goal.apply-requires-in-Read
apply-requires-in-Read c =
    let a = c.args in
    let plan = rw c.in-Read.is at c.in_ok-transition.ensures in
    let small = count_small (a.settings.own.now ++ a.settings.table.now) a.head.directive c.text-text.result.now a.dialect in
    let count = ap count_of c.in_line-condition.ensures ∙ same_count a.head.text.0 c.evaluate-condition.result in (
      c.requires.1,
      read_suits a.x a.head.directive _ c.innermost-s.ensures _ c.in_line-condition.result plan c.conclude-transition.ensures,
      c.requires.0,
      omega (arith, c.count_of.ensures, count, ap count_of c.evaluate-condition.ensures, small, c.requires.2),
    )

pub returns-in-Unread : goal.returns-in-Unread
returns-in-Unread c =
    let a = c.args in
    let l = a.line.now in
    let plan = rw c.in-Unread.is at c.in_ok-transition.ensures in
    let planned = line_planned a.x a.head.directive _ c.innermost-s.ensures l _ c.requires.3.directive plan in
    λ o e.
    let s = denote_selection a.x o in
    let other = c.requires.4 c.if-line-gt-MAX_LINE.false in
    rw (planned_step a.settings.table.now a.dialect a.n.0 s l _ c.if-line-gt-MAX_LINE.false other planned) (c.apply.ensures o)

pub returns-in-Read : goal.returns-in-Read
returns-in-Read c =
    let a = c.args in
    let l = a.line.now in
    let head = c.requires.3 in
    let plan = rw c.in-Read.is at c.in_ok-transition.ensures in
    let planned = line_planned a.x a.head.directive _ c.innermost-s.ensures l (Ok Read) head.directive plan in
    let at = head.starts (other_read _ _ planned) in
    let handed = c.text-text.ensures at in
    λ o e.
    let s = denote_selection a.x o in
    let other = c.requires.4 c.if-line-gt-MAX_LINE.false in
    let said : c.in_line-condition.result ≡ condition_of (scope o a.settings.table.now) (directive_of l) l a.dialect =
    c.in_line-condition.ensures ∙ rw (c.evaluate-condition.ensures, at, head.directive, handed.bytes, e) in
    rw (
      planned_step a.settings.table.now a.dialect a.n.0 s l (Ok Read) c.if-line-gt-MAX_LINE.false other planned,
      ← said,
      ← c.count_of.ensures,
      ← head.directive,
      ← c.innermost-s.ensures,
      ← c.conclude-transition.ensures,
    )
    (c.apply-in-Read.ensures o)
