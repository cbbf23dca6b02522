-- Each turn takes one line; the answer is that of the rest of the run.
use Rattle.std.proofs.Common.{◌≡◌, ℕ, ◌-◌, ◌≤◌, Bool, true, false, ◌&&◌, List, length, take, drop, refl, sym, ap, ◌∙◌, length-set, arith, rules, eqb, leb, Err}
use borrow.Author.Tests.{leb-true, le-leb}
use Rattle.text.proofs.Laws.{and_left, and_right}
use Rattle.own.specs.Own.{Own}
use Rattle.own.proofs.BufferHolds.{held_none}
use Rattle.line.specs.Directives.{is_define}
use Rattle.groups.specs.Rules.{KEPT}
use Rattle.groups.specs.Stack.{denote_selection}
use Rattle.groups.specs.declared.Selection.{Selection}
use Rattle.select.specs.Step.{defines}
use Rattle.select.specs.Running.{MarksPlain}
use Rattle.select.proofs.Marks.{first_fails, defining}
use Rattle.select.proofs.RunInvariant.{begun, few_counted, stops, goes_on, defines_on, defines_few, defines_not, passes_plain, finished}
use Rattle.select.proofs.RunBounds.{start_kept, refused_run}
use Rattle.select.proofs.run.run.Goals as goal
use Rattle.select.proofs.run.run.Goals.{then-is_passed, else-is_passed+then-is_defining+in-Ok, else-is_passed+else-is_defining+in-Ok-step}

-- whether the line l sets a macro, by the code's tests
module _ (x : Selection) (o : List Own) (mark : ℕ) (kept : MarksPlain x mark) (l : List ℕ) where
  sets_macro : (r : Bool) → (is_define l && eqb mark KEPT) ≡ r → defines (denote_selection x o) l ≡ r
  sets_macro r e = sym (defining x o mark kept l) ∙ e

  setting : (r : Bool) → r ≡ ((is_define l && eqb mark KEPT) && leb (length l) 1024) → r ≡ true → defines (denote_selection x o) l ≡ true
  setting r test e = sets_macro true (and_left _ _ (sym test ∙ e))

  setting_short : (r : Bool) → r ≡ ((is_define l && eqb mark KEPT) && leb (length l) 1024) → r ≡ true → length l ≤ 1024
  setting_short r test e = leb-true (length l) 1024 (and_right (is_define l && eqb mark KEPT) _ (sym test ∙ e))

  not_setting : (r : Bool) → r ≡ ((is_define l && eqb mark KEPT) && leb (length l) 1024) → r ≡ false → length l ≤ 1024
      → defines (denote_selection x o) l ≡ false
  not_setting r test e short = sets_macro false (first_fails _ _ (sym test ∙ e) (le-leb (length l) 1024 short))

pub loop-at-init : goal.loop-at-init
loop-at-init c = (
  begun _ _ _ _ c.fresh-x.result _ c.fresh-x.ensures (held_none _),
  refl,
  start_kept c.fresh-x.result c.fresh-x.ensures,
  search rules,
  omega arith,
)

pub returns-in-Err : goal.returns-in-Err
returns-in-Err c =
    let u = c.loop-at.invariant.0 in
    let l = take (c.next-cut.result.end.0 - c.loop-at.at.0) (drop c.loop-at.at.0 c.args.file.now) in
    let short = setting_short c.loop-at.x u.own c.loop-at.mark c.loop-at.invariant.2 l _ c.is_defining.ensures c.if-is_defining.true in
    let sets = setting c.loop-at.x u.own c.loop-at.mark c.loop-at.invariant.2 l _ c.is_defining.ensures c.if-is_defining.true in
    refused_run _ _ _ _ c.loop-at.marks _ c.in-Err.fault _
    (defines_not u c.next-cut.ensures c.requires.1 c.define.new.own short sets c.in-Err.fault (c.in-Err.ensures.does u.own u.held))
    (ap Err c.in_line.ensures)

pub counted-x-requires : goal.counted-x-requires
counted-x-requires c =
    let u = c.loop-at.invariant.0 in
    let l = take (c.next-cut.result.end.0 - c.loop-at.at.0) (drop c.loop-at.at.0 c.args.file.now) in
    let short = setting_short c.loop-at.x u.own c.loop-at.mark c.loop-at.invariant.2 l _ c.is_defining.ensures c.if-is_defining.true in
    let sets = setting c.loop-at.x u.own c.loop-at.mark c.loop-at.invariant.2 l _ c.is_defining.ensures c.if-is_defining.true in
    let few = defines_few u c.next-cut.ensures c.requires.1 c.define.new.own short sets c.in-Ok.defined (c.in-Ok.ensures.does u.own u.held) in
    omega (arith, few, few_counted u c.requires.2)

pub returns-in-Err-step : goal.returns-in-Err-step
returns-in-Err-step c =
    let u = c.loop-at.invariant.0 in
    refused_run _ _ _ _ c.loop-at.marks _ c.in-Err-step.fault _
    (stops u c.next-cut.ensures c.in-Err-step.fault (c.in-Err-step.ensures u.own u.held.bytes)) (ap Err c.in_line-in-Err-step.ensures)

pub loop-at-preserved : goal.loop-at-preserved
loop-at-preserved c =
    let cut = c.next-cut.ensures in
    let room = c.requires.1 in
    let now = c.loop-at in
    let i = c.loop-at.invariant in
    let u = i.0 in
    let l = take (c.next-cut.result.end.0 - c.loop-at.at.0) (drop c.loop-at.at.0 c.args.file.now) in
    elim c.if-is_passed.branch [
      | then-is_passed w ↦
          let is_plain = c.is_passed.ensures w.if-is_passed.true in
          let other = sets_macro now.x u.own now.mark i.2 l false (ap (λ b. b && eqb now.mark KEPT) is_plain.2) in
          rw (w.marks-is, w.x-is, w.own-is, w.used-is, w.mark-is) (
            passes_plain u cut room now.mark i.2 is_plain.0 is_plain.1 other,
            length-set now.marks now.n.0 now.mark ∙ i.1,
            i.2,
            i.3,
            i.4,
          )
      | else-is_passed+then-is_defining+in-Ok w ↦
          let short = setting_short now.x u.own now.mark i.2 l _ w.is_defining.ensures w.if-is_defining.true in
          let sets = setting now.x u.own now.mark i.2 l _ w.is_defining.ensures w.if-is_defining.true in
          let does = w.in-Ok.ensures.does u.own u.held in
          rw (w.marks-is, w.x-is, w.own-is, w.used-is, w.mark-is) (
            rw (← w.counted-x.ensures) at (defines_on u cut room w.define.new.own short sets w.in-Ok.defined does),
            length-set now.marks now.n.0 6 ∙ i.1,
            rw w.counted-x.ensures i.2,
            w.in-Ok.ensures.used_bound.1,
            w.in-Ok.ensures.used_bound.0,
          )
      | else-is_passed+else-is_defining+in-Ok-step w ↦
          let meets = w.in-Ok-step.ensures u.own u.held.bytes in
          let other = not_setting now.x u.own now.mark i.2 l _ w.is_defining.ensures w.if-is_defining.false in
          rw (w.marks-is, w.x-is, w.own-is, w.used-is, w.mark-is) (
            goes_on u cut room w.in-Ok-step.step meets other,
            length-set now.marks now.n.0 w.in-Ok-step.step.mark ∙ i.1,
            w.plain_mark-mark.ensures,
            i.3,
            i.4,
          )
    ]

pub returns : goal.returns
returns c = finished c.loop-at.invariant.0 c.loop-at-test.false c.finish.result c.finish.ensures
