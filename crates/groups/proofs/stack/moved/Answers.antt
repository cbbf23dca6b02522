-- The transition decides.
use Rattle.std.proofs.Common.{refl, rules}
use Rattle.groups.proofs.Stacks.{pushed, replaced}
use Rattle.groups.proofs.stack.moved.Goals as goal

pub returns-in-Push : goal.returns-in-Push
returns-in-Push c =
    let a = c.args in
    let room = rw c.in-Push.is at c.requires.1 in
    λ o. rw (c.in-Push.is, c.digit.ensures.value) (refl, pushed a.x a.count o _ a.n.0 room (search rules))

pub returns-in-Replace : goal.returns-in-Replace
returns-in-Replace c =
    let a = c.args in
    λ o. rw (c.in-Replace.is, c.digit-in-Replace.ensures.value) (refl, replaced a.x a.count o _ c.requires.0)
