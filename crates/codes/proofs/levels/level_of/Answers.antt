-- The table lists the levels; no binary operator has a code past it.
use Rattle.std.proofs.Common.{◌≡◌, ℕ, ◌<◌, arith, refl, ap, ◌∙◌, Bool, true, false}
use lib.ListN.{get_or, get_or-eq_default}
use lib.Dec.{ltb}
use borrow.Author.Tests.{ltb-true, ltb-false}
use Rattle.std.specs.Option.{unwrap_or}
use Rattle.text.proofs.Spans.{listed, same_over, tabled}
use Rattle.codes.specs.Levels.{level_of}
use Rattle.codes.proofs.levels.level_of.Goals as goal

listed_levels : (i : ℕ) → i < 256 → get_or (listed level_of 0 36) i 99 ≡ level_of i
unfolding level_of
listed_levels i h = by (ltb i 36) refl
  where
    by : (t : Bool) → ltb i 36 ≡ t → get_or (listed level_of 0 36) i 99 ≡ level_of i
    by true e = tabled level_of 36 i 99 (ltb-true i 36 e)
    by false e =
        get_or-eq_default (listed level_of 0 36) 99 (ltb-false i 36 e)
        ∙ same_over level_of 99 36 220 refl i (ltb-false i 36 e) (omega arith)

pub returns : goal.returns
unfolding level_of
returns c =
    c.unwrap_or.ensures ∙ ap (λ o. unwrap_or o 99) c.copied.ensures ∙ c.get.ensures.lookup.4 (omega arith) 99
    ∙ rw c.from.ensures (listed_levels c.args.c (omega arith))
