-- The count of applied operators: each operator adds at most one. Assumes nothing.
use native.Mathlib.Omega.{arith}
use mathlib.Core.Path.{refl}
use Rattle.grammar.specs.Fold.{Counts}
use Rattle.value.specs.Places.{Memory}
use Rattle.value.specs.Values.{skips}
use Rattle.value.specs.Attributes.{first_arm}
use Rattle.value.proofs.Laws.{skipped_most, chosen_most}
use Rattle.expression.specs.Meaning.{meaning}

pub counts : (m : Memory) → Counts (meaning m) (λ a. a.count)
counts m =
    record {
      leaf = λ k. refl;
      unary = λ o a. omega arith;
      binary = λ o a b. omega (arith, skipped_most (skips o.code a.value) b.count);
      choice = λ q c a b. omega (arith, chosen_most (first_arm c.value) a.count b.count);
    }
