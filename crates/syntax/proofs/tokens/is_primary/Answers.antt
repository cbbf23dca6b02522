-- Over each of the two spans of codes antt computes the answer.
use Rattle.std.proofs.Common.{◌≡◌, ◌<◌, ℕ, Bool, refl, true, false, leb, arith}
use borrow.Author.Tests.{leb-true, leb-false}
use Rattle.text.proofs.Spans.{same_over}
use Rattle.grammar.specs.Grammar.{is_primary}
use Rattle.syntax.proofs.tokens.is_primary.Goals as goal

up_to_bare : (x : ℕ) (b : Bool) → leb x 6 ≡ b → x < 256 → b ≡ is_primary x
unfolding is_primary
up_to_bare x true e h = same_over is_primary true 0 7 refl x (omega arith) (omega (arith, leb-true _ _ e))
up_to_bare x false e h = same_over is_primary false 7 249 refl x (omega (arith, leb-false _ _ e)) (omega arith)

pub returns : goal.returns
returns c = up_to_bare c.args.c (leb c.args.c 6) refl (omega arith)
