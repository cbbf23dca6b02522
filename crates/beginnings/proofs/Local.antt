-- The parser reads no token after the one that its result names. So over any tokens that are the same up to there, whatever follows and
-- however many there are, a goal has the same result.
use Prim.Native.Nat.{ℕ, suc, ◌≤◌}
use native.Mathlib.Omega.{arith}
use mathlib.Core.Path.{◌≡◌, refl}
use Rattle.grammar.specs.Fold.{Algebra}
use Rattle.grammar.specs.Parse.{Ends, Goal, Result, Yields}
use Rattle.grammar.proofs.Steps as Steps
use Rattle.beginnings.proofs.Trace.{Traces, leaf, none, enclosed_bad, unclosed, closed, unary_bad, unary, operand, level_bad, extended}
use Rattle.beginnings.proofs.Trace.{done, right_bad, longer, test_bad, plain, first_bad, no_colon, second_bad, choice, reach, onward}

module _ {K A : Type 0} {code : K → ℕ} {alg : Algebra K A} {tok tok' : ℕ → K} {n : ℕ}
    (ends : Ends code tok' n) (e : ℕ) (same : (i : ℕ) → i ≤ e → tok' i ≡ tok i) where
  pub elsewhere : {g : Goal A} {r : Result A} → Traces code alg tok g r → reach r ≤ e → Yields code alg tok' n g r
  elsewhere (leaf {i} h) l = rw (← same i (omega arith)) (Steps.primary_leaf ends i (rw (same i (omega arith)) h))
  elsewhere (none {i} h f) l = Steps.primary_none ends i (rw (same i (omega arith)) h) (rw (same i (omega arith)) f)
  elsewhere (enclosed_bad {i} {z} h d) l =
      let b = onward d in
      Steps.parentheses_bad ends i (rw (same i (omega arith)) h) z (elsewhere d l)
  elsewhere (unclosed {i} {j} {a} h d f) l =
      let b = onward d in
      Steps.parentheses_open ends i (rw (same i (omega arith)) h) a j (elsewhere d l) (rw (same j (omega arith)) f)
  elsewhere (closed {i} {j} {a} h d f) l =
      let b = onward d in
      Steps.parentheses_closed ends i (rw (same i (omega arith)) h) a j (elsewhere d (omega arith)) (rw (same j (omega arith)) f)
  elsewhere (unary_bad {i} {z} h d) l =
      let b = onward d in
      Steps.unary_bad ends i (rw (same i (omega arith)) h) z (elsewhere d l)
  elsewhere (unary {i} {j} {a} h d) l =
      let b = onward d in
      rw (← same i (omega arith)) (Steps.unary_made ends i (rw (same i (omega arith)) h) a j (elsewhere d l))
  elsewhere (operand {i} {r} h d) l =
      let b = onward d in
      Steps.unary_none ends i (rw (same i (omega arith)) h) r (elsewhere d l)
  elsewhere (level_bad {k} {i} {z} h d) l = Steps.level_bad ends i (suc k) (suc (suc k)) (omega arith) refl z (elsewhere d l)
  elsewhere (extended {k} {i} {j} {a} {r} h d f) l =
      let b = onward f in
      Steps.level_made ends i (suc k) (suc (suc k)) (omega arith) refl h a j (elsewhere d (omega arith)) r (elsewhere f l)
  elsewhere (done {k} {j} {a} h) l = Steps.extend_done ends j k a (rw (same j (omega arith)) h)
  elsewhere (right_bad {k} {j} {z} {a} p h f d) l =
      let b = onward d in
      Steps.extend_bad ends j k a h (rw (same j (omega arith)) f) z (elsewhere d l)
  elsewhere (longer {k} {j} {q} {a} {b} {r} p h f d g) l =
      let m = onward d in
      let m' = onward g in
      Steps.extend_made ends j k a h (rw (same j (omega arith)) f) b q (elsewhere d (omega arith)) r (rw (same j (omega arith)) (elsewhere g l))
  elsewhere (test_bad {i} {z} d) l = Steps.expression_bad ends i z (elsewhere d l)
  elsewhere (plain {i} {j} {c} d f) l = Steps.choice_none ends i c j (elsewhere d l) (rw (same j (omega arith)) f)
  elsewhere (first_bad {i} {j} {z} {c} d h f) l =
      let m = onward f in
      Steps.choice_bad_first ends i c j (elsewhere d (omega arith)) (rw (same j (omega arith)) h) z (elsewhere f l)
  elsewhere (no_colon {i} {j} {q} {c} {a} d h f g) l =
      let m = onward f in
      Steps.choice_no_colon ends i c j (elsewhere d (omega arith)) (rw (same j (omega arith)) h) a q (elsewhere f l) (rw (same q (omega arith)) g)
  elsewhere (second_bad {i} {j} {q} {z} {c} {a} d h f g x) l =
      let m = onward f in
      let m' = onward x in
      Steps.choice_bad_second ends i c j (elsewhere d (omega arith)) (rw (same j (omega arith)) h) a q (elsewhere f (omega arith)) (rw (same q (omega arith)) g)
      z (elsewhere x l)
  elsewhere (choice {i} {j} {q} {s} {c} {a} {b} d h f g x) l =
      let m = onward f in
      let m' = onward x in
      rw (← same j (omega arith))
      (Steps.choice_made ends i c j (elsewhere d (omega arith)) (rw (same j (omega arith)) h) a q (elsewhere f (omega arith)) (rw (same q (omega arith)) g)
      b s (elsewhere x l))
