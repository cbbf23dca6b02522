-- The theorems on specs/Beginnings.antt. The tokens before the one at which the parser refuses a list are a good beginning (Viable.antt).
-- With that token they are none: whatever follows it, the parser refuses there too (Local.antt), but it accepts what derives.
use Prim.Native.Nat.{ℕ, ◌+◌, ◌*◌, ◌-◌, ◌≤◌, ◌<◌}
use native.Mathlib.Omega.{arith}
use mathlib.Core.Path.{◌≡◌, refl, sym, ap, ◌∙◌}
use mathlib.Core.Logic.{◌↔◌}
use mathlib.Core.Bool.{Bool, true, false}
use mathlib.Core.List.{List, [], ◌++◌, append_assoc, append-nil}
use lib.ListN.{length, take, drop, get_or, length-append, length-drop, get_or-append}
use lib.Seq.{take_at, take-add, get_or-take, length-take-le}
use lib.Dec.{eqb, ltb}
use borrow.Author.Tests.{eqb-true, ltb-true, ltb-false}
use Rattle.text.proofs.Laws.{pick_case}
use Rattle.grammar.specs.Grammar.{Tree, expression, Derives}
use Rattle.grammar.specs.Fold.{Algebra, fold}
use Rattle.grammar.specs.Parse.{END, Ends, Reads, find, Result, bad, got, run, Outcome, refused, accepted, whole, parse}
use Rattle.grammar.specs.Decides.{trees, map_outcome}
use Rattle.grammar.proofs.Lists.{head, list_reads}
use Rattle.grammar.proofs.Steps.{whole_bad, whole_rest}
use Rattle.grammar.proofs.Sound.{Part}
use Rattle.grammar.proofs.Complete.{complete}
use Rattle.grammar.proofs.Decided.{evaluates}
use Rattle.beginnings.specs.Beginnings.{Begins, FirstBad, Supply}
use Rattle.beginnings.proofs.Trace.{Traces, reach, inside, traced}
use Rattle.beginnings.proofs.Local.{elsewhere}
use Rattle.beginnings.proofs.Viable.{viable, part}

module _ {K : Type 0} (code : K → ℕ) where
  -- a beginning of a good beginning is good, so that after a bad one all that follow are bad: what was cut off goes in front of the continuation
  pub shorter : (ts : List K) (i j : ℕ) → j ≤ i → Begins code (take i ts) → Begins code (take j ts)
  shorter ts i j l b =
      let m = i - j in
      let c : j + m ≡ i = omega arith in
      let z : take i ts ≡ take j ts ++ take m (drop j ts) = ap (λ k. take k ts) (sym c) ∙ take-add j m ts in
      (take m (drop j ts) ++ b.0, b.1, rw (← append_assoc (take j ts) (take m (drop j ts)) b.0, ← z) b.2)

  -- a list has one first bad token at most: of two, the smaller would be bad by itself and good by the other
  pub first_bad_single : (ts : List K) (d e : ℕ) → FirstBad code ts d → FirstBad code ts e → d ≡ e
  first_bad_single ts d e f g = by (ltb d e) refl (ltb e d) refl
    where
      by : (s : Bool) → ltb d e ≡ s → (t : Bool) → ltb e d ≡ t → d ≡ e
      by true p t q = let l = ltb-true d e p in absurd (f.wrong (omega (arith, g.within)) (g.good (d + 1) (omega arith)))
      by false p true q = let l = ltb-true e d q in absurd (g.wrong (omega (arith, f.within)) (f.good (e + 1) (omega arith)))
      by false p false q = omega (arith, ltb-false d e p, ltb-false e d q)

module _ {K : Type 0} {code : K → ℕ} (supply : Supply code) {ts : List K} {tok : ℕ → K} (reads : Reads code ts tok) where
  -- the tokens that the parser read are the first e
  passed : (e : ℕ) → e ≤ length ts → (w : List K) → ts ≡ w ++ drop e ts → take e ts ≡ w
  passed e l w h = ap (take e) h ∙ take_at w (drop e ts) e (omega (arith, ap length h, length-append w (drop e ts), length-drop e ts))

  -- a list that the parser refuses at token e, whatever follows, is no good beginning with that token
  module _ (e : ℕ) (l : e < length ts) where
    abbrev end : K
    end = supply.token END

    -- the tokens with a continuation, read by index
    alike : (v : List K) (i : ℕ) → i ≤ e → get_or (take (e + 1) ts ++ v) i end ≡ tok i
    alike v i h =
        let m = length-take-le (e + 1) ts (omega arith) in
        get_or-append (take (e + 1) ts) v end i (omega arith) ∙ get_or-take (e + 1) ts i end (omega arith)
        ∙ head (list_reads code end (supply.coded END) ts) i (tok i) (drop (i + 1) ts) (reads.each i (omega arith))

    refuses : ((n : ℕ) (tok' : ℕ → K) → Ends code tok' n → e < n → ((i : ℕ) → i ≤ e → tok' i ≡ tok i) → parse code trees tok' n ≡ refused e)
        → Begins code (take (e + 1) ts) → ⊥
    refuses f b =
        let ts' = take (e + 1) ts ++ b.0 in
        let r = list_reads code end (supply.coded END) ts' in
        let m : e < length ts' = omega (arith, length-append (take (e + 1) ts) b.0, length-take-le (e + 1) ts (omega arith)) in
        let p = f (length ts') (λ i. get_or ts' i end) r.ends m (alike b.0) in
        let q = complete r b.1 b.2 in
        cc

  -- what the parser read is a good beginning, and with the token at which it stops it is none
  stopped : (r : Result (Tree K)) → Traces code trees tok (find expression 0) r → FirstBad code ts (reach r)
  unfolding Part
  stopped (bad z) d =
      let l = inside reads.ends d (omega arith) in
      let v = viable reads supply d in
      record {
        within = l;
        good = λ i h. shorter code ts z i h (v.continued, v.tree, rw (passed z l v.passed v.from) v.derives);
        wrong = λ h. refuses z h (λ n tok' ends m same. whole_bad (elsewhere ends z same d (omega arith)));
      }
  stopped (got t j) d =
      let l = inside reads.ends d (omega arith) in
      let p = part reads expression 0 t j tt d in
      record {
        within = l;
        good = λ i h. shorter code ts j i h ([], t, rw (append-nil, passed j l p.0 p.2) p.1);
        wrong = λ h. refuses j h (λ n tok' ends m same. whole_rest (elsewhere ends j same d (omega arith)) (λ e. omega arith));
      }

  -- the token at which an outcome refuses the list, or its end
  abbrev place : {A : Type 0} → Outcome A → ℕ
  place (refused e) = e
  place (accepted a) = length ts

  place_whole : (r : Result (Tree K)) → place (whole (length ts) r) ≡ reach r
  place_whole (bad z) = refl
  place_whole (got t j) = pick_case (λ o. place o ≡ j) (eqb j (length ts)) (λ e. sym (eqb-true j (length ts) e)) (λ e. refl)

  pub placed : FirstBad code ts (place (parse code trees tok (length ts)))
  unfolding parse
  placed =
      let fuel = 16 * length ts + 14 in
      let r = run code trees tok fuel (find expression 0) in
      rw (place_whole r) (stopped r (traced reads.ends fuel (find expression 0) (tt, (omega arith)) (omega arith)))

  -- the outcome over an algebra is that over trees, mapped
  place_mapped : {A : Type 0} (f : Tree K → A) (o : Outcome (Tree K)) → place (map_outcome f o) ≡ place o
  place_mapped f (refused e) = refl
  place_mapped f (accepted t) = refl

  module _ {A : Type 0} (alg : Algebra K A) where
    placed_by : FirstBad code ts (place (parse code alg tok (length ts)))
    placed_by = rw ((evaluates reads alg).folded, place_mapped (fold alg) (parse code trees tok (length ts))) placed

    at : (e : ℕ) → parse code alg tok (length ts) ≡ refused e → FirstBad code ts e
    at e h = rw h at placed_by

    refuses_there : (e : ℕ) → ((t : Tree K) → Derives code expression ts t → ⊥) × FirstBad code ts e → parse code alg tok (length ts) ≡ refused e
    refuses_there e h =
        let r = (evaluates reads alg).refused_exactly.1 h.0 in
        r.1 ∙ ap refused (first_bad_single code ts r.0 e (at r.0 r.1) h.1)

    -- the parser, over any algebra, refuses a list at token e exactly if the list derives no tree and e is its first bad token
    pub locates : (e : ℕ) → (parse code alg tok (length ts) ≡ refused e) ↔ (((t : Tree K) → Derives code expression ts t → ⊥) × FirstBad code ts e)
    locates e = (λ h. ((evaluates reads alg).refused_exactly.0 (e, h), at e h), refuses_there e)

-- a list has a first bad token, or is a good beginning itself
pub first_bad_exists : {K : Type 0} {code : K → ℕ} → Supply code → (ts : List K) → (e : ℕ) × FirstBad code ts e
first_bad_exists {code} supply ts = (_, placed supply (list_reads code (supply.token END) (supply.coded END) ts))
