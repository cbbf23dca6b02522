-- Every refusal of a run, by blocks: a step that stops has a reason, and a step with a reason stops. Assumes nothing.
use Prim.Native.Nat.{ℕ, ◌+◌, ◌≤◌, ◌<◌}
use native.Mathlib.Omega.{arith}
use mathlib.Core.Path.{◌≡◌, refl, sym, ap, ◌∙◌, subst}
use mathlib.Core.Logic.{◌↔◌, ◌⊎◌, inl, inr}
use mathlib.Core.Bool.{Bool, true, false, false≢true}
use mathlib.Core.List.{List, [], ◌∷◌, ◌++◌}
use lib.ListN.{length}
use lib.Dec.{leb, ltb}
use borrow.Author.Tests.{leb-true, leb-false, ltb-true, ltb-false}
use Rattle.std.specs.Prelude.{Result as Answered}
use Rattle.units.specs.declared.Dialect.{Dialect}
use Rattle.units.specs.declared.Fault.{Fault}
use Rattle.units.specs.Refusals.{unplaced}
use Rattle.units.specs.declared.Reason.TheVariants.{DirectiveStray, FileUnfinished, LineLong, NestingDeep, WordUnknown}
use Rattle.line.specs.Directives.{directive_of}
use Rattle.line.specs.declared.Directive.{Directive}
use Rattle.line.specs.declared.Directive.TheVariants.{Plain, Unknown}
use Rattle.line.specs.declared.Condition.{Condition}
use Rattle.groups.specs.Rules.{plan}
use Rattle.groups.specs.Groups.{State, stop}
use Rattle.select.specs.Step.{decided, defines, step}
use Rattle.select.specs.Select.{Result, accepted, refused, run, start}
use Rattle.select.proofs.LimitsCorrect.{never}
use Rattle.select.proofs.Steps.{said, long_step, decided_step, other_line}
use Rattle.blocks.specs.Blocks.{Blocks, opens, Derives, depth}
use Rattle.blocks.specs.Meaning.{fault, meaning, result_of, WithinLimit}
use Rattle.blocks.specs.Beginnings.{Whole}
use Rattle.blocks.specs.Refused.{Refuses, long, unknown, stray, deep, faulty, RefusedAt, RefusedAtEnd}
use Rattle.blocks.specs.Passing.{Passes}
use Rattle.blocks.proofs.Continuation.{onto, onto_accepted, onto_refused}
use Rattle.blocks.proofs.RunMeaning.{run_stop}
use Rattle.blocks.proofs.StepByWord.{defines_plain}
use Rattle.blocks.proofs.GroupMoves.{flags, flags_length, Moves, stay, enter, turn, final, leave, moved_back}
use Rattle.blocks.proofs.Decided.{run_complete, refused_means}
use Rattle.blocks.proofs.PassedLines.{closers, completed, passes_back}
use Rattle.blocks.proofs.Stray.{move_or_stray, not_both, refuses}
use Rattle.blocks.proofs.TooDeep.{full, deeper, refused_deep}
use Rattle.blocks.proofs.Stops.{Stopped, Ended, refused_where, passes_on, passes_append}
use Rattle.blocks.proofs.StrayLine.{at_end_lem}
use Rattle.blocks.proofs.Unfinished.{unfinished}
use Rattle.blocks.proofs.OneInnermost.{one_innermost}
use Rattle.blocks.proofs.PassableLines.{limit_append, closers_short, passes_short, rest_derives, passes_passable, passable_passes}

same_stop : (a b : Fault) → stop a ≡ stop b → a ≡ b
same_stop a b e = cc

known_or_not : (d : Directive) → (d ≡ Unknown) ⊎ (d ≡ Unknown → ⊥)
known_or_not Unknown = inl refl
known_or_not _ = inr (λ e. cc)

decided_unknown : (d : Directive) → d ≡ Unknown → (c : Answered Condition Fault) (n : ℕ) (s : State) → decided d c n s ≡ stop (unplaced WordUnknown)
unfolding plan
decided_unknown d e c n s = rw e

-- at most 16 groups are open after a line that may open one more
moves_few : {d : Directive} {fs gs : List Bool} → Moves d fs gs → length fs ≤ 16 → (opens d ≡ true → length fs < 16) → length gs ≤ 16
moves_few stay h f = h
moves_few (enter o) h f = let k = f o in omega arith
moves_few turn h f = h
moves_few final h f = h
moves_few leave h f = omega arith

-- a result that is a refusal after more marks is a refusal
onto_back : (ms : List ℕ) (z : Result) (x : Fault) (n : ℕ) → onto ms z ≡ refused x n → z ≡ refused x n
onto_back ms (accepted ns c) x n e = never _ x n (ms ++ ns) c (sym e ∙ onto_accepted ms ns c)
onto_back ms (refused a b) x n e = sym (onto_refused ms a b) ∙ e

module _ (t : List ℕ) (δ : Dialect) (ls : List (List ℕ)) (s : State) (p : Passes t δ 1 start ls s) (l : List ℕ) where
  abbrev m : ℕ
  m = 1 + length ls

  abbrev c : Answered Condition Fault
  c = said t δ m s l

  few : length s.groups ≤ 16
  few = (passes_back t δ ls 1 start s [] p (omega arith)).0

  -- a line that could pass by its word, and is refused: the fault is in its text
  text_faulty : (x : Fault) (gs : List Bool) → length l ≤ 1024 → Moves (directive_of l) (flags s.groups) gs → length gs ≤ 16 → step t m s l δ ≡ stop x
      → Refuses t ls l δ x
  text_faulty x gs short v k e =
      let more = closers gs in
      let h = few in
      let front = moved_back 16 l more v refl (omega (arith, flags_length s.groups)) k (completed 16 gs k) in
      let q = (passes_back t δ ls 1 start s (l ∷ more) p (omega arith)).1 front in
      let d = rest_derives (ls ++ (l ∷ more)) q in
      let w : WithinLimit (l ∷ more) = (short, closers_short gs) in
      let limit = limit_append ls (l ∷ more) (passes_short t δ ls 1 start s p) w in
      let o = passes_on t δ ls 1 start s (l ∷ more) p in
      let z : refused x m ≡ refused x (length ls + 1) = ap (refused x) (omega arith) in
      let f : result_of (meaning t [] true q.blocks δ) ≡ refused x (length ls + 1) =
      sym (run_complete t δ (ls ++ (l ∷ more)) q.blocks d.0 d.1 limit) ∙ o.1 ∙ ap (onto o.0) (run_stop t δ m s l more x e)
      ∙ onto_refused o.0 x m ∙ z in
      faulty more q.blocks d.0 d.1 limit (refused_means (meaning t [] true q.blocks δ) x (length ls) f)

  -- a kept DEFINE line is plain and could pass
  define_reason : (x : Fault) → length l ≤ 1024 → defines s l ≡ true → step t m s l δ ≡ stop x → Refuses t ls l δ x
  define_reason x short f e =
      let w : directive_of l ≡ Plain = defines_plain s l f in
      let h = few in
      text_faulty x (flags s.groups) short (rw w stay) (omega (arith, flags_length s.groups)) e

  -- the reason of a step over another line that stops, by the length of the line, its word, and the open groups
  short_reason : (x : Fault) → length l ≤ 1024 → defines s l ≡ false → step t m s l δ ≡ stop x → Refuses t ls l δ x
  short_reason x short f e = by_word (known_or_not (directive_of l))
    where
      done : decided (directive_of l) c m s ≡ stop x
      done = sym (decided_step t δ m s l short f) ∙ e

      moving : (gs : List Bool) → Moves (directive_of l) (flags s.groups) gs → (b : Bool) → opens (directive_of l) ≡ b
          → (a : Bool) → leb 16 (length s.groups) ≡ a
          → Refuses t ls l δ x
      moving gs v true o true h =
          let q = same_stop (unplaced NestingDeep) x (sym (full (directive_of l) o m s.count s.own s.groups c (leb-true 16 (length s.groups) h)) ∙ done) in
          subst (Refuses t ls l δ) q (deep short o (deeper t δ ls s p m l short o (e ∙ ap stop (sym q))))
      moving gs v true o false h =
          let k = leb-false 16 (length s.groups) h in
          text_faulty x gs short v (moves_few v (omega (arith, flags_length s.groups)) (λ _. omega (arith, flags_length s.groups))) e
      moving gs v false o a h =
          let k = few in
          text_faulty x gs short v (moves_few v (omega (arith, flags_length s.groups)) (λ i. absurd (false≢true (sym o ∙ i)))) e

      by_word : ((directive_of l ≡ Unknown) ⊎ (directive_of l ≡ Unknown → ⊥)) → Refuses t ls l δ x
      by_word (inl u) = subst (Refuses t ls l δ) (same_stop (unplaced WordUnknown) x (sym (decided_unknown (directive_of l) u c m s) ∙ done)) (unknown short u)
      by_word (inr known) =
          move_or_stray c m s.count s.own (Refuses t ls l δ x) (directive_of l) known s.groups
          (λ gs v. moving gs v (opens (directive_of l)) refl (leb 16 (length s.groups)) refl)
          (λ q.
          let z = same_stop (unplaced DirectiveStray) x (sym q ∙ done) in
          subst (Refuses t ls l δ) z (stray short known (not_both t δ ls s p m l short (e ∙ ap stop (sym z)))))

  stop_reason : (x : Fault) → step t m s l δ ≡ stop x → Refuses t ls l δ x
  stop_reason x e = by (ltb 1024 (length l)) refl
    where
      within : length l ≤ 1024 → (b : Bool) → defines s l ≡ b → Refuses t ls l δ x
      within short true f = define_reason x short f e
      within short false f = short_reason x short f e

      by : (b : Bool) → ltb 1024 (length l) ≡ b → Refuses t ls l δ x
      by true h =
          let k = ltb-true 1024 (length l) h in
          subst (Refuses t ls l δ) (same_stop (unplaced LineLong) x (sym (long_step t δ m s l k) ∙ e)) (long k)
      by false h = within (ltb-false 1024 (length l) h) (defines s l) refl

  -- a fault in the meaning of blocks that the lines begin stops the run at this line
  fault_stops : (x : Fault) (more : List (List ℕ)) (bs : Blocks) → Derives (ls ++ (l ∷ more)) bs → depth bs ≤ 16 → WithinLimit (ls ++ (l ∷ more))
      → meaning t [] true bs δ ≡ fault x (length ls) → step t m s l δ ≡ stop x
  fault_stops x more bs d k limit e = by (refused_where t δ (l ∷ more) m s x (length ls + 1) (onto_back o.0 _ x (length ls + 1) (sym o.1 ∙ whole)))
    where
      o : (ms : List ℕ) × (run t 1 start (ls ++ (l ∷ more)) δ ≡ onto ms (run t m s (l ∷ more) δ))
      o = passes_on t δ ls 1 start s (l ∷ more) p

      whole : run t 1 start (ls ++ (l ∷ more)) δ ≡ refused x (length ls + 1)
      whole = run_complete t δ (ls ++ (l ∷ more)) bs d k limit ∙ ap result_of e

      first : (before : List (List ℕ)) (at : List ℕ) (rest : List (List ℕ)) (q : State) → l ∷ more ≡ before ++ (at ∷ rest)
          → length ls + 1 ≡ m + length before → Passes t δ m s before q → step t (length ls + 1) q at δ ≡ stop x → step t m s l δ ≡ stop x
      first [] at rest q i j z y =
          let u : l ≡ at = cc in
          let v : m ≡ length ls + 1 = omega arith in
          rw (u, z, v) y
      first (b ∷ bs) at rest q i j z y = absurd (omega arith)

      by : Stopped t δ m s (l ∷ more) x (length ls + 1) ⊎ Ended t δ m s (l ∷ more) x (length ls + 1) → step t m s l δ ≡ stop x
      by (inl w) = first w.before w.at w.rest w.state w.lines w.number w.passes w.stops
      by (inr w) =
          let v = passes_append t δ ls (l ∷ more) 1 start s w.state p w.passes in
          let a = (unfinished t δ (ls ++ (l ∷ more)) w.state v).0 (bs, d) in
          never _ x (length ls + 1) a.0 w.state.count (sym whole ∙ a.1)

  reason_stops : {x : Fault} → Refuses t ls l δ x → step t m s l δ ≡ stop x
  reason_stops (long h) = long_step t δ m s l h
  reason_stops (unknown h u) =
      decided_step t δ m s l h (other_line t δ m s l (λ e. cc)) ∙ decided_unknown (directive_of l) u c m s
  reason_stops (stray h k b) = refuses t δ ls s p m l h k b
  reason_stops (deep h o d) = refused_deep t δ ls s p m l h o d
  reason_stops (faulty {x} more bs d k limit e) = fault_stops x more bs d k limit e

module _ (t : List ℕ) (δ : Dialect) (ls : List (List ℕ)) (x : Fault) (n : ℕ) where
  has_reason : run t 1 start ls δ ≡ refused x n → RefusedAt t ls x n δ ⊎ ((x ≡ unplaced FileUnfinished) × RefusedAtEnd t ls n δ)
  has_reason e = by (refused_where t δ ls 1 start x n e)
    where
      by : Stopped t δ 1 start ls x n ⊎ Ended t δ 1 start ls x n → RefusedAt t ls x n δ ⊎ ((x ≡ unplaced FileUnfinished) × RefusedAtEnd t ls n δ)
      by (inl w) =
          let v : n ≡ 1 + length w.before = w.number in
          let k : step t (1 + length w.before) w.state w.at δ ≡ stop x = rw v at w.stops in
          inl (record {
            before = w.before;
            refusing = w.at;
            rest = w.rest;
            lines = w.lines;
            number = omega arith;
            passable = passes_passable t δ w.before w.state w.passes;
            reason = stop_reason t δ w.before w.state w.passes w.at x k;
          })
      by (inr w) =
          let z = at_end_lem w.state.groups w.state.count x n w.unclosed in
          let u = unfinished t δ ls w.state w.passes in
          let not-whole : Whole ls → ⊥ = λ d. let a = u.0 d in never _ x n a.0 w.state.count (sym e ∙ a.1) in
          let i = u.1 not-whole in
          let same : i.0 ≡ n = cc (sym i.2 ∙ e) in
          inr (z, record { passable = passes_passable t δ ls w.state w.passes; unfinished = not-whole; innermost = rw (sym same) i.1 })

  refuses_so : RefusedAt t ls x n δ ⊎ ((x ≡ unplaced FileUnfinished) × RefusedAtEnd t ls n δ) → run t 1 start ls δ ≡ refused x n
  refuses_so (inl w) =
      let q = passable_passes t δ w.before w.passable in
      let k = reason_stops t δ w.before q.0 q.1 w.refusing w.reason in
      let o = passes_on t δ w.before 1 start q.0 (w.refusing ∷ w.rest) q.1 in
      let v = w.number in
      let z : 1 + length w.before ≡ n = omega arith in
      rw w.lines
      (o.1 ∙ ap (onto o.0) (run_stop t δ (1 + length w.before) q.0 w.refusing w.rest x k)
      ∙ onto_refused o.0 x (1 + length w.before) ∙ ap (refused x) z)
  refuses_so (inr w) =
      let q = passable_passes t δ ls w.1.passable in
      let u = (unfinished t δ ls q.0 q.1).1 w.1.unfinished in
      let z = one_innermost ls u.0 n u.1 w.1.innermost in
      let y = w.0 in
      u.2 ∙ rw (z, y)

pub refused_by_blocks : (t : List ℕ) (δ : Dialect) (ls : List (List ℕ)) (x : Fault) (n : ℕ)
    → (run t 1 start ls δ ≡ refused x n) ↔ (RefusedAt t ls x n δ ⊎ ((x ≡ unplaced FileUnfinished) × RefusedAtEnd t ls n δ))
refused_by_blocks t δ ls x n = (has_reason t δ ls x n, refuses_so t δ ls x n)
