-- The invariant of a run: its result is the marks of the lines so far, followed by the result of the other lines from the current state. A
-- turn of the loop takes one line. Assumes nothing.
use Prim.Native.Nat.{ℕ, ◌+◌, ◌-◌, ◌*◌, ◌^◌, ◌≤◌, ◌<◌}
use native.Mathlib.Omega.{arith}
use native.Mathlib.Numerals.{add-one}
use mathlib.Core.Path.{◌≡◌, refl, sym, ap, ◌∙◌}
use mathlib.Core.Bool.{true, false}
use mathlib.Core.List.{List, [], ◌∷◌, ◌++◌, append_assoc}
use lib.ListN.{length, get_or, take, drop, set, length-append, length-drop, drop_of_length-le}
use lib.Seq.{drop-cons, set_at, length-take-le}
use Rattle.std.specs.Prelude.{Ok, Err}
use Rattle.units.specs.declared.Dialect.{Dialect}
use Rattle.units.specs.declared.Fault.{Fault}
use Rattle.units.specs.declared.Reason.TheVariants.{FileUnfinished}
use Rattle.units.specs.Refusals.{unplaced}
use Rattle.own.specs.Own.{Own, put}
use Rattle.own.specs.Putting.{Holds}
use Rattle.line.specs.Lines.{lines}
use Rattle.line.specs.Directives.{directive_of}
use Rattle.line.specs.Cutting.{Cuts}
use Rattle.line.specs.declared.cut.Cut.{Cut}
use Rattle.line.specs.declared.Directive.TheVariants.{Plain}
use Rattle.define.specs.Define.{Definition, sets, fails, definition_of}
use Rattle.define.specs.Settling.{Does}
use Rattle.define.specs.declared.Defined.{Defined}
use Rattle.define.proofs.Counts.{definition_small, does_few}
use Rattle.groups.specs.Rules.{DEFINED}
use Rattle.groups.specs.Groups.{Group, State, Outcome, go, stop}
use Rattle.groups.specs.Stack.{groups_of, denote_selection, Represents, Meets}
use Rattle.groups.specs.declared.Selection.{Selection}
use Rattle.groups.specs.declared.Step.{Step}
use Rattle.select.specs.Step.{defines, step}
use Rattle.select.specs.Select.{Result, Answer, accepted, refused, prepend, at_end, after, run, start}
use Rattle.select.specs.Running.{ends, Runs, MarksPlain, counted_more}
use Rattle.select.proofs.Steps.{step_small, short_step, plain_step, defined_step, same_own}

-- the marks of the lines so far before the result of the others
unfoldable pub prepended : List ℕ → Result → Result
prepended [] r = r
prepended (m ∷ ms) r = prepend m (prepended ms r)

prepended_accepted : (ms : List ℕ) (c : ℕ) → prepended ms (accepted [] c) ≡ accepted ms c
unfolding prepended
prepended_accepted [] c = refl
prepended_accepted (m ∷ ms) c = rw (prepended_accepted ms c)

prepended_refused : (ms : List ℕ) (x : Fault) (n : ℕ) → prepended ms (refused x n) ≡ refused x n
unfolding prepended
prepended_refused [] x n = refl
prepended_refused (m ∷ ms) x n = rw (prepended_refused ms x n)

prepended_one : (ms : List ℕ) (m : ℕ) (r : Result) → prepended ms (prepend m r) ≡ prepended (ms ++ m ∷ []) r
unfolding prepended
prepended_one [] m r = refl
prepended_one (x ∷ ms) m r = ap (prepend x) (prepended_one ms m r)

-- n lines were marked, the next one starts at byte `at`, and the settings that lines made are the first `used` bytes of b
pub record Underway (f t : List ℕ) (δ : Dialect) (marks₀ : List ℕ) (x : Selection) (b : List ℕ) (used at n : ℕ) (marks : List ℕ) : Type 0 where
  pub done : List ℕ
  pub own : List Own
  pub held : Holds b used own
  pub shallow : x.depth ≤ 16
  pub as_many : length done ≡ n
  pub left : n + length (lines (drop at f)) ≡ length (lines f)
  pub goes : run t 1 start (lines f) δ ≡ prepended done (run t (n + 1) (denote_selection x own) (lines (drop at f)) δ)
  pub stored : marks ≡ done ++ drop n marks₀
  pub counted : x.count ≤ 200 * n

pub begun : (f t : List ℕ) (δ : Dialect) (marks : List ℕ) (x : Selection) (b : List ℕ) → Represents x start → Holds b 0 []
    → Underway f t δ marks x b 0 0 0 marks
unfolding prepended
begun f t δ marks x b r h =
    record {
      done = [];
      own = [];
      held = h;
      shallow = r.shallow;
      as_many = refl;
      left = omega arith;
      goes = rw r.means;
      stored = refl;
      counted = omega (arith, ap (λ (s : State). s.count) r.means);
    }

module _ {f t : List ℕ} {δ : Dialect} {marks₀ : List ℕ} {x : Selection} {b : List ℕ} {used at n : ℕ} {marks : List ℕ}
    (u : Underway f t δ marks₀ x b used at n marks) where
  pub as_many_lines : n ≤ length (lines f)
  as_many_lines = omega (arith, u.left)

  pub few_counted : length (lines f) ≤ 4096 → x.count < 2 ^ 63
  few_counted h = omega (arith, u.left, u.counted)

  -- the state before the next line
  abbrev pub now_at : State
  now_at = denote_selection x u.own

  -- the next line is cut off
  module _ {r : Cut} (cut : Cuts f at r) where
    -- its number is one of the file's
    pub inside : n < length (lines f)
    inside = omega (arith, u.left, ap length cut.first)

    abbrev line : List ℕ
    line = take (r.end.0 - at) (drop at f)

    abbrev others : List (List ℕ)
    others = lines (drop r.after.0 f)

    one_more : run t (n + 1) now_at (lines (drop at f)) δ ≡ after (step t (n + 1) now_at line δ) (n + 1) (λ s. run t (n + 1 + 1) s others δ)
    unfolding run
    one_more = rw cut.first

    -- the line is refused
    stops_with : (e : Fault) → step t (n + 1) now_at line δ ≡ stop e → run t 1 start (lines f) δ ≡ refused e (n + 1)
    stops_with e q = u.goes ∙ ap (prepended u.done) (one_more ∙ rw q) ∙ prepended_refused u.done e (n + 1)

    -- the line has the mark m and leads to another state
    module _ (room : length (lines f) ≤ length marks₀) where
      stored_one : (m : ℕ) → set marks n m ≡ (u.done ++ m ∷ []) ++ drop (n + 1) marks₀
      stored_one m =
          let d : drop n marks₀ ≡ get_or marks₀ n 0 ∷ drop (n + 1) marks₀ = rw add-one (drop-cons marks₀ n 0 (omega (arith, inside, room))) in
          rw (u.stored, d)
          (set_at u.done (get_or marks₀ n 0) (drop (n + 1) marks₀) m n u.as_many
          ∙ sym (append_assoc u.done (m ∷ []) (drop (n + 1) marks₀)))

      goes_to : (m : ℕ) (y : Selection) (o : List Own) (c : List ℕ) (used' : ℕ) → step t (n + 1) now_at line δ ≡ go m (denote_selection y o)
          → y.depth ≤ 16 → Holds c used' o → Underway f t δ marks₀ y c used' r.after.0 (n + 1) (set marks n m)
      goes_to m y o c used' q s h =
          record {
            done = u.done ++ m ∷ [];
            own = o;
            held = h;
            shallow = s;
            as_many = length-append u.done (m ∷ []) ∙ ap (λ i. i + 1) u.as_many;
            left = omega (arith, u.left, ap length cut.first);
            goes = u.goes ∙ ap (prepended u.done) (one_more ∙ rw q) ∙ prepended_one u.done m (run t (n + 1 + 1) (denote_selection y o) others δ);
            stored = stored_one m;
            counted = omega (arith, step_small t δ (n + 1) now_at line m (denote_selection y o) q, u.counted);
          }

      -- by the code's step, for a line that sets no macro
      module _ (z : Step) (meets : Meets (Ok z) (step t (n + 1) now_at line δ)) where
        pub goes_on : (length line ≤ 1024 → defines now_at line ≡ false) → Underway f t δ marks₀ z.next b used r.after.0 (n + 1) (set marks n z.mark)
        goes_on other = by (step t (n + 1) now_at line δ) refl meets
          where
            by : (o : Outcome) → step t (n + 1) now_at line δ ≡ o → Meets (Ok z) o
                → Underway f t δ marks₀ z.next b used r.after.0 (n + 1) (set marks n z.mark)
            by (stop e) q k = absurd k
            by (go m s) q k =
                let short = short_step t δ (n + 1) now_at line (go m s) q (λ e. let z : ◌≡◌ {A = ℕ} 0 1 = cc in omega arith) in
                let kept = same_own t δ (n + 1) now_at line (other short) m s q in
                let there : denote_selection z.next u.own ≡ s = ap (denote_selection z.next) (sym kept) ∙ k.1.means in
                goes_to z.mark z.next u.own b used (q ∙ rw (k.0, there)) k.1.shallow u.held

      -- by what the code does with a line that sets a macro
      module _ (c : List ℕ) (short : length line ≤ 1024) (defining : defines now_at line ≡ true) where
        module _ (z : Defined) (does : Does (definition_of u.own t line δ) u.own c (Ok z)) where
          pub defines_on : Underway f t δ marks₀ (counted_more x z.count) c z.used r.after.0 (n + 1) (set marks n DEFINED)
          defines_on = by (definition_of u.own t line δ) refl does
            where
              by : (d : Definition) → definition_of u.own t line δ ≡ d → Does d u.own c (Ok z)
                  → Underway f t δ marks₀ (counted_more x z.count) c z.used r.after.0 (n + 1) (set marks n DEFINED)
              by (fails e) q k = absurd k
              by (sets y j) q k =
                  goes_to DEFINED (counted_more x z.count) (put y u.own) c z.used
                  (defined_step t δ (n + 1) now_at line short defining ∙ rw (q, k.0)) u.shallow k.1

          -- few operators were applied
          pub defines_few : z.count < 200
          defines_few = does_few (definition_of u.own t line δ) u.own c z (definition_small u.own t line δ) does

        pub defines_not : (e : Fault) → Does (definition_of u.own t line δ) u.own c (Err e) → run t 1 start (lines f) δ ≡ refused e (n + 1)
        defines_not e does = by (definition_of u.own t line δ) refl does
          where
            by : (d : Definition) → definition_of u.own t line δ ≡ d → Does d u.own c (Err e) → run t 1 start (lines f) δ ≡ refused e (n + 1)
            by (sets y j) q k = absurd k
            by (fails g) q k = stops_with e (defined_step t δ (n + 1) now_at line short defining ∙ rw (q, k))

      -- a plain line that sets no macro and is not too long needs no step: its mark is that of plain lines in this state
      pub passes_plain : (mark : ℕ) → MarksPlain x mark → length line ≤ 1024 → directive_of line ≡ Plain → defines now_at line ≡ false
          → Underway f t δ marks₀ x b used r.after.0 (n + 1) (set marks n mark)
      passes_plain mark kept short plain other =
          goes_to mark x u.own b used (plain_step t δ (n + 1) now_at line short other plain ∙ rw kept) u.shallow u.held

    pub stops : (e : Fault) → Meets (Err e) (step t (n + 1) now_at line δ) → run t 1 start (lines f) δ ≡ refused e (n + 1)
    stops e meets = by (step t (n + 1) now_at line δ) refl meets
      where
        by : (o : Outcome) → step t (n + 1) now_at line δ ≡ o → Meets (Err e) o → run t 1 start (lines f) δ ≡ refused e (n + 1)
        by (go m s) q k = absurd k
        by (stop g) q k = stops_with e (q ∙ rw k)

    -- the line has this many bytes
    pub line_long : length line ≡ r.end.0 - at
    line_long = length-take-le (r.end.0 - at) (drop at f) (omega (arith, length-drop at f, cut.within))

  -- after the last line
  module _ (over : length f ≤ at) where
    no_lines : lines (drop at f) ≡ []
    unfolding lines
    no_lines = rw (drop_of_length-le f over)

    ended : run t 1 start (lines f) δ ≡ prepended u.done (at_end (groups_of x) x.count)
    unfolding run
    ended = u.goes ∙ ap (λ ls. prepended u.done (run t (n + 1) now_at ls δ)) no_lines

    pub finished : (r : Answer) → r ≡ ends n (groups_of x) x.count → Runs f t marks₀ r marks δ
    finished r e = by (groups_of x) refl
      where
        by : (gs : List Group) → groups_of x ≡ gs → Runs f t marks₀ r marks δ
        by [] g =
            let w : run t 1 start (lines f) δ ≡ accepted u.done x.count = ended ∙ rw g (prepended_accepted u.done x.count) in
            record {
              answer = e ∙ rw (g, w, u.as_many);
              marked = λ ms c q. let p : u.done ≡ ms = cc in u.stored ∙ rw (← u.as_many, p);
            }
        by (a ∷ gs) g =
            let w : run t 1 start (lines f) δ ≡ refused (unplaced FileUnfinished) a.line =
            ended ∙ rw g (prepended_refused u.done (unplaced FileUnfinished) a.line) in
            record { answer = e ∙ rw (g, w); marked = λ ms c q. let i : ◌≡◌ {A = ℕ} 0 1 = cc in absurd (omega arith) }
