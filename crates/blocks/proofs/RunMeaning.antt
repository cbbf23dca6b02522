-- A run over the lines of blocks gives the meaning of the blocks, for any open groups around them and any lines after them. Assumes
-- nothing.
use Prim.Native.Nat.{ℕ, suc, ◌+◌, ◌≤◌}
use native.Mathlib.Omega.{arith}
use native.Mathlib.Nat.{add-zero}
use mathlib.Core.Path.{◌≡◌, refl, sym, ap, ◌∙◌}
use mathlib.Core.Bool.{Bool, true, false, not, ◌&&◌, ◌||◌}
use mathlib.Core.List.{List, [], ◌∷◌, ◌++◌, append_assoc}
use lib.ListN.{length}
use Rattle.std.specs.Prelude.{Ok, Err, Result}
use Rattle.units.specs.declared.Dialect.{Dialect}
use Rattle.units.specs.declared.Fault.{Fault}
use Rattle.text.specs.Bytes.{pick}
use Rattle.own.specs.Own.{Own, scope}
use Rattle.line.specs.Directives.{is_define, directive_of}
use Rattle.line.specs.declared.Directive.TheVariants.{Plain, Elseif, Else, Endif}
use Rattle.condition.specs.Conditions.{condition_of}
use Rattle.line.specs.declared.Condition.{Condition}
use Rattle.line.specs.declared.Condition.TheVariants.{Holds, Fails}
use Rattle.define.specs.Define.{Definition, sets, fails, definition_of}
use Rattle.groups.specs.Rules.{next_branch, plan, settled, read_if}
use Rattle.groups.specs.Groups.{Group, group as entry, State, state, go, stop}
use Rattle.groups.specs.declared.Flags.{Flags}
use Rattle.groups.specs.declared.Transition.TheVariants.{Replace, Pop}
use Rattle.select.specs.Step.{planned, defined, step}
use Rattle.select.specs.Select.{refused, prepend, run}
use Rattle.select.proofs.Steps.{defined_step, plain_step}
use Rattle.blocks.specs.Blocks.{Blocks, empty, line, group, Branches, endif, elseif, else, lines_of, lines_in, Fits, FitsIn, depth, depth_in}
use Rattle.blocks.specs.Meaning.{Meaning, fault, single, ◌then◌, defining, plain, branch, otherwise, closing, meaning, branches}
use Rattle.blocks.specs.Meaning.{WithinLimit}
use Rattle.blocks.proofs.Continuation.{Continues, follow, follow_ext, follow_none, follow_then}
use Rattle.blocks.proofs.StepByWord.{live, some_open, flagged, begun, step_word, opening_step}

pub limit_left : (a b : List (List ℕ)) → WithinLimit (a ++ b) → WithinLimit a
limit_left [] b h = tt
limit_left (l ∷ a) b h = (h.0, limit_left a b h.1)

pub limit_right : (a b : List (List ℕ)) → WithinLimit (a ++ b) → WithinLimit b
limit_right [] b h = h
limit_right (l ∷ a) b h = limit_right a b h.1

module _ (t : List ℕ) (δ : Dialect) where
  module _ (n : ℕ) (s : State) (l : List ℕ) (ls : List (List ℕ)) where
    pub run_go : (m : ℕ) (s' : State) → step t n s l δ ≡ go m s' → run t n s (l ∷ ls) δ ≡ prepend m (run t (n + 1) s' ls δ)
    unfolding run
    run_go m s' e = rw e

    pub run_stop : (x : Fault) → step t n s l δ ≡ stop x → run t n s (l ∷ ls) δ ≡ refused x n
    unfolding run
    run_stop x e = rw e

  -- a run over these lines, whose meaning depends on the settings before them, from any line number, count and settings on
  abbrev GoesAs : List Group → List (List ℕ) → (List Own → Meaning) → Continues → Type 0
  GoesAs gs ls a f = (n k : ℕ) (own : List Own) → run t n (state gs k own) ls δ ≡ follow n k (a own) f

  -- a run over these lines with these groups open
  abbrev with_groups : List Group → List (List ℕ) → Continues
  with_groups gs ls n k own = run t n (state gs k own) ls δ

  -- blocks between these groups and any lines
  abbrev BodyGoes : List Group → Blocks → Type 0
  BodyGoes gs bs = (ls : List (List ℕ)) → GoesAs gs (lines_of bs ++ ls) (λ own. meaning t own (live gs) bs δ) (with_groups gs ls)

  -- a plain line
  module _ (gs : List Group) (l : List ℕ) (ls : List (List ℕ)) (short : length l ≤ 1024) (n k : ℕ) (own : List Own) where
    defined_goes : (d : Definition) → step t n (state gs k own) l δ ≡ defined d (state gs k own)
        → run t n (state gs k own) (l ∷ ls) δ ≡ follow n k (defining own d) (with_groups gs ls)
    defined_goes (sets x c) e = run_go n _ l ls 6 _ e
    defined_goes (fails x) e = run_stop n _ l ls x e ∙ rw add-zero

    plain_goes : directive_of l ≡ Plain → run t n (state gs k own) (l ∷ ls) δ ≡ follow n k (plain t own (live gs) l δ) (with_groups gs ls)
    plain_goes w = by (is_define l && live gs) refl
      where
        by : (b : Bool) → (is_define l && live gs) ≡ b → run t n (state gs k own) (l ∷ ls) δ ≡ follow n k (plain t own (live gs) l δ) (with_groups gs ls)
        by true e = rw e (defined_goes (definition_of own t l δ) (defined_step t δ n (state gs k own) l short e))
        by false e = rw (e, add-zero k) (run_go n _ l ls (pick (live gs) 1 0) _ (plain_step t δ n (state gs k own) l short e w))

  -- a line that begins a branch, its body, and what comes after it
  module _ (n k : ℕ) (s : State) (l : List ℕ) (body : Blocks) (behind : List (List ℕ)) (a : List Own → Meaning) (f : Continues) where
    branch_goes : (gs : List Group) (m j : ℕ) (own : List Own) → step t n s l δ ≡ go m (state gs (k + j) own) → BodyGoes gs body → GoesAs gs behind a f
        → run t n s (l ∷ (lines_of body ++ behind)) δ ≡ follow n k (single m j own then (λ own'. meaning t own' (live gs) body δ) then a) f
    branch_goes gs m j own e g h =
        let b : List Own → Meaning = λ own'. meaning t own' (live gs) body δ in
        let first : Meaning = single m j own in
        run_go n s l (lines_of body ++ behind) m (state gs (k + j) own) e
        ∙ ap (prepend m) (g behind (n + 1) (k + j) own ∙ follow_ext (n + 1) (k + j) (b own) _ _ h)
        ∙ sym (follow_then n k (first then b) a f ∙ follow_then n k first b _)

  -- an `!endif`
  pub end_goes : (x : Flags) (m : ℕ) (gs : List Group) (l : List ℕ) (ls : List (List ℕ)) → directive_of l ≡ Endif → length l ≤ 1024
      → GoesAs (entry x m ∷ gs) (l ∷ ls) (λ own. closing x.around (condition_of (scope own t) Endif l δ) own) (with_groups gs ls)
  unfolding plan settled
  end_goes x m gs l ls e h n k own =
      by x.around (condition_of (scope own t) Endif l δ)
      (rw (some_open (entry x m) gs) at (step_word t δ n k (entry x m ∷ gs) own l h Endif (λ q. cc) e))
    where
      before : State
      before = state (entry x m ∷ gs) k own

      by : (r : Bool) (c : Result Condition Fault) → step t n before l δ ≡ planned (read_if r (Pop 2)) Endif c n before
          → run t n before (l ∷ ls) δ ≡ follow n k (closing r c own) (with_groups gs ls)
      by false c q = run_go n _ l ls 2 (state gs (k + 0) own) q
      by true (Ok (Holds j)) q = run_go n _ l ls 5 (state gs (k + j) own) q
      by true (Ok (Fails j)) q = run_go n _ l ls 5 (state gs (k + j) own) q
      by true (Err x) q = run_stop n _ l ls x q ∙ rw add-zero

  -- inside a group whose `!else` was not seen
  abbrev inside : (k m : ℕ) → List Group → List Own → (a e b : Bool) → State
  inside k m gs own a e b = state (entry (flagged a e b false) m ∷ gs) k own

  module _ (n k m : ℕ) (gs : List Group) (own : List Own) (l : List ℕ) (a e b : Bool) (short : length l ≤ 1024) where
    inner_elseif : directive_of l ≡ Elseif
        → step t n (inside k m gs own a e b) l δ
        ≡ planned (read_if (a && not (e || b)) (Replace 2 (next_branch (flagged a e b false) false false))) Elseif
        (condition_of (scope own t) Elseif l δ) n (inside k m gs own a e b)
    unfolding plan
    inner_elseif w =
        let g = entry (flagged a e b false) m in
        rw (some_open g gs) at (step_word t δ n k (g ∷ gs) own l short Elseif (λ q. cc) w)

    inner_else : directive_of l ≡ Else
        → step t n (inside k m gs own a e b) l δ
        ≡ planned (read_if a (Replace 2 (next_branch (flagged a e b false) false true))) Else (condition_of (scope own t) Else l δ) n
        (inside k m gs own a e b)
    unfolding plan
    inner_else w =
        let g = entry (flagged a e b false) m in
        rw (some_open g gs) at (step_word t δ n k (g ∷ gs) own l short Else (λ q. cc) w)

  -- the line of a first, a further or a last branch
  module _ (l : List ℕ) (body : Blocks) (behind : List (List ℕ)) (gs : List Group) (f : Continues) where
    -- the other branches, by whether the branch around the group is taken and whether one of its branches was taken
    module _ (rest : Bool → Bool → List Own → Meaning) (n k m : ℕ) (own : List Own) (last : Bool) (goes : (x : Flags) → BodyGoes (entry x m ∷ gs) body)
        (then-goes : (a e b : Bool) → GoesAs (entry (flagged a e b last) m ∷ gs) behind (rest a (e || b)) f) (from : State) where
      to : (a e b : Bool) (mark j : ℕ) → step t n from l δ ≡ go mark (state (entry (flagged a e b last) m ∷ gs) (k + j) own)
          → run t n from (l ∷ (lines_of body ++ behind)) δ
          ≡ follow n k (single mark j own then (λ own'. meaning t own' b body δ) then rest a (e || b)) f
      to a e b mark j q =
          branch_goes n k from l body behind (rest a (e || b)) f (entry (flagged a e b last) m ∷ gs) mark j own q (goes (flagged a e b last)) (then-goes a e b)

      at : (x : Fault) → step t n from l δ ≡ stop x → run t n from (l ∷ (lines_of body ++ behind)) δ ≡ follow n k (fault x 0) f
      at x q = run_stop n from l (lines_of body ++ behind) x q ∙ rw add-zero

    module _ (rest : Bool → Bool → List Own → Meaning) (n k : ℕ) (own : List Own) (goes : (x : Flags) → BodyGoes (entry x n ∷ gs) body)
        (then-goes : (a e b : Bool) → GoesAs (entry (flagged a e b false) n ∷ gs) behind (rest a (e || b)) f) where
      opening_goes : (b : Bool) (c : Result Condition Fault) → step t n (state gs k own) l δ ≡ begun b c n k gs own
          → run t n (state gs k own) (l ∷ (lines_of body ++ behind)) δ
          ≡ follow n k (branch b c false own (λ b own'. meaning t own' b body δ) (λ taken. rest b taken)) f
      opening_goes false c q = to rest n k n own false goes then-goes (state gs k own) false false false 2 0 q
      opening_goes true (Ok (Holds j)) q = to rest n k n own false goes then-goes (state gs k own) true false true 4 j q
      opening_goes true (Ok (Fails j)) q = to rest n k n own false goes then-goes (state gs k own) true false false 3 j q
      opening_goes true (Err x) q = at rest n k n own false goes then-goes (state gs k own) x q

    module _ (rest : Bool → Bool → List Own → Meaning) (n k m : ℕ) (own : List Own) (goes : (x : Flags) → BodyGoes (entry x m ∷ gs) body)
        (then-goes : (a e b : Bool) → GoesAs (entry (flagged a e b false) m ∷ gs) behind (rest a (e || b)) f) where
      elseif_goes : (a e b : Bool) (c : Result Condition Fault)
          → step t n (inside k m gs own a e b) l δ
          ≡ planned (read_if (a && not (e || b)) (Replace 2 (next_branch (flagged a e b false) false false))) Elseif c n (inside k m gs own a e b)
          → run t n (inside k m gs own a e b) (l ∷ (lines_of body ++ behind)) δ
          ≡ follow n k (branch (a && not (e || b)) c (e || b) own (λ x own'. meaning t own' x body δ) (λ taken. rest a taken)) f
      unfolding settled
      elseif_goes false true b c q = to rest n k m own false goes then-goes (inside k m gs own false true b) false true false 2 0 q
      elseif_goes false false true c q = to rest n k m own false goes then-goes (inside k m gs own false false true) false true false 2 0 q
      elseif_goes false false false c q = to rest n k m own false goes then-goes (inside k m gs own false false false) false false false 2 0 q
      elseif_goes true true b c q = to rest n k m own false goes then-goes (inside k m gs own true true b) true true false 2 0 q
      elseif_goes true false true c q = to rest n k m own false goes then-goes (inside k m gs own true false true) true true false 2 0 q
      elseif_goes true false false (Ok (Holds j)) q = to rest n k m own false goes then-goes (inside k m gs own true false false) true false true 4 j q
      elseif_goes true false false (Ok (Fails j)) q = to rest n k m own false goes then-goes (inside k m gs own true false false) true false false 3 j q
      elseif_goes true false false (Err x) q = at rest n k m own false goes then-goes (inside k m gs own true false false) x q

    module _ (rest : Bool → Bool → List Own → Meaning) (n k m : ℕ) (own : List Own) (goes : (x : Flags) → BodyGoes (entry x m ∷ gs) body)
        (then-goes : (a e b : Bool) → GoesAs (entry (flagged a e b true) m ∷ gs) behind (rest a (e || b)) f) where
      else_goes : (a e b : Bool) (c : Result Condition Fault)
          → step t n (inside k m gs own a e b) l δ
          ≡ planned (read_if a (Replace 2 (next_branch (flagged a e b false) false true))) Else c n (inside k m gs own a e b)
          → run t n (inside k m gs own a e b) (l ∷ (lines_of body ++ behind)) δ
          ≡ follow n k (branch a (otherwise (e || b) c) (e || b) own (λ x own'. meaning t own' x body δ) (λ taken. rest a taken)) f
      unfolding settled
      else_goes false true b c q = to rest n k m own true goes then-goes (inside k m gs own false true b) false true false 2 0 q
      else_goes false false true c q = to rest n k m own true goes then-goes (inside k m gs own false false true) false true false 2 0 q
      else_goes false false false c q = to rest n k m own true goes then-goes (inside k m gs own false false false) false false false 2 0 q
      else_goes true true b (Ok (Holds j)) q = to rest n k m own true goes then-goes (inside k m gs own true true b) true true false 3 j q
      else_goes true true b (Ok (Fails j)) q = to rest n k m own true goes then-goes (inside k m gs own true true b) true true false 3 j q
      else_goes true true b (Err x) q = at rest n k m own true goes then-goes (inside k m gs own true true b) x q
      else_goes true false true (Ok (Holds j)) q = to rest n k m own true goes then-goes (inside k m gs own true false true) true true false 3 j q
      else_goes true false true (Ok (Fails j)) q = to rest n k m own true goes then-goes (inside k m gs own true false true) true true false 3 j q
      else_goes true false true (Err x) q = at rest n k m own true goes then-goes (inside k m gs own true false true) x q
      else_goes true false false (Ok (Holds j)) q = to rest n k m own true goes then-goes (inside k m gs own true false false) true false true 4 j q
      else_goes true false false (Ok (Fails j)) q = to rest n k m own true goes then-goes (inside k m gs own true false false) true false true 4 j q
      else_goes true false false (Err x) q = at rest n k m own true goes then-goes (inside k m gs own true false false) x q

  -- blocks, and the branches of a group
  mutual
    unfolding meaning

    pub blocks_go : (bs : Blocks) → Fits bs → WithinLimit (lines_of bs) → (gs : List Group) → length gs + depth bs ≤ 16 → BodyGoes gs bs
    blocks_go empty w h gs d ls n k own = sym (follow_none n k own (with_groups gs ls))
    blocks_go (line l bs) w h gs d ls n k own =
        let v : Meaning = plain t own (live gs) l δ in
        plain_goes gs l (lines_of bs ++ ls) h.0 n k own w.0
        ∙ follow_ext n k v _ _ (λ n k own. blocks_go bs w.1 h.1 gs d ls n k own)
        ∙ sym (follow_then n k v (λ own. meaning t own (live gs) bs δ) (with_groups gs ls))
    blocks_go (group l body os bs) w h gs d ls n k own =
        let f : Continues = with_groups gs (lines_of bs ++ ls) in
        let c : Result Condition Fault = condition_of (scope own t) (directive_of l) l δ in
        let v : Meaning =
        branch (live gs) c false own (λ b own. meaning t own b body δ) (λ taken own. branches t own (live gs) taken os δ) in
        rw (append_assoc, append_assoc)
        (opening_goes l body (lines_in os ++ (lines_of bs ++ ls)) gs f (λ a taken own. branches t own a taken os δ) n k own
        (λ x ls n' k' own'.
        blocks_go body w.1 (limit_left (lines_of body) (lines_in os ++ lines_of bs) h.1) (entry x n ∷ gs) (omega arith) ls n' k' own')
        (λ a e b n' k' own'.
        branches_go os w.2 (limit_left (lines_in os) (lines_of bs) (limit_right (lines_of body) (lines_in os ++ lines_of bs) h.1)) a e b n gs
        (omega arith) (lines_of bs ++ ls) n' k' own')
        (live gs) c (opening_step t δ n k gs own l h.0 w.0 (omega arith)))
        ∙ follow_ext n k v f _
        (λ n k own. blocks_go bs w.3 (limit_right (lines_in os) (lines_of bs) (limit_right (lines_of body) (lines_in os ++ lines_of bs) h.1)) gs
        (omega arith) ls n k own)
        ∙ sym (follow_then n k v (λ own. meaning t own (live gs) bs δ) (with_groups gs ls))

    pub branches_go : (os : Branches) → FitsIn os → WithinLimit (lines_in os) → (a e b : Bool) (m : ℕ) (gs : List Group)
        → suc (length gs) + depth_in os ≤ 16
        → (ls : List (List ℕ))
        → GoesAs (entry (flagged a e b false) m ∷ gs) (lines_in os ++ ls) (λ own. branches t own a (e || b) os δ) (with_groups gs ls)
    branches_go (endif l) w h a e b m gs d ls n k own = end_goes (flagged a e b false) m gs l ls w h.0 n k own
    branches_go (elseif l body os) w h a e b m gs d ls n k own =
        rw append_assoc
        (elseif_goes l body (lines_in os ++ ls) gs (with_groups gs ls) (λ a taken own. branches t own a taken os δ) n k m own
        (λ x ls n' k' own'. blocks_go body w.1 (limit_left (lines_of body) (lines_in os) h.1) (entry x m ∷ gs) (omega arith) ls n' k' own')
        (λ a e b n' k' own'. branches_go os w.2 (limit_right (lines_of body) (lines_in os) h.1) a e b m gs (omega arith) ls n' k' own')
        a e b (condition_of (scope own t) Elseif l δ) (inner_elseif n k m gs own l a e b h.0 w.0))
    branches_go (else l body last) w h a e b m gs d ls n k own =
        rw append_assoc
        (else_goes l body (last ∷ ls) gs (with_groups gs ls) (λ a taken own. closing a (condition_of (scope own t) Endif last δ) own) n k m own
        (λ x ls n' k' own'. blocks_go body w.1 (limit_left (lines_of body) (last ∷ []) h.1) (entry x m ∷ gs) (omega arith) ls n' k' own')
        (λ a e b. end_goes (flagged a e b true) m gs last ls w.2 (limit_right (lines_of body) (last ∷ []) h.1).0)
        a e b (condition_of (scope own t) Else l δ) (inner_else n k m gs own l a e b h.0 w.0))
