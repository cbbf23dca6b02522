-- The settings after lines follow from their marks: a line with mark 6 puts what it says among them, and any other line leaves them. This holds
-- of the meaning of blocks and of a run. Assumes nothing.
use Prim.Native.Nat.{ℕ, ◌+◌}
use mathlib.Core.Path.{◌≡◌, refl, sym, ap, ◌∙◌}
use mathlib.Core.Logic.{◌↔◌}
use mathlib.Core.Bool.{Bool, true, false, not, ◌&&◌, false≢true}
use mathlib.Core.List.{List, [], ◌∷◌, ◌++◌, append_assoc}
use lib.Dec.{eqb}
use borrow.Author.Tests.{ne_eqb}
use Rattle.std.specs.Prelude.{Ok, Err, Result as Answered}
use Rattle.units.specs.declared.Dialect.{Dialect}
use Rattle.units.specs.declared.Fault.{Fault}
use Rattle.text.specs.Bytes.{pick}
use Rattle.text.proofs.Laws.{pick_case}
use Rattle.own.specs.Own.{Own, scope, put}
use Rattle.line.specs.Directives.{is_define, directive_of}
use Rattle.line.specs.declared.Directive.TheVariants.{Elseif, Else, Endif}
use Rattle.line.specs.declared.Condition.{Condition}
use Rattle.line.specs.declared.Condition.TheVariants.{Holds, Fails}
use Rattle.condition.specs.Conditions.{condition_of}
use Rattle.define.specs.Define.{Definition, sets, fails, definition_of}
use Rattle.groups.specs.Rules.{DEFINED}
use Rattle.groups.specs.Groups.{Group, State, go}
use Rattle.select.specs.Step.{defines, step}
use Rattle.select.specs.Select.{Result, accepted, refused, prepend, at_end, run}
use Rattle.select.proofs.LimitsCorrect.{never}
use Rattle.select.proofs.Steps.{same_own}
use Rattle.select.proofs.OwnSettings.{own_put}
use Rattle.select.proofs.DefineMark.{define_mark}
use Rattle.blocks.specs.Blocks.{Blocks, empty, line, group, Branches, endif, elseif, else, lines_of, lines_in}
use Rattle.blocks.specs.Meaning.{Meaning, means, fault, single, joined, ◌then◌, defining, plain, branch, otherwise, closing, meaning, branches}
use Rattle.blocks.specs.Passing.{Passes}
use Rattle.blocks.proofs.RunMeaning.{run_go}

module _ (t : List ℕ) (δ : Dialect) where
  -- after a kept DEFINE line that says d, and after a line l with mark m
  abbrev said : List Own → Definition → List Own
  said own (sets x k) = put x own
  said own (fails f) = own

  abbrev marked : List Own → (l : List ℕ) → (m : ℕ) → List Own
  marked own l m = pick (eqb m DEFINED) (said own (definition_of own t l δ)) own

  -- lines with these marks, one for each line, lead from the first settings to the last
  abbrev pub Leads : List Own → List (List ℕ) → (marks : List ℕ) → List Own → Type 0
  Leads own [] [] own' = own ≡ own'
  Leads own [] (m ∷ ms) own' = ⊥
  Leads own (l ∷ ls) [] own' = ⊥
  Leads own (l ∷ ls) (m ∷ ms) own' = Leads (marked own l m) ls ms own'

  -- to one end only
  pub leads_one : (own : List Own) (ls : List (List ℕ)) (ms : List ℕ) (a b : List Own) → Leads own ls ms a → Leads own ls ms b → a ≡ b
  leads_one own [] [] a b p q = sym p ∙ q
  leads_one own [] (m ∷ ms) a b p q = absurd p
  leads_one own (l ∷ ls) [] a b p q = absurd p
  leads_one own (l ∷ ls) (m ∷ ms) a b p q = leads_one (marked own l m) ls ms a b p q

  leads_append : (own : List Own) (ls : List (List ℕ)) (ms : List ℕ) (a : List Own) (ls' : List (List ℕ)) (ms' : List ℕ) (b : List Own)
      → Leads own ls ms a → Leads a ls' ms' b → Leads own (ls ++ ls') (ms ++ ms') b
  leads_append own [] [] a ls' ms' b p q = rw p q
  leads_append own [] (m ∷ ms) a ls' ms' b p q = absurd p
  leads_append own (l ∷ ls) [] a ls' ms' b p q = absurd p
  leads_append own (l ∷ ls) (m ∷ ms) a ls' ms' b p q = leads_append (marked own l m) ls ms a ls' ms' b p q

  -- so do lines with this meaning
  abbrev Means : List Own → List (List ℕ) → Meaning → Type 0
  Means own ls (means ms c own') = Leads own ls ms own'
  Means own ls (fault x i) = Unit

  means_joined : (own : List Own) (ls : List (List ℕ)) (ms : List ℕ) (c : ℕ) (a : List Own) (ls' : List (List ℕ)) (y : Meaning)
      → Leads own ls ms a → Means a ls' y → Means own (ls ++ ls') (joined ms c y)
  means_joined own ls ms c a ls' (means ns d b) p q = leads_append own ls ms a ls' ns b p q
  means_joined own ls ms c a ls' (fault x i) p q = tt

  means_then : (own : List Own) (ls ls' : List (List ℕ)) (x : Meaning) (y : List Own → Meaning)
      → Means own ls x → ((a : List Own) → Means a ls' (y a)) → Means own (ls ++ ls') (x then y)
  means_then own ls ls' (means ms c a) y p q = means_joined own ls ms c a ls' (y a) p (q a)
  means_then own ls ls' (fault x i) y p q = tt

  module _ (own : List Own) (l : List ℕ) where
    defining_means : (d : Definition) → definition_of own t l δ ≡ d → Means own (l ∷ []) (defining own d)
    defining_means (sets x c) e = rw e
    defining_means (fails x) e = tt

    plain_means : (around : Bool) → Means own (l ∷ []) (plain t own around l δ)
    plain_means around =
        pick_case (Means own (l ∷ [])) (is_define l && around) (λ _. defining_means (definition_of own t l δ) refl) (λ _. by around)
      where
        by : (b : Bool) → Leads own (l ∷ []) (pick b 1 0 ∷ []) own
        by true = refl
        by false = refl

    closing_means : (around : Bool) (c : Answered Condition Fault) → Means own (l ∷ []) (closing around c own)
    closing_means false c = refl
    closing_means true (Ok (Holds n)) = refl
    closing_means true (Ok (Fails n)) = refl
    closing_means true (Err x) = tt

    module _ (in_body in-others : List (List ℕ)) (body others : Bool → List Own → Meaning)
        (body-means : (b : Bool) (a : List Own) → Means a in_body (body b a)) (others-mean : (b : Bool) (a : List Own) → Means a in-others (others b a)) where
      after : (m k : ℕ) (b e : Bool) → Means own (l ∷ []) (single m k own)
          → Means own (l ∷ (in_body ++ in-others)) (single m k own then body b then others e)
      after m k b e h =
          let first : Meaning = single m k own in
          let more = means_then own (l ∷ []) in_body first (body b) h (body-means b) in
          means_then own (l ∷ in_body) in-others (first then body b) (others e) more (others-mean e)

      branch_means : (read : Bool) (c : Answered Condition Fault) (earlier : Bool)
          → Means own (l ∷ (in_body ++ in-others)) (branch read c earlier own body others)
      branch_means false c earlier = after 2 0 false earlier refl
      branch_means true (Ok (Holds n)) earlier = after 4 n true true refl
      branch_means true (Ok (Fails n)) earlier = after 3 n false earlier refl
      branch_means true (Err x) earlier = tt

  mutual
    unfolding meaning

    -- THE FIRST THEOREM
    pub blocks_lead : (bs : Blocks) (around : Bool) (own : List Own) → Means own (lines_of bs) (meaning t own around bs δ)
    blocks_lead empty around own = refl
    blocks_lead (line l bs) around own =
        means_then own (l ∷ []) (lines_of bs) (plain t own around l δ) (λ a. meaning t a around bs δ) (plain_means own l around)
        (λ a. blocks_lead bs around a)
    blocks_lead (group l body os bs) around own =
        let c : Answered Condition Fault = condition_of (scope own t) (directive_of l) l δ in
        let first : Meaning = branch around c false own (λ b a. meaning t a b body δ) (λ e a. branches t a around e os δ) in
        rw (← append_assoc (lines_of body) (lines_in os) (lines_of bs))
        (means_then own (l ∷ (lines_of body ++ lines_in os)) (lines_of bs) first (λ a. meaning t a around bs δ)
        (branch_means own l (lines_of body) (lines_in os) (λ b a. meaning t a b body δ) (λ e a. branches t a around e os δ) (λ b a. blocks_lead body b a)
        (λ e a. branches_lead os around e a) around c false)
        (λ a. blocks_lead bs around a))

    branches_lead : (os : Branches) (around earlier : Bool) (own : List Own) → Means own (lines_in os) (branches t own around earlier os δ)
    branches_lead (endif l) around earlier own = closing_means own l around (condition_of (scope own t) Endif l δ)
    branches_lead (elseif l body os) around earlier own =
        branch_means own l (lines_of body) (lines_in os) (λ b a. meaning t a b body δ) (λ e a. branches t a around e os δ) (λ b a. blocks_lead body b a)
        (λ e a. branches_lead os around e a) (around && not earlier) (condition_of (scope own t) Elseif l δ) earlier
    branches_lead (else l body e) around earlier own =
        branch_means own l (lines_of body) (e ∷ []) (λ b a. meaning t a b body δ) (λ _ a. closing around (condition_of (scope a t) Endif e δ) a)
        (λ b a. blocks_lead body b a) (λ _ a. closing_means a e around (condition_of (scope a t) Endif e δ)) around
        (otherwise earlier (condition_of (scope own t) Else l δ)) earlier

  -- a line that a run passes
  line_leads : (n : ℕ) (s : State) (l : List ℕ) (m : ℕ) (s' : State) → step t n s l δ ≡ go m s' → marked s.own l m ≡ s'.own
  line_leads n s l m s' e = by (defines s l) refl
    where
      six : (defines s l ≡ true) ↔ (m ≡ DEFINED)
      six = define_mark t δ n s l m s' e

      by : (b : Bool) → defines s l ≡ b → marked s.own l m ≡ s'.own
      by true f =
          let w = own_put t δ n s l m s' e f in
          rw (six.0 f, w.2) (sym w.3)
      by false f = rw (ne_eqb m DEFINED (λ q. false≢true (sym f ∙ six.1 q))) (sym (same_own t δ n s l f m s' e))

  ended : (gs : List Group) (k : ℕ) (ms : List ℕ) (c : ℕ) → at_end gs k ≡ accepted ms c → [] ≡ ms
  ended [] k ms c e = cc
  ended (g ∷ gs) k ms c e = never _ _ g.line ms c e

  -- THE SECOND THEOREM
  pub run_leads : (ls : List (List ℕ)) (n : ℕ) (s s' : State) (ms : List ℕ) (c : ℕ) → run t n s ls δ ≡ accepted ms c → Passes t δ n s ls s'
      → Leads s.own ls ms s'.own
  unfolding run
  run_leads [] n s s' ms c e p = rw (← ended s.groups s.count ms c e) (ap (λ q. q.own) p)
  run_leads (l ∷ ls) n s s' ms c e p =
      by (run t (n + 1) p.1 ls δ) refl (sym (run_go t δ n s l ls p.0 p.1 p.2) ∙ e) (λ ns d q. run_leads ls (n + 1) p.1 s' ns d q p.3)
    where
      by : (r : Result) → run t (n + 1) p.1 ls δ ≡ r → prepend p.0 r ≡ accepted ms c
          → ((ns : List ℕ) (d : ℕ) → run t (n + 1) p.1 ls δ ≡ accepted ns d → Leads p.1.own ls ns s'.own)
          → Leads s.own (l ∷ ls) ms s'.own
      by (refused x i) q f ih = never _ x i ms c f
      by (accepted ns d) q f ih =
          let z : p.0 ∷ ns ≡ ms = cc in
          rw (← z, line_leads n s l p.0 p.1 p.2) (ih ns d q)
