-- A fault in the meaning of blocks has a number that a directive or a DEFINE line is refused with for its text: none from 17 to 21. Assumes
-- nothing.
use Prim.Native.Nat.{ℕ, ◌≤◌}
use mathlib.Core.Path.{◌≡◌}
use mathlib.Core.Logic.{◌⊎◌, inl, inr}
use mathlib.Core.Bool.{Bool, true, false, not, ◌&&◌}
use mathlib.Core.List.{List, []}
use Rattle.std.specs.Prelude.{Ok, Err, Result}
use Rattle.units.specs.Refusals.{reason_number}
use Rattle.units.specs.declared.Dialect.{Dialect}
use Rattle.units.specs.declared.Fault.{Fault}
use Rattle.text.proofs.Laws.{pick_case}
use Rattle.own.specs.Own.{Own, scope}
use Rattle.line.specs.Directives.{is_define, directive_of}
use Rattle.line.specs.declared.Directive.TheVariants.{Elseif, Else, Endif}
use Rattle.condition.specs.Conditions.{condition_of}
use Rattle.line.specs.declared.Condition.{Condition}
use Rattle.line.specs.declared.Condition.TheVariants.{Holds, Fails}
use Rattle.define.specs.Define.{Definition, sets, fails, definition_of}
use Rattle.blocks.specs.Blocks.{Blocks, empty, line, group, Branches, endif, elseif, else}
use Rattle.blocks.specs.Meaning.{Meaning, means, fault, single, joined, ◌then◌, defining, plain, branch, otherwise, closing, meaning}
use Rattle.blocks.specs.Meaning.{branches}
use Rattle.blocks.proofs.TextFaults.{from_text, InCondition, in_line_lem, not_of_lines}
use Rattle.blocks.proofs.DefineFaults.{from_define, define_not_of_lines, InDefinition, in_definition}

abbrev Sorted : Meaning → Type 0
Sorted (means ms c own) = Unit
Sorted (fault x i) = (from_text (reason_number x.reason) ≡ true) ⊎ (from_define (reason_number x.reason) ≡ true)

joined_sorted : (ms : List ℕ) (c : ℕ) (a : Meaning) → Sorted a → Sorted (joined ms c a)
joined_sorted ms c (means ns d own) h = tt
joined_sorted ms c (fault x i) h = h

then_sorted : (a : Meaning) (b : List Own → Meaning) → Sorted a → ((own : List Own) → Sorted (b own)) → Sorted (a then b)
then_sorted (means ms c own) b h k = joined_sorted ms c (b own) (k own)
then_sorted (fault x i) b h k = h

module _ (body others : Bool → List Own → Meaning) (in_body : (b : Bool) (own : List Own) → Sorted (body b own))
    (in-others : (b : Bool) (own : List Own) → Sorted (others b own)) where
  line_sorted : (m c : ℕ) (own : List Own) (live taken : Bool) → Sorted (single m c own then body live then others taken)
  line_sorted m c own live taken =
      then_sorted (single m c own then body live) (others taken) (then_sorted (single m c own) (body live) tt (in_body live)) (in-others taken)

  branch_sorted : (r : Bool) (c : Result Condition Fault) (taken : Bool) (own : List Own) → InCondition c → Sorted (branch r c taken own body others)
  branch_sorted false c taken own h = line_sorted 2 0 own false taken
  branch_sorted true (Ok (Holds n)) taken own h = line_sorted 4 n own true true
  branch_sorted true (Ok (Fails n)) taken own h = line_sorted 3 n own false taken
  branch_sorted true (Err x) taken own h = inl h

otherwise_sorted : (taken : Bool) (c : Result Condition Fault) → InCondition c → InCondition (otherwise taken c)
otherwise_sorted taken (Ok (Holds n)) h = tt
otherwise_sorted taken (Ok (Fails n)) h = tt
otherwise_sorted taken (Err x) h = h

closing_sorted : (around : Bool) (c : Result Condition Fault) (own : List Own) → InCondition c → Sorted (closing around c own)
closing_sorted false c own h = tt
closing_sorted true (Ok (Holds n)) own h = tt
closing_sorted true (Ok (Fails n)) own h = tt
closing_sorted true (Err x) own h = inl h

defining_sorted : (own : List Own) (d : Definition) → InDefinition d → Sorted (defining own d)
defining_sorted own (sets x k) h = tt
defining_sorted own (fails x) h = inr h

module _ (t : List ℕ) (δ : Dialect) where
  plain_sorted : (own : List Own) (around : Bool) (l : List ℕ) → Sorted (plain t own around l δ)
  plain_sorted own around l =
      pick_case Sorted (is_define l && around) (λ _. defining_sorted own (definition_of own t l δ) (in_definition own t l δ)) (λ _. tt)

  mutual
    unfolding meaning

    blocks_sorted : (bs : Blocks) (around : Bool) (own : List Own) → Sorted (meaning t own around bs δ)
    blocks_sorted empty around own = tt
    blocks_sorted (line l bs) around own =
        then_sorted (plain t own around l δ) (λ own. meaning t own around bs δ) (plain_sorted own around l) (λ own. blocks_sorted bs around own)
    blocks_sorted (group l body os bs) around own =
        let c : Result Condition Fault = condition_of (scope own t) (directive_of l) l δ in
        let m : Meaning = branch around c false own (λ b own. meaning t own b body δ) (λ b own. branches t own around b os δ) in
        let h = branch_sorted (λ b own. meaning t own b body δ) (λ b own. branches t own around b os δ) (λ b own. blocks_sorted body b own)
        (λ b own. branches_sorted os around b own) around c false own (in_line_lem (scope own t) δ (directive_of l) l) in
        then_sorted m (λ own. meaning t own around bs δ) h (λ own. blocks_sorted bs around own)

    branches_sorted : (os : Branches) (around taken : Bool) (own : List Own) → Sorted (branches t own around taken os δ)
    branches_sorted (endif l) around taken own = closing_sorted around (condition_of (scope own t) Endif l δ) own (in_line_lem (scope own t) δ Endif l)
    branches_sorted (elseif l body os) around taken own =
        branch_sorted (λ b own. meaning t own b body δ) (λ b own. branches t own around b os δ) (λ b own. blocks_sorted body b own)
        (λ b own. branches_sorted os around b own) (around && not taken) (condition_of (scope own t) Elseif l δ) taken own
        (in_line_lem (scope own t) δ Elseif l)
    branches_sorted (else l body e) around taken own =
        branch_sorted (λ b own. meaning t own b body δ) (λ _ own. closing around (condition_of (scope own t) Endif e δ) own)
        (λ b own. blocks_sorted body b own)
        (λ _ own. closing_sorted around (condition_of (scope own t) Endif e δ) own (in_line_lem (scope own t) δ Endif e))
        around (otherwise taken (condition_of (scope own t) Else l δ)) taken own
        (otherwise_sorted taken (condition_of (scope own t) Else l δ) (in_line_lem (scope own t) δ Else l))

pub fault_numbers : (t : List ℕ) (δ : Dialect) (bs : Blocks) (x : Fault) (i : ℕ) → meaning t [] true bs δ ≡ fault x i
    → 17 ≤ reason_number x.reason → reason_number x.reason ≤ 21 → ⊥
fault_numbers t δ bs x i e a b = by (rw e at (blocks_sorted t δ bs true []))
  where
    by : Sorted (fault x i) → ⊥
    by (inl h) = not_of_lines (reason_number x.reason) h a b
    by (inr h) = define_not_of_lines (reason_number x.reason) h a b
