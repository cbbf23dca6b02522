-- Which directives are read, line by line, by blocks (document 01, "Lines and directives": a directive is read if its outcome depends on
-- it). `marks_show_reading` of the page of theorems is that the marks of a selection show exactly these lines.
use Rattle.std.specs.Prelude.{ℕ, Bool, true, false, not, ◌&&◌, ◌||◌, List, [], ◌∷◌, ◌++◌, Ok, Err, Result}
use Rattle.units.specs.declared.Dialect.{Dialect}
use Rattle.units.specs.declared.Fault.{Fault}
use Rattle.own.specs.Own.{Own, scope}
use Rattle.line.specs.Directives.{is_define, directive_of}
use Rattle.line.specs.declared.Directive.TheVariants.{Elseif}
use Rattle.condition.specs.Conditions.{condition_of}
use Rattle.line.specs.declared.Condition.{Condition}
use Rattle.line.specs.declared.Condition.TheVariants.{Holds, Fails}
use Rattle.blocks.specs.Blocks.{Blocks, empty, line, group, Branches, endif, elseif, else}
use Rattle.blocks.specs.Meaning.{Meaning, means, fault, plain, meaning, branches}

-- whether a condition holds, so that its branch is taken
abbrev pub holds : Result Condition Fault → Bool
holds (Ok (Holds n)) = true
holds (Ok (Fails n)) = false
holds (Err x) = false

-- the settings after lines with this meaning; no selection goes on after a fault, so any would do there
abbrev pub settings : Meaning → List Own
settings (means ms c own) = own
settings (fault x i) = []

-- For each line, whether it is a directive that is read. `own`: the settings before the blocks. `around`: the branch around the blocks is
-- taken. `earlier`: an earlier branch of the group was taken. A kept DEFINE line counts as a directive that is read (document 02, order 6);
-- any other plain line is not read.
unfoldable mutual
  pub reads_of : (t : List ℕ) → (own : List Own) → (around : Bool) → Blocks → Dialect → List Bool
  reads_of t own around empty δ = []
  reads_of t own around (line l bs) δ = (is_define l && around) ∷ reads_of t (settings (plain t own around l δ)) around bs δ
  reads_of t own around (group l body os bs) δ =
      let taken = around && holds (condition_of (scope own t) (directive_of l) l δ) in
      let own₁ = settings (meaning t own taken body δ) in
      let own₂ = settings (branches t own₁ around taken os δ) in
      around ∷ (reads_of t own taken body δ ++ (reads_in t own₁ around taken os δ ++ reads_of t own₂ around bs δ))

  pub reads_in : (t : List ℕ) → (own : List Own) → (around earlier : Bool) → Branches → Dialect → List Bool
  reads_in t own around earlier (endif l) δ = around ∷ []
  reads_in t own around earlier (elseif l body os) δ =
      let read = around && not earlier in
      let taken = read && holds (condition_of (scope own t) Elseif l δ) in
      read ∷ (reads_of t own taken body δ ++ reads_in t (settings (meaning t own taken body δ)) around (earlier || taken) os δ)
  reads_in t own around earlier (else l body e) δ = around ∷ (reads_of t own (around && not earlier) body δ ++ (around ∷ []))
