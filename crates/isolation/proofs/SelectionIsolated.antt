-- Isolation of a selection: lines that agree have the same conditions and set the same macros, and two runs over such lines have the same result.
-- Assumes nothing.
use Prim.Native.Nat.{ℕ, ◌≤◌}
use native.Mathlib.Omega.{arith}
use mathlib.Core.Path.{◌≡◌, refl, sym, ap, ◌∙◌}
use mathlib.Core.Logic.{◌⊎◌, ◌↔◌, inl, inr}
use mathlib.Core.Bool.{Bool, true, false, false≢true}
use mathlib.Core.List.{List, [], ◌++◌}
use lib.ListN.{length, get_or, take, drop}
use lib.Seq.{take_at}
use Rattle.std.specs.Prelude.{Ok, Err, Result as Answered}
use Rattle.units.specs.declared.Dialect.{Dialect}
use Rattle.units.specs.declared.Fault.{Fault}
use Rattle.own.specs.Own.{scope}
use Rattle.scoped.proofs.UnderName.{same_scope}
use Rattle.line.specs.Lines.{lines}
use Rattle.line.specs.Directives.{is_define, directive_of, text_start, text_of}
use Rattle.condition.specs.Conditions.{in_line, condition_of}
use Rattle.define.specs.Define.{definition_of}
use Rattle.groups.specs.Rules.{plan}
use Rattle.groups.specs.Groups.{innermost, State, go}
use Rattle.groups.specs.declared.Plan.{Plan}
use Rattle.groups.specs.declared.Plan.TheVariants.{Read as IsRead, Unread}
use Rattle.select.specs.Step.{defines, step}
use Rattle.select.proofs.Steps.{Marked, step_marked, Defines, step_defines}
use Rattle.select.specs.Select.{Result, accepted, refused, start, selection, Answer, number_of_lines, count_of, Selects}
use Rattle.select.specs.declared.Selected.{Selected}
use Rattle.isolation.specs.Isolation.{Read, Agrees, Comparable}
use Rattle.isolation.proofs.SameConditions.{same_condition, same_definition}
use Rattle.isolation.proofs.Simulation.{Like, AllLike, same_run}
use Rattle.select.proofs.LimitsCorrect.{runs, accepted_runs}

-- lines that agree are alike
agree_like : (t₁ t₂ : List ℕ) (δ : Dialect) (m : ℕ) (l₁ l₂ : List ℕ) → length l₂ ≤ 1024 → Agrees t₁ t₂ m l₁ l₂ δ → Like t₁ t₂ δ m l₁ l₂
agree_like t₁ t₂ δ m l₁ l₂ h a =
    record {
      short = h;
      word = a.word;
      condition = λ r o. ap (λ l. condition_of (scope o t₂) (directive_of l₁) l δ) (a.bytes r) ∙ ap
          (in_line (text_start l₁))
          (sym (same_condition (scope o t₁) (scope o t₂) (text_of l₁) δ (directive_of l₁) (λ n q. same_scope o t₁ t₂ n (a.records r n (inl q)))));
      define = λ r. ap is_define (a.bytes r);
      definition = λ r d o. ap (λ l. definition_of o t₂ l δ) (a.bytes r)
          ∙ sym (same_definition o t₁ t₂ l₁ δ (λ n q. a.records r n (inr (record { define = d; names = q }))));
      kept = a.kept;
    }

pub isolation : (δ : Dialect) (f₁ t₁ : List ℕ) (room₁ : ℕ) (ms : List ℕ) (c : ℕ) → selection f₁ t₁ room₁ δ ≡ accepted ms c
    → (f₂ t₂ : List ℕ) (room₂ : ℕ) → Comparable f₁ t₁ ms f₂ t₂ room₂ δ → selection f₂ t₂ room₂ δ ≡ accepted ms c
isolation δ f₁ t₁ room₁ ms c h f₂ t₂ room₂ k =
    let p = accepted_runs f₁ t₁ δ room₁ ms c h in
    let like : AllLike t₁ t₂ δ ms (lines f₁) (lines f₂) = λ i l.
    agree_like t₁ t₂ δ (get_or ms i 0) (get_or (lines f₁) i []) (get_or (lines f₂) i [])
    (k.short i (omega (arith, k.as_many))) (k.agrees i l) in
    runs f₂ t₂ δ room₂ k.is_well_formed k.small (omega (arith, p.1, k.as_many)) k.enough
    ∙ same_run t₁ t₂ δ 1 start (lines f₁) (lines f₂) ms c k.as_many like p.0

-- the mark of a line shows whether it was read: whether it is a directive that is read, or a kept DEFINE line
abbrev pub MarksTell : Type 0
MarksTell = (t : List ℕ) (δ : Dialect) (n : ℕ) (s : State) (l : List ℕ) (m : ℕ) (s' : State) → step t n s l δ ≡ go m s'
    → ((plan (directive_of l) (innermost s.groups) ≡ Ok IsRead) ⊎ (defines s l ≡ true)) ↔ Read m

pub marks_tell : MarksTell
marks_tell t δ n s l m s' e = which (defines s l) refl
  where
    by : (p : Answered Plan Fault) → Marked t δ n s l p (go m s') → (b : Bool) → b ≡ false → ((p ≡ Ok IsRead) ⊎ (b ≡ true)) ↔ Read m
    by (Ok IsRead) h b f = (λ _. h.0, λ _. inl refl)
    by (Ok (Unread r)) h b f = (unread, λ k. absurd (omega (arith, h.0)))
      where
        unread : ◌≡◌ {A = Answered Plan Fault} (Ok (Unread r)) (Ok IsRead) ⊎ (b ≡ true) → Read m
        unread (inl q) = absurd cc
        unread (inr q) = absurd (false≢true (sym f ∙ q))
    by (Err x) h b f = absurd h

    which : (b : Bool) → defines s l ≡ b → ((plan (directive_of l) (innermost s.groups) ≡ Ok IsRead) ⊎ (defines s l ≡ true)) ↔ Read m
    which true f = let d : Defines t δ n s l (go m s') = rw e at (step_defines t δ n s l f) in (λ _. omega (arith, d.0), λ _. inr f)
    which false f = by (plan (directive_of l) (innermost s.groups)) (rw e at (step_marked t δ n s l f)) (defines s l) f

-- the answer of a selection that is accepted
abbrev pub selected : (lines count : ℕ) → Selected
selected n c = record { lines = record { 0 = n }; count = c }

-- an accepted answer, and the marks that its call left
accepted_call : (f t : List ℕ) (δ : Dialect) (marks : List ℕ) (r : Answer) (left : List ℕ) → Selects f t marks r left δ
    → (n c : ℕ) → r ≡ Ok (selected n c)
    → (selection f t (length marks) δ ≡ accepted (take n left) c) × (length (take n left) ≡ n)
accepted_call f t δ marks r left h n c e = by (selection f t (length marks) δ) refl
  where
    by : (w : Result) → selection f t (length marks) δ ≡ w → (selection f t (length marks) δ ≡ accepted (take n left) c) × (length (take n left) ≡ n)
    by (refused x j) q = absurd (cc h.answer)
    by (accepted ms d) q =
        let a : Ok (selected n c) ≡ Ok (selected (length ms) d) = sym e ∙ h.answer ∙ rw q in
        let i : length ms ≡ n = ap number_of_lines (sym a) in
        let j : c ≡ d = ap count_of a in
        let m : left ≡ ms ++ drop (length ms) marks = h.marks_are ∙ rw q in
        let k : take n left ≡ ms = ap (take n) m ∙ take_at ms (drop (length ms) marks) n i in
        (rw (k, j) q, ap length k ∙ i)

pub two_calls : (δ : Dialect) (f₁ t₁ marks₁ : List ℕ) (r₁ : Answer) (left₁ : List ℕ) → Selects f₁ t₁ marks₁ r₁ left₁ δ
    → (n c : ℕ) → r₁ ≡ Ok (selected n c)
    → (f₂ t₂ marks₂ : List ℕ) (r₂ : Answer) (left₂ : List ℕ) → Selects f₂ t₂ marks₂ r₂ left₂ δ
    → Comparable f₁ t₁ (take n left₁) f₂ t₂ (length marks₂) δ
    → (r₂ ≡ Ok (selected n c)) × (take n left₂ ≡ take n left₁)
two_calls δ f₁ t₁ marks₁ r₁ left₁ h₁ n c e f₂ t₂ marks₂ r₂ left₂ h₂ k =
    let p = accepted_call f₁ t₁ δ marks₁ r₁ left₁ h₁ n c e in
    let q = isolation δ f₁ t₁ (length marks₁) (take n left₁) c p.0 f₂ t₂ (length marks₂) k in
    let m : left₂ ≡ take n left₁ ++ drop (length (take n left₁)) marks₂ = h₂.marks_are ∙ rw q in
    (h₂.answer ∙ rw (q, p.1), ap (take n) m ∙ take_at (take n left₁) (drop (length (take n left₁)) marks₂) n p.1)
