-- Two runs with the same conditions and the same DEFINE lines pass through the same states, with the same settings of their own: the text of a
-- line has an effect only if its directive is read or it is a kept DEFINE line, and such a line has a mark of 3 or more. Assumes nothing.
use Prim.Native.Nat.{ℕ, suc, ◌+◌, ◌≤◌, ◌<◌}
use native.Mathlib.Omega.{arith}
use mathlib.Core.Path.{◌≡◌, refl, sym, ap, ◌∙◌}
use mathlib.Core.Bool.{Bool, true, false, ◌&&◌, false≢true}
use mathlib.Core.List.{List, [], ◌∷◌}
use lib.ListN.{length, get_or}
use Rattle.std.specs.Prelude.{Ok, Err, Result as Answered}
use Rattle.units.specs.declared.Dialect.{Dialect}
use Rattle.units.specs.declared.Fault.{Fault}
use Rattle.text.proofs.Laws.{and_left}
use Rattle.own.specs.Own.{Own, scope}
use Rattle.line.specs.Directives.{is_define, directive_of}
use Rattle.line.specs.declared.Directive.TheVariants.{Plain}
use Rattle.line.proofs.DefineLine.{define_plain}
use Rattle.condition.specs.Conditions.{condition_of}
use Rattle.define.specs.Define.{definition_of}
use Rattle.groups.specs.Rules.{KEPT, plain_mark, plan}
use Rattle.groups.specs.Groups.{innermost, State, Outcome, go, stop}
use Rattle.groups.specs.declared.Plan.{Plan}
use Rattle.groups.specs.declared.Plan.TheVariants.{Read, Unread}
use Rattle.select.specs.Step.{planned, defines, defined, step}
use Rattle.select.proofs.LimitsCorrect.{never}
use Rattle.select.proofs.Steps.{said, defined_step, decided_step, plain_step, short_step, Marked, step_marked, Defines, step_defines}
use Rattle.select.specs.Select.{Result, accepted, refused, prepend, after, run}

-- line l₂ of a second run is like line l₁ of the first, which has the mark m there; o are the settings that lines before it made
pub record Like (t₁ t₂ : List ℕ) (δ : Dialect) (m : ℕ) (l₁ l₂ : List ℕ) : Type 0 where
  pub short : length l₂ ≤ 1024
  pub word : directive_of l₂ ≡ directive_of l₁
  pub condition : 3 ≤ m → (o : List Own) → condition_of (scope o t₂) (directive_of l₁) l₂ δ ≡ condition_of (scope o t₁) (directive_of l₁) l₁ δ
  pub define : 3 ≤ m → is_define l₂ ≡ is_define l₁
  pub definition : 3 ≤ m → is_define l₁ ≡ true → (o : List Own) → definition_of o t₂ l₂ δ ≡ definition_of o t₁ l₁ δ
  pub kept : m ≡ KEPT → is_define l₂ ≡ false

module _ (t₁ t₂ : List ℕ) (δ : Dialect) (n : ℕ) (s : State) (l₁ l₂ : List ℕ) (m : ℕ) (s' : State) (like : Like t₁ t₂ δ m l₁ l₂)
    (e : step t₁ n s l₁ δ ≡ go m s') where
  -- the branch around the line is taken
  abbrev taken : Bool
  taken = (innermost s.groups).flags.taken

  short : length l₁ ≤ 1024
  short = short_step t₁ δ n s l₁ (go m s') e (λ q. cc)

  -- a kept DEFINE line says the same in both
  same_defined : defines s l₁ ≡ true → step t₂ n s l₂ δ ≡ go m s'
  same_defined f =
      let d : Defines t₁ δ n s l₁ (go m s') = rw e at (step_defines t₁ δ n s l₁ f) in
      let read : 3 ≤ m = omega (arith, d.0) in
      let g : defines s l₂ ≡ true = rw (like.define read) f in
      defined_step t₂ δ n s l₂ like.short g ∙ ap (λ x. defined x s) (like.definition read (and_left (is_define l₁) taken f) s.own)
      ∙ sym (defined_step t₁ δ n s l₁ short f) ∙ e

  -- any other line does not become one: if it is plain and the branch is taken, it is kept
  same_other : defines s l₁ ≡ false → defines s l₂ ≡ false
  same_other f = by (is_define l₂) refl taken refl
    where
      by : (b : Bool) → is_define l₂ ≡ b → (c : Bool) → taken ≡ c → (b && c) ≡ false
      by false p c q = refl
      by true p false q = refl
      by true p true q =
          let plain : directive_of l₁ ≡ Plain = sym like.word ∙ define_plain l₂ p in
          let w : go (plain_mark (innermost s.groups)) s ≡ go m s' = sym (plain_step t₁ δ n s l₁ short f plain) ∙ e in
          let k : plain_mark (innermost s.groups) ≡ m = cc in
          absurd (false≢true (sym (like.kept (sym k ∙ rw q)) ∙ p))

  -- the condition has an effect only if the directive is read, and then both lines make the same one
  same_planned : (p : Answered Plan Fault) → Marked t₁ δ n s l₁ p (go m s')
      → planned p (directive_of l₁) (condition_of (scope s.own t₂) (directive_of l₁) l₂ δ) n s ≡ planned p (directive_of l₁) (said t₁ δ n s l₁) n s
  same_planned (Ok Read) h = rw (like.condition h.0 s.own)
  same_planned (Ok (Unread r)) h = refl
  same_planned (Err x) h = refl

  same_decided : defines s l₁ ≡ false → step t₂ n s l₂ δ ≡ go m s'
  same_decided f =
      let p : Answered Plan Fault = plan (directive_of l₁) (innermost s.groups) in
      let h : Marked t₁ δ n s l₁ p (go m s') = rw e at (step_marked t₁ δ n s l₁ f) in
      decided_step t₂ δ n s l₂ like.short (same_other f) ∙ rw like.word (same_planned p h) ∙ sym (decided_step t₁ δ n s l₁ short f) ∙ e

  same_step : step t₂ n s l₂ δ ≡ go m s'
  same_step = by (defines s l₁) refl
    where
      by : (b : Bool) → defines s l₁ ≡ b → step t₂ n s l₂ δ ≡ go m s'
      by true f = same_defined f
      by false f = same_decided f

-- line by line
abbrev pub AllLike : (t₁ t₂ : List ℕ) (δ : Dialect) → (ms : List ℕ) → (ls₁ ls₂ : List (List ℕ)) → Type 0
AllLike t₁ t₂ δ ms ls₁ ls₂ = (i : ℕ) → i < length ls₁ → Like t₁ t₂ δ (get_or ms i 0) (get_or ls₁ i []) (get_or ls₂ i [])

-- a first line and the lines after it, if these have the same result from any state
module _ (t₁ t₂ : List ℕ) (δ : Dialect) (n : ℕ) (s : State) (l₁ l₂ : List ℕ) (ls₁ ls₂ : List (List ℕ)) (ms : List ℕ) (c : ℕ)
    (a : AllLike t₁ t₂ δ ms (l₁ ∷ ls₁) (l₂ ∷ ls₂))
    (rest : (s' : State) (ms' : List ℕ) (c' : ℕ) → AllLike t₁ t₂ δ ms' ls₁ ls₂ → run t₁ (n + 1) s' ls₁ δ ≡ accepted ms' c'
    → run t₂ (n + 1) s' ls₂ δ ≡ accepted ms' c') where
  abbrev Second : Type 0
  Second = after (step t₂ n s l₂ δ) n (λ s'. run t₂ (n + 1) s' ls₂ δ) ≡ accepted ms c

  same_rest : (m : ℕ) (s' : State) → step t₁ n s l₁ δ ≡ go m s' → (r : Result) → run t₁ (n + 1) s' ls₁ δ ≡ r → prepend m r ≡ accepted ms c → Second
  same_rest m s' q (refused x j) z h = never Second x j ms c h
  same_rest m s' q (accepted ms' c') z h =
      let f : ms ≡ m ∷ ms' = cc in
      let b : AllLike t₁ t₂ δ (m ∷ ms') (l₁ ∷ ls₁) (l₂ ∷ ls₂) = rw f at a in
      let w = same_step t₁ t₂ δ n s l₁ l₂ m s' (b 0 (omega arith)) q in
      let i : run t₂ (n + 1) s' ls₂ δ ≡ accepted ms' c' = rest s' ms' c' (λ k p. b (suc k) (omega arith)) z in
      rw (w, i) h

  same_first : (o : Outcome) → step t₁ n s l₁ δ ≡ o → after o n (λ s'. run t₁ (n + 1) s' ls₁ δ) ≡ accepted ms c → Second
  same_first (stop x) q h = never Second x n ms c h
  same_first (go m s') q h = same_rest m s' q (run t₁ (n + 1) s' ls₁ δ) refl h

pub same_run : (t₁ t₂ : List ℕ) (δ : Dialect) (n : ℕ) (s : State) (ls₁ ls₂ : List (List ℕ)) (ms : List ℕ) (c : ℕ)
    → length ls₂ ≡ length ls₁ → AllLike t₁ t₂ δ ms ls₁ ls₂
    → run t₁ n s ls₁ δ ≡ accepted ms c → run t₂ n s ls₂ δ ≡ accepted ms c
unfolding run
same_run t₁ t₂ δ n s [] [] ms c e a h = h
same_run t₁ t₂ δ n s [] (l₂ ∷ ls₂) ms c e a h = absurd (omega arith)
same_run t₁ t₂ δ n s (l₁ ∷ ls₁) [] ms c e a h = absurd (omega arith)
same_run t₁ t₂ δ n s (l₁ ∷ ls₁) (l₂ ∷ ls₂) ms c e a h =
    same_first t₁ t₂ δ n s l₁ l₂ ls₁ ls₂ ms c a (λ s' ms' c' b z. same_run t₁ t₂ δ (n + 1) s' ls₁ ls₂ ms' c' (omega arith) b z) (step t₁ n s l₁ δ) refl h
