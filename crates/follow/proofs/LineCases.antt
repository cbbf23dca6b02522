-- A line by the cases of the code: a plain one that sets no macro, one that sets a macro, any other. Assumes nothing.
use Prim.Native.Nat.{ℕ, ◌≤◌}
use native.Mathlib.Omega.{arith}
use mathlib.Core.Path.{◌≡◌, refl, sym, ap, ◌∙◌}
use mathlib.Core.Bool.{true, false}
use mathlib.Core.List.{List}
use lib.ListN.{length}
use Rattle.std.specs.Prelude.{Ok, Err}
use Rattle.units.specs.declared.Dialect.{Dialect}
use Rattle.units.specs.declared.Fault.{Fault}
use Rattle.own.specs.Own.{Own, put}
use Rattle.line.specs.Directives.{is_define, directive_of}
use Rattle.line.specs.declared.Directive.TheVariants.{Plain}
use Rattle.define.specs.Define.{Definition, sets, fails, definition_of}
use Rattle.define.specs.Settling.{Does}
use Rattle.define.specs.declared.Defined.{Defined}
use Rattle.groups.specs.Rules.{DEFINED}
use Rattle.groups.specs.Groups.{State, Outcome, go, stop}
use Rattle.groups.specs.Stack.{denote_selection, Meets}
use Rattle.groups.specs.declared.Selection.{Selection}
use Rattle.groups.specs.declared.Step.{Step}
use Rattle.select.specs.Step.{defines, defined, step}
use Rattle.select.specs.Running.{MarksPlain, counted_more}
use Rattle.select.proofs.Steps.{short_step, plain_step, defined_step, same_own}
use Rattle.progress.specs.Reading.{own_in}
use Rattle.progress.proofs.Settings.{AllGood, read_back, put_good, line_good}
use Rattle.follow.specs.Outcomes.{Judges}

-- line n, which is l, in a selection x of the code whose settings are in the buffer b, over a table t
module _ (x : Selection) (used : ℕ) (b t l : List ℕ) (δ : Dialect) (n : ℕ) where
  abbrev own : List Own
  own = own_in used b

  abbrev here : State
  here = denote_selection x own

  pub plain_judged : (mark : ℕ) → x.depth ≤ 16 → MarksPlain x mark → length l ≤ 1024 → directive_of l ≡ Plain → is_define l ≡ false
      → Judges b (Ok (record { next = x; used = used; mark = mark })) b (step t n here l δ)
  plain_judged mark shallow kept short plain other =
      let sets-none : defines here l ≡ false = rw other in
      rw (plain_step t δ n here l short sets-none plain) (kept, shallow, refl)

  -- by the step of the code, for a line that sets no macro
  pub step_judged : (z : Step) → (length l ≤ 1024 → defines here l ≡ false) → Meets (Ok z) (step t n here l δ)
      → Judges b (Ok (record { next = z.next; used = used; mark = z.mark })) b (step t n here l δ)
  step_judged z other meets = by (step t n here l δ) refl meets
    where
      by : (o : Outcome) → step t n here l δ ≡ o → Meets (Ok z) o → Judges b (Ok (record { next = z.next; used = used; mark = z.mark })) b o
      by (stop f) q k = absurd k
      by (go m s) q k =
          let short = short_step t δ n here l (go m s) q (λ e. let i : ◌≡◌ {A = ℕ} 0 1 = cc in omega arith) in
          let kept = same_own t δ n here l (other short) m s q in
          (k.0, k.1.shallow, ap (denote_selection z.next) (sym kept) ∙ k.1.means)

  pub step_refused : (g : Fault) → Meets (Err g) (step t n here l δ) → Judges b (Err g) b (step t n here l δ)
  step_refused g meets = by (step t n here l δ) meets
    where
      by : (o : Outcome) → Meets (Err g) o → Judges b (Err g) b o
      by (stop f) k = (k, refl)
      by (go m s) k = absurd k

  -- a line that sets a macro, by what the code does with it; the buffer is c then
  module _ (c : List ℕ) (short : length l ≤ 1024) (set : defines here l ≡ true) where
    pub define_judged : (z : Defined) → Does (definition_of own t l δ) own c (Ok z) → x.depth ≤ 16 → AllGood own → z.used ≤ 8192
        → Judges b (Ok (record { next = counted_more x z.count; used = z.used; mark = DEFINED })) c (step t n here l δ)
    define_judged z does shallow good few = rw (defined_step t δ n here l short set) (by (definition_of own t l δ) refl does)
      where
        by : (d : Definition) → definition_of own t l δ ≡ d → Does d own c (Ok z)
            → Judges b (Ok (record { next = counted_more x z.count; used = z.used; mark = DEFINED })) c (defined d here)
        by (fails f) q k = absurd k
        by (sets w j) q k =
            let again : own_in z.used c ≡ put w own = read_back z.used c (put w own) few k.1 (put_good w own (line_good own w j t l δ q) good) in
            (refl, shallow, rw (again, k.0))

    pub define_refused : (g : Fault) → Does (definition_of own t l δ) own c (Err g) → c ≡ b → Judges b (Err g) c (step t n here l δ)
    define_refused g does same = rw (defined_step t δ n here l short set) (by (definition_of own t l δ) does)
      where
        by : (d : Definition) → Does d own c (Err g) → Judges b (Err g) c (defined d here)
        by (sets w j) k = absurd k
        by (fails e) k = (k, same)
