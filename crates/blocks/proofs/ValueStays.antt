-- A macro that a kept DEFINE line sets has the record of the line's setting, and so the value of the line's expression, at every later line,
-- until a kept line sets it again. Assumes nothing.
use Prim.Native.Nat.{ℕ, zero, suc, ◌+◌, ◌-◌, ◌^◌, ◌≤◌, ◌<◌}
use native.Mathlib.Omega.{arith}
use mathlib.Core.Path.{◌≡◌, refl, sym, ap, ◌∙◌}
use mathlib.Core.Bool.{Bool, true, false}
use mathlib.Core.List.{List, []}
use lib.ListN.{length, get_or}
use Rattle.std.specs.Prelude.{Some}
use Rattle.units.specs.Dialects.{by_itself}
use Rattle.units.specs.declared.Dialect.{Dialect}
use Rattle.lookup.specs.Setting.{setting_under, record_under}
use Rattle.lookup.specs.declared.Place.{Place}
use Rattle.lookup.specs.declared.TextKind.{TextKind}
use Rattle.lookup.specs.declared.Value.TheVariants.{Number}
use Rattle.own.specs.Own.{Own, record_of, scope}
use Rattle.scoped.proofs.Settled.{IsText}
use Rattle.value.specs.Places.{over}
use Rattle.value.specs.Values.{number, text}
use Rattle.evaluation.specs.Evaluation.{Evaluation, value, evaluation_in}
use Rattle.define.specs.Define.{macro_of, expression_of, sets, definition_of}
use Rattle.define.proofs.Sets.{record_set, record_kept, number_there, text_there}
use Rattle.groups.specs.Groups.{State}
use Rattle.select.specs.Step.{defines}
use Rattle.blocks.specs.Passing.{Reaches, SetsUntil}
use Rattle.blocks.proofs.SettingsByLine.{reaches_line, line_leaves, line_puts}

module _ (t : List ℕ) (δ : Dialect) (ls : List (List ℕ)) where
  -- the table with the settings of a state in front of it
  abbrev with : State → List ℕ
  with s = scope s.own t

  -- line a, which sets a macro, and the state before it
  module _ (a : ℕ) (s : State) where
    abbrev setting : List ℕ
    setting = get_or ls (a - 1) []

    -- in the state q the record under the macro is the one that the line sets
    abbrev Holds : State → Type 0
    Holds q = (x : Own) × (k : ℕ) × (definition_of s.own t setting δ ≡ sets x k) × (record_under (with q) (macro_of setting) ≡ record_of x)

    under_same : {o o' : List Own} → o ≡ o' → record_under (scope o t) (macro_of setting) ≡ record_under (scope o' t) (macro_of setting)
    under_same = ap (λ o. record_under (scope o t) (macro_of setting))

    -- no kept DEFINE line between it and line b has the same macro
    abbrev Last : ℕ → Type 0
    Last b = (k : ℕ) (q : State) → a < k → k < b → Reaches t ls k q δ
        → defines q (get_or ls (k - 1) []) ≡ true → macro_of (get_or ls (k - 1) []) ≡ macro_of setting → ⊥

    module _ (counted : 1 ≤ a) (before : Reaches t ls a s δ) (kept : defines s setting ≡ true) where
      at_once : a ≤ length ls → (s' : State) → Reaches t ls (a + 1) s' δ → Holds s'
      at_once h s' r =
          let w = line_puts t δ ls a counted h s s' before r kept in
          (w.0, w.1, w.2, under_same w.3 ∙ record_set s.own w.0 w.1 t setting δ w.2)

      -- over line n, which does not set the macro
      over_line : (n : ℕ) → a < n → n ≤ length ls → (q s' : State) → Reaches t ls n q δ → Reaches t ls (n + 1) s' δ
          → (defines q (get_or ls (n - 1) []) ≡ true → macro_of (get_or ls (n - 1) []) ≡ macro_of setting → ⊥) → Holds q → Holds s'
      over_line n h k q s' r r' other w = by (defines q (get_or ls (n - 1) [])) refl
        where
          same : record_under (with s') (macro_of setting) ≡ record_under (with q) (macro_of setting) → Holds s'
          same e = (w.0, w.1, w.2, e ∙ w.3)

          by : (b : Bool) → defines q (get_or ls (n - 1) []) ≡ b → Holds s'
          by false f = same (under_same (line_leaves t δ ls n (omega arith) k q s' r r' f))
          by true f =
              let y = line_puts t δ ls n (omega arith) k q s' r r' f in
              same (under_same y.3
              ∙ record_kept q.own y.0 y.1 t (get_or ls (n - 1) []) δ y.2 (macro_of setting) (λ e. other f (sym e)))

      stays : (d : ℕ) → a + d ≤ length ls → (s' : State) → Reaches t ls (a + d + 1) s' δ → Last (a + d + 1) → Holds s'
      stays zero h s' r last = let e : a + 0 ≡ a = omega arith in at_once (omega arith) s' (rw e at r)
      stays (suc d) h s' r last =
          let w = reaches_line t δ ls (a + suc d) (omega arith) h s' r in
          on w.0 w.1 (λ q p. stays d (omega arith) q p (λ k p u v. last k p u (omega arith)))
        where
          on : (q : State) → Reaches t ls (a + suc d) q δ → ((q : State) → Reaches t ls (a + d + 1) q δ → Holds q) → Holds s'
          on q p ih =
              let e : a + suc d ≡ a + d + 1 = omega arith in
              over_line (a + suc d) (omega arith) h q s' p r (last (a + suc d) q (omega arith) (omega arith) p) (ih q (rw e at p))

  module _ (a b : ℕ) (s s' : State) (r : SetsUntil t ls a b s s' δ) where
    -- THE FIRST THEOREM
    pub record_stays : (x : Own) × (k : ℕ) × (definition_of s.own t (setting a s) δ ≡ sets x k)
        × (record_under (with s') (macro_of (setting a s)) ≡ record_of x)
    record_stays =
        let d : ℕ = b - (a + 1) in
        let e : b ≡ a + d + 1 = omega (arith, r.later) in
        stays a s r.counted r.before r.kept d (omega (arith, r.within, r.later)) s' (rw e at r.after) (rw e at r.last)

    abbrev answer : Evaluation
    answer = evaluation_in (over (expression_of (setting a s)) (with s)) (by_itself δ.old)

    -- THE SECOND THEOREM
    pub number_stays : (v c : ℕ) → answer ≡ value (number v) c → v < 2 ^ 64 → setting_under (with s') (macro_of (setting a s)) ≡ Some (Number v)
    number_stays = number_there s.own record_stays.0 record_stays.1 t (setting a s) δ record_stays.2 (with s') record_stays.3

    -- THE THIRD THEOREM
    pub text_stays : (j : TextKind) (p : Place) (w : List ℕ) (c : ℕ) → answer ≡ value (text j p w) c
        → IsText (with s') j w (setting_under (with s') (macro_of (setting a s)))
    text_stays = text_there s.own record_stays.0 record_stays.1 t (setting a s) δ record_stays.2 (with s') record_stays.3
