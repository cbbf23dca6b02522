-- Before each line of a run the record under a name is that of the last kept DEFINE line with this macro, else the table's. The names of the
-- settings are the macros of the kept DEFINE lines, each once. Assumes nothing.
use Prim.Native.Nat.{ℕ, zero, suc, ◌+◌, ◌-◌, ◌≤◌, ◌<◌}
use native.Mathlib.Omega.{arith}
use mathlib.Core.Path.{◌≡◌, refl, sym, ap, ◌∙◌}
use mathlib.Core.Logic.{◌↔◌, ◌⊎◌, inl, inr}
use mathlib.Core.Bool.{Bool, true, false, ◌||◌, false≢true}
use mathlib.Core.List.{List, []}
use lib.ListN.{length, get_or}
use lib.Dec.{ltb}
use borrow.Author.Tests.{ltb-true, ltb-false}
use Rattle.units.specs.declared.Dialect.{Dialect}
use Rattle.text.specs.Order.{is_equal, equal}
use Rattle.text.proofs.Orders.{same_equal, equals}
use Rattle.lookup.specs.Setting.{record_under}
use Rattle.own.specs.Own.{Own, records_of, scope, put, has}
use Rattle.scoped.proofs.Put.{put_has}
use Rattle.define.specs.Define.{macro_of, sets, definition_of}
use Rattle.define.proofs.MacroNames.{line_name, line_name_in}
use Rattle.define.proofs.Sets.{record_set, record_kept}
use Rattle.groups.specs.Groups.{State}
use Rattle.select.specs.Step.{defines}
use Rattle.blocks.specs.Passing.{Reaches}
use Rattle.blocks.specs.LastSetting.{SetBefore, NotSetBefore}
use Rattle.blocks.proofs.Stops.{reaches_one}
use Rattle.blocks.proofs.SettingsByLine.{none_first, reaches_line, line_leaves, line_puts}

module _ (t : List ℕ) (δ : Dialect) (ls : List (List ℕ)) where
  abbrev at : ℕ → List ℕ
  at k = get_or ls (k - 1) []

  module _ (n : List ℕ) where
    abbrev From : ℕ → State → Type 0
    From b s = SetBefore t ls b n s δ ⊎ NotSetBefore t ls b n s δ

    under_same : {o o' : List Own} → o ≡ o' → record_under (scope o t) n ≡ record_under (scope o' t) n
    under_same = ap (λ o. record_under (scope o t) n)

    -- a setting among others
    module _ (o : List Own) (x : Own) (k : ℕ) (l : List ℕ) (e : definition_of o t l δ ≡ sets x k) where
      has_put : has n (put x o) ≡ (equal (macro_of l) n || has n o)
      has_put = put_has x (line_name_in o x k t l δ e) n o ∙ rw (line_name o x k t l δ e)

    -- over line b
    module _ (b : ℕ) (first : 1 ≤ b) (last : b ≤ length ls) (q s' : State) (before : Reaches t ls b q δ) (after : Reaches t ls (b + 1) s' δ) where
      abbrev Other : Type 0
      Other = defines q (at b) ≡ true → macro_of (at b) ≡ n → ⊥

      -- a line up to it that has the macro is an earlier one
      earlier : Other → (k : ℕ) (p : State) → k < b + 1 → Reaches t ls k p δ → defines p (at k) ≡ true → macro_of (at k) ≡ n → (k < b → ⊥) → ⊥
      earlier other k p h r d m early =
          let e : k ≡ b = by (ltb k b) refl in
          let r' : Reaches t ls b p δ = rw e at r in
          let same : p ≡ q = reaches_one t δ ls b p q r' before in
          other (rw (e, same) at d) (rw e at m)
        where
          by : (x : Bool) → ltb k b ≡ x → k ≡ b
          by true z = absurd (early (ltb-true k b z))
          by false z = omega (arith, ltb-false k b z)

      -- a line that does not have the macro
      keeps : record_under (scope s'.own t) n ≡ record_under (scope q.own t) n → has n s'.own ≡ has n q.own → Other → From b q → From (b + 1) s'
      keeps e f other (inl w) =
          let u = w.until in
          inl (record {
            line = w.line;
            state = w.state;
            until = record {
              counted = u.counted;
              later = omega (arith, u.later);
              within = omega arith;
              before = u.before;
              after = after;
              kept = u.kept;
              last = λ k p a c r d m. earlier other k p c r d (m ∙ w.macro) (λ i. u.last k p a i r d m);
            };
            macro = w.macro;
            setting = w.setting;
            count = w.count;
            says = w.says;
            among = f ∙ w.among;
            under = e ∙ w.under;
          })
      keeps e f other (inr w) =
          inr (record {
            none = λ k p a c r d m. earlier other k p c r d m (λ i. w.none k p a i r d m);
            among = f ∙ w.among;
            under = e ∙ w.under;
          })

      over_line : From b q → From (b + 1) s'
      over_line w = by (defines q (at b)) refl
        where
          on : defines q (at b) ≡ true → (x : Own) (k : ℕ) → definition_of q.own t (at b) δ ≡ sets x k → s'.own ≡ put x q.own
              → (c : Bool) → equal (macro_of (at b)) n ≡ c → From (b + 1) s'
          on f x k e o true z =
              let m : macro_of (at b) ≡ n = equals (macro_of (at b)) n z in
              inl (record {
                line = b;
                state = q;
                until = record {
                  counted = first;
                  later = omega arith;
                  within = omega arith;
                  before = before;
                  after = after;
                  kept = f;
                  last = λ i p a c r d y. omega (arith, a, c);
                };
                macro = m;
                setting = x;
                count = k;
                says = e;
                among = ap (has n) o ∙ has_put q.own x k (at b) e ∙ rw z;
                under = under_same o ∙ ap (record_under (scope (put x q.own) t)) (sym m) ∙ record_set q.own x k t (at b) δ e;
              })
          on f x k e o false z =
              let other : macro_of (at b) ≡ n → ⊥ = λ m. false≢true (sym z ∙ rw m (ap is_equal (same_equal n))) in
              keeps (under_same o ∙ record_kept q.own x k t (at b) δ e n (λ m. other (sym m)))
              (ap (has n) o ∙ has_put q.own x k (at b) e ∙ rw z) (λ _ m. other m) w

          by : (c : Bool) → defines q (at b) ≡ c → From (b + 1) s'
          by true f =
              let y = line_puts t δ ls b first last q s' before after f in
              on f y.0 y.1 y.2 y.3 (equal (macro_of (at b)) n) refl
          by false f =
              let o = line_leaves t δ ls b first last q s' before after f in
              keeps (under_same o) (ap (has n) o) (λ d _. false≢true (sym f ∙ d)) w

    from : (d : ℕ) → d ≤ length ls → (s' : State) → Reaches t ls (d + 1) s' δ → From (d + 1) s'
    unfolding records_of has
    from zero h s' r =
        let o : s'.own ≡ [] = none_first t δ ls s' r in
        inr (record { none = λ k q a c _ _ _. omega (arith, a, c); among = rw o; under = rw o })
    from (suc d) h s' r =
        let e : suc d ≡ d + 1 = omega arith in
        let r' : Reaches t ls (d + 1 + 1) s' δ = rw e at r in
        let w = reaches_line t δ ls (d + 1) (omega arith) (omega arith) s' r' in
        rw e (over_line (d + 1) (omega arith) (omega arith) w.0 s' w.1 r' (from d (omega arith) w.0 w.1))

    -- THE FIRST THEOREM
    pub set_or_table : (b : ℕ) → 1 ≤ b → b ≤ length ls + 1 → (s' : State) → Reaches t ls b s' δ → SetBefore t ls b n s' δ ⊎ NotSetBefore t ls b n s' δ
    set_or_table b h k s' r = let e : b ≡ b - 1 + 1 = omega arith in rw e (from (b - 1) (omega arith) s' (rw e at r))

    module _ (b : ℕ) (first : 1 ≤ b) (last : b ≤ length ls + 1) (s : State) (r : Reaches t ls b s δ) where
      -- a kept DEFINE line before line b has the macro
      abbrev Earlier : Type 0
      Earlier = (a : ℕ) × (q : State) × (1 ≤ a) × (a < b) × Reaches t ls a q δ × (defines q (at a) ≡ true) × (macro_of (at a) ≡ n)

      that_line : SetBefore t ls b n s δ → Earlier
      that_line w = let u = w.until in (w.line, w.state, u.counted, u.later, u.before, u.kept, w.macro)

      -- THE SECOND THEOREM
      pub among_exactly : (has n s.own ≡ true) ↔ Earlier
      among_exactly = (λ h. line h (set_or_table b first last s r), λ w. there w (set_or_table b first last s r))
        where
          line : has n s.own ≡ true → From b s → Earlier
          line h (inl w) = that_line w
          line h (inr w) = absurd (false≢true (sym w.among ∙ h))

          there : Earlier → From b s → has n s.own ≡ true
          there e (inl w) = w.among
          there e (inr w) = absurd (w.none e.0 e.1 e.2 e.3 e.4 e.5 e.6)

      -- THE THIRD THEOREM
      pub unset_of_table : (Earlier → ⊥) → record_under (scope s.own t) n ≡ record_under t n
      unset_of_table h = by (set_or_table b first last s r)
        where
          by : From b s → record_under (scope s.own t) n ≡ record_under t n
          by (inl w) = absurd (h (that_line w))
          by (inr w) = w.under
