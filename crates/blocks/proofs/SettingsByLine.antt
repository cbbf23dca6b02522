-- The settings before each line of a run: only the kept DEFINE lines change them, they are 64 at most, each has the name of a macro, no two have
-- the same, the record of each is one that a well-formed table can have, and a PCD comes from the table alone. Assumes nothing.
use Prim.Native.Nat.{ℕ, suc, ◌+◌, ◌-◌, ◌≤◌}
use native.Mathlib.Omega.{arith}
use mathlib.Core.Path.{◌≡◌, sym, ap, ◌∙◌}
use mathlib.Core.Logic.{◌⊎◌, inl, inr}
use mathlib.Core.Bool.{true, false}
use mathlib.Core.List.Memᴰ
use mathlib.Core.List.{List, [], ◌∷◌, ◌++◌, Memᴰ}
use lib.ListN.{length, get_or, take}
use lib.Seq.{length-take-le, take-suc}
use Rattle.std.specs.Option.{is_some}
use Rattle.units.specs.declared.Dialect.{Dialect}
use Rattle.settings.specs.Table.{well_formed}
use Rattle.lookup.specs.Setting.{setting_under, record_under}
use Rattle.own.specs.Own.{Own, record_of, scope, put, MAX_OWN}
use Rattle.scoped.specs.Macros.{IsPcd, AllMacros, AllDiffer}
use Rattle.scoped.proofs.Put.{put_member}
use Rattle.scoped.proofs.Pcds.{pcd_of_table, pcd_found}
use Rattle.define.specs.Define.{sets, definition_of}
use Rattle.define.proofs.MacroNames.{line_macros, line_differ, line_few}
use Rattle.define.proofs.Sets.{line_record}
use Rattle.groups.specs.Groups.{State, go}
use Rattle.select.specs.Step.{defines, step}
use Rattle.select.specs.Select.{start}
use Rattle.select.proofs.Steps.{same_own}
use Rattle.select.proofs.OwnSettings.{own_put, own_keeps}
use Rattle.blocks.specs.Passing.{Passes, Reaches}
use Rattle.blocks.proofs.Stops.{passes_split, reaches_one}

module _ (t : List ℕ) (δ : Dialect) where
  -- one line, and the last of some lines, that a run passes
  one_step : (l : List ℕ) (n : ℕ) (s s' : State) → Passes t δ n s (l ∷ []) s' → (m : ℕ) × (step t n s l δ ≡ go m s')
  one_step l n s s' p = (p.0, p.2 ∙ ap (go p.0) p.3)

  passes_last : (ls : List (List ℕ)) (l : List ℕ) (n : ℕ) (s s' : State) → Passes t δ n s (ls ++ (l ∷ [])) s'
      → (q : State) × Passes t δ n s ls q × (m : ℕ) × (step t (n + length ls) q l δ ≡ go m s')
  passes_last ls l n s s' p =
      let w = passes_split t δ ls (l ∷ []) n s s' p in
      let v = one_step l (n + length ls) w.0 s' w.2 in
      (w.0, w.1, v.0, v.1)

  module _ (ls : List (List ℕ)) where
    -- before the first line there are none
    pub none_first : (s : State) → Reaches t ls 1 s δ → s.own ≡ []
    none_first s e = ap (λ q. q.own) (sym e)

    -- the step over line n
    pub reaches_line : (n : ℕ) → 1 ≤ n → n ≤ length ls → (s' : State) → Reaches t ls (n + 1) s' δ
        → (q : State) × Reaches t ls n q δ × (m : ℕ) × (step t n q (get_or ls (n - 1) []) δ ≡ go m s')
    reaches_line n h k s' r =
        let i : n + 1 - 1 ≡ suc (n - 1) = omega arith in
        let e : take (n + 1 - 1) ls ≡ take (n - 1) ls ++ (get_or ls (n - 1) [] ∷ []) = ap (λ j. take j ls) i ∙ take-suc ls (n - 1) [] (omega arith) in
        let w = passes_last (take (n - 1) ls) (get_or ls (n - 1) []) 1 start s' (rw e at r) in
        let j : 1 + length (take (n - 1) ls) ≡ n = omega (arith, length-take-le (n - 1) ls (omega arith)) in
        (w.0, w.1, w.2, rw j at w.3)

    module _ (n : ℕ) (first : 1 ≤ n) (last : n ≤ length ls) (s s' : State) (before : Reaches t ls n s δ) (after : Reaches t ls (n + 1) s' δ) where
      stepped : (m : ℕ) × (step t n s (get_or ls (n - 1) []) δ ≡ go m s')
      stepped =
          let w = reaches_line n first last s' after in
          (w.2, rw (reaches_one t δ ls n s w.0 before w.1) w.3)

      -- THE FIRST THEOREM
      pub line_leaves : defines s (get_or ls (n - 1) []) ≡ false → s'.own ≡ s.own
      line_leaves f = same_own t δ n s (get_or ls (n - 1) []) f stepped.0 s' stepped.1

      -- THE SECOND THEOREM
      pub line_puts : defines s (get_or ls (n - 1) []) ≡ true
          → (x : Own) × (k : ℕ) × (definition_of s.own t (get_or ls (n - 1) []) δ ≡ sets x k) × (s'.own ≡ put x s.own)
      line_puts = own_put t δ n s (get_or ls (n - 1) []) stepped.0 s' stepped.1

  -- what each DEFINE line keeps is kept by all lines
  module _ (P : List Own → Type 0) (keeps : (o : List Own) (x : Own) (k : ℕ) (l : List ℕ) → definition_of o t l δ ≡ sets x k → P o → P (put x o)) where
    pub passes_keep : (ls : List (List ℕ)) (n : ℕ) (s s' : State) → Passes t δ n s ls s' → P s.own → P s'.own
    passes_keep [] n s s' e p = rw e at p
    passes_keep (l ∷ ls) n s s' w p =
        passes_keep ls (n + 1) w.1 s' w.3 (own_keeps t δ n s l w.0 w.1 w.2 P (λ x k e. keeps s.own x k l e) p)

  module _ (ls : List (List ℕ)) (n : ℕ) (s : State) (r : Reaches t ls n s δ) where
    -- THE THIRD THEOREM
    pub reached_few : length s.own ≤ MAX_OWN
    reached_few = passes_keep (λ o. length o ≤ MAX_OWN) (λ o x k l. line_few o x k t l δ) (take (n - 1) ls) 1 start s r (omega arith)

    -- THE FOURTH THEOREM
    pub reached_macros : AllMacros s.own
    reached_macros = passes_keep AllMacros (λ o x k l. line_macros o x k t l δ) (take (n - 1) ls) 1 start s r tt

    pub reached_differ : AllDiffer s.own
    reached_differ = passes_keep AllDiffer (λ o x k l. line_differ o x k t l δ) (take (n - 1) ls) 1 start s r tt

    -- THE FIFTH THEOREM
    pub reached_records : (x : Own) → Memᴰ x s.own → well_formed (record_of x) ≡ true
    reached_records = passes_keep Fit fits (take (n - 1) ls) 1 start s r (λ x m. absurd (Memᴰ.not-nil m))
      where
        Fit : List Own → Type 0
        Fit o = (x : Own) → Memᴰ x o → well_formed (record_of x) ≡ true

        fits : (o : List Own) (x : Own) (k : ℕ) (l : List ℕ) → definition_of o t l δ ≡ sets x k → Fit o → Fit (put x o)
        fits o x k l e h y m = by (put_member x y o m)
          where
            by : (y ≡ x) ⊎ Memᴰ y o → well_formed (record_of y) ≡ true
            by (inl q) = rw q (line_record o x k t l δ e)
            by (inr q) = h y q

    -- THE SIXTH THEOREM
    pub pcd_record : (p : List ℕ) → IsPcd p → record_under (scope s.own t) p ≡ record_under t p
    pcd_record p = pcd_of_table s.own t p reached_macros

    pub pcd_there : (p : List ℕ) → IsPcd p → is_some (setting_under (scope s.own t) p) ≡ is_some (setting_under t p)
    pcd_there p = pcd_found s.own t p reached_macros
