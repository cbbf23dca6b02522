-- A selection is refused without a place and for no text; or at a line, in the state that the lines before it lead to, for the line's
-- condition or for what it sets. Assumes nothing.
use Prim.Native.Nat.{ℕ, ◌-◌}
use native.Mathlib.Omega.{arith}
use mathlib.Core.Path.{◌≡◌, refl, sym, ap, ◌∙◌}
use mathlib.Core.Logic.{◌⊎◌, inl, inr}
use mathlib.Core.Bool.{true}
use mathlib.Core.List.{List, [], ◌∷◌}
use lib.ListN.{length, get_or, take}
use lib.Seq.{take_at, get_or-append_seam}
use lib.Dec.{ltb}
use Rattle.std.specs.Prelude.{Err}
use Rattle.units.specs.Refusals.{unplaced}
use Rattle.units.specs.declared.Dialect.{Dialect}
use Rattle.units.specs.declared.Fault.{Fault}
use Rattle.units.specs.declared.Reason.{Reason}
use Rattle.units.specs.declared.Reason.TheVariants.{FileLong, FileUnfinished, LinesMany, MarksShort, TableMalformed}
use Rattle.text.proofs.Laws.{pick_case}
use Rattle.settings.specs.Table.{well_formed}
use Rattle.line.specs.Lines.{lines}
use Rattle.define.specs.Define.{fails}
use Rattle.groups.specs.Groups.{State, stop}
use Rattle.select.specs.Step.{defines}
use Rattle.select.specs.Select.{MAX_FILE, MAX_LINES, Result, refused, run, start, selection}
use Rattle.select.proofs.Steps.{said, told}
use Rattle.blocks.specs.Passing.{Reaches}
use Rattle.blocks.proofs.Stops.{Stopped, Ended, refused_where}
use Rattle.blocks.proofs.StrayLine.{at_end_lem}
use Rattle.blocks.proofs.OwnOrText.{Bare, bare, FromLine, step_from}

-- the line at which a run stops, and the state before it
module _ (t : List ℕ) (δ : Dialect) (ls : List (List ℕ)) (x : Fault) (n : ℕ) (w : Stopped t δ 1 start ls x n) where
  at_index : n - 1 ≡ length w.before
  at_index = omega (arith, w.number)

  line_stops : w.at ≡ get_or ls (n - 1) []
  line_stops = rw (w.lines, at_index) (sym (get_or-append_seam w.before w.at w.rest []))

  reached : Reaches t ls n w.state δ
  reached =
      let e : take (n - 1) ls ≡ w.before = ap (take (n - 1)) w.lines ∙ take_at w.before (w.at ∷ w.rest) (n - 1) (sym at_index) in
      rw e w.passes

-- the fault of line l in the state before it is that of its text
abbrev pub Caused : (t : List ℕ) (δ : Dialect) (n : ℕ) → State → List ℕ → Fault → Type 0
Caused t δ n s l x = (said t δ n s l ≡ Err x) ⊎ ((defines s l ≡ true) × (told t δ n s l ≡ fails x))

module _ (f t : List ℕ) (δ : Dialect) (x : Fault) (n : ℕ) where
  abbrev pub refused_line : List ℕ
  refused_line = get_or (lines f) (n - 1) []

  -- the fault is that of the text of line n
  pub record OfText : Type 0 where
    pub state : State
    pub reaches : Reaches t (lines f) n state δ
    pub cause : Caused t δ n state refused_line x

  abbrev Explains : Result → Type 0
  Explains r = r ≡ refused x n → Bare x ⊎ OfText

  stopped_explains : Stopped t δ 1 start (lines f) x n → Bare x ⊎ OfText
  stopped_explains w =
      let s : State = w.state in
      let q = line_stops t δ (lines f) x n w in
      let k : FromLine t δ n s refused_line (stop x) = rw (← q) (rw w.stops at (step_from t δ n s w.at)) in
      by k
    where
      by : FromLine t δ n w.state refused_line (stop x) → Bare x ⊎ OfText
      by (inl (inl h)) = inl h
      by (inl (inr h)) = inr (record { state = w.state; reaches = reached t δ (lines f) x n w; cause = inl h })
      by (inr h) = inr (record { state = w.state; reaches = reached t δ (lines f) x n w; cause = inr h })

  run_explains : Explains (run t 1 start (lines f) δ)
  run_explains e = by (refused_where t δ (lines f) 1 start x n e)
    where
      by : Stopped t δ 1 start (lines f) x n ⊎ Ended t δ 1 start (lines f) x n → Bare x ⊎ OfText
      by (inl w) = stopped_explains w
      by (inr w) = let q = at_end_lem w.state.groups w.state.count x n w.unclosed in inl (rw q (bare FileUnfinished (omega arith) (omega arith)))

  early : (k : Reason) → Bare (unplaced k) → Explains (refused (unplaced k) 0)
  early k h e = let q : x ≡ unplaced k = cc in inl (rw q h)

  pub selection_explains : (room : ℕ) → selection f t room δ ≡ refused x n → Bare x ⊎ OfText
  unfolding selection
  selection_explains room =
      pick_case Explains (well_formed t)
      (λ _. pick_case Explains (ltb MAX_FILE (length f)) (λ _. early FileLong (bare FileLong (omega arith) (omega arith)))
      (λ _. pick_case Explains (ltb MAX_LINES (length (lines f))) (λ _. early LinesMany (bare LinesMany (omega arith) (omega arith)))
      (λ _. pick_case Explains (ltb room (length (lines f))) (λ _. early MarksShort (bare MarksShort (omega arith) (omega arith))) (λ _. run_explains))))
      (λ _. early TableMalformed (inl refl, refl))
