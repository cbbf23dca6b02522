-- The settings before a line, by blocks: with some `!endif` lines after them, the lines before it derive blocks whose meaning has these
-- settings after the last line. Assumes nothing.
use Prim.Native.Nat.{ℕ, ◌+◌, ◌-◌, ◌≤◌}
use mathlib.Core.Path.{◌≡◌, refl, sym, ap, ◌∙◌}
use mathlib.Core.Bool.{Bool, true}
use mathlib.Core.List.{List, [], ◌∷◌, ◌++◌, append-nil}
use lib.ListN.{length, take, replicate}
use Rattle.units.specs.declared.Dialect.{Dialect}
use Rattle.text.specs.Bytes.{bytes}
use Rattle.line.specs.declared.Directive.TheVariants.{Plain, Endif}
use Rattle.groups.specs.Groups.{State}
use Rattle.select.specs.Select.{accepted, run, start}
use Rattle.select.proofs.Steps.{other_line, same_own}
use Rattle.blocks.specs.Blocks.{Blocks, Derives, depth}
use Rattle.blocks.specs.Meaning.{means, meaning, result_of}
use Rattle.blocks.specs.Passing.{Passes, Reaches}
use Rattle.blocks.proofs.GroupMoves.{flags}
use Rattle.blocks.proofs.Decided.{run_complete}
use Rattle.blocks.proofs.PassedLines.{an_endif, closers}
use Rattle.blocks.proofs.PassableLines.{Closed, passes_closed}
use Rattle.blocks.proofs.Stops.{accepted_passes, passes_split, passes_one}
use Rattle.blocks.proofs.SettingsByMarks.{Leads, leads_one, blocks_lead, run_leads}

closers_many : (fs : List Bool) → closers fs ≡ replicate (length fs) (bytes "!endif")
closers_many [] = refl
closers_many (b ∷ fs) = ap (◌∷◌ (bytes "!endif")) (closers_many fs)

module _ (t : List ℕ) (δ : Dialect) where
  -- an `!endif` makes no setting
  closers_leave : (fs : List Bool) (n : ℕ) (s s' : State) → Passes t δ n s (closers fs) s' → s'.own ≡ s.own
  closers_leave [] n s s' e = ap (λ q. q.own) (sym e)
  closers_leave (b ∷ fs) n s s' p =
      let other = other_line t δ n s (bytes "!endif") (λ e. let z : Endif ≡ Plain = sym an_endif ∙ e in cc) in
      closers_leave fs (n + 1) p.1 s' p.3 ∙ same_own t δ n s (bytes "!endif") other p.0 p.1 p.2

  module _ (ls : List (List ℕ)) (s : State) (p : Passes t δ 1 start ls s) where
    abbrev closed : Closed t δ ls s
    closed = passes_closed t δ ls s p

    abbrev all : List (List ℕ)
    all = ls ++ closers (flags s.groups)

    ran : run t 1 start all δ ≡ accepted closed.marks closed.count
    ran = run_complete t δ all closed.blocks closed.derives closed.shallow closed.short ∙ ap result_of closed.meant

    led : Leads t δ [] all closed.marks s.own
    led =
        let r : run t 1 start (all ++ []) δ ≡ accepted closed.marks closed.count = rw (append-nil all) ran in
        let w = accepted_passes t δ all [] 1 start closed.marks closed.count r in
        let v = passes_split t δ ls (closers (flags s.groups)) 1 start w.0 w.1 in
        let q : v.0 ≡ s = passes_one t δ ls 1 start v.0 s v.1 p in
        let e : w.0.own ≡ s.own = closers_leave (flags s.groups) (1 + length ls) v.0 w.0 v.2 ∙ ap (λ z. z.own) q in
        rw e at (run_leads t δ all 1 start w.0 closed.marks closed.count ran w.1)

    meant : Leads t δ [] all closed.marks closed.own
    meant = rw closed.derives.lines (rw closed.meant at (blocks_lead t δ closed.blocks true []))

    settings_meant : meaning t [] true closed.blocks δ ≡ means closed.marks closed.count s.own
    settings_meant = closed.meant ∙ ap (means closed.marks closed.count) (leads_one t δ [] all closed.marks closed.own s.own meant led)

  -- THE THEOREM
  pub settings_by_blocks : (ls : List (List ℕ)) (n : ℕ) (s : State) → Reaches t ls n s δ
      → (k : ℕ) × (bs : Blocks) × Derives (take (n - 1) ls ++ replicate k (bytes "!endif")) bs × (depth bs ≤ 16)
      × (ms : List ℕ) × (c : ℕ) × (meaning t [] true bs δ ≡ means ms c s.own)
  settings_by_blocks ls n s r =
      let before = take (n - 1) ls in
      let w = closed before s r in
      let d : Derives (before ++ replicate (length (flags s.groups)) (bytes "!endif")) w.blocks =
      rw (← closers_many (flags s.groups)) w.derives in
      (length (flags s.groups), w.blocks, d, w.shallow, w.marks, w.count, settings_meant before s r)
