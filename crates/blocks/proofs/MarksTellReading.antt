-- The marks in the meaning of blocks show which lines are read, and which of these are DEFINE lines. Assumes nothing.
use Prim.Native.Nat.{ℕ, zero, suc, ◌≤◌, ◌<◌}
use native.Mathlib.Omega.{arith}
use mathlib.Core.Path.{◌≡◌, refl, ap}
use mathlib.Core.Logic.{◌↔◌}
use mathlib.Core.Bool.{Bool, true, false, not, ◌&&◌, ◌||◌, false≢true}
use mathlib.Core.List.{List, [], ◌∷◌, ◌++◌, append_assoc}
use lib.ListN.{length, get_or}
use Rattle.std.specs.Prelude.{Ok, Err, Result}
use Rattle.units.specs.declared.Dialect.{Dialect}
use Rattle.units.specs.declared.Fault.{Fault}
use Rattle.text.specs.Bytes.{pick}
use Rattle.text.proofs.Laws.{and_left}
use Rattle.own.specs.Own.{Own, scope}
use Rattle.line.specs.Directives.{is_define, directive_of}
use Rattle.line.specs.Lines.{lines}
use Rattle.line.specs.declared.Directive.TheVariants.{Plain, Elseif, Else, Endif}
use Rattle.line.proofs.DefineLine.{define_plain}
use Rattle.condition.specs.Conditions.{condition_of}
use Rattle.line.specs.declared.Condition.{Condition}
use Rattle.line.specs.declared.Condition.TheVariants.{Holds, Fails}
use Rattle.define.specs.Define.{Definition, sets, fails, definition_of}
use Rattle.isolation.specs.Isolation.{Read}
use Rattle.select.specs.Select.{accepted, selection}
use Rattle.select.proofs.MarksEachLine.{marks_each_line}
use Rattle.blocks.specs.Blocks.{Blocks, empty, line, group, Branches, endif, elseif, else, lines_of, lines_in, Fits, FitsIn, Derives}
use Rattle.blocks.specs.Meaning.{Meaning, means, fault, single, joined, ◌then◌, defining, plain, branch, otherwise, closing, meaning, branches}
use Rattle.blocks.specs.Reading.{holds, settings, reads_of, reads_in}
use Rattle.blocks.proofs.StepByWord.{opens_other}
use Rattle.blocks.proofs.Unambiguous.{place}
use Rattle.blocks.proofs.Decided.{unambiguous}
use Rattle.blocks.proofs.WholeSelections.{sound}

-- the mark m of line l: 3 to 6 exactly if the line is read, and 6 exactly if it is read and its first word is `DEFINE`
abbrev pub Tells : (l : List ℕ) → (read : Bool) → (m : ℕ) → Type 0
Tells l b m = ((b ≡ true) ↔ Read m) × ((m ≡ 6) ↔ ((b ≡ true) × (is_define l ≡ true))) × (m ≤ 6)

-- line by line
data TellAll : List (List ℕ) → List Bool → List ℕ → Type 0 where
  none : TellAll [] [] []
  more : {l : List ℕ} {b : Bool} {m : ℕ} {ls : List (List ℕ)} {bs : List Bool} {ms : List ℕ}
      → Tells l b m → TellAll ls bs ms → TellAll (l ∷ ls) (b ∷ bs) (m ∷ ms)

tell_append : {ls ls' : List (List ℕ)} {a b : List Bool} {ms ns : List ℕ} → TellAll ls a ms → TellAll ls' b ns → TellAll (ls ++ ls') (a ++ b) (ms ++ ns)
tell_append none k = k
tell_append (more h t) k = more h (tell_append t k)

tell_at : {ls : List (List ℕ)} {bs : List Bool} {ms : List ℕ} (i : ℕ) → TellAll ls bs ms → i < length ms
    → Tells (get_or ls i []) (get_or bs i false) (get_or ms i 0)
tell_at i none k = absurd (omega arith)
tell_at zero (more h t) k = h
tell_at (suc i) (more h t) k = tell_at i t (omega arith)

-- lines with this meaning, of which these are read, and the settings after them
abbrev Shows : List (List ℕ) → List Bool → List Own → Meaning → Type 0
Shows ls bs own' (means ms c own) = TellAll ls bs ms × (own ≡ own')
Shows ls bs own' (fault x i) = Unit

shows_joined : (ls ls' : List (List ℕ)) (a b : List Bool) (own' : List Own) (ms : List ℕ) (c : ℕ) (y : Meaning) → TellAll ls a ms → Shows ls' b own' y
    → Shows (ls ++ ls') (a ++ b) own' (joined ms c y)
shows_joined ls ls' a b own' ms c (means ns d own) h k = (tell_append h k.0, k.1)
shows_joined ls ls' a b own' ms c (fault x i) h k = tt

shows_then : (ls ls' : List (List ℕ)) (a b : List Bool) (own own' : List Own) (x : Meaning) (y : List Own → Meaning) → Shows ls a own x
    → Shows ls' b own' (y own) → Shows (ls ++ ls') (a ++ b) own' (x then y)
shows_then ls ls' a b own own' (means ms c o) y h k = shows_joined ls ls' a b own' ms c (y o) h.0 (rw h.1 k)
shows_then ls ls' a b own own' (fault x i) y h k = tt

-- the settings after lines are those of their meaning
abbrev Shown : List (List ℕ) → List Bool → Meaning → Type 0
Shown ls bs x = Shows ls bs (settings x) x

shown : (ls : List (List ℕ)) (bs : List Bool) (own : List Own) (x : Meaning) → Shows ls bs own x → Shown ls bs x
shown ls bs own (means ms c o) h = (h.0, refl)
shown ls bs own (fault x i) h = tt

shown_then : (ls ls' : List (List ℕ)) (a b : List Bool) (own : List Own) (x : Meaning) (y : List Own → Meaning) → Shows ls a own x → Shown ls' b (y own)
    → Shown (ls ++ ls') (a ++ b) (x then y)
shown_then ls ls' a b own x y h k =
    shown (ls ++ ls') (a ++ b) (settings (y own)) (x then y) (shows_then ls ls' a b own (settings (y own)) x y h k)

shown_assoc : (l : List ℕ) (ls ls' ls'' : List (List ℕ)) (r : Bool) (a b c : List Bool) (x : Meaning)
    → Shown (l ∷ ((ls ++ ls') ++ ls'')) (r ∷ ((a ++ b) ++ c)) x → Shown (l ∷ (ls ++ (ls' ++ ls''))) (r ∷ (a ++ (b ++ c))) x
shown_assoc l ls ls' ls'' r a b c x h = rw (← append_assoc ls ls' ls'', ← append_assoc a b c) h

-- one line: one that is not read, a directive that is read, and a kept DEFINE line
one : (l : List ℕ) (b : Bool) (m c : ℕ) (own : List Own) → Tells l b m → Shows (l ∷ []) (b ∷ []) own (single m c own)
one l b m c own h = (more h none, refl)

module _ (l : List ℕ) where
  unread_tells : (m : ℕ) → m < 3 → Tells l false m
  unread_tells m h = ((λ e. absurd (false≢true e), λ r. absurd (omega arith)), (λ e. absurd (omega arith), λ e. absurd (false≢true e.0)), omega arith)

  unread : (m c : ℕ) (own : List Own) → m < 3 → Shows (l ∷ []) (false ∷ []) own (single m c own)
  unread m c own h = one l false m c own (unread_tells m h)

  module _ (other : directive_of l ≡ Plain → ⊥) where
    read_tells : (m : ℕ) → 3 ≤ m → m ≤ 5 → Tells l true m
    read_tells m h k = ((λ e. h, λ r. refl), (λ e. absurd (omega arith), λ e. absurd (other (define_plain l e.1))), omega arith)

    read : (m c : ℕ) (own : List Own) → 3 ≤ m → m ≤ 5 → Shows (l ∷ []) (true ∷ []) own (single m c own)
    read m c own h k = one l true m c own (read_tells m h k)

    closing_shows : (around : Bool) (c : Result Condition Fault) (own : List Own) → Shows (l ∷ []) (around ∷ []) own (closing around c own)
    closing_shows false c own = unread 2 0 own (omega arith)
    closing_shows true (Ok (Holds n)) own = read 5 n own (omega arith) (omega arith)
    closing_shows true (Ok (Fails n)) own = read 5 n own (omega arith) (omega arith)
    closing_shows true (Err x) own = tt

  module _ (define : is_define l ≡ true) where
    define_tells : Tells l true 6
    define_tells = ((λ e. omega arith, λ r. refl), (λ e. (refl, define), λ e. refl), omega arith)

    defining_shows : (own : List Own) (d : Definition) → Shown (l ∷ []) (true ∷ []) (defining own d)
    defining_shows own (sets x c) = (more define_tells none, refl)
    defining_shows own (fails x) = tt

  kept_shows : (around : Bool) (own : List Own) → Shows (l ∷ []) (false ∷ []) own (single (pick around 1 0) 0 own)
  kept_shows true own = unread 1 0 own (omega arith)
  kept_shows false own = unread 0 0 own (omega arith)

  plain_shows : (t : List ℕ) (δ : Dialect) (own : List Own) (around : Bool)
      → Shown (l ∷ []) ((is_define l && around) ∷ []) (plain t own around l δ)
  plain_shows t δ own around = by (is_define l && around) refl
    where
      by : (b : Bool) → (is_define l && around) ≡ b → Shown (l ∷ []) ((is_define l && around) ∷ []) (plain t own around l δ)
      by true e = rw e (defining_shows (and_left (is_define l) around e) own (definition_of own t l δ))
      by false e = rw e (kept_shows around own)

-- a branch whose body and later branches show what is read in them
module _ (l : List ℕ) (other : directive_of l ≡ Plain → ⊥) (in_body in-others : List (List ℕ))
    (reads-body reads-others : Bool → List Own → List Bool) (body others : Bool → List Own → Meaning)
    (body-shows : (b : Bool) (own : List Own) → Shown in_body (reads-body b own) (body b own))
    (others-show : (b : Bool) (own : List Own) → Shown in-others (reads-others b own) (others b own)) where
  abbrev Branch : (read live taken : Bool) → List Own → Meaning → Type 0
  Branch r live taken own x =
      Shows (l ∷ (in_body ++ in-others)) (r ∷ (reads-body live own ++ reads-others taken (settings (body live own))))
      (settings (others taken (settings (body live own)))) x

  line_shows : (r : Bool) (m c : ℕ) (own : List Own) (live taken : Bool) → Shows (l ∷ []) (r ∷ []) own (single m c own)
      → Branch r live taken own (single m c own then body live then others taken)
  line_shows r m c own live taken h =
      let own₁ : List Own = settings (body live own) in
      shows_then (l ∷ in_body) in-others (r ∷ reads-body live own) (reads-others taken own₁) own₁ (settings (others taken own₁))
      (single m c own then body live) (others taken)
      (shows_then (l ∷ []) in_body (r ∷ []) (reads-body live own) own own₁ (single m c own) (body live) h (body-shows live own))
      (others-show taken own₁)

  branch_shows : (r : Bool) (c : Result Condition Fault) (earlier : Bool) (own : List Own)
      → Branch r (r && holds c) (earlier || (r && holds c)) own (branch r c earlier own body others)
  branch_shows false c true own = line_shows false 2 0 own false true (unread l 2 0 own (omega arith))
  branch_shows false c false own = line_shows false 2 0 own false false (unread l 2 0 own (omega arith))
  branch_shows true (Ok (Holds n)) true own = line_shows true 4 n own true true (read l other 4 n own (omega arith) (omega arith))
  branch_shows true (Ok (Holds n)) false own = line_shows true 4 n own true true (read l other 4 n own (omega arith) (omega arith))
  branch_shows true (Ok (Fails n)) true own = line_shows true 3 n own false true (read l other 3 n own (omega arith) (omega arith))
  branch_shows true (Ok (Fails n)) false own = line_shows true 3 n own false false (read l other 3 n own (omega arith) (omega arith))
  branch_shows true (Err x) earlier own = tt

  -- an `!else`, whose condition does not decide its branch
  else_shows : (around : Bool) (c : Result Condition Fault) (earlier : Bool) (own : List Own)
      → Branch around (around && not earlier) (earlier || (around && not earlier)) own (branch around (otherwise earlier c) earlier own body others)
  else_shows false c true own = line_shows false 2 0 own false true (unread l 2 0 own (omega arith))
  else_shows false c false own = line_shows false 2 0 own false false (unread l 2 0 own (omega arith))
  else_shows true (Ok (Holds n)) true own = line_shows true 3 n own false true (read l other 3 n own (omega arith) (omega arith))
  else_shows true (Ok (Holds n)) false own = line_shows true 4 n own true true (read l other 4 n own (omega arith) (omega arith))
  else_shows true (Ok (Fails n)) true own = line_shows true 3 n own false true (read l other 3 n own (omega arith) (omega arith))
  else_shows true (Ok (Fails n)) false own = line_shows true 4 n own true true (read l other 4 n own (omega arith) (omega arith))
  else_shows true (Err x) earlier own = tt

module _ (t : List ℕ) (δ : Dialect) where
  -- the end of a group
  end_shows : (around : Bool) (e : List ℕ) → directive_of e ≡ Endif → (own : List Own)
      → Shown (e ∷ []) (around ∷ []) (closing around (condition_of (scope own t) Endif e δ) own)
  end_shows around e w own =
      let c : Result Condition Fault = condition_of (scope own t) Endif e δ in
      shown (e ∷ []) (around ∷ []) own (closing around c own) (closing_shows e (λ p. omega (arith, ap place w, ap place p)) around c own)

  mutual
    unfolding meaning reads_of

    blocks_show : (bs : Blocks) → Fits bs → (around : Bool) (own : List Own) → Shown (lines_of bs) (reads_of t own around bs δ) (meaning t own around bs δ)
    blocks_show empty w around own = (none, refl)
    blocks_show (line l bs) w around own =
        let x : Meaning = plain t own around l δ in
        shown_then (l ∷ []) (lines_of bs) ((is_define l && around) ∷ []) (reads_of t (settings x) around bs δ) (settings x) x
        (λ own. meaning t own around bs δ) (plain_shows l t δ own around) (blocks_show bs w.1 around (settings x))
    blocks_show (group l body os bs) w around own =
        let c : Result Condition Fault = condition_of (scope own t) (directive_of l) l δ in
        let taken : Bool = around && holds c in
        let own₁ : List Own = settings (meaning t own taken body δ) in
        let own₂ : List Own = settings (branches t own₁ around taken os δ) in
        let x : Meaning = branch around c false own (λ b own. meaning t own b body δ) (λ b own. branches t own around b os δ) in
        let h = branch_shows l (opens_other (directive_of l) w.0) (lines_of body) (lines_in os) (λ b own. reads_of t own b body δ)
        (λ b own. reads_in t own around b os δ) (λ b own. meaning t own b body δ) (λ b own. branches t own around b os δ)
        (λ b own. blocks_show body w.1 b own) (λ b own. branches_show os w.2 around b own) around c false own in
        let read-body : List Bool = reads_of t own taken body δ in
        let read-others : List Bool = reads_in t own₁ around taken os δ in
        let read-after : List Bool = reads_of t own₂ around bs δ in
        shown_assoc l (lines_of body) (lines_in os) (lines_of bs) around read-body read-others read-after (x then (λ own. meaning t own around bs δ))
        (shown_then (l ∷ (lines_of body ++ lines_in os)) (lines_of bs) (around ∷ (read-body ++ read-others)) read-after own₂ x
        (λ own. meaning t own around bs δ) h (blocks_show bs w.3 around own₂))

    branches_show : (os : Branches) → FitsIn os → (around earlier : Bool) (own : List Own)
        → Shown (lines_in os) (reads_in t own around earlier os δ) (branches t own around earlier os δ)
    branches_show (endif l) w around earlier own = end_shows around l w own
    branches_show (elseif l body os) w around earlier own =
        shown _ _ _ (branches t own around earlier (elseif l body os) δ)
        (branch_shows l (λ p. omega (arith, ap place w.0, ap place p)) (lines_of body) (lines_in os)
        (λ b own. reads_of t own b body δ) (λ b own. reads_in t own around b os δ) (λ b own. meaning t own b body δ)
        (λ b own. branches t own around b os δ) (λ b own. blocks_show body w.1 b own) (λ b own. branches_show os w.2 around b own)
        (around && not earlier) (condition_of (scope own t) Elseif l δ) earlier own)
    branches_show (else l body e) w around earlier own =
        shown _ _ _ (branches t own around earlier (else l body e) δ)
        (else_shows l (λ p. omega (arith, ap place w.0, ap place p)) (lines_of body) (e ∷ [])
        (λ b own. reads_of t own b body δ) (λ _ own. around ∷ []) (λ b own. meaning t own b body δ)
        (λ _ own. closing around (condition_of (scope own t) Endif e δ) own) (λ b own. blocks_show body w.1 b own)
        (λ _ own. end_shows around e w.2 own) around (condition_of (scope own t) Else l δ) earlier own)

pub marks_tell_reading : (f t : List ℕ) (δ : Dialect) (room : ℕ) (ms : List ℕ) (c : ℕ) → selection f t room δ ≡ accepted ms c
    → (bs : Blocks) → Derives (lines f) bs → (i : ℕ) → i < length (lines f)
    → Tells (get_or (lines f) i []) (get_or (reads_of t [] true bs δ) i false) (get_or ms i 0)
marks_tell_reading f t δ room ms c e bs d i k =
    let w = sound f t δ room ms c e in
    let q : bs ≡ w.0 = unambiguous (lines f) bs w.0 d w.1 in
    let m : meaning t [] true bs δ ≡ means ms c w.4 = rw q w.5 in
    let s : Shown (lines_of bs) (reads_of t [] true bs δ) (means ms c w.4) = rw m at (blocks_show t δ bs d.words true []) in
    let n = marks_each_line f t δ room ms c e in
    rw d.lines (tell_at i s.0 (omega arith))
