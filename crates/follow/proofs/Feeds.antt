-- A piece by the cases of the code: a refusal before its line is looked at, and the line by its outcome. Assumes nothing.
use Prim.Native.Nat.{ℕ, ◌+◌, ◌*◌, ◌≤◌, ◌<◌}
use native.Mathlib.Omega.{arith}
use mathlib.Core.Path.{◌≡◌, refl, sym, ap, ◌∙◌}
use mathlib.Core.Bool.{true, false, not}
use mathlib.Core.List.{List, [], ◌∷◌}
use lib.ListN.{length}
use lib.Dec.{eqb}
use borrow.Author.Tests.{eq-eqb, ne_eqb, lt-ltb, le-ltb, le-leb, lt-leb}
use Rattle.std.specs.Prelude.{Ok, Err}
use Rattle.units.specs.declared.Dialect.{Dialect}
use Rattle.units.specs.declared.Fault.{Fault}
use Rattle.units.specs.declared.Refusal.{Refusal}
use Rattle.units.specs.Refusals.{unplaced, refusal, refusal_in}
use Rattle.settings.specs.Table.{well_formed}
use Rattle.groups.specs.Groups.{Group, State, Outcome, go, stop}
use Rattle.groups.specs.Stack.{groups_of, denote_selection}
use Rattle.select.specs.Step.{step}
use Rattle.select.specs.Select.{Answer, at_end}
use Rattle.select.specs.Running.{ends}
use Rattle.select.proofs.Steps.{step_small}
use Rattle.following.specs.Feeding.{progress, Fed, unfed, malformed, line_of, unended, onward, feeding, ending}
use Rattle.progress.specs.Reading.{in_range, lines_of, own_in, progress_in}
use Rattle.progress.specs.declared.Running.{Running}
use Rattle.progress.proofs.Clips.{clip_within, clip_fits}
use Rattle.follow.specs.Outcomes.{Judges, Gives, ending_shown}
use Rattle.follow.specs.declared.Judged.{Judged}
use Rattle.units.specs.declared.Reason.TheVariants.{FileLong, LinesMany, PieceMalformed, TableMalformed}

-- a running selection whose numbers are in their ranges is read as it is
module _ (x : Running) (shallow : x.selection.depth ≤ 16) (few : x.selection.count ≤ 199 * x.fed) (short : x.bytes ≤ 65536) (lines : x.fed ≤ 4096) where
  stays : in_range x ≡ x
  stays = rw (clip_fits 4096 x.fed lines, clip_fits 16 x.selection.depth shallow, clip_fits (199 * x.fed) x.selection.count few, clip_fits 65536 x.bytes short)

-- a piece without bytes
pub empty_malformed : (p : List ℕ) → length p ≡ 0 → malformed p ≡ true
unfolding malformed
empty_malformed p e = rw (eq-eqb (length p) 0 e)

-- a piece p, fed over a table t to a running selection x whose settings are in the buffer b
module _ (x : Running) (b t p : List ℕ) (δ : Dialect) where
  abbrev given : Fed
  given = feeding t (progress_in x b) p δ

  -- a refusal of the code, with its buffer then
  not_fed : (r : Refusal) (b' : List ℕ) (f : Fault) (n : ℕ) → given ≡ unfed f n → r ≡ refusal_in f n → b' ≡ b → Gives b (Err r) b' given
  not_fed r b' f n e h same = rw e (h, same)

  pub table_bad : (r : Refusal) → well_formed t ≡ false → r ≡ refusal TableMalformed → Gives b (Err r) b given
  unfolding feeding
  table_bad r w h = not_fed r b (unplaced TableMalformed) 0 (rw w) h refl

  module _ (well : well_formed t ≡ true) where
    pub piece_bad : (r : Refusal) → malformed p ≡ true → r ≡ refusal PieceMalformed → Gives b (Err r) b given
    unfolding feeding
    piece_bad r bad h = not_fed r b (unplaced PieceMalformed) 0 (rw (well, bad)) h refl

    module _ (good : malformed p ≡ false) where
      pub after_last : (r : Refusal) → (x.ended ≡ 0 → ⊥) → r ≡ refusal PieceMalformed → Gives b (Err r) b given
      unfolding feeding
      after_last r over h = not_fed r b (unplaced PieceMalformed) 0 (rw (well, good, ne_eqb x.ended 0 over)) h refl

      -- y is what is read from x
      module _ (goes : x.ended ≡ 0) (y : Running) (read : y ≡ in_range x) where
        -- the line of a refusal
        here_line : (f : Fault) (r : Refusal) → r ≡ refusal_in f (y.fed + 1) → r ≡ refusal_in f (lines_of x + 1)
        here_line f r h = rw read at h

        pub bytes_many : (r : Refusal) → 65536 < y.bytes + length p → r ≡ refusal_in (unplaced FileLong) (y.fed + 1) → Gives b (Err r) b given
        unfolding feeding
        bytes_many r many h =
            let over : 65536 < (in_range x).bytes + length p = rw read at many in
            not_fed r b (unplaced FileLong) (lines_of x + 1) (rw (well, good, eq-eqb x.ended 0 goes, lt-ltb _ _ over))
            (here_line (unplaced FileLong) r h) refl

        module _ (short : y.bytes + length p ≤ 65536) where
          pub lines_many : (r : Refusal) → 4096 ≤ y.fed → r ≡ refusal_in (unplaced LinesMany) (y.fed + 1) → Gives b (Err r) b given
          unfolding feeding
          lines_many r many h =
              let fits : (in_range x).bytes + length p ≤ 65536 = rw read at short in
              let full : 4096 ≤ lines_of x = rw read at many in
              not_fed r b (unplaced LinesMany) (lines_of x + 1) (rw (well, good, eq-eqb x.ended 0 goes, le-ltb _ _ fits, le-leb _ _ full))
              (here_line (unplaced LinesMany) r h) refl

          -- the line of the piece, and its outcome
          module _ (room : y.fed < 4096) (l : List ℕ) (line : line_of p ≡ l) where
            abbrev here : State
            here = denote_selection (in_range x).selection (own_in x.used b)

            abbrev said : Outcome
            said = step t (lines_of x + 1) here l δ

            given_is : given ≡ onward said p (progress_in x b)
            unfolding feeding
            given_is =
                let fits : (in_range x).bytes + length p ≤ 65536 = rw read at short in
                let free : lines_of x < 4096 = rw read at room in
                rw (well, good, eq-eqb x.ended 0 goes, le-ltb _ _ fits, lt-leb _ _ free, line)

            pub line_bad : (g : Fault) (b' : List ℕ) → Judges b (Err g) b' (step t (y.fed + 1) (denote_selection y.selection (own_in x.used b)) l δ)
                → (r : Refusal) → r ≡ refusal_in g (y.fed + 1) → Gives b (Err r) b' given
            line_bad g b' judged r h = by said refl (rw read at judged)
              where
                by : (o : Outcome) → said ≡ o → Judges b (Err g) b' o → Gives b (Err r) b' given
                by (go m s) q k = absurd k
                by (stop f) q k =
                    not_fed r b' f (lines_of x + 1) (given_is ∙ ap (λ o. onward o p (progress_in x b)) q)
                    (here_line g r h ∙ ap (λ i. refusal_in i (lines_of x + 1)) k.0) k.1

            -- the struct then, where over is what is left to say; z and b' are the outcome of the code and the buffer then
            module _ (z : Judged) (b' : List ℕ) (judged : Judges b (Ok z) b' (step t (y.fed + 1) (denote_selection y.selection (own_in x.used b)) l δ))
                (over : ℕ) (lacks : unended p ≡ not (eqb over 0)) where
              abbrev next : Running
              next = record { selection = z.next; bytes = (in_range x).bytes + length p; fed = lines_of x + 1; ended = over; used = z.used }

              abbrev Given : Type 0
              Given = Gives b (Ok (record { next = next; mark = z.mark })) b' given

              given_so : Given
              given_so = by said refl (rw read at judged)
                where
                  by : (o : Outcome) → said ≡ o → Judges b (Ok z) b' o → Given
                  by (stop f) q k = absurd k
                  by (go m s) q k =
                      let before : (in_range x).selection.count ≤ 199 * lines_of x = clip_within (199 * lines_of x) x.selection.count in
                      let more : s.count < (in_range x).selection.count + 200 = step_small t δ (lines_of x + 1) here l m s q in
                      let same : z.next.count ≡ s.count = ap (λ (i : State). i.count) k.2 in
                      let fits : (in_range x).bytes + length p ≤ 65536 = rw read at short in
                      let free : lines_of x < 4096 = rw read at room in
                      let range : in_range next ≡ next = stays next k.1 (omega arith) fits (omega arith) in
                      let read_back : progress_in next b' ≡ progress (denote_selection z.next (own_in z.used b')) next.bytes next.fed (not (eqb over 0)) =
                      ap (λ (i : Running). progress (denote_selection i.selection (own_in z.used b')) i.bytes i.fed (not (eqb over 0))) range in
                      let after : progress_in next b' ≡ progress s next.bytes next.fed (unended p) =
                      read_back ∙ ap (λ i. progress i next.bytes next.fed (not (eqb over 0))) k.2 ∙ ap (λ e. progress s next.bytes next.fed e) (sym lacks) in
                      rw (given_is ∙ ap (λ o. onward o p (progress_in x b)) q) (k.0, after, range)

              pub line_good : Gives b (Ok (record {
                next = record { selection = z.next; bytes = y.bytes + length p; fed = y.fed + 1; ended = over; used = z.used };
                mark = z.mark;
              })) b' given
              line_good = rw read given_so

-- the end of the file, over a table t
module _ (x : Running) (b t : List ℕ) where
  pub ends_bad : (r : Refusal) → well_formed t ≡ false → r ≡ refusal TableMalformed → Err r ≡ ending_shown (lines_of x) (ending t (progress_in x b))
  unfolding ending
  ends_bad r w e = rw (w, e)

  pub ends_good : (r : Answer) (y : Running) → well_formed t ≡ true → y ≡ in_range x → r ≡ ends y.fed (groups_of y.selection) y.selection.count
      → r ≡ ending_shown (lines_of x) (ending t (progress_in x b))
  unfolding ending
  ends_good r y w read e =
      let there : r ≡ ends (lines_of x) (groups_of (in_range x).selection) (in_range x).selection.count = rw read at e in
      rw w (there ∙ by (groups_of (in_range x).selection))
    where
      by : (g : List Group) → ends (lines_of x) g (in_range x).selection.count ≡ ending_shown (lines_of x) (at_end g (in_range x).selection.count)
      by [] = refl
      by (g ∷ gs) = refl
