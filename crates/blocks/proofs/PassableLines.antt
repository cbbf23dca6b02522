-- A run passes lines exactly if they are passable by blocks. Assumes nothing.
use Prim.Native.Nat.{ℕ, ◌+◌, ◌≤◌}
use native.Mathlib.Omega.{arith}
use mathlib.Core.Path.{◌≡◌, refl, sym, ap, ◌∙◌}
use mathlib.Core.Bool.{Bool, true, false}
use mathlib.Core.List.{List, [], ◌∷◌, ◌++◌, append-nil}
use lib.ListN.{length}
use Rattle.std.specs.Prelude.{Ok}
use Rattle.units.specs.declared.Dialect.{Dialect}
use Rattle.text.specs.Bytes.{bytes, class_of}
use Rattle.text.specs.Runs.{span}
use Rattle.text.specs.Order.{compared}
use Rattle.own.specs.Own.{Own, scope}
use Rattle.line.specs.Directives.{named, word_start, text_start, directive_of}
use Rattle.line.specs.declared.Directive.TheVariants.{Endif}
use Rattle.condition.specs.Conditions.{idle, evaluate, condition_of}
use Rattle.line.specs.declared.Condition.TheVariants.{Holds}
use Rattle.groups.specs.Groups.{Group, State, state}
use Rattle.select.specs.Select.{Result, accepted, prepend, run, start}
use Rattle.blocks.specs.Blocks.{Blocks, Derives, depth}
use Rattle.blocks.specs.Meaning.{means, closing, meaning, WithinLimit, result_of}
use Rattle.blocks.specs.Refused.{Passable}
use Rattle.blocks.specs.Passing.{Passes}
use Rattle.blocks.proofs.Continuation.{onto, onto_accepted, Continues, follow}
use Rattle.blocks.proofs.RunMeaning.{end_goes}
use Rattle.blocks.proofs.MayFollow.{Rest}
use Rattle.blocks.proofs.GroupMoves.{flags, flags_length}
use Rattle.blocks.proofs.AcceptedBlocks.{passed}
use Rattle.blocks.proofs.Decided.{run_complete, accepted_means}
use Rattle.blocks.proofs.PassedLines.{an_endif, closers, completed, passes_back}
use Rattle.blocks.proofs.Stops.{accepted_passes, passes_on}

pub limit_append : (a b : List (List ℕ)) → WithinLimit a → WithinLimit b → WithinLimit (a ++ b)
limit_append [] b h k = k
limit_append (l ∷ a) b h k = (h.0, limit_append a b h.1 k)

endif_short : length (bytes "!endif") ≤ 1024
endif_short = let e : length (bytes "!endif") ≡ 6 = refl in omega arith

pub closers_short : (fs : List Bool) → WithinLimit (closers fs)
closers_short [] = tt
closers_short (b ∷ fs) = (endif_short, closers_short fs)

pub passes_short : (t : List ℕ) (δ : Dialect) (ls : List (List ℕ)) (n : ℕ) (s s' : State) → Passes t δ n s ls s' → WithinLimit ls
passes_short t δ [] n s s' e = tt
passes_short t δ (l ∷ ls) n s s' p = ((passed t δ n s l p.0 p.1 p.2).0, passes_short t δ ls (n + 1) p.1 s' p.3)

-- lines that may follow while no group is open derive blocks
pub rest_derives : (ls : List (List ℕ)) (r : Rest 16 [] ls) → Derives ls r.blocks × (depth r.blocks ≤ 16)
rest_derives ls r = (record { lines = r.lines ∙ rw (r.next, append-nil); words = r.fits }, omega (arith, r.deep))

-- every open group can be ended without a fault
endif_condition : (t : List ℕ) (δ : Dialect) → condition_of t Endif (bytes "!endif") δ ≡ Ok (Holds 0)
unfolding evaluate idle named word_start text_start directive_of span compared class_of
endif_condition t δ = refl

abbrev Accepting : Result → Type 0
Accepting r = (ms : List ℕ) × (c : ℕ) × (r ≡ accepted ms c)

prepend_accepting : (m : ℕ) (r : Result) → Accepting r → Accepting (prepend m r)
prepend_accepting m r w = (m ∷ w.0, w.1, ap (prepend m) w.2)

closing_accepting : (b : Bool) (n k : ℕ) (own : List Own) (f : Continues) → ((n k : ℕ) (own : List Own) → Accepting (f n k own))
    → Accepting (follow n k (closing b (Ok (Holds 0)) own) f)
closing_accepting false n k own f h = prepend_accepting 2 (f (n + 1) (k + 0) own) (h (n + 1) (k + 0) own)
closing_accepting true n k own f h = prepend_accepting 5 (f (n + 1) (k + 0) own) (h (n + 1) (k + 0) own)

closers_accepting : (t : List ℕ) (δ : Dialect) (gs : List Group) (n k : ℕ) (own : List Own)
    → Accepting (run t n (state gs k own) (closers (flags gs)) δ)
unfolding run
closers_accepting t δ [] n k own = ([], k, refl)
closers_accepting t δ (g ∷ gs) n k own =
    let e = end_goes t δ g.flags g.line gs (bytes "!endif") (closers (flags gs)) an_endif endif_short n k own in
    let f : Continues = λ n k own. run t n (state gs k own) (closers (flags gs)) δ in
    let q : run t n (state (g ∷ gs) k own) (bytes "!endif" ∷ closers (flags gs)) δ ≡ follow n k (closing g.flags.around (Ok (Holds 0)) own) f =
    rw (endif_condition (scope own t) δ) at e in
    let w = closing_accepting g.flags.around n k own f (λ n' k' own'. closers_accepting t δ gs n' k' own') in
    (w.0, w.1, q ∙ w.2)

-- the meaning of lines that a run passes, with an `!endif` after them for each open group
pub record Closed (t : List ℕ) (δ : Dialect) (ls : List (List ℕ)) (s : State) : Type 0 where
  pub blocks : Blocks
  pub derives : Derives (ls ++ closers (flags s.groups)) blocks
  pub shallow : depth blocks ≤ 16
  pub short : WithinLimit (ls ++ closers (flags s.groups))
  pub marks : List ℕ
  pub count : ℕ
  pub own : List Own
  pub meant : meaning t [] true blocks δ ≡ means marks count own

pub passes_closed : (t : List ℕ) (δ : Dialect) (ls : List (List ℕ)) (s : State) → Passes t δ 1 start ls s → Closed t δ ls s
passes_closed t δ ls s p =
    let more = closers (flags s.groups) in
    let b = passes_back t δ ls 1 start s more p (omega arith) in
    let few = b.0 in
    let r : Rest 16 [] (ls ++ more) = b.1 (completed 16 (flags s.groups) (omega (arith, flags_length s.groups))) in
    let d = rest_derives (ls ++ more) r in
    let short = limit_append ls more (passes_short t δ ls 1 start s p) (closers_short (flags s.groups)) in
    let o = passes_on t δ ls 1 start s more p in
    let a = closers_accepting t δ s.groups (1 + length ls) s.count s.own in
    let e : result_of (meaning t [] true r.blocks δ) ≡ accepted (o.0 ++ a.0) a.1 =
    sym (run_complete t δ (ls ++ more) r.blocks d.0 d.1 short) ∙ o.1 ∙ ap (onto o.0) a.2 ∙ onto_accepted o.0 a.0 a.1 in
    let w = accepted_means (meaning t [] true r.blocks δ) (o.0 ++ a.0) a.1 e in
    record {
      blocks = r.blocks;
      derives = d.0;
      shallow = d.1;
      short = short;
      marks = o.0 ++ a.0;
      count = a.1;
      own = w.0;
      meant = w.1;
    }

pub passes_passable : (t : List ℕ) (δ : Dialect) (ls : List (List ℕ)) (s : State) → Passes t δ 1 start ls s → Passable t ls δ
passes_passable t δ ls s p =
    let w = passes_closed t δ ls s p in
    record {
      more = closers (flags s.groups);
      blocks = w.blocks;
      derives = w.derives;
      shallow = w.shallow;
      short = w.short;
      marks = w.marks;
      count = w.count;
      own = w.own;
      meant = w.meant;
    }

pub passable_passes : (t : List ℕ) (δ : Dialect) (ls : List (List ℕ)) → Passable t ls δ → (s : State) × Passes t δ 1 start ls s
passable_passes t δ ls p =
    let e = run_complete t δ (ls ++ p.more) p.blocks p.derives p.shallow p.short ∙ ap result_of p.meant in
    accepted_passes t δ ls p.more 1 start p.marks p.count e
