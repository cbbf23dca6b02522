-- What the code of a feeding gives. The contracts cite this: a refused line leaves the struct and every byte of its settings.
use Rattle.std.specs.Prelude.{ℕ, ◌^◌, ◌≤◌, ◌<◌, ◌≡◌, true, ◌&&◌, List, length, Result as Returned, Ok, Err}
use Rattle.units.specs.declared.Fault.{Fault}
use Rattle.units.specs.declared.Refusal.{Refusal}
use Rattle.settings.specs.Table.{ordered}
use Rattle.line.specs.Directives.{is_define}
use Rattle.groups.specs.Groups.{innermost, Outcome, go, stop}
use Rattle.groups.specs.Stack.{groups_of, denote_selection}
use Rattle.groups.specs.declared.Selection.{Selection}
use Rattle.select.specs.Select.{Result, accepted, refused, Answer}
use Rattle.following.specs.Feeding.{Fed, fed, unfed}
use Rattle.progress.specs.Reading.{in_range, own_in, progress_in}
use Rattle.follow.specs.declared.Fed.{Fed as FedCode}
use Rattle.follow.specs.declared.Judged.{Judged}

-- a fault as the refusal of line n
abbrev pub at_line : Fault → (n : ℕ) → Refusal
at_line f n = record { reason = f.reason; line = record { 0 = n }; offset = f.at }

-- a line that sets a macro, in a selection x of the code over a table t: it is short, kept and has the first word `DEFINE`
pub record Defining (x : Selection) (t l : List ℕ) : Type 0 where
  pub in_order : ordered t ≡ true
  pub shallow : x.depth ≤ 16
  pub few : x.count < 2 ^ 63
  pub short : length l ≤ 1024
  pub kept : (is_define l && (innermost (groups_of x)).flags.taken) ≡ true

-- the outcome z of the code for a line, with the buffer b before it and b' after it
abbrev pub Judges : (b : List ℕ) → Returned Judged Fault → (b' : List ℕ) → Outcome → Type 0
Judges b (Ok z) b' (go m s) = (z.mark ≡ m) × (z.next.depth ≤ 16) × (denote_selection z.next (own_in z.used b') ≡ s)
Judges b (Err g) b' (stop f) = (g ≡ f) × (b' ≡ b)
Judges b (Ok z) b' (stop f) = ⊥
Judges b (Err g) b' (go m s) = ⊥

-- The answer z of the code to a running selection with the buffer b, and the buffer b' then. After a line that is not refused every number is
-- in its range.
abbrev pub Gives : (b : List ℕ) → Returned FedCode Refusal → (b' : List ℕ) → Fed → Type 0
Gives b (Ok z) b' (fed m p) = (z.mark ≡ m) × (progress_in z.next b' ≡ p) × (in_range z.next ≡ z.next)
Gives b (Err r) b' (unfed f n) = (r ≡ at_line f n) × (b' ≡ b)
Gives b (Ok z) b' (unfed f n) = ⊥
Gives b (Err r) b' (fed m p) = ⊥

-- the answer to the ending after n lines
abbrev pub ending_shown : (n : ℕ) → Result → Answer
ending_shown n (accepted ms c) = Ok (record { lines = record { 0 = n }; count = c })
ending_shown n (refused f l) = Err (at_line f l)
