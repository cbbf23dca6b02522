-- What a line of the right shape says, rule by rule (document 02, order 6).
use Rattle.std.specs.Prelude.{ℕ, ◌+◌, ◌≤◌, ◌<◌, ◌≡◌, ◌⊎◌, true, false, List, length}
use Rattle.units.specs.Refusals.{fault_at, unplaced, placed}
use Rattle.units.specs.declared.Reason.TheVariants.{DefinedMany, DefinedLong}
use Rattle.units.specs.declared.Refusal.{Refusal}
use Rattle.own.specs.Own.{Own, has}
use Rattle.lookup.specs.declared.Place.{Place}
use Rattle.lookup.specs.declared.TextKind.{TextKind}
use Rattle.value.specs.Values.{number, text}
use Rattle.evaluation.specs.Evaluation.{Evaluation, value, refused}
use Rattle.define.specs.Define.{Definition, sets, fails, of_number, of_text}

-- the macro is one of the settings, or there are fewer than 64 of them; and the contrary
abbrev pub Room : List Own → (name : List ℕ) → Type 0
Room own name = (has name own ≡ true) ⊎ (length own < 64)

abbrev pub Full : List Own → (name : List ℕ) → Type 0
Full own name = (has name own ≡ false) × (64 ≤ length own)

-- After the settings `own`, a line gives the macro `name` an expression that starts at byte p of the line. By the answer to this expression the
-- line sets the macro, with the count of the answer, or is refused:
-- with the refusal of the expression, at its place in the line if it has a place (3 to 12);
-- with 28 if the value is a string of more than 56 bytes;
-- with 27 if 64 other macros are set.
pub data Says (own : List Own) (name : List ℕ) (p : ℕ) : Evaluation → Definition → Type 0 where
  refused_there : (r : Refusal) → placed r.reason ≡ true → Says own name p (refused r) (fails (fault_at r.reason (p + r.offset.0)))
  refused_so : (r : Refusal) → placed r.reason ≡ false → Says own name p (refused r) (fails (unplaced r.reason))
  number_set : (v k : ℕ) → Room own name → Says own name p (value (number v) k) (sets (of_number name v) k)
  number_many : (v k : ℕ) → Full own name → Says own name p (value (number v) k) (fails (unplaced DefinedMany))
  text_set : (j : TextKind) (q : Place) (s : List ℕ) (k : ℕ) → length s ≤ 56 → Room own name
      → Says own name p (value (text j q s) k) (sets (of_text name j s) k)
  text_long : (j : TextKind) (q : Place) (s : List ℕ) (k : ℕ) → 56 < length s → Says own name p (value (text j q s) k) (fails (unplaced DefinedLong))
  text_many : (j : TextKind) (q : Place) (s : List ℕ) (k : ℕ) → length s ≤ 56 → Full own name
      → Says own name p (value (text j q s) k) (fails (unplaced DefinedMany))
