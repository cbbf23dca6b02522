-- A search, one round at a time. Assumes nothing.
use Prim.Native.Nat.{ℕ, zero, suc, ◌+◌, ◌-◌, ◌*◌, ◌/◌, ◌≤◌, ◌<◌}
use native.Mathlib.Omega.{arith}
use mathlib.Core.Path.{◌≡◌, refl, ap, ◌∙◌}
use mathlib.Core.List.{List}
use lib.ListN.{length, take, drop}
use borrow.Author.Tests.{lt-ltb, le-ltb}
use Rattle.std.proofs.Common.{Some, None}
use Rattle.text.specs.Order.{compared}
use Rattle.settings.specs.Table.{records, unpadded}
use Rattle.halving.specs.Halving.{name_of_record, nowhere, found_at, round_more, by_order, middle, halve}
use Rattle.halving.specs.declared.Found.{Found}
use Rattle.halving.proofs.RecordsAt.{records_length, name_at}
use Rattle.std.specs.declared.cmp.Ordering.{Ordering}

-- a result after r rounds that came before
abbrev pub after : ℕ → Found → Found
after r f = record { at = f.at; rounds = r + f.rounds }

one_later : (r : ℕ) (f : Found) → after r (round_more f) ≡ after (r + 1) f
one_later r f =
    let e : r + suc f.rounds ≡ r + 1 + f.rounds = omega arith in
    ap (λ (k : ℕ). record { at = f.at; rounds = k }) e

pub after_none : (f : Found) → f ≡ after 0 f
after_none f = let e : f.rounds ≡ 0 + f.rounds = omega arith in ap (λ (k : ℕ). record { at = f.at; rounds = k }) e

pub after_found : (r i : ℕ) → after r (found_at i) ≡ record { at = Some i; rounds = r }
after_found r i = let e : r + 0 ≡ r = omega arith in ap (λ (k : ℕ). record { at = Some i; rounds = k }) e

pub after_nowhere : (r : ℕ) → after r nowhere ≡ record { at = None; rounds = r }
after_nowhere r = let e : r + 0 ≡ r = omega arith in ap (λ (k : ℕ). record { at = None; rounds = k }) e

-- no record is left
pub over : (fuel low high : ℕ) (rs : List (List ℕ)) (n : List ℕ) → high ≤ low → halve fuel low high rs n ≡ nowhere
unfolding halve
over zero low high rs n h = refl
over (suc fuel) low high rs n h = rw (le-ltb low high h)

-- some record is left, and r of `total` rounds were made
module _ (rs : List (List ℕ)) (n : List ℕ) (total r low high : ℕ) (some : low < high) (room : r + (high - low) ≤ total) where
  abbrev m : ℕ
  m = middle low high

  abbrev rest : (low high : ℕ) → Found
  rest a b = halve (total - (r + 1)) a b rs n

  one_round : after r (halve (total - r) low high rs n)
      ≡ after (r + 1) (by_order (compared n (name_of_record rs m)) (rest low m) (found_at m) (rest (m + 1) high))
  unfolding halve
  one_round =
      let e : total - r ≡ suc (total - (r + 1)) = omega arith in
      rw (e, lt-ltb low high some) (one_later r _)

-- the same in a table, by the order p of the name and the one in the middle's name field
module _ (t n : List ℕ) (r low high : ℕ) (some : low < high) (room : r + (high - low) ≤ length t / 128) (most : high ≤ length t / 128) where
  abbrev total : ℕ
  total = length t / 128

  abbrev mid : ℕ
  mid = middle low high

  abbrev onward : (low high : ℕ) → Found
  onward a b = halve (total - (r + 1)) a b (records t) n

  pub turns : (p o : Ordering) → p ≡ compared n (unpadded (take (128 * mid + 64 - 128 * mid) (drop (128 * mid) t))) → p ≡ o
      → after r (halve (total - r) low high (records t) n) ≡ after (r + 1) (by_order o (onward low mid) (found_at mid) (onward (mid + 1) high))
  turns p o e g = one_round (records t) n total r low high some room ∙ rw (name_at t mid (omega arith), ← e, g)

-- what each turn and the end of a search need
pub ruleset turning = (records_length, after_none, after_found, after_nowhere, over, turns)
