-- After the record of a setting is written, the buffer holds the settings with this one put to them. Assumes nothing.
use Prim.Native.Nat.{ℕ, ◌+◌, ◌-◌, ◌*◌, ◌≤◌, max}
use native.Mathlib.Omega.{arith}
use mathlib.Core.Path.{◌≡◌, refl, sym, ap, ◌∙◌}
use mathlib.Core.Bool.{Bool, true, false}
use mathlib.Core.List.{List, [], ◌++◌, append_assoc, append-nil}
use lib.ListN.{length, take, drop, take-append-drop, length-take, drop_of_length-le}
use lib.Seq.{take_at, take-append-le, drop-append-le, drop-append-add, take-length, drop-drop}
use borrow.Author.Tests.{lt-ltb, le-ltb}
use borrow.Rule.Slice.PartMut.{put_mid}
use Rattle.std.proofs.Common.{Some, None}
use Rattle.std.proofs.lemmas.Option.{none-some, same_Some}
use Rattle.settings.specs.Table.{records}
use Rattle.own.specs.Own.{Own, record_of, records_of, put, has}
use Rattle.own.specs.Index.{index_among}
use Rattle.own.specs.Putting.{Holds, Puts}
use Rattle.own.proofs.Records.{records_length, own_records}
use Rattle.own.proofs.Putting.{index_in, index_there, index_absent, put_bytes, put_length}

-- r over 128 elements of the list s, which t follows
module _ (s t r : List ℕ) (at : ℕ) where
  over_inside : at + 128 ≤ length s → take at (s ++ t) ++ (r ++ drop (at + 128) (s ++ t)) ≡ (take at s ++ (r ++ drop (at + 128) s)) ++ t
  over_inside h =
      let before : at ≤ length s = omega arith in
      rw (
        take-append-le at s t before,
        drop-append-le (at + 128) s t h,
        append_assoc (take at s) (r ++ drop (at + 128) s) t,
        append_assoc r (drop (at + 128) s) t,
      )

  over_end : at ≡ length s → take at (s ++ t) ++ (r ++ drop (at + 128) (s ++ t)) ≡ (take at s ++ (r ++ drop (at + 128) s)) ++ drop 128 t
  over_end e =
      let over : length s ≤ length s + 128 = omega arith in
      rw (
        e,
        take_at s t (length s) refl,
        drop-append-add s t 128,
        take-length s,
        drop_of_length-le s over,
        append-nil r,
        append_assoc s r (drop 128 t),
      )

-- the first bytes of a buffer are the records of settings
held_by : (o : List Own) (t : List ℕ) (k : ℕ) → k ≡ 128 * length o → Holds (records_of o ++ t) k o
held_by o t k e = record { bytes = take_at (records_of o) t k (records_length o ∙ sym e); size = e }

-- no settings at first; later they are within the buffer
pub held_none : (b : List ℕ) → Holds b 0 []
unfolding records_of
held_none b = record { bytes = refl; size = refl }

pub held_within : (b : List ℕ) (used : ℕ) (o : List Own) → Holds b used o → used ≤ length b
held_within b used o h = omega (arith, h.size, ap length h.bytes, records_length o, length-take used b)

-- the setting x, its name n, the settings o in the buffer b, and the index i that a search for the name gives
module _ (x : Own) {o : List Own} {b n : List ℕ} {used i : ℕ} (few : used ≤ 8192) (h : Holds b used o) (e : x.name ≡ n)
    (j : i ≡ index_among (records (take used b)) n) where
  index_is : i ≡ index_in o x.name
  index_is = j ∙ rw (h.bytes, own_records o, e)

  abbrev at : ℕ
  at = 128 * i

  abbrev written : List ℕ
  written = put_mid at (at + 128 - at) b (record_of x)

  -- the settings after it, and the rest of the buffer
  split : (t : List ℕ) → take at (records_of o ++ drop used b) ++ (record_of x ++ drop (at + 128) (records_of o ++ drop used b))
      ≡ (take at (records_of o) ++ (record_of x ++ drop (at + 128) (records_of o))) ++ t → written ≡ records_of (put x o) ++ t
  split t g =
      let z : at + 128 - at ≡ 128 = omega arith in
      let whole : records_of o ++ drop used b ≡ b = rw (← h.bytes) (take-append-drop used b) in
      rw (z, drop-drop 128 at b, put_bytes x o, ← index_is) (rw whole at g)

  number : used ≡ 128 * length o
  number = h.size

  -- no room: the settings are 64, and none has the name
  pub full : i ≡ 64 → Puts x o b None
  full f = by (has x.name o) refl
    where
      by : (t : Bool) → has x.name o ≡ t → Puts x o b None
      by true g = absurd (omega (arith, f, few, number, index_is, index_there o x.name g))
      by false g =
          record {
            room = rw (g, le-ltb (length o) 64 (omega (arith, f, index_is, index_absent o x.name g)));
            held = λ k q. absurd (none-some k q);
          }

  -- the name is that of a setting
  put_over : has x.name o ≡ true → Holds written used (put x o)
  put_over g =
      let there = index_there o x.name g in
      let inside : at + 128 ≤ length (records_of o) = omega (arith, number, index_is, there, records_length o) in
      let size : used ≡ 128 * length (put x o) = number ∙ rw (put_length x o, g) in
      let rest : List ℕ = drop used b in
      rw (split rest (over_inside (records_of o) rest (record_of x) at inside)) (held_by (put x o) rest used size)

  -- the name is new
  put_last : has x.name o ≡ false → Holds written (at + 128) (put x o)
  put_last g =
      let last : i ≡ length o = index_is ∙ index_absent o x.name g in
      let end : at ≡ length (records_of o) = omega (arith, last, records_length o) in
      let size : at + 128 ≡ 128 * length (put x o) = rw (put_length x o, g) (omega (arith, last)) in
      let rest : List ℕ = drop 128 (drop used b) in
      rw (split rest (over_end (records_of o) (drop used b) (record_of x) at end)) (held_by (put x o) rest (at + 128) size)

  -- there is room: the larger of the two ends is used then
  pub put_there : (i ≡ 64 → ⊥) → Puts x o written (Some (max used (at + 128)))
  put_there m = by (has x.name o) refl
    where
      by : (t : Bool) → has x.name o ≡ t → Puts x o written (Some (max used (at + 128)))
      by true g =
          let end : max used (at + 128) ≡ used = omega (arith, number, index_is, index_there o x.name g) in
          record { room = rw g; held = λ k q. rw (← same_Some _ k q, end) (put_over g) }
      by false g =
          let last : i ≡ length o = index_is ∙ index_absent o x.name g in
          let end : max used (at + 128) ≡ at + 128 = omega (arith, number, last) in
          record {
            room = rw (g, lt-ltb (length o) 64 (omega (arith, m, few, number, last)));
            held = λ k q. rw (← same_Some _ k q, end) (put_last g);
          }
