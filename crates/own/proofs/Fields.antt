-- A buffer that is filled with a string, and the fields of a record, written one after the other over 128 bytes. Assumes nothing.
use Prim.Native.Nat.{ℕ, ◌-◌, ◌≤◌, min}
use native.Mathlib.Omega.{arith}
use mathlib.Core.Path.{◌≡◌, refl, sym, ap, ◌∙◌}
use mathlib.Core.Bool.{Bool, true, false}
use mathlib.Core.List.{List, ◌++◌, append_assoc, append-nil}
use lib.ListN.{length, take, drop, replicate, length-append, length-drop, drop_of_length-le}
use lib.Seq.{length-take-le, take_at, drop_at, take-append-le, take-length}
use lib.Dec.{leb}
use borrow.Author.Tests.{leb-true, leb-false}
use borrow.Rule.Slice.PartMut.{mid_of, put_mid}
use Rattle.own.specs.Own.{padded}
use Rattle.own.proofs.Padded.{padded_length}
use Rattle.own.proofs.RecordShape.{padded_room}

-- the first n bytes of a string, as many as have room, and then zeros
module _ (s : List ℕ) (k n : ℕ) (e : n ≡ min (length s) k) where
  pub filled : take n s ++ replicate (k - n) 0 ≡ padded k s
  filled = by (leb (length s) k) refl
    where
      by : (t : Bool) → leb (length s) k ≡ t → take n s ++ replicate (k - n) 0 ≡ padded k s
      by true q =
          let short = leb-true (length s) k q in
          let all : n ≡ length s = omega (arith, e, short) in
          rw (all, take-length s) (sym (padded_room k s short))
      by false q =
          let long = leb-false (length s) k q in
          let all : n ≡ k = omega (arith, e, long) in
          let none : k - k ≡ 0 = omega arith in
          rw (all, none, append-nil (take k s)) (sym (take-append-le k s (replicate k 0) (omega (arith, long))))

-- k elements from i on are replaced, in a list of p with i elements and then q
placed : (p q m : List ℕ) (i k : ℕ) → length p ≡ i → put_mid i k (p ++ q) m ≡ (p ++ m) ++ drop k q
placed p q m i k e = rw (take_at p q i e, drop_at p q i e, append_assoc p m (drop k q))

module _ (r name marks content a b c : List ℕ) (lr : length r ≡ 128) where
  abbrev second : List ℕ
  second = put_mid 64 8 (a ++ drop 64 r) b

  pub fields : a ≡ padded (length (take 64 r)) name → b ≡ padded (length (mid_of 64 8 (a ++ drop 64 r))) marks → c ≡ content
      → put_mid 72 (length second - 72) second c ≡ padded 64 name ++ (padded 8 marks ++ content)
  fields f g h =
      let after : List ℕ = drop 8 (drop 64 r) in
      let end : length after ≡ 56 = omega (arith, length-drop 8 (drop 64 r), length-drop 64 r) in
      let named : a ≡ padded 64 name = f ∙ ap (λ k. padded k name) (length-take-le 64 r (omega arith)) in
      let first : length a ≡ 64 = ap length named ∙ padded_length 64 name in
      let room : length (mid_of 64 8 (a ++ drop 64 r)) ≡ 8 =
      rw (drop_at a (drop 64 r) 64 first) (length-take-le 8 (drop 64 r) (omega (arith, length-drop 64 r))) in
      let marked : b ≡ padded 8 marks = g ∙ ap (λ k. padded k marks) room in
      let both : length (a ++ b) ≡ 72 = omega (arith, length-append a b, first, ap length marked, padded_length 8 marks) in
      let two : second ≡ (a ++ b) ++ after = placed a (drop 64 r) b 64 8 first in
      let last : length second - 72 ≡ 56 = omega (arith, ap length two, length-append (a ++ b) after, both, end) in
      let over : length after ≤ 56 = omega arith in
      rw (last, two, placed (a ++ b) after c 72 56 both, drop_of_length-le after over, append-nil ((a ++ b) ++ c), append_assoc a b c)
      (rw (named, marked, h) refl)
