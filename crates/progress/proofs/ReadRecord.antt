-- A record that a DEFINE line can make is that of the setting that is read from it; and the setting that is read from the record of such a
-- line is the line's. Assumes nothing.
use Prim.Native.Nat.{ℕ, ◌+◌, ◌-◌, ◌*◌, ◌/◌, ◌%◌, ◌≤◌}
use native.Mathlib.Omega.{arith}
use mathlib.Core.Path.{◌≡◌, refl, ap, ◌∙◌}
use mathlib.Core.Bool.{Bool, true, ◌&&◌}
use mathlib.Core.List.{List, [], ◌∷◌, ◌++◌, map}
use lib.ListN.{length, take, drop, replicate, length-drop, take-append-drop}
use lib.Seq.{length-take-le, take_all, take_at, drop-cons, drop-drop}
use lib.Dec.{eqb, leb}
use borrow.Author.Tests.{eqb-true}
use Rattle.text.specs.Runs.{span}
use Rattle.text.specs.declared.runs.Set.TheVariants.{NonZero}
use Rattle.text.proofs.Laws.{and_left, and_right, span_fits}
use Rattle.settings.specs.Table.{records_in, records, name_field, unpadded, name_of, kind_byte}
use Rattle.settings.specs.Table.{length_byte, zeros, is_name, well_formed_name, ordered_names, ordered}
use Rattle.settings.specs.Table.{plain_kind, plain_record, plain_records, plain, well_formed}
use Rattle.settings.proofs.TableRecords.{roomy}
use Rattle.own.specs.Own.{Own, padded, record_of, name_in}
use Rattle.own.proofs.Records.{record_length}
use Rattle.own.proofs.RecordShape.{padded_room, kind_part, length_part, content_part}
use Rattle.progress.specs.Reading.{own_of}

zeros_all : (s : List ℕ) → zeros s ≡ true → s ≡ replicate (length s) 0
unfolding zeros
zeros_all [] e = refl
zeros_all (b ∷ s) e =
    let first = eqb-true b 0 (and_left (eqb b 0) (zeros s) e) in
    rw (first, ← zeros_all s (and_right (eqb b 0) (zeros s) e))

-- bytes and then zeros, of which there are n together
zeros_after : (s : List ℕ) (k n : ℕ) → length s ≡ n → k ≤ n → zeros (drop k s) ≡ true → padded n (take k s) ≡ s
zeros_after s k n l h e =
    let short : length (take k s) ≡ k = length-take-le k s (omega arith) in
    let rest : drop k s ≡ replicate (n - k) 0 = zeros_all (drop k s) e ∙ ap (λ i. replicate i 0) (length-drop k s ∙ ap (λ i. i - k) l) in
    padded_room n (take k s) (omega arith) ∙ rw (short, ← rest) (take-append-drop k s)

-- a record that is by itself a well-formed table
module _ (r : List ℕ) (long : length r ≡ 128) (e : well_formed r ≡ true) where
  alone : records r ≡ r ∷ []
  unfolding records_in
  alone = let one : length r / 128 ≡ 1 = omega arith in rw (one, take_all 128 r (omega arith))

  its_name : well_formed_name (name_field r) ≡ true
  unfolding well_formed ordered ordered_names
  its_name =
      let names : Bool = ordered_names (map name_field (records r)) in
      let few : Bool = leb (length r) (512 * 128) in
      let all : names ≡ true = and_right few names (and_right (eqb (length r % 128) 0) (few && names) (and_left (ordered r) (plain r) e)) in
      rw alone at all

  its_kind : plain_record r ≡ true
  unfolding well_formed plain_records
  its_kind = let all = and_right (ordered r) (plain r) e in and_left (plain_record r) true (rw alone at all)

  kind_good : plain_kind (kind_byte r) (length_byte r) ≡ true
  unfolding plain_record
  kind_good = and_left _ _ its_kind

  gap : zeros (take 6 (drop 66 r)) ≡ true
  unfolding plain_record
  gap = and_left _ _ (and_right (plain_kind (kind_byte r) (length_byte r)) _ its_kind)

  padding : zeros (drop (72 + length_byte r) r) ≡ true
  unfolding plain_record
  padding = and_right (zeros (take 6 (drop 66 r))) _ (and_right (plain_kind (kind_byte r) (length_byte r)) _ its_kind)

  pub content_fits : length_byte r ≤ 56
  content_fits = roomy r (length_byte r) refl kind_good gap

  name_again : padded 64 (name_of r) ≡ name_field r
  unfolding well_formed_name
  name_again =
      let f : List ℕ = name_field r in
      zeros_after f (span NonZero f) 64 (length-take-le 64 r (omega arith)) (omega (arith, span_fits NonZero f, length-take-le 64 r (omega arith)))
      (and_right (is_name (unpadded f)) _ its_name)

  content_long : length (drop 72 r) ≡ 56
  content_long = omega (arith, length-drop 72 r)

  content_again : padded 56 (take (length_byte r) (drop 72 r)) ≡ drop 72 r
  content_again = zeros_after (drop 72 r) (length_byte r) 56 content_long content_fits (rw (drop-drop (length_byte r) 72 r) padding)

  gap_is : take 6 (drop 66 r) ≡ replicate 6 0
  gap_is = zeros_all (take 6 (drop 66 r)) gap ∙ ap (λ i. replicate i 0) (length-take-le 6 (drop 66 r) (omega (arith, length-drop 66 r)))

  marks_again : (k : ℕ) → k ≡ length_byte r → padded 8 (kind_byte r ∷ k ∷ []) ++ drop 72 r ≡ drop 64 r
  marks_again k h =
      let six : take 6 (drop 66 r) ++ drop 72 r ≡ drop 66 r = rw (← drop-drop 6 66 r) (take-append-drop 6 (drop 66 r)) in
      rw (h, drop-cons r 64 0 (omega arith), drop-cons r 65 0 (omega arith), ← six, gap_is)

  pub record_again : record_of (own_of r) ≡ r
  unfolding record_of
  record_again =
      let size : length (take (length_byte r) (drop 72 r))
      ≡ length_byte r = length-take-le (length_byte r) (drop 72 r) (omega (arith, content_long, content_fits)) in
      rw (name_again, content_again, marks_again _ size) (take-append-drop 64 r)

-- the setting of a record
pub own_again : (x : Own) → name_in x ≡ x.name → well_formed (record_of x) ≡ true → own_of (record_of x) ≡ x
own_again x e h =
    let few : length x.content ≤ 56 = omega (arith, content_fits (record_of x) (record_length x) h, length_part x) in
    let bytes : take (length x.content) (padded 56 x.content) ≡ x.content = rw (padded_room 56 x.content few) (take_at _ _ _ refl) in
    rw (e, kind_part x, length_part x, content_part x, bytes)
