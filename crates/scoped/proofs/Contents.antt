-- The record of a setting by itself: it is plain, and its content is the number or the string of the setting. Assumes nothing.
use Prim.Native.Nat.{ℕ, zero, suc, ◌+◌, ◌-◌, ◌^◌, ◌≤◌, ◌<◌}
use native.Mathlib.Omega.{arith}
use mathlib.Core.Path.{◌≡◌, refl, sym, ap, ◌∙◌}
use mathlib.Core.Bool.{true}
use mathlib.Core.List.{List, ◌++◌}
use lib.ListN.{length, take, drop, replicate}
use lib.Seq.{take_at, drop_at, drop-drop}
use borrow.Author.Tests.{le-leb}
use Rattle.std.specs.Prelude.{Some}
use Rattle.text.specs.Numbers.{little_endian, lowest_bytes}
use Rattle.text.proofs.EightBytes.{number_in_part}
use Rattle.text.proofs.LowestBytes.{low_length, low_number}
use Rattle.settings.specs.Table.{zeros, plain_kind, plain_record}
use Rattle.lookup.specs.Setting.{value_at}
use Rattle.lookup.specs.declared.TextKind.{TextKind}
use Rattle.lookup.specs.declared.TextKind.TheVariants.{String, Wide}
use Rattle.lookup.proofs.Records.{number, text, contents_in, contents_of, content_there}
use Rattle.own.specs.Own.{Own, record_of}
use Rattle.own.proofs.Records.{record_length}
use Rattle.own.proofs.RecordShape.{padded_room, kind_part, length_part, zeros_part, content_part}

pub all_zeros : (n : ℕ) → zeros (replicate n 0) ≡ true
unfolding zeros
all_zeros zero = refl
all_zeros (suc n) = all_zeros n

-- the kind byte of a string
abbrev pub text_byte : TextKind → ℕ
text_byte String = 1
text_byte Wide = 2

-- a setting whose content has room in its record
module _ (x : Own) (room : length x.content ≤ 56) where
  abbrev padding : List ℕ
  padding = replicate (56 - length x.content) 0

  content_parts : drop 72 (record_of x) ≡ x.content ++ padding
  content_parts = content_part x ∙ padded_room 56 x.content room

  taken : take (length x.content) (drop 72 (record_of x)) ≡ x.content
  taken = rw content_parts (take_at x.content padding (length x.content) refl)

  behind : drop (72 + length x.content) (record_of x) ≡ padding
  behind = sym (drop-drop (length x.content) 72 (record_of x)) ∙ rw content_parts (drop_at x.content padding (length x.content) refl)

  there : contents_of (record_of x) ≡ contents_in (record_of x) (Some (value_at 0 (record_of x)))
  there = content_there (record_of x) (omega (arith, record_length x))

  plain_so : plain_kind x.kind (length x.content) ≡ true → plain_record (record_of x) ≡ true
  unfolding plain_record zeros
  plain_so h = rw (kind_part x, length_part x, h, zeros_part x, behind, all_zeros (56 - length x.content))

-- a number below 2 to the 64
module _ (x : Own) (v : ℕ) (kind : x.kind ≡ 0) (content : x.content ≡ lowest_bytes 8 v) where
  eight : length x.content ≡ 8
  eight = ap length content ∙ low_length 8 v

  pub number_content : v < 2 ^ 64 → contents_of (record_of x) ≡ Some (number v)
  unfolding value_at
  number_content h =
      let s : take 8 (drop 72 (record_of x)) ≡ lowest_bytes 8 v = rw (← eight) (taken x (omega (arith, eight))) ∙ content in
      let n : little_endian 8 72 (record_of x) ≡ v = number_in_part 8 0 72 8 (record_of x) (omega arith) ∙ rw s (low_number 8 v h) in
      there x (omega (arith, eight)) ∙ rw (kind_part x ∙ kind, n)

  pub number_plain : plain_record (record_of x) ≡ true
  unfolding plain_kind
  number_plain = plain_so x (omega (arith, eight)) (rw (kind, eight))

-- a string of either kind with at most 56 bytes
module _ (x : Own) (k : TextKind) (kind : x.kind ≡ text_byte k) (room : length x.content ≤ 56) where
  pub text_content : contents_of (record_of x) ≡ Some (text k x.content)
  unfolding value_at
  text_content = there x room ∙ by k kind
    where
      by : (k : TextKind) → x.kind ≡ text_byte k
          → contents_in (record_of x) (Some (value_at 0 (record_of x))) ≡ Some (text k x.content)
      by String e = rw (kind_part x ∙ e, length_part x, le-leb (length x.content) 56 room, taken x room)
      by Wide e = rw (kind_part x ∙ e, length_part x, le-leb (length x.content) 56 room, taken x room)

  pub text_plain : plain_record (record_of x) ≡ true
  unfolding plain_kind
  text_plain = plain_so x room (by k kind)
    where
      by : (k : TextKind) → x.kind ≡ text_byte k → plain_kind x.kind (length x.content) ≡ true
      by String e = rw (e, le-leb (length x.content) 56 room)
      by Wide e = rw (e, le-leb (length x.content) 56 room)
