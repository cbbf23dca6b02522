-- The parts of a setting's record. Assumes nothing.
use Prim.Native.Nat.{ℕ, zero, suc, ◌+◌, ◌-◌, ◌≤◌}
use native.Mathlib.Omega.{arith}
use mathlib.Core.Path.{◌≡◌, refl, sym, ap, ◌∙◌}
use mathlib.Core.List.{List, ◌∷◌, ◌++◌}
use lib.ListN.{length, get_or, take, drop, replicate}
use lib.Seq.{take_at, drop-append-add, get_or-append-add, take-append-add}
use Rattle.settings.specs.Table.{name_field, kind_byte, length_byte}
use Rattle.own.specs.Own.{Own, padded, record_of}
use Rattle.own.proofs.Padded.{padded_length}

take_replicate : (k n b : ℕ) → k ≤ n → take k (replicate n b) ≡ replicate k b
take_replicate zero n b h = refl
take_replicate (suc k) zero b h = absurd (omega arith)
take_replicate (suc k) (suc n) b h = ap (λ s. b ∷ s) (take_replicate k n b (omega arith))

-- bytes that have room are all there
pub padded_room : (n : ℕ) (s : List ℕ) → length s ≤ n → padded n s ≡ s ++ replicate (n - length s) 0
padded_room n s h =
    let e : length s + (n - length s) ≡ n = omega arith in
    sym (ap (λ k. take k (s ++ replicate n 0)) e) ∙ take-append-add s (replicate n 0) (n - length s)
    ∙ ap (λ z. s ++ z) (take_replicate (n - length s) n 0 (omega arith))

module _ (x : Own) where
  -- what follows the name
  abbrev behind_name : List ℕ
  behind_name = x.kind ∷ length x.content ∷ 0 ∷ 0 ∷ 0 ∷ 0 ∷ 0 ∷ 0 ∷ padded 56 x.content

  parts : record_of x ≡ padded 64 x.name ++ behind_name
  unfolding record_of
  parts = refl

  pub name_part : name_field (record_of x) ≡ padded 64 x.name
  name_part = rw parts (take_at (padded 64 x.name) behind_name 64 (padded_length 64 x.name))

  behind_at : (i : ℕ) → get_or (record_of x) (64 + i) 0 ≡ get_or behind_name i 0
  behind_at i = rw parts (ap (λ n. get_or (padded 64 x.name ++ behind_name) (n + i) 0) (sym (padded_length 64 x.name))
      ∙ get_or-append-add (padded 64 x.name) behind_name i 0)

  behind_from : (i : ℕ) → drop (64 + i) (record_of x) ≡ drop i behind_name
  behind_from i = rw parts (ap (λ n. drop (n + i) (padded 64 x.name ++ behind_name)) (sym (padded_length 64 x.name))
      ∙ drop-append-add (padded 64 x.name) behind_name i)

  pub kind_part : kind_byte (record_of x) ≡ x.kind
  kind_part = behind_at 0

  pub length_part : length_byte (record_of x) ≡ length x.content
  length_part = behind_at 1

  pub zeros_part : take 6 (drop 66 (record_of x)) ≡ replicate 6 0
  zeros_part = rw (behind_from 2)

  pub content_part : drop 72 (record_of x) ≡ padded 56 x.content
  content_part = behind_from 8
