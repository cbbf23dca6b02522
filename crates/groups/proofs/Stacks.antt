-- A selection represents the open groups: the innermost one, and the selection after a push, a change or a pop. Assumes nothing.
use Prim.Native.Nat.{ℕ, zero, suc, ◌+◌, ◌*◌, ◌/◌, ◌%◌, ◌≤◌, ◌<◌}
use native.Mathlib.Omega.{arith}
use native.Mathlib.Nat.{mul_assoc, mod-lt, mod-eq_of_lt, div-add-mod, mul-add-mod_self_left}
use native.Mathlib.Numerals.{add-one}
use mathlib.Core.Path.{◌≡◌, refl, sym, ap, ◌∙◌}
use mathlib.Core.List.{List, ◌∷◌}
use lib.ListN.{length, get_or, set}
use lib.Seq.{get_or-set_same, get_or-set_other}
use Rattle.own.specs.Own.{Own}
use Rattle.groups.specs.Groups.{group, innermost, state, replace}
use Rattle.groups.specs.Stack.{digit, flags_in, groups_in, groups_of, Represents}
use Rattle.groups.specs.declared.Flags.{Flags}
use Rattle.groups.specs.declared.Selection.{Selection}
use Rattle.groups.proofs.Digits.{digit_small, flags_back, flags_low}

pub as_many : (d w : ℕ) (ls : List ℕ) → length (groups_in d w ls) ≡ d
as_many zero w ls = refl
as_many (suc d) w ls = ap suc (as_many d (w / 16) ls)

-- what the rules know of the groups
pub some_open : (d w : ℕ) (ls : List ℕ) → (d ≡ 0 → ⊥) → innermost (groups_in d w ls) ≡ record { depth = d; flags = flags_in w }
some_open zero w ls h = absurd (h refl)
some_open (suc d) w ls h = rw (as_many d (w / 16) ls)

pub same_depth : (d w : ℕ) (ls : List ℕ) → (innermost (groups_in d w ls)).depth ≡ d
same_depth zero w ls = refl
same_depth (suc d) w ls = ap suc (as_many d (w / 16) ls)

-- a store past the lines of the open groups
above : (d w : ℕ) (ls : List ℕ) (i v : ℕ) → d ≤ i → groups_in d w (set ls i v) ≡ groups_in d w ls
above zero w ls i v h = refl
above (suc d) w ls i v h = rw (get_or-set_other ls i d v 0 (λ e. omega arith), above d (w / 16) ls i v (omega arith))

-- digits past those of the open groups
abbrev room : ℕ → ℕ
room zero = 1
room (suc k) = 16 * room k

room_some : (k : ℕ) → 0 < room k
room_some zero = omega arith
room_some (suc k) = omega (arith, room_some k)

module _ (w k : ℕ) where
  abbrev low : ℕ
  low = w % room (suc k)

  split : room k * (w / room (suc k)) * 16 + low ≡ w
  split = let e = div-add-mod w (16 * room k) in let m = mul_assoc 16 (room k) (w / (16 * room k)) in omega arith

  low_flags : flags_in low ≡ flags_in w
  low_flags = sym (flags_low (room k * (w / room (suc k))) low) ∙ ap flags_in split

  low_rest : low / 16 ≡ w / 16 % room k
  low_rest =
      let small : low < 16 * room k = mod-lt w (room_some (suc k)) in
      let s = split in
      let e : w / 16 ≡ room k * (w / room (suc k)) + low / 16 = omega arith in
      rw e (sym (mul-add-mod_self_left (room k) (w / room (suc k)) (low / 16) ∙ mod-eq_of_lt (omega arith)))

below : (k d w : ℕ) (ls : List ℕ) → d ≤ k → groups_in d (w % room k) ls ≡ groups_in d w ls
below k zero w ls h = refl
below zero (suc d) w ls h = absurd (omega arith)
below (suc k) (suc d) w ls h = rw (low_flags w k, low_rest w k, below k d (w / 16) ls (omega arith))

-- a number with a digit below it
module _ (v : ℕ) (f : Flags) where
  rest_back : (v * 16 + digit f) / 16 ≡ v
  rest_back = omega (arith, digit_small f)

  pub with_digit : (d : ℕ) (ls : List ℕ) → groups_in (suc d) (v * 16 + digit f) ls ≡ group f (get_or ls d 0) ∷ groups_in d v ls
  with_digit d ls = rw (flags_back v f, rest_back)

module _ (x : Selection) (k : ℕ) (o : List Own) where
  -- with other open groups, and the same lines
  abbrev changed : (depth states : ℕ) → Selection
  changed d w = record { depth = d; count = x.count + k; states = w; lines = x.lines }

  pub pushed : (f : Flags) (n : ℕ) → x.depth < 16 → length x.lines ≡ 16
      → Represents (record {
        depth = x.depth + 1;
        count = x.count + k;
        states = x.states % 1152921504606846976 * 16 + digit f;
        lines = set x.lines x.depth n;
      })
      (state (group f n ∷ groups_of x) (x.count + k) o)
  pushed f n h l =
      let d = x.depth in
      let w = x.states in
      let ls = set x.lines d n in
      let same : get_or ls d 0 ≡ n = get_or-set_same x.lines d n 0 (omega arith) in
      let e : groups_in (d + 1) (w % room 15 * 16 + digit f) ls ≡ group f n ∷ groups_in d w x.lines =
      rw (add-one, with_digit (w % room 15) f d ls, same, above d (w % room 15) x.lines d n (omega arith), below 15 d w x.lines (omega arith)) in
      record { shallow = omega arith; means = ap (λ gs. state gs (x.count + k) o) e }

  pub replaced : (f : Flags) → x.depth ≤ 16
      → Represents (changed x.depth (x.states / 16 * 16 + digit f)) (state (replace f (groups_of x)) (x.count + k) o)
  replaced f h = record { shallow = h; means = ap (λ gs. state gs (x.count + k) o) (by x.depth) }
    where
      by : (d : ℕ) → groups_in d (x.states / 16 * 16 + digit f) x.lines ≡ replace f (groups_in d x.states x.lines)
      by zero = refl
      by (suc d) = with_digit (x.states / 16) f d x.lines
