-- A run that continues after lines with a given meaning. Assumes nothing.
use Prim.Native.Nat.{ℕ, ◌+◌}
use native.Mathlib.Nat.{add-zero, add_assoc}
use mathlib.Core.Path.{◌≡◌, refl, sym, ap, ◌∙◌}
use mathlib.Core.List.{List, [], ◌∷◌, ◌++◌}
use lib.ListN.{length, length-append}
use Rattle.units.specs.declared.Fault.{Fault}
use Rattle.own.specs.Own.{Own}
use Rattle.select.specs.Select.{Result, accepted, refused, prepend}
use Rattle.blocks.specs.Meaning.{Meaning, means, fault, joined, ◌then◌}

-- marks before a result
abbrev pub onto : List ℕ → Result → Result
onto [] r = r
onto (m ∷ ms) r = prepend m (onto ms r)

onto_append : (ms ns : List ℕ) (r : Result) → onto (ms ++ ns) r ≡ onto ms (onto ns r)
onto_append [] ns r = refl
onto_append (m ∷ ms) ns r = ap (prepend m) (onto_append ms ns r)

pub onto_accepted : (ms ns : List ℕ) (c : ℕ) → onto ms (accepted ns c) ≡ accepted (ms ++ ns) c
onto_accepted [] ns c = refl
onto_accepted (m ∷ ms) ns c = ap (prepend m) (onto_accepted ms ns c)

pub onto_refused : (ms : List ℕ) (x : Fault) (n : ℕ) → onto ms (refused x n) ≡ refused x n
onto_refused [] x n = refl
onto_refused (m ∷ ms) x n = ap (prepend m) (onto_refused ms x n)

-- what comes after some lines: a result for each line number, count of operators and settings
abbrev pub Continues : Type 0
Continues = ℕ → ℕ → List Own → Result

-- from line n on, with k operators applied: the lines of the meaning, then the rest
abbrev pub follow : (n k : ℕ) → Meaning → Continues → Result
follow n k (means ms c own) rest = onto ms (rest (n + length ms) (k + c) own)
follow n k (fault x i) rest = refused x (n + i)

pub follow_ext : (n k : ℕ) (m : Meaning) (f g : Continues) → ((n k : ℕ) (own : List Own) → f n k own ≡ g n k own) → follow n k m f ≡ follow n k m g
follow_ext n k (means ms c own) f g h = ap (onto ms) (h (n + length ms) (k + c) own)
follow_ext n k (fault x i) f g h = refl

pub follow_none : (n k : ℕ) (own : List Own) (f : Continues) → follow n k (means [] 0 own) f ≡ f n k own
follow_none n k own f = rw (add-zero n, add-zero k)

follow_joined : (n k : ℕ) (ms : List ℕ) (c : ℕ) (b : Meaning) (f : Continues) → follow n k (joined ms c b) f ≡ onto ms (follow (n + length ms) (k + c) b f)
follow_joined n k ms c (means ns d own) f =
    onto_append ms ns (f (n + length (ms ++ ns)) (k + (c + d)) own)
    ∙ rw (length-append, ← add_assoc n, ← add_assoc k)
follow_joined n k ms c (fault x i) f = rw (← add_assoc n) (sym (onto_refused ms x (n + length ms + i)))

pub follow_then : (n k : ℕ) (a : Meaning) (b : List Own → Meaning) (f : Continues)
    → follow n k (a then b) f ≡ follow n k a (λ n' k' own. follow n' k' (b own) f)
follow_then n k (means ms c own) b f = follow_joined n k ms c (b own) f
follow_then n k (fault x i) b f = refl
