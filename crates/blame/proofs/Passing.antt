-- The nodes that pass a test: of two lists after each other, and of a list that a test picks. Then the form of `Leads` that the inductions use.
use Prim.Native.Nat.{ℕ}
use mathlib.Core.Path.{◌≡◌, refl, ap, sym, ◌∙◌}
use mathlib.Core.Bool.{Bool, true, false}
use mathlib.Core.List.{List, [], ◌∷◌, ◌++◌, map, append_assoc, append-nil}
use mathlib.Core.List.{Sublistᴰ}
use Rattle.text.specs.Bytes.{pick}
use Rattle.grammar.specs.Grammar.{Tree}
use Rattle.blame.specs.Nodes.{root, passing}
use Rattle.blame.proofs.Carried.{Leads}

module _ {K : Type 0} (p : Tree K → Bool) where
  pub passing_append : (ns ms : List (Tree K)) → passing p (ns ++ ms) ≡ passing p ns ++ passing p ms
  unfolding passing
  passing_append [] ms = refl
  passing_append (n ∷ ns) ms =
      ap (λ ls. pick (p n) (n ∷ []) [] ++ ls) (passing_append ns ms) ∙ sym (append_assoc (pick (p n) (n ∷ []) []) (passing p ns) (passing p ms))

  pub passing_cons : (n : Tree K) (ns : List (Tree K)) → passing p (n ∷ ns) ≡ pick (p n) (n ∷ []) [] ++ passing p ns
  unfolding passing
  passing_cons n ns = refl

  pub passing_one : (n : Tree K) → passing p (n ∷ []) ≡ pick (p n) (n ∷ []) []
  unfolding passing
  passing_one n = append-nil (pick (p n) (n ∷ []) [])

  pub passing_none : passing p [] ≡ []
  unfolding passing
  passing_none = refl

  pub passing_pick : (t : Bool) (ns ms : List (Tree K)) → passing p (pick t ns ms) ≡ pick t (passing p ns) (passing p ms)
  passing_pick true ns ms = refl
  passing_pick false ns ms = refl

  -- a node or not, before a list
  maybe : (t : Bool) (n : Tree K) (ns ms : List (Tree K)) → Sublistᴰ (map root ns) (map root ms)
      → Sublistᴰ (map root (pick t (n ∷ []) [] ++ ns)) (root n ∷ map root ms)
  maybe true n ns ms s = Sublistᴰ.cons-cons refl s
  maybe false n ns ms s = Sublistᴰ.cons s

  -- their root tokens are among those of all the nodes
  pub tokens_among : (ns : List (Tree K)) → Sublistᴰ (map root (passing p ns)) (map root ns)
  unfolding passing
  tokens_among [] = Sublistᴰ.slnil
  tokens_among (n ∷ ns) = maybe (p n) n (passing p ns) ns (tokens_among ns)

-- `Leads`, by cases of the test, over any list: what is carried, c, is what the first has
module _ {X C : Type 0} (has : X → C) where
  abbrev pub Says : Bool → List X → C → Type 0
  Says false xs c = xs ≡ []
  Says true xs c = (x : X) × (ys : List X) × (xs ≡ x ∷ ys) × (c ≡ has x)

  -- the first of two lists leads
  pub front : {xs : List X} {c d : C} → Says true xs c → (ys : List X) → d ≡ c → Says true (xs ++ ys) d
  front s ys e = (s.0, s.1 ++ ys, ap (λ zs. zs ++ ys) s.2, e ∙ s.3)

module _ {K : Type 0} (at : K → ℕ) where
  pub leads : {t : Bool} (ns : List (Tree K)) {p : ℕ} → Says (λ n. at (root n)) t ns p → Leads at t (map root ns) p
  leads ns {p} s = record { first = λ e. first (rw e at s); none = λ e. ap (map root) (rw e at s) }
    where
      first : Says (λ n. at (root n)) true ns p → (k : K) × (ks : List K) × (map root ns ≡ k ∷ ks) × (p ≡ at k)
      first s = (root s.0, map root s.1, ap (map root) s.2, s.3)
