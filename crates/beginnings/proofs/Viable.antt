-- Where the parser fails, the tokens that it has read are a good beginning. A continuation is built from the inside out: a primary where an
-- operand is missing, a `)` for every open `(`, and a `:` and a primary for every `?` without its `:`.
use Prim.Native.Nat.{ℕ, zero, suc, ◌+◌, ◌≤◌, ◌<◌}
use native.Mathlib.Omega.{arith}
use mathlib.Core.Path.{◌≡◌, refl, ap, ◌∙◌}
use mathlib.Core.Bool.{true}
use mathlib.Core.List.{List, [], ◌∷◌, ◌++◌, append_assoc}
use lib.ListN.{length, drop}
use Rattle.codes.specs.Codes.{NUMBER, OPEN, CLOSE, QUESTION, COLON}
use Rattle.codes.specs.Levels.{is_unary, level_of}
use Rattle.grammar.specs.Grammar.{Tree, Leaf, Unary, Binary, Choice, Nonterminal, level, expression, is_primary}
use Rattle.grammar.specs.Grammar.{Derives, leaf, parentheses, unary, binary, looser, choice, plain}
use Rattle.grammar.specs.Parse.{Reads, Goal, find, extend, Result, bad, got, size}
use Rattle.grammar.specs.Decides.{trees, InTable}
use Rattle.beginnings.specs.Beginnings.{Supply}
use Rattle.grammar.proofs.Inside.{unary_inside, level_inside}
use Rattle.grammar.proofs.Sound.{Part, derived, here, part_looser, part_binary}
use Rattle.beginnings.proofs.Local.{elsewhere}
use Rattle.beginnings.proofs.Trace as Trace
use Rattle.beginnings.proofs.Trace.{Traces}

module _ {K : Type 0} (code : K → ℕ) (supply : Supply code) where
  -- a primary derives at every level
  abbrev any : K
  any = supply.token NUMBER

  alone : (k : ℕ) → k ≤ 12 → Derives code (level k) (any ∷ []) (Leaf any)
  unfolding is_primary
  alone zero l = leaf (ap is_primary (supply.coded NUMBER))
  alone (suc k) l = looser l (alone k (omega arith))

  -- the tokens from i on, up to e, with a continuation after them derive a tree
  pub record Viable (ts : List K) (x : Nonterminal) (i e : ℕ) : Type 0 where
    pub passed : List K
    pub continued : List K
    pub tree : Tree K
    pub derives : Derives code x (passed ++ continued) tree
    pub from : drop i ts ≡ passed ++ drop e ts

module _ {K : Type 0} {code : K → ℕ} {ts : List K} {tok : ℕ → K} (reads : Reads code ts tok) where
  -- the tokens that were read derive what is found
  pub part : (x : Nonterminal) (i : ℕ) (t : Tree K) (j : ℕ) → InTable x → Traces code trees tok (find x i) (got t j) → Part reads x i j t
  part x i t j l d =
      let fuel = suc (size {A = Tree K} (length ts) (find x i)) in
      derived reads fuel x i t j ((elsewhere reads.ends j (λ k h. refl) d (omega arith)).with_fuel fuel (omega arith)) l

module _ {K : Type 0} {code : K → ℕ} {ts : List K} {tok : ℕ → K} (reads : Reads code ts tok) (supply : Supply code) where
  -- from the part at which the parser failed to the part around it
  module _ (i z : ℕ) where
    viable_none : Viable code supply ts (level 0) i i
    viable_none =
        record {
          passed = [];
          continued = any code supply ∷ [];
          tree = Leaf (any code supply);
          derives = alone code supply 0 (omega arith);
          from = refl;
        }

    viable_enclosed : code (tok i) ≡ OPEN → Viable code supply ts expression (i + 1) z → Viable code supply ts (level 0) i z
    viable_enclosed h u =
        record {
          passed = tok i ∷ u.passed;
          continued = u.continued ++ supply.token CLOSE ∷ [];
          tree = u.tree;
          derives = rw append_assoc at (parentheses h u.derives (supply.coded CLOSE));
          from = here reads i OPEN (omega arith) h ∙ rw u.from;
        }

    viable_unclosed : (a : Tree K) → code (tok i) ≡ OPEN → Part reads expression (i + 1) z a → Viable code supply ts (level 0) i z
    unfolding Part
    viable_unclosed a h p =
        record {
          passed = tok i ∷ p.0;
          continued = supply.token CLOSE ∷ [];
          tree = a;
          derives = parentheses h p.1 (supply.coded CLOSE);
          from = here reads i OPEN (omega arith) h ∙ rw p.2;
        }

    viable_unary : is_unary (code (tok i)) ≡ true → Viable code supply ts (level 1) (i + 1) z → Viable code supply ts (level 1) i z
    viable_unary h u =
        record {
          passed = tok i ∷ u.passed;
          continued = u.continued;
          tree = Unary (tok i) u.tree;
          derives = unary h u.derives;
          from = reads.each i (unary_inside reads.ends i h) ∙ rw u.from;
        }

    viable_looser : (k : ℕ) → k < 12 → Viable code supply ts (level k) i z → Viable code supply ts (level (suc k)) i z
    viable_looser k l u =
        record { passed = u.passed; continued = u.continued; tree = u.tree; derives = looser l u.derives; from = u.from }

    viable_test : Viable code supply ts (level 12) i z → Viable code supply ts expression i z
    viable_test u = record { passed = u.passed; continued = u.continued; tree = u.tree; derives = plain u.derives; from = u.from }

    viable_right : (k j : ℕ) (a : Tree K) → 0 < k → k < 12 → Part reads (level (suc k)) i j a → level_of (code (tok j)) ≡ suc k
        → Viable code supply ts (level k) (j + 1) z → Viable code supply ts (level (suc k)) i z
    unfolding Part
    viable_right k j a p b d e u =
        record {
          passed = d.0 ++ tok j ∷ u.passed;
          continued = u.continued;
          tree = Binary (tok j) a u.tree;
          derives = rw append_assoc (binary p b d.1 e u.derives);
          from = d.2 ∙ rw (reads.each j (level_inside reads.ends j k b e), u.from, append_assoc);
        }

    module _ (j : ℕ) (c : Tree K) (d : Part reads (level 12) i j c) (h : code (tok j) ≡ QUESTION) where
      viable_first : Viable code supply ts expression (j + 1) z → Viable code supply ts expression i z
      unfolding Part
      viable_first u =
          record {
            passed = d.0 ++ tok j ∷ u.passed;
            continued = u.continued ++ supply.token COLON ∷ any code supply ∷ [];
            tree = Choice (tok j) c u.tree (Leaf (any code supply));
            derives =
                simp append_assoc
                (simp append_assoc at (choice h (supply.coded COLON) d.1 u.derives (plain (alone code supply 12 (omega arith)))));
            from = d.2 ∙ rw (here reads j QUESTION (omega arith) h, u.from, append_assoc);
          }

      viable_no_colon : (a : Tree K) → Part reads expression (j + 1) z a → Viable code supply ts expression i z
      unfolding Part
      viable_no_colon a f =
          record {
            passed = d.0 ++ tok j ∷ f.0;
            continued = supply.token COLON ∷ any code supply ∷ [];
            tree = Choice (tok j) c a (Leaf (any code supply));
            derives = choice h (supply.coded COLON) d.1 f.1 (plain (alone code supply 12 (omega arith)));
            from = d.2 ∙ rw (here reads j QUESTION (omega arith) h, f.2, append_assoc);
          }

      viable_second : (q : ℕ) (a : Tree K) → Part reads expression (j + 1) q a → code (tok q) ≡ COLON
          → Viable code supply ts expression (q + 1) z → Viable code supply ts expression i z
      unfolding Part
      viable_second q a f g u =
          record {
            passed = d.0 ++ tok j ∷ f.0 ++ tok q ∷ u.passed;
            continued = u.continued;
            tree = Choice (tok j) c a u.tree;
            derives = rw (append_assoc (d.0 ++ tok j ∷ f.0)) (choice h g d.1 f.1 u.derives);
            from = d.2 ∙ rw (here reads j QUESTION (omega arith) h, f.2, here reads q COLON (omega arith) g, u.from) (simp append_assoc);
          }

  -- the property of a failure; a left operand that is extended may start anywhere
  abbrev pub Going : Goal (Tree K) → Result (Tree K) → Type 0
  Going (find x i) (bad e) = Viable code supply ts x i e
  Going (find x i) (got a j) = Unit
  Going (extend k a j) (bad e) = (h : ℕ) → Part reads (level (suc k)) h j a → Viable code supply ts (level (suc k)) h e
  Going (extend k a j) (got b q) = Unit

  -- a result that is passed on unchanged
  handed : (i : ℕ) (r : Result (Tree K)) → Going (find (level 0) i) r → Going (find (level 1) i) r
  handed i (bad z) u = viable_looser i z 0 (omega arith) u
  handed i (got a j) u = tt

  handed_level : (k i j : ℕ) (a : Tree K) (r : Result (Tree K)) → Part reads (level (suc (suc k))) i j a → Going (extend (suc k) a j) r
      → Going (find (level (suc (suc k))) i) r
  handed_level k i j a (bad z) p u = u i p
  handed_level k i j a (got b q) p u = tt

  handed_longer : (k j q : ℕ) (a b : Tree K) (r : Result (Tree K)) → 0 < k → k < 12 → level_of (code (tok j)) ≡ suc k → Part reads (level k) (j + 1) q b
      → Going (extend k (Binary (tok j) a b) q) r → Going (extend k a j) r
  handed_longer k j q a b (bad z) p l e f u = λ h d. u h (part_binary reads k h j q a b p l d e f)
  handed_longer k j q a b (got c s) p l e f u = tt

  pub viable : {g : Goal (Tree K)} {r : Result (Tree K)} → Traces code trees tok g r → Going g r
  viable (Trace.leaf h) = tt
  viable (Trace.none {i} h e) = viable_none i i
  viable (Trace.enclosed_bad {i} {z} h d) = viable_enclosed i z h (viable d)
  viable (Trace.unclosed {i} {j} {a} h d e) = viable_unclosed i j a h (part reads expression (i + 1) a j tt d)
  viable (Trace.closed h d e) = tt
  viable (Trace.unary_bad {i} {z} h d) = viable_unary i z h (viable d)
  viable (Trace.unary h d) = tt
  viable (Trace.operand {i} {r} h d) = handed i r (viable d)
  viable (Trace.level_bad {k} {i} {z} h d) = viable_looser i z (suc k) h (viable d)
  viable (Trace.extended {k} {i} {j} {a} {r} h d f) =
      handed_level k i j a r (part_looser reads (suc k) i j a h (part reads (level (suc k)) i a j (omega arith) d)) (viable f)
  viable (Trace.done h) = tt
  viable (Trace.right_bad {k} {j} {z} {a} p h e d) = λ s q. viable_right s z k j a p h q e (viable d)
  viable (Trace.longer {k} {j} {q} {a} {b} {r} p h e d f) = handed_longer k j q a b r p h e (part reads (level k) (j + 1) b q (omega arith) d) (viable f)
  viable (Trace.test_bad {i} {z} d) = viable_test i z (viable d)
  viable (Trace.plain d h) = tt
  viable (Trace.first_bad {i} {j} {z} {c} d h f) = viable_first i z j c (part reads (level 12) i c j (omega arith) d) h (viable f)
  viable (Trace.no_colon {i} {j} {q} {c} {a} d h f e) =
      viable_no_colon i q j c (part reads (level 12) i c j (omega arith) d) h a (part reads expression (j + 1) a q tt f)
  viable (Trace.second_bad {i} {j} {q} {z} {c} {a} d h f e g) =
      viable_second i z j c (part reads (level 12) i c j (omega arith) d) h q a (part reads expression (j + 1) a q tt f) e (viable g)
  viable (Trace.choice d h f e g) = tt
