-- An order evaluates to the result of the grammar's parser on the same tokens: the parser takes the same steps over tokens and over their
-- numbers, and its result over the numbers is the order of its result over the tokens. Assumes nothing.
use Prim.Native.Nat.{ℕ, zero, suc, ◌+◌, ◌-◌, ◌≤◌, ◌<◌}
use native.Mathlib.Omega.{arith}
use mathlib.Core.Path.{◌≡◌, refl, ap}
use mathlib.Core.Bool.{Bool, true, false}
use mathlib.Core.List.{List, [], ◌∷◌, ◌++◌, append_assoc, append-nil}
use lib.ListN.{length, length-append}
use lib.Dec.{eqb}
use borrow.Author.Tests.{eqb-true, le-ltb}
use Rattle.text.specs.Bytes.{pick}
use Rattle.codes.specs.Codes.{OPEN, CLOSE, QUESTION, COLON}
use Rattle.codes.specs.Levels.{is_unary, level_of}
use Rattle.grammar.specs.Grammar.{Nonterminal, level, expression, is_primary}
use Rattle.grammar.specs.Parse.{END, Goal, find, extend, Result, bad, got, and_then, step, run, size, Yields}
use Rattle.grammar.specs.Decides.{InTable}
use Rattle.grammar.proofs.Codes.{primary_level, question_level}
use Rattle.grammar.proofs.Inside.{primary_inside, level_inside, code_inside}
use Rattle.syntax.specs.Order.{UNARY, FILLER, postfix, Ordered}
use Rattle.syntax.proofs.Orders.{ended}
use Rattle.value.specs.Values.{skips}
use Rattle.value.specs.Attributes.{Attributes, first_arm, primary_of, unary_from, binary_from, choice_from}
use Rattle.value.specs.declared.Attributes.{Attributes as CodedAttributes}
use Rattle.value.specs.Denote.{InOneRecord, denote_attributes}
use Rattle.value.proofs.Laws.{skipped_most, chosen_most}
use Rattle.value.proofs.OneRecord.{primary_recorded, unary_recorded, binary_recorded, choice_recorded}
use Rattle.expression.specs.Meaning.{code_of, meaning}
use Rattle.expression.specs.Postfix.{Input, memory_of, code_in, token_in, Gives}
use Rattle.expression.proofs.Entries.{is_unary_lem, is_operand, is_filler, is_choice, is_binary}

-- a binary operator is no primary, and neither is a `?` or the end
level_not_primary : (c k : ℕ) → k < 12 → level_of c ≡ suc k → is_primary c ≡ false
level_not_primary c k h e = by (is_primary c) refl
  where
    by : (t : Bool) → is_primary c ≡ t → t ≡ false
    by false f = refl
    by true f = absurd (omega (arith, e, h, primary_level c f))

question_not_primary : (c : ℕ) → c ≡ QUESTION → is_primary c ≡ false
unfolding is_primary
question_not_primary c e = ap is_primary e

end_not_primary : (c : ℕ) → c ≡ END → is_primary c ≡ false
unfolding is_primary
end_not_primary c e = ap is_primary e

-- one step, and a run with fuel, over the numbers of the tokens and over the tokens
abbrev order_step : Input → (Goal (List ℕ) → Result (List ℕ)) → Goal (List ℕ) → Result (List ℕ)
order_step i rec g = step (code_in i) postfix (λ j. j) rec g

abbrev orders : Input → ℕ → Goal (List ℕ) → Result (List ℕ)
orders i fuel g = run (code_in i) postfix (λ j. j) fuel g

abbrev parse_step : Input → (Goal Attributes → Result Attributes) → Goal Attributes → Result Attributes
parse_step i rec g = step code_of (meaning (memory_of i)) (token_in i) rec g

abbrev parses : Input → ℕ → Goal Attributes → Result Attributes
parses i fuel g = run code_of (meaning (memory_of i)) (token_in i) fuel g

module _ (i : Input) (most : ℕ) (few : i.n ≤ 200) where
  -- the entries l leave the operand a, and need no more room than half their number
  record Makes (l : List ℕ) (a : Attributes) : Type 0 where
    weight : ℕ
    some : 1 ≤ weight
    half : weight + weight ≤ length l + 1
    count : a.count < length l
    recorded : InOneRecord a.value
    runs : (s : List Attributes) (k : List ℕ) (v : Attributes) → length s + weight ≤ most → length l ≤ 200
        → Gives i most (a ∷ s) k v → Gives i most s (l ++ k) v

  leaf : (x : ℕ) → is_primary (code_in i x) ≡ true → Makes (x ∷ []) (primary_of (memory_of i) (token_in i x))
  leaf x f =
      let inside = primary_inside (ended i.codes i.n) x f in
      record {
        weight = 1;
        some = omega arith;
        half = omega arith;
        count = omega arith;
        recorded = primary_recorded (memory_of i) (token_in i x);
        runs = λ s k v h g u. rw (is_operand i x (omega arith) f) (omega arith, u);
      }

  unary : (x : ℕ) (l : List ℕ) (a : Attributes) → Makes l a → Makes (l ++ ((UNARY + x) ∷ [])) (unary_from (token_in i x) a)
  unary x l a m =
      let z = length-append l ((UNARY + x) ∷ []) in
      let q : UNARY + x - UNARY ≡ x = omega arith in
      record {
        weight = m.weight;
        some = m.some;
        half = omega (arith, z, m.half);
        count = omega (arith, z, m.count);
        recorded = unary_recorded (token_in i x).code (token_in i x).start a.value;
        runs = λ s k v h g u.
            rw (append_assoc l ((UNARY + x) ∷ []) k)
            (m.runs s ((UNARY + x) ∷ k) v h (omega (arith, z, g))
            (rw (is_unary_lem i (UNARY + x) (omega arith))
            (record { a = a; rest = s; shape = refl; few = omega (arith, z, g, m.count); next = rw q u })));
      }

  binary : (o k' : ℕ) → k' < 12 → level_of (code_in i o) ≡ suc k' → (l : List ℕ) (a : Attributes) → Makes l a → (r : List ℕ) (b : Attributes) → Makes r b
      → Makes (l ++ (r ++ (o ∷ []))) (binary_from (token_in i o) a b)
  binary o k' h f l a m r b w =
      let inside = level_inside (ended i.codes i.n) o k' h f in
      let y = length-append l (r ++ (o ∷ [])) in
      let z = length-append r (o ∷ []) in
      let x = skipped_most (skips (code_in i o) a.value) b.count in
      let other = level_not_primary (code_in i o) k' h f in
      let j = is_binary i o (omega arith) other (λ q. omega (arith, q)) (λ q. omega (arith, question_level (code_in i o) q)) in
      record {
        weight = m.weight + w.weight;
        some = omega (arith, m.some);
        half = omega (arith, y, z, m.half, w.half);
        count = omega (arith, x, y, z, m.count, w.count);
        recorded = binary_recorded (token_in i o).code (token_in i o).start a.value b.value;
        runs = λ s k v p g u.
            rw (append_assoc l (r ++ (o ∷ [])) k, append_assoc r (o ∷ []) k)
            (m.runs s (r ++ (o ∷ k)) v (omega (arith, p)) (omega (arith, y, g))
            (w.runs (a ∷ s) (o ∷ k) v (omega (arith, p, m.some)) (omega (arith, y, z, g))
            (rw j (record {
              a = a;
              b = b;
              rest = s;
              shape = refl;
              few = omega (arith, y, z, g, m.count, w.count);
              recorded = (m.recorded, w.recorded);
              next = u;
            }))));
      }

  choice : (q : ℕ) → code_in i q ≡ QUESTION → (l : List ℕ) (c : Attributes) → Makes l c → (r : List ℕ) (a : Attributes) → Makes r a
      → (d : List ℕ) (b : Attributes) → Makes d b
      → Makes (l ++ (r ++ (d ++ (q ∷ FILLER ∷ [])))) (choice_from (token_in i q) c a b)
  choice q f l c m r a w d b x =
      let inside = code_inside (ended i.codes i.n) q QUESTION (omega arith) f in
      let y = length-append l (r ++ (d ++ (q ∷ FILLER ∷ []))) in
      let z = length-append r (d ++ (q ∷ FILLER ∷ [])) in
      let y' = length-append d (q ∷ FILLER ∷ []) in
      let z' = chosen_most (first_arm c.value) a.count b.count in
      let j = is_choice i q (omega arith) (question_not_primary (code_in i q) f) (λ h. omega (arith, h)) f in
      let idle = is_filler i FILLER (omega arith) (end_not_primary (code_in i FILLER) (rw (le-ltb FILLER i.n (omega arith)))) refl in
      record {
        weight = m.weight + w.weight + x.weight;
        some = omega (arith, m.some);
        half = omega (arith, y, z, y', m.half, w.half, x.half);
        count = omega (arith, y, z, y', z', m.count, w.count, x.count);
        recorded = choice_recorded (token_in i q).start c.value a.value b.value w.recorded x.recorded;
        runs = λ s k v p g u.
            rw (append_assoc l (r ++ (d ++ (q ∷ FILLER ∷ []))) k, append_assoc r (d ++ (q ∷ FILLER ∷ [])) k, append_assoc d (q ∷ FILLER ∷ []) k)
            (m.runs s (r ++ (d ++ (q ∷ FILLER ∷ k))) v (omega (arith, p)) (omega (arith, y, g))
            (w.runs (c ∷ s) (d ++ (q ∷ FILLER ∷ k)) v (omega (arith, p, m.some)) (omega (arith, y, z, g))
            (x.runs (a ∷ c ∷ s) (q ∷ FILLER ∷ k) v (omega (arith, p, m.some, w.some)) (omega (arith, y, z, y', g))
            (rw j
            (record {
              c = c;
              a = a;
              b = b;
              rest = s;
              shape = refl;
              few = omega (arith, y, z, y', g, m.count, w.count, x.count);
              next = rw idle u;
            })))));
      }

  -- corresponding results of the two parsers
  data Alike : Result (List ℕ) → Result Attributes → Type 0 where
    bads : {x : ℕ} → Alike (bad x) (bad x)
    gots : {l : List ℕ} {a : Attributes} {j : ℕ} → Makes l a → Alike (got l j) (got a j)

  both : (b : Bool) (x y : Result (List ℕ)) (x' y' : Result Attributes) → (b ≡ true → Alike x x') → (b ≡ false → Alike y y') → Alike (pick b x y) (pick b x' y')
  both true x y x' y' p q = p refl
  both false x y x' y' p q = q refl

  onward : (r : Result (List ℕ)) (r' : Result Attributes) (k : List ℕ → ℕ → Result (List ℕ)) (k' : Attributes → ℕ → Result Attributes) → Alike r r'
      → ((l : List ℕ) (a : Attributes) (j : ℕ) → Makes l a → Alike (k l j) (k' a j)) → Alike (and_then r k) (and_then r' k')
  onward r r' k k' bads h = bads
  onward r r' k k' (gots {l} {a} {j} m) h = h l a j m

  record Agree (fuel : ℕ) : Type 0 where
    finds : (x : Nonterminal) (j : ℕ) → InTable x → Alike (orders i fuel (find x j)) (parses i fuel (find x j))
    extends : (k : ℕ) (l : List ℕ) (a : Attributes) (j : ℕ) → k < 12 → Makes l a → Alike (orders i fuel (extend k l j)) (parses i fuel (extend k a j))

  found : (fuel : ℕ) → Agree fuel → (x : Nonterminal) (j : ℕ) → InTable x
      → Alike (order_step i (orders i fuel) (find x j)) (parse_step i (parses i fuel) (find x j))
  found fuel r (level zero) x h =
      both (is_primary (code_in i x)) _ _ _ _ (λ f. gots (leaf x f))
      (λ f. both (eqb (code_in i x) OPEN) _ _ _ _
      (λ g. onward _ _ _ _ (r.finds expression (x + 1) tt) (λ l a j m. both (eqb (code_in i j) CLOSE) _ _ _ _ (λ q. gots m) (λ q. bads)))
      (λ g. bads))
  found fuel r (level (suc zero)) x h =
      both (is_unary (code_in i x)) _ _ _ _
      (λ f. onward _ _ _ _ (r.finds (level 1) (x + 1) (omega arith)) (λ l a j m. gots (unary x l a m)))
      (λ f. r.finds (level 0) x (omega arith))
  found fuel r (level (suc (suc k))) x h =
      onward _ _ _ _ (r.finds (level (suc k)) x (omega arith)) (λ l a j m. r.extends (suc k) l a j (omega arith) m)
  found fuel r expression x h =
      onward _ _ _ _ (r.finds (level 12) x (omega arith))
      (λ l c j m. both (eqb (code_in i j) QUESTION) _ _ _ _
      (λ f. onward _ _ _ _ (r.finds expression (j + 1) tt)
      (λ d a q w. both (eqb (code_in i q) COLON) _ _ _ _
      (λ g. onward _ _ _ _ (r.finds expression (q + 1) tt) (λ y b s z. gots (choice j (eqb-true (code_in i j) QUESTION f) l c m d a w y b z)))
      (λ g. bads)))
      (λ f. gots m))

  extended : (fuel : ℕ) → Agree fuel → (k : ℕ) (l : List ℕ) (a : Attributes) (j : ℕ) → k < 12 → Makes l a
      → Alike (order_step i (orders i fuel) (extend k l j)) (parse_step i (parses i fuel) (extend k a j))
  extended fuel r k l a j h m =
      both (eqb (level_of (code_in i j)) (suc k)) _ _ _ _
      (λ f. onward _ _ _ _ (r.finds (level k) (j + 1) (omega arith))
      (λ d b q w. r.extends k (l ++ (d ++ (j ∷ []))) (binary_from (token_in i j) a b) q h
      (binary j k h (eqb-true (level_of (code_in i j)) (suc k) f) l a m d b w)))
      (λ f. gots m)

  agree : (fuel : ℕ) → Agree fuel
  unfolding run
  agree zero = record { finds = λ x j h. bads; extends = λ k l a j h m. bads }
  agree (suc fuel) = record { finds = found fuel (agree fuel); extends = extended fuel (agree fuel) }

  -- if the descent meets a fault, so does the parser
  pub faulted : (z : ℕ) → Ordered i.codes i.n (find expression 0) (bad z)
      → Yields code_of (meaning (memory_of i)) (token_in i) i.n (find expression 0) (bad z)
  faulted z u = record { with_fuel = λ fuel h. same ((agree fuel).finds expression 0 tt) (u.with_fuel fuel h) }
    where
      same : {x : Result (List ℕ)} {r : Result Attributes} → Alike x r → x ≡ bad z → r ≡ bad z
      same bads q = cc
      same (gots m) q = let w : ◌≡◌ {A = ℕ} 0 1 = cc in absurd (omega arith)

  -- an order leaves the result of the parser
  module _ (l : List ℕ) (j : ℕ) (all : length l ≤ 200) (room : length l ≤ most + most) where
    gives : (a : Attributes) → Makes l a → Gives i most [] l a
    gives a m = rw (append-nil l) at (m.runs [] [] a (omega (arith, m.half)) all refl)

    pub valued : Ordered i.codes i.n (find expression 0) (got l j) → (a : Attributes) × Gives i most [] l a
    valued u =
        let fuel = suc (size {A = List ℕ} i.n (find expression 0)) in
        some ((agree fuel).finds expression 0 tt) (u.with_fuel fuel (omega arith))
      where
        some : {x : Result (List ℕ)} {r : Result Attributes} → Alike x r → x ≡ got l j → (a : Attributes) × Gives i most [] l a
        some bads q = let w : ◌≡◌ {A = ℕ} 0 1 = cc in absurd (omega arith)
        some (gots {l = y} {a} m) q = let w : y ≡ l = cc in (a, gives a (rw w at m))

    pub come : Ordered i.codes i.n (find expression 0) (got l j) → (z : CodedAttributes) →
        ((v : Attributes) → Gives i most [] l v → denote_attributes (memory_of i) z ≡ v)
        → Yields code_of (meaning (memory_of i)) (token_in i) i.n (find expression 0) (got (denote_attributes (memory_of i) z) j)
    come u z f = record { with_fuel = λ fuel h. same ((agree fuel).finds expression 0 tt) (u.with_fuel fuel h) }
      where
        same : {x : Result (List ℕ)} {r : Result Attributes} → Alike x r → x ≡ got l j → r ≡ got (denote_attributes (memory_of i) z) j
        same bads q = let w : ◌≡◌ {A = ℕ} 0 1 = cc in absurd (omega arith)
        same (gots {l = y} {a} {j = p} m) q =
            let w : y ≡ l = cc in
            let g : p ≡ j = cc in
            rw (f a (gives a (rw w at m)), g)
