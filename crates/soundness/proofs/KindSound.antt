-- If the kinds in an expression do not clash, its value has its kind, or evaluation met 11 or 12. One law for each form, from the same of
-- its operands. Assumes nothing.
use Rattle.std.specs.Prelude.{Err, Ok, Result}
use Prim.Native.Nat.{ℕ, ◌+◌, ◌*◌, ◌-◌, ◌/◌, ◌%◌, ◌^◌}
use mathlib.Core.Path.{◌≡◌, refl, sym, ap, ◌∙◌}
use mathlib.Core.Logic.{inl, inr}
use mathlib.Core.Bool.{Bool, true, false, ◌&&◌, false≢true}
use lib.Dec.{eqb, ltb, leb}
use borrow.Author.Tests.{eqb-true}
use Rattle.units.specs.declared.Reason.{Reason}
use Rattle.units.specs.declared.Reason.TheVariants.{DivisorZero, ResultRange}
use Rattle.text.specs.Bytes.{pick}
use Rattle.text.proofs.Laws.{pick_case, and_left, and_right}
use Rattle.lookup.specs.declared.TextKind.{TextKind}
use Rattle.lookup.specs.declared.TextKind.TheVariants.{String as TextString, Wide as TextWide}
use Rattle.token.specs.Tokens.{Token}
use Rattle.arithmetic.specs.Operators.{Unary, negation, complement, minus, plus, apply_unary, unary, Binary, product, quotient, remainder, sum}
use Rattle.arithmetic.specs.Operators.{difference, shift_left, shift_right, bit_and, bit_xor, bit_or, and, xor, or, apply_binary, binary}
use Rattle.value.specs.Places.{Memory}
use Rattle.value.specs.Kinds.{kind_number, of_text, is_number, alike_kinds, compares, suits, clashes, clash_or}
use Rattle.value.specs.Kinds.{unary_kind, binary_kind, choice_kind}
use Rattle.value.proofs.Clashes.{no_clash, a_clash}
use Rattle.value.specs.Values.{Value, number, text, fault, kind_of, RuntimeRefusal, HasKind, result_of}
use Rattle.value.specs.Values.{unary_value, skips, both_values, binary_value, choice_value}
use Rattle.value.specs.Attributes.{Attributes, primary_of, unary_from, binary_from, choice_from}
use Rattle.value.specs.declared.Kind.{Kind}
use Rattle.value.specs.declared.Kind.TheVariants.{Number, String, Wide, Clash}

-- attributes whose kind is no clash have a value of that kind, or a refusal of evaluation
abbrev pub KindSound : Attributes → Type 0
KindSound a = clashes a.kind ≡ false → HasKind a.kind a.value

-- an outcome of arithmetic: a number, or a refusal of evaluation
Timely : Result ℕ Reason → Type 0
Timely (Ok x) = Unit
Timely (Err n) = RuntimeRefusal n

result_suits : (at : ℕ) (r : Result ℕ Reason) → Timely r → HasKind Number (result_of at r)
unfolding Timely
result_suits at (Ok x) h = refl
result_suits at (Err n) h = h

either : (t : Bool) (r s : Result ℕ Reason) → Timely r → Timely s → Timely (pick t r s)
either true r s h k = h
either false r s h k = k

changed_timely : (o : Unary) (x : ℕ) → Timely (apply_unary o x)
unfolding Timely apply_unary
changed_timely negation x = tt
changed_timely complement x = tt
changed_timely minus x = either (leb x 0) (Ok (0 - x)) (Err ResultRange) tt (inl refl)
changed_timely plus x = tt

ranged_timely : (v : ℕ) → Timely (pick (ltb v (2 ^ 64)) (Ok v) (Err ResultRange))
unfolding Timely
ranged_timely v = either (ltb v (2 ^ 64)) (Ok v) (Err ResultRange) tt (inl refl)

divided_timely : (y v : ℕ) → Timely (pick (eqb y 0) (Err DivisorZero) (Ok v))
unfolding Timely
divided_timely y v = either (eqb y 0) (Err DivisorZero) (Ok v) (inr refl) tt

applied_timely : (o : Binary) (x y : ℕ) → Timely (apply_binary o x y)
unfolding Timely apply_binary
applied_timely product x y = ranged_timely (x * y)
applied_timely quotient x y = divided_timely y (x / y)
applied_timely remainder x y = divided_timely y (x % y)
applied_timely sum x y = ranged_timely (x + y)
applied_timely difference x y = either (leb y x) (Ok (x - y)) (Err ResultRange) tt (inl refl)
applied_timely shift_left x y = ranged_timely (x * 2 ^ y)
applied_timely shift_right x y = tt
applied_timely bit_and x y = tt
applied_timely bit_xor x y = tt
applied_timely bit_or x y = tt
applied_timely and x y = tt
applied_timely xor x y = tt
applied_timely or x y = tt

-- no kind clashes and does not
never : (k : Kind) → clashes k ≡ true → clashes k ≡ false → ⊥
never k h n = false≢true (sym n ∙ h)

-- a primary: its kind is that of its value
leaf_suits : (v : Value) → clashes (kind_of v) ≡ false → HasKind (kind_of v) v
leaf_suits (number x) n = refl
leaf_suits (text k p s) n = refl
leaf_suits (fault f) n = absurd (false≢true (sym n))

-- a string is no number
text_number : (k : TextKind) → is_number (of_text k) ≡ false
text_number TextString = refl
text_number TextWide = refl

number_text : (k : TextKind) → eqb 0 (kind_number (of_text k)) ≡ false
number_text TextString = refl
number_text TextWide = refl

pub no_number : (k : TextKind) (j : Kind) → j ≡ of_text k → is_number j ≡ true → ⊥
no_number k j e h = false≢true (sym (text_number k) ∙ ap is_number (sym e) ∙ h)

-- a unary operator: a number becomes a number
number_suits : (o at : ℕ) (v : Value) → HasKind Number v → HasKind Number (unary_value o at v)
unfolding unary_value
number_suits o at (number x) h = result_suits at (apply_unary (unary o) x) (changed_timely (unary o) x)
number_suits o at (text k p s) h = absurd (no_number k Number h refl)
number_suits o at (fault f) h = h

unary_suits : (o at : ℕ) (k : Kind) (v : Value) → (clashes k ≡ false → HasKind k v) → clashes (unary_kind at k) ≡ false
    → HasKind (unary_kind at k) (unary_value o at v)
unfolding unary_kind clash_or
unary_suits o at Number v h n = number_suits o at v (h refl)
unary_suits o at String v h n = absurd (false≢true (sym n))
unary_suits o at Wide v h n = absurd (false≢true (sym n))
unary_suits o at (Clash p) v h n = absurd (false≢true (sym n))

-- a binary operator whose kind is no clash: its operands suit it, and it gives a number
pub record Suited (o at : ℕ) (j k : Kind) : Type 0 where
  pub left : clashes j ≡ false
  pub right : clashes k ≡ false
  pub suit : suits o j k ≡ true
  pub number : binary_kind o at j k ≡ Number

pub suited : (o at : ℕ) (j k : Kind) → clashes (binary_kind o at j k) ≡ false → Suited o at j k
unfolding binary_kind
suited o at j k n = by_left (clashes j) refl
  where
    own : clashes j ≡ false → clashes k ≡ false → binary_kind o at j k ≡ pick (suits o j k) Number (Clash at)
    own l r = no_clash j _ l ∙ no_clash k _ r

    by_suit : clashes j ≡ false → clashes k ≡ false → (b : Bool) → suits o j k ≡ b → Suited o at j k
    by_suit l r true e = record { left = l; right = r; suit = e; number = own l r ∙ rw e }
    by_suit l r false e = absurd (never (binary_kind o at j k) (rw (own l r, e)) n)

    by_right : clashes j ≡ false → (b : Bool) → clashes k ≡ b → Suited o at j k
    by_right l false r = by_suit l r (suits o j k) refl
    by_right l true r = absurd (never (binary_kind o at j k) (rw (no_clash j _ l, a_clash k _ r) r) n)

    by_left : (b : Bool) → clashes j ≡ b → Suited o at j k
    by_left false l = by_right l (clashes k) refl
    by_left true l = absurd (never (binary_kind o at j k) (rw (a_clash j _ l) l) n)

mixed : (t : Bool) → pick t false false ≡ false
mixed true = refl
mixed false = refl

module _ (o at : ℕ) (j k : Kind) (u : Suited o at j k) where
  -- both operands are evaluated
  both_suit : (v w : Value) → HasKind j v → HasKind k w → HasKind Number (both_values o at v w)
  unfolding both_values
  both_suit (number x) (number y) h i =
      pick_case (λ (z : Value). HasKind Number z) (compares o) (λ _. refl)
      (λ _. result_suits at (apply_binary (binary o) x y) (applied_timely (binary o) x y))
  both_suit (number x) (text l q t) h i =
      absurd (false≢true (sym (rw (h, i, text_number l, number_text l) (mixed (compares o))) ∙ u.suit))
  both_suit (number x) (fault f) h i = i
  both_suit (text l p s) (number y) h i = absurd (false≢true (sym (rw (h, i, text_number l) (mixed (compares o))) ∙ u.suit))
  both_suit (text a p s) (text b q t) h i =
      pick_case (λ (z : Value). HasKind Number z) (suits o (of_text a) (of_text b)) (λ _. refl)
      (λ e. absurd (false≢true (sym (rw (h, i) e) ∙ u.suit)))
  both_suit (text l p s) (fault f) h i = i
  both_suit (fault f) w h i = h

  binary_suits : (v w : Value) → (clashes j ≡ false → HasKind j v) → (clashes k ≡ false → HasKind k w)
      → HasKind (binary_kind o at j k) (binary_value o at v w)
  unfolding binary_value
  binary_suits v w h i =
      rw u.number (pick_case (λ (z : Value). HasKind Number z) (skips o v) (λ _. refl) (λ _. both_suit v w (h u.left) (i u.right)))

-- two kinds of one number that is no clash's are equal
kind_numbered : ℕ → Kind
kind_numbered n = pick (eqb n 0) Number (pick (eqb n 1) String Wide)

told : (k : Kind) → clashes k ≡ false → kind_numbered (kind_number k) ≡ k
unfolding kind_numbered
told Number n = refl
told String n = refl
told Wide n = refl
told (Clash p) n = absurd (false≢true (sym n))

same_kind : (j k : Kind) → clashes j ≡ false → clashes k ≡ false → kind_number j ≡ kind_number k → j ≡ k
same_kind j k l r e = sym (told j l) ∙ ap kind_numbered e ∙ told k r

-- a choice whose kind is no clash: its test is a number, and its arms are of one kind, which is the kind of the choice
pub record SuitedArms (at : ℕ) (i j k : Kind) : Type 0 where
  pub test : clashes i ≡ false
  pub first : clashes j ≡ false
  pub second : clashes k ≡ false
  pub number : is_number i ≡ true
  pub alike : j ≡ k
  pub kind : choice_kind at i j k ≡ j

pub suited_arms : (at : ℕ) (i j k : Kind) → clashes (choice_kind at i j k) ≡ false → SuitedArms at i j k
unfolding choice_kind
suited_arms at i j k n = by_test (clashes i) refl
  where
    own : clashes i ≡ false → clashes j ≡ false → clashes k ≡ false → choice_kind at i j k ≡ pick (is_number i && alike_kinds j k) j (Clash at)
    own t l r = no_clash i _ t ∙ no_clash j _ l ∙ no_clash k _ r

    by_fit : clashes i ≡ false → clashes j ≡ false → clashes k ≡ false → (b : Bool) → (is_number i && alike_kinds j k) ≡ b → SuitedArms at i j k
    by_fit t l r false e = absurd (never (choice_kind at i j k) (rw (own t l r, e)) n)
    by_fit t l r true e =
        let same : alike_kinds j k ≡ true = and_right (is_number i) (alike_kinds j k) e in
        let equal : kind_number j ≡ kind_number k =
        eqb-true (kind_number j) (kind_number k) (and_left (eqb (kind_number j) (kind_number k)) (ltb (kind_number j) 3) same) in
        record {
          test = t;
          first = l;
          second = r;
          number = and_left (is_number i) (alike_kinds j k) e;
          alike = same_kind j k l r equal;
          kind = own t l r ∙ rw e;
        }

    by_second : clashes i ≡ false → clashes j ≡ false → (b : Bool) → clashes k ≡ b → SuitedArms at i j k
    by_second t l false r = by_fit t l r (is_number i && alike_kinds j k) refl
    by_second t l true r = absurd (never (choice_kind at i j k) (rw (no_clash i _ t, no_clash j _ l, a_clash k _ r) r) n)

    by_first : clashes i ≡ false → (b : Bool) → clashes j ≡ b → SuitedArms at i j k
    by_first t false l = by_second t l (clashes k) refl
    by_first t true l = absurd (never (choice_kind at i j k) (rw (no_clash i _ t, a_clash j _ l) l) n)

    by_test : (b : Bool) → clashes i ≡ b → SuitedArms at i j k
    by_test false t = by_first t (clashes j) refl
    by_test true t = absurd (never (choice_kind at i j k) (rw (a_clash i _ t) t) n)

module _ (at : ℕ) (i j k : Kind) (u : SuitedArms at i j k) where
  chosen : (x v w : Value) → HasKind i x → HasKind j v → HasKind k w → HasKind j (choice_value at x v w)
  unfolding choice_value
  chosen (number x) v w f g h = pick_case (λ (z : Value). HasKind j z) (eqb x 0) (λ _. rw u.alike h) (λ _. g)
  chosen (text l q s) v w f g h = absurd (no_number l i f u.number)
  chosen (fault m) v w f g h = f

-- each form, from its operands
pub primary_kind_sound : (m : Memory) (k : Token) → KindSound (primary_of m k)
primary_kind_sound m k = leaf_suits (primary_of m k).value

pub unary_kind_sound : (o : Token) (a : Attributes) → KindSound a → KindSound (unary_from o a)
unary_kind_sound o a h = unary_suits o.code o.start a.kind a.value h

pub binary_kind_sound : (o : Token) (a b : Attributes) → KindSound a → KindSound b → KindSound (binary_from o a b)
binary_kind_sound o a b h i n =
    binary_suits o.code o.start a.kind b.kind (suited o.code o.start a.kind b.kind n) a.value b.value h i

pub choice_kind_sound : (o : Token) (c a b : Attributes) → KindSound c → KindSound a → KindSound b → KindSound (choice_from o c a b)
choice_kind_sound o c a b f g h n =
    let u : SuitedArms o.start c.kind a.kind b.kind = suited_arms o.start c.kind a.kind b.kind n in
    rw u.kind (chosen o.start c.kind a.kind b.kind u c.value a.value b.value (f u.test) (g u.first) (h u.second))
