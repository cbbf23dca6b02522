-- No form depends on the places of its operands' strings: erasing them commutes with each form. Assumes nothing.
use Prim.Native.Nat.{ℕ}
use mathlib.Core.Path.{◌≡◌, refl, ◌∙◌}
use lib.Dec.{eqb}
use Rattle.text.proofs.Laws.{pick_both}
use Rattle.token.specs.Tokens.{Token}
use Rattle.value.specs.Places.{in_expression}
use Rattle.value.specs.Values.{Value, number, text, fault, unary_value, skips, both_values, binary_value, choice_value}
use Rattle.value.specs.Attributes.{Attributes, unary_from, binary_from, first_arm, choice_from}
use Rattle.soundness.proofs.Results.{of_unary, of_binary}

-- values without the places of strings: a string keeps only its bytes
abbrev pub erase_places : Value → Value
erase_places (number x) = number x
erase_places (text k p s) = text k (in_expression 0 0) s
erase_places (fault f) = fault f

abbrev pub erase_places_of : Attributes → Attributes
erase_places_of a = record { kind = a.kind; value = erase_places a.value; count = a.count }

-- values: an operator depends on no place and has no place in its result
unary_value_lem : (o at : ℕ) (v : Value) → unary_value o at v ≡ unary_value o at (erase_places v)
unfolding unary_value
unary_value_lem o at (number x) = refl
unary_value_lem o at (text k p s) = refl
unary_value_lem o at (fault f) = refl

skips_value : (o : ℕ) (v : Value) → skips o v ≡ skips o (erase_places v)
skips_value o (number x) = refl
skips_value o (text k p s) = refl
skips_value o (fault n) = refl

both_values_lem : (o at : ℕ) (v w : Value) → both_values o at v w ≡ both_values o at (erase_places v) (erase_places w)
unfolding both_values
both_values_lem o at (number x) (number y) = refl
both_values_lem o at (number x) (text k q t) = refl
both_values_lem o at (number x) (fault n) = refl
both_values_lem o at (text j p s) (number y) = refl
both_values_lem o at (text j p s) (text k q t) = refl
both_values_lem o at (text j p s) (fault n) = refl
both_values_lem o at (fault n) w = refl

binary_value_lem : (o at : ℕ) (v w : Value) → binary_value o at v w ≡ binary_value o at (erase_places v) (erase_places w)
unfolding binary_value
binary_value_lem o at v w = rw (skips_value o v, both_values_lem o at v w)

-- a choice gives one of its arms
first_arm_lem : (v : Value) → first_arm v ≡ first_arm (erase_places v)
first_arm_lem (number x) = refl
first_arm_lem (text k p s) = refl
first_arm_lem (fault n) = refl

choice_value_lem : (at : ℕ) (u v w : Value) → erase_places (choice_value at u v w) ≡ choice_value at (erase_places u) (erase_places v) (erase_places w)
unfolding choice_value
choice_value_lem at (number x) v w = pick_both (λ y z. erase_places y ≡ z) (eqb x 0) (λ _. refl) (λ _. refl)
choice_value_lem at (text k p s) v w = refl
choice_value_lem at (fault n) v w = refl

-- each form
pub unary_erased : (o : Token) (a : Attributes) → erase_places_of (unary_from o a) ≡ unary_from o (erase_places_of a)
unary_erased o a =
    let e : erase_places (unary_value o.code o.start a.value) ≡ unary_value o.code o.start (erase_places a.value) =
    of_unary (λ v. erase_places v ≡ v) (λ _. refl) (λ _. refl) o.code o.start a.value ∙ unary_value_lem o.code o.start a.value in
    rw e

pub binary_erased : (o : Token) (a b : Attributes) → erase_places_of (binary_from o a b) ≡ binary_from o (erase_places_of a) (erase_places_of b)
binary_erased o a b =
    let c : ℕ = o.code in
    let at : ℕ = o.start in
    let e : erase_places (binary_value c at a.value b.value) ≡ binary_value c at (erase_places a.value) (erase_places b.value) =
    of_binary (λ v. erase_places v ≡ v) (λ _. refl) (λ _. refl) c at a.value b.value ∙ binary_value_lem c at a.value b.value in
    rw (e, skips_value c a.value)

pub choice_erased : (o : Token) (c a b : Attributes)
    → erase_places_of (choice_from o c a b) ≡ choice_from o (erase_places_of c) (erase_places_of a) (erase_places_of b)
choice_erased o c a b = rw (choice_value_lem o.start c.value a.value b.value, first_arm_lem c.value)
