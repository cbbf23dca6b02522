-- A property of every number and of every fault is a property of the result of an operator, which is one of them; and of a choice if both
-- arms have it. Assumes nothing.
use Rattle.std.specs.Prelude.{Err, Ok, Result}
use Prim.Native.Nat.{ℕ}
use lib.Dec.{eqb}
use Rattle.units.specs.Refusals.{fault_at}
use Rattle.units.specs.declared.Fault.{Fault}
use Rattle.units.specs.declared.Reason.{Reason}
use Rattle.units.specs.declared.Reason.TheVariants.{KindsUnsuited}
use Rattle.text.proofs.Laws.{pick_case}
use Rattle.arithmetic.specs.Operators.{unary_of, binary_of}
use Rattle.value.specs.Kinds.{of_text, compares, suits}
use Rattle.value.specs.Values.{Value, number, text, fault, result_of, unsuited, unary_value, skips, both_values, binary_value, choice_value}

module _ (P : Value → Type 0) (numbers : (x : ℕ) → P (number x)) (faults : (f : Fault) → P (fault f)) where
  result : (at : ℕ) (r : Result ℕ Reason) → P (result_of at r)
  result at (Ok x) = numbers x
  result at (Err n) = faults (fault_at n at)

  wrong : (at : ℕ) → P (unsuited at)
  wrong at = faults (fault_at KindsUnsuited at)

  pub of_unary : (o at : ℕ) (v : Value) → P (unary_value o at v)
  unfolding unary_value
  of_unary o at (number x) = result at (unary_of o x)
  of_unary o at (text k p s) = wrong at
  of_unary o at (fault f) = faults f

  of_both : (o at : ℕ) (v w : Value) → P (both_values o at v w)
  unfolding both_values
  of_both o at (number x) (number y) = pick_case P (compares o) (λ _. numbers _) (λ _. result at (binary_of o x y))
  of_both o at (number x) (text k q t) = wrong at
  of_both o at (number x) (fault f) = faults f
  of_both o at (text j p s) (number y) = wrong at
  of_both o at (text j p s) (text k q t) = pick_case P (suits o (of_text j) (of_text k)) (λ _. numbers _) (λ _. wrong at)
  of_both o at (text j p s) (fault f) = faults f
  of_both o at (fault f) w = faults f

  pub of_binary : (o at : ℕ) (v w : Value) → P (binary_value o at v w)
  unfolding binary_value
  of_binary o at v w = pick_case P (skips o v) (λ _. numbers _) (λ _. of_both o at v w)

  pub of_choice : (at : ℕ) (u v w : Value) → P v → P w → P (choice_value at u v w)
  unfolding choice_value
  of_choice at (number x) v w h k = pick_case P (eqb x 0) (λ _. k) (λ _. h)
  of_choice at (text l p s) v w h k = wrong at
  of_choice at (fault f) v w h k = faults f
