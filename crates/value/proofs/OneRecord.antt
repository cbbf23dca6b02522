-- The string of any subexpression, if it is one of a table, is within one record. Assumes nothing.
use Prim.Native.Nat.{ℕ}
use native.Mathlib.Omega.{arith}
use mathlib.Core.Path.{◌≡◌}
use mathlib.Core.Bool.{◌||◌}
use lib.Dec.{eqb}
use Rattle.std.specs.Prelude.{Result, Ok, Err}
use Rattle.units.specs.declared.Fault.{Fault}
use Rattle.units.specs.declared.Reason.{Reason}
use Rattle.text.proofs.Laws.{pick_case}
use Rattle.lookup.specs.Setting.{value_of, Recorded}
use Rattle.lookup.specs.declared.Home.TheVariants.{Expression, Table}
use Rattle.lookup.specs.declared.Value.{Value as CodedValue}
use Rattle.lookup.specs.declared.Value.TheVariants.{Number, Text}
use Rattle.lookup.proofs.InFront.{setting_recorded}
use Rattle.codes.specs.Codes.{STRING, WIDE, MACRO, PCD, BARE}
use Rattle.token.specs.Tokens.{Token}
use Rattle.arithmetic.specs.Operators.{unary_of, binary_of}
use Rattle.value.specs.Places.{Memory}
use Rattle.value.specs.Kinds.{of_text, compares, suits}
use Rattle.value.specs.Values.{Value, number, text, fault, denote_value, denote_result, RecordedResult, name_in, setting_of}
use Rattle.value.specs.Values.{primary_value, result_of, unary_value, skips, both_values, binary_value, choice_value}
use Rattle.value.specs.Denote.{InOneRecord}

-- of a result of the code and of what it denotes
pub denotes_recorded : (m : Memory) (r : Result CodedValue Fault) → InOneRecord (denote_result m r) → RecordedResult r
denotes_recorded m (Ok (Number x)) h = tt
denotes_recorded m (Ok (Text k p)) h = h
denotes_recorded m (Err f) h = tt

recorded_denotes : (m : Memory) (v : CodedValue) → Recorded v → InOneRecord (denote_value m v)
recorded_denotes m (Number x) h = tt
recorded_denotes m (Text k p) h = h

-- a place in the expression is none in a table
elsewhere : {A : Type 0} → Expression ≡ Table → A
elsewhere e = let z : ◌≡◌ {A = ℕ} 0 1 = cc in absurd (omega arith)

pub primary_recorded : (m : Memory) (k : Token) → InOneRecord (primary_value m k)
unfolding primary_value
primary_recorded m k =
    pick_case InOneRecord (eqb k.code STRING) (λ _. elsewhere)
    (λ _. pick_case InOneRecord (eqb k.code WIDE) (λ _. elsewhere)
    (λ _. pick_case InOneRecord (eqb k.code BARE) (λ _. elsewhere)
    (λ _. pick_case InOneRecord (eqb k.code MACRO || eqb k.code PCD)
    (λ _. recorded_denotes m (value_of (setting_of m k)) (setting_recorded m.table (name_in m.expression k)))
    (λ _. tt))))

result_recorded : (at : ℕ) (r : Result ℕ Reason) → InOneRecord (result_of at r)
result_recorded at (Ok x) = tt
result_recorded at (Err n) = tt

pub unary_recorded : (o at : ℕ) (v : Value) → InOneRecord (unary_value o at v)
unfolding unary_value
unary_recorded o at (number x) = result_recorded at (unary_of o x)
unary_recorded o at (text k p s) = tt
unary_recorded o at (fault f) = tt

both_recorded : (o at : ℕ) (v w : Value) → InOneRecord (both_values o at v w)
unfolding both_values
both_recorded o at (number x) (number y) = pick_case InOneRecord (compares o) (λ _. tt) (λ _. result_recorded at (binary_of o x y))
both_recorded o at (number x) (text k q t) = tt
both_recorded o at (number x) (fault f) = tt
both_recorded o at (text j p s) (number y) = tt
both_recorded o at (text j p s) (text k q t) = pick_case InOneRecord (suits o (of_text j) (of_text k)) (λ _. tt) (λ _. tt)
both_recorded o at (text j p s) (fault f) = tt
both_recorded o at (fault f) w = tt

pub binary_recorded : (o at : ℕ) (v w : Value) → InOneRecord (binary_value o at v w)
unfolding binary_value
binary_recorded o at v w = pick_case InOneRecord (skips o v) (λ _. tt) (λ _. both_recorded o at v w)

pub choice_recorded : (at : ℕ) (u v w : Value) → InOneRecord v → InOneRecord w → InOneRecord (choice_value at u v w)
unfolding choice_value
choice_recorded at (number x) v w h i = pick_case InOneRecord (eqb x 0) (λ _. i) (λ _. h)
choice_recorded at (text k p s) v w h i = tt
choice_recorded at (fault f) v w h i = tt
