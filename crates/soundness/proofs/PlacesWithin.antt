-- The place that attributes carry for wrong kinds, and that for a fault of evaluation, are within n bytes if those of the operands and of the
-- operator are. One law for each form. Assumes nothing.
use Rattle.std.specs.Prelude.{Err, Ok, Result}
use Prim.Native.Nat.{ℕ, ◌≤◌}
use mathlib.Core.Bool.{◌&&◌, ◌||◌}
use lib.Dec.{eqb}
use Rattle.units.specs.declared.Reason.{Reason}
use Rattle.text.proofs.Laws.{pick_case}
use Rattle.codes.specs.Codes.{STRING, WIDE, MACRO, PCD, BARE}
use Rattle.lookup.specs.Setting.{value_of, Within as WithinTable}
use Rattle.lookup.specs.declared.TextKind.{TextKind}
use Rattle.lookup.specs.declared.TextKind.TheVariants.{String as TextString, Wide as TextWide}
use Rattle.lookup.specs.declared.Value.{Value as CodedValue}
use Rattle.lookup.specs.declared.Value.TheVariants.{Number as Counted, Text}
use Rattle.lookup.proofs.Within.{under_within}
use Rattle.token.specs.Tokens.{Token}
use Rattle.arithmetic.specs.Operators.{unary_of, binary_of}
use Rattle.value.specs.Places.{Memory}
use Rattle.value.specs.Kinds.{of_text, is_number, alike_kinds, compares, suits, clash_or, unary_kind, binary_kind, choice_kind}
use Rattle.value.specs.Values.{Value, number, text, fault, kind_of, denote_value, name_in, setting_of, primary_value, result_of}
use Rattle.value.specs.Values.{unary_value, skips, both_values, binary_value, choice_value}
use Rattle.value.specs.Attributes.{Attributes, primary_of, unary_from, binary_from, choice_from}
use Rattle.value.specs.declared.Kind.{Kind}
use Rattle.value.specs.declared.Kind.TheVariants.{Number, String, Wide, Clash}

-- a primary is no fault
abbrev pub Faultless : Value → Type 0
Faultless (number x) = Unit
Faultless (text k p s) = Unit
Faultless (fault f) = ⊥

setting_faultless : (m : Memory) (v : CodedValue) → WithinTable m.table v → Faultless (denote_value m v)
setting_faultless m (Counted x) h = tt
setting_faultless m (Text k p) h = tt

pub primary_faultless : (m : Memory) (k : Token) → Faultless (primary_value m k)
unfolding primary_value
primary_faultless m k =
    pick_case Faultless (eqb k.code STRING) (λ _. tt)
    (λ _. pick_case Faultless (eqb k.code WIDE) (λ _. tt)
    (λ _. pick_case Faultless (eqb k.code BARE) (λ _. tt)
    (λ _. pick_case Faultless (eqb k.code MACRO || eqb k.code PCD)
    (λ _. setting_faultless m (value_of (setting_of m k)) (under_within m.table (name_in m.expression k)))
    (λ _. tt))))

module _ (n : ℕ) where
  -- of a kind, and of a value
  abbrev pub KindIn : Kind → Type 0
  KindIn Number = Unit
  KindIn String = Unit
  KindIn Wide = Unit
  KindIn (Clash p) = p ≤ n

  abbrev pub ValueIn : Value → Type 0
  ValueIn (number x) = Unit
  ValueIn (text k p s) = Unit
  ValueIn (fault f) = f.at.0 ≤ n

  abbrev pub PlacesIn : Attributes → Type 0
  PlacesIn a = KindIn a.kind × ValueIn a.value

  -- kinds
  text_in : (k : TextKind) → KindIn (of_text k)
  text_in TextString = tt
  text_in TextWide = tt

  or_in : (a k : Kind) → KindIn a → KindIn k → KindIn (clash_or a k)
  unfolding clash_or
  or_in Number k g h = h
  or_in String k g h = h
  or_in Wide k g h = h
  or_in (Clash p) k g h = g

  -- values
  result_in : (at : ℕ) (r : Result ℕ Reason) → at ≤ n → ValueIn (result_of at r)
  result_in at (Ok x) h = tt
  result_in at (Err r) h = h

  unary_in : (o at : ℕ) (v : Value) → at ≤ n → ValueIn v → ValueIn (unary_value o at v)
  unfolding unary_value
  unary_in o at (number x) h g = result_in at (unary_of o x) h
  unary_in o at (text k p s) h g = h
  unary_in o at (fault f) h g = g

  both_in : (o at : ℕ) (v w : Value) → at ≤ n → ValueIn v → ValueIn w → ValueIn (both_values o at v w)
  unfolding both_values
  both_in o at (number x) (number y) h g i = pick_case ValueIn (compares o) (λ _. tt) (λ _. result_in at (binary_of o x y) h)
  both_in o at (number x) (text k q t) h g i = h
  both_in o at (number x) (fault f) h g i = i
  both_in o at (text j p s) (number y) h g i = h
  both_in o at (text j p s) (text k q t) h g i = pick_case ValueIn (suits o (of_text j) (of_text k)) (λ _. tt) (λ _. h)
  both_in o at (text j p s) (fault f) h g i = i
  both_in o at (fault f) w h g i = g

  binary_in : (o at : ℕ) (v w : Value) → at ≤ n → ValueIn v → ValueIn w → ValueIn (binary_value o at v w)
  unfolding binary_value
  binary_in o at v w h g i = pick_case ValueIn (skips o v) (λ _. tt) (λ _. both_in o at v w h g i)

  choice_in : (at : ℕ) (u v w : Value) → at ≤ n → ValueIn u → ValueIn v → ValueIn w → ValueIn (choice_value at u v w)
  unfolding choice_value
  choice_in at (number x) v w h f g i = pick_case ValueIn (eqb x 0) (λ _. i) (λ _. g)
  choice_in at (text k p s) v w h f g i = h
  choice_in at (fault r) v w h f g i = f

  -- each form
  primary_in : (v : Value) → Faultless v → KindIn (kind_of v) × ValueIn v
  primary_in (number x) h = (tt, tt)
  primary_in (text k p s) h = (text_in k, tt)
  primary_in (fault f) h = absurd h

  pub primary_places : (m : Memory) (k : Token) → PlacesIn (primary_of m k)
  primary_places m k = primary_in (primary_value m k) (primary_faultless m k)

  pub unary_places : (o : Token) (a : Attributes) → o.start ≤ n → PlacesIn a → PlacesIn (unary_from o a)
  unfolding unary_kind
  unary_places o a h p = (
    or_in a.kind _ p.0 (pick_case KindIn (is_number a.kind) (λ _. tt) (λ _. h)),
    unary_in o.code o.start a.value h p.1,
  )

  pub binary_places : (o : Token) (a b : Attributes) → o.start ≤ n → PlacesIn a → PlacesIn b → PlacesIn (binary_from o a b)
  unfolding binary_kind
  binary_places o a b h p q =
      let own = pick_case KindIn (suits o.code a.kind b.kind) (λ _. tt) (λ _. h) in
      (or_in a.kind _ p.0 (or_in b.kind _ q.0 own), binary_in o.code o.start a.value b.value h p.1 q.1)

  pub choice_places : (o : Token) (c a b : Attributes) → o.start ≤ n → PlacesIn c → PlacesIn a → PlacesIn b → PlacesIn (choice_from o c a b)
  unfolding choice_kind
  choice_places o c a b h p q r =
      let own = pick_case KindIn (is_number c.kind && alike_kinds a.kind b.kind) (λ _. q.0) (λ _. h) in
      let kinds = or_in c.kind _ p.0 (or_in a.kind _ q.0 (or_in b.kind _ r.0 own)) in
      (kinds, choice_in o.start c.value a.value b.value h p.1 q.1 r.1)
