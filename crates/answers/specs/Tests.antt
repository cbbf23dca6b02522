-- The tests by which the operators are found that refusals 10, 11 and 12 are blamed on (document 02, order 3), in terms of the attributes of a
-- subexpression. Which operators these are, `to_blame` and `faulty_nodes` of the crate `blame` say.
use Rattle.std.specs.Prelude.{Bool, true, false}
use Rattle.token.specs.Tokens.{Token}
use Rattle.value.specs.Kinds.{clashes}
use Rattle.value.specs.Values.{Value, number, text, fault, skips}
use Rattle.value.specs.Attributes.{Attributes, first_arm}

-- kinds clash in it, here or further in
abbrev pub wrong_kinds : Attributes → Bool
wrong_kinds a = clashes a.kind

-- its value is a fault
abbrev pub is_fault : Value → Bool
is_fault (number x) = false
is_fault (text k p s) = false
is_fault (fault f) = true

abbrev pub fails : Attributes → Bool
fails a = is_fault a.value

-- a binary operator with this left operand skips its right one
abbrev pub skips_right : Token → Attributes → Bool
skips_right o a = skips o.code a.value

-- a choice with this test takes its first arm
abbrev pub takes_first : Attributes → Bool
takes_first a = first_arm a.value
