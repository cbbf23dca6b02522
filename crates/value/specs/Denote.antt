-- What the attributes and tokens of the code denote. Contracts between layers cite this; no promise about an answer does.
use Rattle.lookup.specs.Setting.{InRecord}
use Rattle.token.specs.Tokens.{Token}
use Rattle.value.specs.Places.{Memory}
use Rattle.value.specs.Values.{Value, number, text, fault, denote_result}
use Rattle.value.specs.Attributes.{Attributes}
use Rattle.value.specs.declared.forms.Token.{Token as CodedToken}
use Rattle.value.specs.declared.Attributes.{Attributes as CodedAttributes}

abbrev pub denote_attributes : Memory → CodedAttributes → Attributes
denote_attributes m a = record { kind = a.kind; value = denote_result m a.value; count = a.count }

-- a token as the scanner's arrays have it
abbrev pub denote_token : CodedToken → Token
denote_token k = record { code = k.code; start = k.start; len = k.len; value = k.value }

-- the place of a string in a table is within one record
abbrev pub InOneRecord : Value → Type 0
InOneRecord (number x) = Unit
InOneRecord (text k p s) = InRecord p
InOneRecord (fault f) = Unit
