-- How the code holds the settings that lines make: their records at the front of a buffer. Contracts between layers cite this; no promise
-- does.
use Rattle.std.specs.Prelude.{ℕ, ◌*◌, ◌≡◌, ◌||◌, List, length, take, ltb, Option, Some}
use Rattle.std.specs.Option.{is_some}
use Rattle.own.specs.Own.{Own, padded, records_of, put, has, MAX_OWN}

-- the settings o are those in the first `used` bytes of the buffer b
pub record Holds (b : List ℕ) (used : ℕ) (o : List Own) : Type 0 where
  pub bytes : take used b ≡ records_of o
  pub size : used ≡ 128 * length o

-- x is the setting with this name, this kind and this many bytes of content, which zeros follow
pub record IsSetting (x : Own) (name : List ℕ) (kind len : ℕ) (content : List ℕ) : Type 0 where
  pub its_name : x.name ≡ name
  pub its_kind : x.kind ≡ kind
  pub its_length : length x.content ≡ len
  pub its_content : padded 56 x.content ≡ content

-- the answer r and the buffer b after the setting x was put to the settings o: how many bytes are used then, if there was room for x
pub record Puts (x : Own) (o : List Own) (b : List ℕ) (r : Option ℕ) : Type 0 where
  pub room : is_some r ≡ (has x.name o || ltb (length o) MAX_OWN)
  pub held : (used : ℕ) → r ≡ Some used → Holds b used (put x o)
