-- The settings that the lines of a file make (document 02, order 6): records like those of the table, in front of it. Of several records with
-- one name the first is the one under it, so these settings win over the table, in `!ifdef` too.
use Rattle.std.specs.Prelude.{ℕ, Bool, false, ◌||◌, List, [], ◌∷◌, ◌++◌, length, take, replicate}
use Rattle.text.specs.Bytes.{pick}
use Rattle.text.specs.Order.{equal}
use Rattle.settings.specs.Table.{name_of}

-- a setting: the name of its macro, and its kind and content as a record has them
pub record Own : Type 0 where
  pub name : List ℕ
  pub kind : ℕ
  pub content : List ℕ

-- the first n bytes, with zeros where there are fewer
abbrev pub padded : (n : ℕ) → List ℕ → List ℕ
padded n s = take n (s ++ replicate n 0)

-- its record (document 01, "The table of settings"): the name, the kind, the length, six zeros, the content
unfoldable pub record_of : Own → List ℕ
record_of x = padded 64 x.name ++ (padded 8 (x.kind ∷ length x.content ∷ []) ++ padded 56 x.content)

-- the name that its record stands under: the setting's name itself, if that is a macro's name of at most 64 bytes
abbrev pub name_in : Own → List ℕ
name_in x = name_of (record_of x)

-- the records of some settings, one after the other, and the table behind them
unfoldable pub records_of : List Own → List ℕ
records_of [] = []
records_of (x ∷ own) = record_of x ++ records_of own

abbrev pub scope : List Own → (t : List ℕ) → List ℕ
scope own t = records_of own ++ t

-- a setting takes the place of the one with its name; if there is none, it comes last
unfoldable pub put : Own → List Own → List Own
put x [] = x ∷ []
put x (y ∷ own) = pick (equal (name_in y) x.name) (x ∷ own) (y ∷ put x own)

-- one of the settings has this name
unfoldable pub has : (n : List ℕ) → List Own → Bool
has n [] = false
has n (y ∷ own) = equal (name_in y) n || has n own

-- the largest number of settings
abbrev pub MAX_OWN : ℕ
MAX_OWN = 64
