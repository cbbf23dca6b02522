-- What `$(NAME)` means where the record under its name is that of a setting (document 02, order 6): the setting's number, or a string of its
-- kind with its bytes, whatever the table and the other settings are. Assumes nothing.
use Prim.Native.Nat.{ℕ, ◌^◌, ◌≤◌, ◌<◌}
use mathlib.Core.Path.{◌≡◌, ap, ◌∙◌}
use mathlib.Core.List.{List}
use lib.ListN.{length, take, drop}
use Rattle.std.specs.Prelude.{Option, Some, None}
use Rattle.text.specs.Numbers.{lowest_bytes}
use Rattle.lookup.specs.Setting.{setting_under, record_under}
use Rattle.lookup.specs.declared.Place.{Place}
use Rattle.lookup.specs.declared.TextKind.{TextKind}
use Rattle.lookup.specs.declared.Value.{Value}
use Rattle.lookup.specs.declared.Value.TheVariants.{Number, Text}
use Rattle.lookup.proofs.Records.{number, text, content_in, contents_in, contents_of, under_content}
use Rattle.own.specs.Own.{Own, record_of}
use Rattle.scoped.proofs.Contents.{text_byte, number_content, text_content}

-- a value of a table t, by its content
module _ (t : List ℕ) where
  of_number : (v : ℕ) (w : Value) → content_in t w ≡ number v → w ≡ Number v
  of_number v (Number x) e = cc
  of_number v (Text k p) e = absurd cc

  -- a string of the kind k with the bytes s
  abbrev pub IsText : TextKind → List ℕ → Option Value → Type 0
  IsText k s z = (p : Place) × (z ≡ Some (Text k p)) × (take p.len (drop p.start.0 t) ≡ s)

  number_setting : (v : ℕ) (z : Option Value) → contents_in t z ≡ Some (number v) → z ≡ Some (Number v)
  number_setting v None e = absurd cc
  number_setting v (Some w) e = ap Some (of_number v w cc)

  text_setting : (k : TextKind) (s : List ℕ) (z : Option Value) → contents_in t z ≡ Some (text k s) → IsText k s z
  text_setting k s None e = absurd cc
  text_setting k s (Some (Number x)) e = absurd cc
  text_setting k s (Some (Text j p)) e = let w : j ≡ k = cc in (p, rw w, cc)

-- the record under the name n in t is that of x
module _ (t n : List ℕ) (x : Own) (under : record_under t n ≡ record_of x) where
  settled : contents_in t (setting_under t n) ≡ contents_of (record_of x)
  settled = under_content t n ∙ ap contents_of under

  -- THE FIRST THEOREM
  pub settled_number : (v : ℕ) → x.kind ≡ 0 → x.content ≡ lowest_bytes 8 v → v < 2 ^ 64 → setting_under t n ≡ Some (Number v)
  settled_number v k c h = number_setting t v (setting_under t n) (settled ∙ number_content x v k c h)

  -- THE SECOND THEOREM
  pub settled_text : (k : TextKind) → x.kind ≡ text_byte k → length x.content ≤ 56 → IsText t k x.content (setting_under t n)
  settled_text k b h = text_setting t k x.content (setting_under t n) (settled ∙ text_content x k b h)
