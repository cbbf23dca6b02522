-- A primary depends on the table only through the record under the name in its token, and not on the place of that record; and so do
-- the PCDs that are missing. Assumes nothing.
use Rattle.std.specs.Prelude.{Option, Some, None, unwrap_or}
use Rattle.std.specs.Option.{is_some}
use Prim.Native.Nat.{ℕ}
use mathlib.Core.Path.{◌≡◌, refl, sym, ap, ◌∙◌}
use mathlib.Core.Logic.{inl, inr}
use mathlib.Core.Bool.{Bool, true, false, not, ◌&&◌, ◌||◌, false≢true}
use mathlib.Core.List.{List, [], ◌∷◌, Memᴰ}
use lib.Dec.{eqb}
use borrow.Author.Tests.{eqb-true}
use Rattle.text.proofs.Laws.{pick_both}
use Rattle.codes.specs.Codes.{STRING, WIDE, MACRO, PCD, BARE}
use Rattle.lookup.specs.Setting.{value_of, setting_under, record_under, Within}
use Rattle.lookup.specs.declared.Value.{Value as CodedValue}
use Rattle.lookup.specs.declared.Value.TheVariants.{Number, Text}
use Rattle.lookup.proofs.Records.{Content, number as holds, text as holds_text, content_in, contents_in, contents_of, under_content}
use Rattle.lookup.proofs.Within.{under_within}
use Rattle.token.specs.Tokens.{Token}
use Rattle.value.specs.Places.{over, in_expression}
use Rattle.value.specs.Values.{Value, number, text, fault, kind_of, denote_value, name_in, Naming, setting_of, primary_value, missing_pcds}
use Rattle.value.specs.Attributes.{primary_of}
use Rattle.soundness.proofs.ErasePlaces.{erase_places, erase_places_of}

-- the content of a value of a table, as a value without its place
given : Content → Value
given (holds x) = number x
given (holds_text k s) = text k (in_expression 0 0) s

kind_erased : (v : Value) → kind_of (erase_places v) ≡ kind_of v
kind_erased (number x) = refl
kind_erased (text k p s) = refl
kind_erased (fault f) = refl

setting_given : (e t : List ℕ) (v : CodedValue) → Within t v → erase_places (denote_value (over e t) v) ≡ given (content_in t v)
unfolding given
setting_given e t (Number x) h = refl
setting_given e t (Text k p) h = rw h.0

-- the contents of a name that may be set
some_content : (t : List ℕ) (s : Option CodedValue) → is_some (contents_in t s) ≡ is_some s
some_content t None = refl
some_content t (Some v) = refl

content_of_value : (t : List ℕ) (s : Option CodedValue) → content_in t (value_of s) ≡ unwrap_or (contents_in t s) (holds 0)
content_of_value t None = refl
content_of_value t (Some v) = refl

-- two tables with the same record under a name
module _ (t u n : List ℕ) (same : record_under t n ≡ record_under u n) where
  same_contents : contents_in t (setting_under t n) ≡ contents_in u (setting_under u n)
  same_contents = under_content t n ∙ ap contents_of same ∙ sym (under_content u n)

  same_found : is_some (setting_under t n) ≡ is_some (setting_under u n)
  same_found = sym (some_content t (setting_under t n)) ∙ ap is_some same_contents ∙ some_content u (setting_under u n)

  same_content : content_in t (value_of (setting_under t n)) ≡ content_in u (value_of (setting_under u n))
  same_content =
      content_of_value t (setting_under t n) ∙ ap (λ c. unwrap_or c (holds 0)) same_contents ∙ sym (content_of_value u (setting_under u n))

  same_setting : (e : List ℕ) → erase_places (denote_value (over e t) (value_of (setting_under t n)))
      ≡ erase_places (denote_value (over e u) (value_of (setting_under u n)))
  same_setting e =
      setting_given e t (value_of (setting_under t n)) (under_within t n) ∙ ap given same_content
      ∙ sym (setting_given e u (value_of (setting_under u n)) (under_within u n))

module _ (e t u : List ℕ) where
  -- the tables have the same record under the name in a token
  abbrev pub Agree : Token → Type 0
  Agree k = Naming k → record_under t (name_in e k) ≡ record_under u (name_in e k)

  naming : (k : Token) (m p : Bool) → eqb k.code MACRO ≡ m → eqb k.code PCD ≡ p → (m || p) ≡ true → Naming k
  naming k true p i j h = inl (eqb-true k.code MACRO i)
  naming k false true i j h = inr (eqb-true k.code PCD j)
  naming k false false i j h = absurd (false≢true h)

  abbrev Same : Value → Value → Type 0
  Same v w = erase_places v ≡ erase_places w

  same_value : (k : Token) → Agree k → Same (primary_value (over e t) k) (primary_value (over e u) k)
  unfolding primary_value
  same_value k same =
      pick_both Same (eqb k.code STRING) (λ _. refl)
      (λ _. pick_both Same (eqb k.code WIDE) (λ _. refl)
      (λ _. pick_both Same (eqb k.code BARE) (λ _. refl)
      (λ _. pick_both Same (eqb k.code MACRO || eqb k.code PCD)
      (λ h. same_setting t u (name_in e k) (same (naming k (eqb k.code MACRO) (eqb k.code PCD) refl refl h)) e)
      (λ _. refl))))

  pub primary_erased : (k : Token) → Agree k → erase_places_of (primary_of (over e t) k) ≡ erase_places_of (primary_of (over e u) k)
  primary_erased k same =
      let value = same_value k same in
      let kind : kind_of (primary_value (over e t) k) ≡ kind_of (primary_value (over e u) k) =
      sym (kind_erased (primary_value (over e t) k)) ∙ ap kind_of value ∙ kind_erased (primary_value (over e u) k) in
      rw (kind, value)

  -- the PCDs that are missing, of all tokens of a list
  pub same_missing : (ts : List Token) → ((k : Token) → Memᴰ k ts → Agree k) → missing_pcds (over e t) ts ≡ missing_pcds (over e u) ts
  unfolding missing_pcds
  same_missing [] same = refl
  same_missing (k ∷ ts) same = rw (here (eqb k.code PCD) refl, same_missing ts (λ j i. same j (Memᴰ.tail i)))
    where
      here : (p : Bool) → eqb k.code PCD ≡ p → (p && not (is_some (setting_of (over e t) k))) ≡ (p && not (is_some (setting_of (over e u) k)))
      here true h = rw (same_found t u (name_in e k) (same k (Memᴰ.head refl) (inr (eqb-true k.code PCD h))))
      here false h = refl
