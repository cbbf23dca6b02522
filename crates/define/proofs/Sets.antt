-- What a DEFINE line changes for the lines after it: the record under the name of its macro, and no other; `$(NAME)` is then the number, or a
-- string of the kind and with the bytes, of the line's value, whatever the table and the other settings are; and the record is one that a
-- well-formed table can have. Assumes nothing.
use Prim.Native.Nat.{ℕ, ◌^◌, ◌≤◌, ◌<◌}
use mathlib.Core.Path.{◌≡◌, refl, sym, ap, ◌∙◌}
use mathlib.Core.Bool.{true}
use mathlib.Core.List.{List}
use lib.ListN.{length}
use Rattle.std.specs.Prelude.{Some}
use Rattle.units.specs.Refusals.{unplaced}
use Rattle.units.specs.Dialects.{by_itself}
use Rattle.units.specs.declared.Dialect.{Dialect}
use Rattle.units.specs.declared.Reason.TheVariants.{DefinedLong}
use Rattle.settings.specs.Table.{plain_record, well_formed}
use Rattle.own.specs.Own.{Own, record_of, scope, put}
use Rattle.lookup.specs.Setting.{setting_under, record_under}
use Rattle.lookup.specs.declared.Place.{Place}
use Rattle.lookup.specs.declared.TextKind.{TextKind}
use Rattle.lookup.specs.declared.TextKind.TheVariants.{String, Wide}
use Rattle.lookup.specs.declared.Value.TheVariants.{Number}
use Rattle.scoped.proofs.Put.{put_same, put_other}
use Rattle.scoped.proofs.Contents.{text_byte, number_plain, text_plain}
use Rattle.scoped.proofs.Settled.{IsText, settled_number, settled_text}
use Rattle.scoped.proofs.RecordWellFormed.{record_well_formed}
use Rattle.value.specs.Places.{over}
use Rattle.value.specs.Kinds.{kind_number, of_text as kind_of_text}
use Rattle.value.specs.Values.{number, text, fault}
use Rattle.evaluation.specs.Evaluation.{Evaluation, value, refused, evaluation_in}
use Rattle.define.specs.Define.{MAX_CONTENT, macro_of, expression_start, expression_of, sets, of_number, of_text, of_answer, definition_of}
use Rattle.define.proofs.MacroNames.{refuses, Limited, limited_sets, text_sets, line_shaped, line_name, line_own_name, line_name_in}

-- the record under a name after a line that sets x
module _ (o : List Own) (x : Own) (k : ℕ) (t l : List ℕ) (δ : Dialect) (e : definition_of o t l δ ≡ sets x k) where
  pub record_set : record_under (scope (put x o) t) (macro_of l) ≡ record_of x
  record_set = ap (record_under (scope (put x o) t)) (sym (line_name o x k t l δ e)) ∙ put_same x (line_name_in o x k t l δ e) t o

  pub record_kept : (n : List ℕ) → (n ≡ macro_of l → ⊥) → record_under (scope (put x o) t) n ≡ record_under (scope o t) n
  record_kept n h = put_other x (line_name_in o x k t l δ e) t n (λ q. h (q ∙ line_name o x k t l δ e)) o

-- the byte of a string's kind
same_byte : (k : TextKind) → kind_number (kind_of_text k) ≡ text_byte k
same_byte String = refl
same_byte Wide = refl

-- a line whose expression has a value sets its macro to this value, and counts its operators
module _ (o : List Own) (x : Own) (k : ℕ) (t l : List ℕ) (δ : Dialect) (e : definition_of o t l δ ≡ sets x k) where
  abbrev answer : Evaluation
  answer = evaluation_in (over (expression_of l) (scope o t)) (by_itself δ.old)

  from_answer : (a : Evaluation) → answer ≡ a → of_answer o (macro_of l) (expression_start l) a ≡ sets x k
  unfolding definition_of
  from_answer a q = ap (of_answer o (macro_of l) (expression_start l)) (sym q) ∙ rw (line_shaped o x k t l δ e) at e

  made_number : (v c : ℕ) → answer ≡ value (number v) c → Limited o x k (of_number (macro_of l) v) c
  unfolding of_answer
  made_number v c q = limited_sets o x k (of_number (macro_of l) v) c (from_answer (value (number v) c) q)

  made_text : (j : TextKind) (p : Place) (s : List ℕ) (c : ℕ) → answer ≡ value (text j p s) c
      → (length s ≤ MAX_CONTENT) × Limited o x k (of_text (macro_of l) j s) c
  unfolding of_answer
  made_text j p s c q = text_sets o x k (of_text (macro_of l) j s) c (from_answer (value (text j p s) c) q)

  -- its value wherever the record under its name is the one that the line sets
  module _ (u : List ℕ) (there : record_under u (macro_of l) ≡ record_of x) where
    pub number_there : (v c : ℕ) → answer ≡ value (number v) c → v < 2 ^ 64 → setting_under u (macro_of l) ≡ Some (Number v)
    number_there v c q h =
        let y : Own = of_number (macro_of l) v in
        settled_number u (macro_of l) y (there ∙ ap record_of (sym (made_number v c q).same)) v refl refl h

    pub text_there : (j : TextKind) (p : Place) (s : List ℕ) (c : ℕ) → answer ≡ value (text j p s) c → IsText u j s (setting_under u (macro_of l))
    text_there j p s c q =
        let y : Own = of_text (macro_of l) j s in
        let m = made_text j p s c q in
        settled_text u (macro_of l) y (there ∙ ap record_of (sym m.1.same)) j (same_byte j) m.0

  abbrev after : List ℕ
  after = scope (put x o) t

  -- THE FIRST THEOREM
  pub line_number : (v c : ℕ) → answer ≡ value (number v) c → v < 2 ^ 64 → (setting_under after (macro_of l) ≡ Some (Number v)) × (k ≡ c)
  line_number v c q h = (number_there after (record_set o x k t l δ e) v c q h, sym (made_number v c q).count)

  -- THE SECOND THEOREM
  pub line_text : (j : TextKind) (p : Place) (s : List ℕ) (c : ℕ) → answer ≡ value (text j p s) c
      → IsText after j s (setting_under after (macro_of l)) × (k ≡ c)
  line_text j p s c q = (text_there after (record_set o x k t l δ e) j p s c q, sym (made_text j p s c q).1.count)

  -- the record of its setting is plain, and by itself a well-formed table
  plain_record_lem : (a : Evaluation) → of_answer o (macro_of l) (expression_start l) a ≡ sets x k → plain_record (record_of x) ≡ true
  unfolding of_answer
  plain_record_lem (value (number v) c) q =
      let y : Own = of_number (macro_of l) v in
      rw (← (limited_sets o x k y c q).same) (number_plain y v refl refl)
  plain_record_lem (value (text j p s) c) q =
      let y : Own = of_text (macro_of l) j s in
      let m = text_sets o x k y c q in
      rw (← m.1.same) (text_plain y j (same_byte j) m.0)
  plain_record_lem (value (fault f) c) q = refuses (unplaced DefinedLong) x k q
  plain_record_lem (refused r) q = refuses _ x k q

  -- THE THIRD THEOREM
  pub line_record : well_formed (record_of x) ≡ true
  line_record =
      let n = line_own_name o x k t l δ e in
      record_well_formed x n.some n.short n.whole (plain_record_lem answer (from_answer answer refl))
