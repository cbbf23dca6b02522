-- A DEFINE line sets the macro that it names: the name of a macro with 1 to 64 bytes, under which the record of the setting stands. So all settings
-- that such lines make have names of macros, which differ, and they are 64 at most. Assumes nothing.
use Prim.Native.Nat.{ℕ, ◌+◌, ◌≤◌}
use native.Mathlib.Omega.{arith}
use mathlib.Core.Path.{◌≡◌, refl, sym, ap, ◌∙◌}
use mathlib.Core.Bool.{Bool, true, false, ◌||◌}
use mathlib.Core.List.{List}
use lib.ListN.{length, get_or, drop}
use lib.Dec.{eqb, ltb, leb}
use borrow.Author.Tests.{ltb-true, leb-true}
use Rattle.units.specs.Refusals.{unplaced}
use Rattle.units.specs.Dialects.{by_itself}
use Rattle.units.specs.declared.Dialect.{Dialect}
use Rattle.units.specs.declared.Fault.{Fault}
use Rattle.units.specs.declared.Reason.TheVariants.{DefinedLong, DefinedMany, TextMalformed}
use Rattle.text.specs.Bytes.{byte, pick, blank}
use Rattle.text.proofs.Laws.{and_left, and_right}
use Rattle.text.proofs.NameRuns.{name_length_lem, name_whole}
use Rattle.own.specs.Own.{Own, name_in, scope, put, has, MAX_OWN}
use Rattle.own.proofs.OwnNames.{macro_name_lem}
use Rattle.own.proofs.Putting.{put_length}
use Rattle.scoped.specs.Macros.{IsMacro, AllMacros, AllDiffer}
use Rattle.scoped.proofs.Put.{put_differ}
use Rattle.scoped.proofs.Pcds.{put_macros}
use Rattle.value.specs.Places.{over}
use Rattle.value.specs.Values.{number, text, fault}
use Rattle.evaluation.specs.Evaluation.{Evaluation, value, refused, evaluation_in}
use Rattle.define.specs.Define.{after_word, name_start, name_length, equals_at, MAX_NAME, MAX_CONTENT, shaped, macro_of, expression_start, expression_of}
use Rattle.define.specs.Define.{sets, fails, limited, limited_text, of_number, of_text, of_answer, definition_of}

-- the name of a macro that a record has room for
pub record OwnName (n : List ℕ) : Type 0 where
  pub some : 1 ≤ length n
  pub short : length n ≤ MAX_NAME
  pub whole : IsMacro n

-- such is the name in a line of the right shape
pub shaped_name : (l : List ℕ) → shaped l ≡ true → OwnName (macro_of l)
unfolding shaped
shaped_name l h =
    let equals : Bool = eqb (get_or l (equals_at l) 0) (byte "=") in
    let fits : Bool = leb (name_length l) MAX_NAME in
    let spaced = and_right (blank (get_or l (after_word l) 0)) _ h in
    let some = ltb-true 0 (name_length l) (and_left (ltb 0 (name_length l)) _ spaced) in
    let short = leb-true (name_length l) MAX_NAME (and_left fits equals (and_right (ltb 0 (name_length l)) _ spaced)) in
    let e = name_length_lem (drop (name_start l) l) in
    record { some = rw e (omega arith); short = rw e short; whole = name_whole (drop (name_start l) l) some }

-- the record of a setting with such a name stands under it
pub own_name_in : (x : Own) → OwnName x.name → name_in x ≡ x.name
own_name_in x h = macro_name_lem x h.short h.whole

-- a refusal sets nothing
pub refuses : {A : Type 0} (f : Fault) (x : Own) (k : ℕ) → fails f ≡ sets x k → A
refuses f x k e = let z : ◌≡◌ {A = ℕ} 0 1 = cc in absurd (omega arith)

module _ (o : List Own) (x : Own) (k : ℕ) where
  -- a setting and a count of operators that are x and k, and there is room for x among the others
  pub record Limited (y : Own) (c : ℕ) : Type 0 where
    pub same : y ≡ x
    pub count : c ≡ k
    pub room : (has y.name o || ltb (length o) MAX_OWN) ≡ true

  pub limited_sets : (y : Own) (c : ℕ) → limited o y c ≡ sets x k → Limited y c
  limited_sets y c e = by (has y.name o || ltb (length o) MAX_OWN) refl e
    where
      by : (b : Bool) → (has y.name o || ltb (length o) MAX_OWN) ≡ b → pick b (sets y c) (fails (unplaced DefinedMany)) ≡ sets x k → Limited y c
      by true q h = record { same = cc; count = cc; room = q }
      by false q h = refuses (unplaced DefinedMany) x k h

  -- the same for a string, which has at most 56 bytes
  pub text_sets : (y : Own) (c : ℕ) → limited_text o y c ≡ sets x k → (length y.content ≤ MAX_CONTENT) × Limited y c
  text_sets y c e = by (leb (length y.content) MAX_CONTENT) refl e
    where
      by : (b : Bool) → leb (length y.content) MAX_CONTENT ≡ b → pick b (limited o y c) (fails (unplaced DefinedLong)) ≡ sets x k
          → (length y.content ≤ MAX_CONTENT) × Limited y c
      by true q h = (leb-true (length y.content) MAX_CONTENT q, limited_sets y c h)
      by false q h = refuses (unplaced DefinedLong) x k h

  -- the name of a setting that an answer makes, and its room
  pub record Sets (n : List ℕ) : Type 0 where
    pub name : x.name ≡ n
    pub room : (has x.name o || ltb (length o) MAX_OWN) ≡ true

  limited_so : (n : List ℕ) (y : Own) (c : ℕ) → y.name ≡ n → Limited y c → Sets n
  limited_so n y c e h = record { name = sym (ap (λ z. z.name) h.same) ∙ e; room = rw h.same at h.room }

  answer_sets : (n : List ℕ) (p : ℕ) (a : Evaluation) → of_answer o n p a ≡ sets x k → Sets n
  unfolding of_answer
  answer_sets n p (value (number v) c) e = limited_so n (of_number n v) c refl (limited_sets (of_number n v) c e)
  answer_sets n p (value (fault f) c) e = refuses (unplaced DefinedLong) x k e
  answer_sets n p (refused r) e = refuses _ x k e
  answer_sets n p (value (text j q s) c) e = limited_so n (of_text n j s) c refl (text_sets (of_text n j s) c e).1

  module _ (t l : List ℕ) (δ : Dialect) (e : definition_of o t l δ ≡ sets x k) where
    -- the line has the right shape, and the setting has its name
    line_sets : (shaped l ≡ true) × Sets (macro_of l)
    unfolding definition_of
    line_sets = by (shaped l) refl e
      where
        by : (b : Bool) → shaped l ≡ b
            → pick b (of_answer o (macro_of l) (expression_start l) (evaluation_in (over (expression_of l) (scope o t)) (by_itself δ.old)))
            (fails (unplaced TextMalformed)) ≡ sets x k → (shaped l ≡ true) × Sets (macro_of l)
        by true q h = (q, answer_sets (macro_of l) (expression_start l) _ h)
        by false q h = refuses (unplaced TextMalformed) x k h

    pub line_shaped : shaped l ≡ true
    line_shaped = line_sets.0

    pub line_name : x.name ≡ macro_of l
    line_name = line_sets.1.name

    pub line_own_name : OwnName x.name
    line_own_name = rw line_name (shaped_name l line_shaped)

    pub line_name_in : name_in x ≡ x.name
    line_name_in = own_name_in x line_own_name

    -- the settings after the line: their names are names of macros, and differ, and they are 64 at most
    pub line_macros : AllMacros o → AllMacros (put x o)
    line_macros = put_macros x o (rw line_name_in line_own_name.whole)

    pub line_differ : AllDiffer o → AllDiffer (put x o)
    line_differ = put_differ x line_name_in o

    pub line_few : length o ≤ MAX_OWN → length (put x o) ≤ MAX_OWN
    line_few h = rw (put_length x o) (by (has x.name o) (ltb (length o) MAX_OWN) refl line_sets.1.room)
      where
        by : (b c : Bool) → ltb (length o) MAX_OWN ≡ c → (b || c) ≡ true → pick b (length o) (length o + 1) ≤ MAX_OWN
        by true c q r = h
        by false c q r = omega (arith, ltb-true (length o) MAX_OWN (q ∙ r))
