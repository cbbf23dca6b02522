-- A value that is answered is that of a tree which the tokens derive, and fewer operators were applied than there are tokens. Assumes
-- nothing.
use Rattle.std.specs.Prelude.{Err, None, Ok, Option, Result, Some}
use Prim.Native.Nat.{ℕ, ◌<◌}
use native.Mathlib.Omega.{arith}
use mathlib.Core.Path.{◌≡◌, refl, ap}
use mathlib.Core.Bool.{Bool, true, false}
use mathlib.Core.List.{List}
use lib.ListN.{length}
use Rattle.units.specs.Refusals.{refusal_at}
use Rattle.units.specs.declared.Offset.{Offset}
use Rattle.units.specs.declared.Reason.{Reason}
use Rattle.units.specs.declared.Reason.TheVariants.{TableMalformed, BarOutside, PcdMissing, KindsUnsuited}
use Rattle.units.specs.declared.Refusal.{Refusal}
use Rattle.units.specs.declared.Dialect.{Dialect}
use Rattle.text.specs.Bytes.{pick}
use Rattle.settings.specs.Table.{well_formed}
use Rattle.token.specs.Tokens.{Token, reading}
use Rattle.grammar.specs.Grammar.{Tree, expression, Derives}
use Rattle.grammar.specs.Fold.{fold}
use Rattle.grammar.specs.Parse.{Outcome, refused as underived, accepted, parse, Reads}
use Rattle.grammar.proofs.Lists.{list_reads}
use Rattle.grammar.proofs.Decided.{evaluates, bounded}
use Rattle.value.specs.Places.{Memory}
use Rattle.value.specs.Kinds.{clashes}
use Rattle.value.specs.Values.{Value, number, text, fault}
use Rattle.value.specs.Attributes.{Attributes}
use Rattle.value.specs.declared.Kind.{Kind}
use Rattle.value.specs.declared.Kind.TheVariants.{Number, String, Wide, Clash}
use Rattle.expression.specs.Meaning.{code_of, meaning}
use Rattle.expression.proofs.Counts.{counts}
use Rattle.leftmost.specs.Leftmost.{bar_at, pcd_at}
use Rattle.evaluation.specs.Evaluation.{Evaluation, value, refused, refused_with, answer_value, clash_in, refused_or, check_then_answer, END_TOKEN}
use Rattle.evaluation.specs.Evaluation.{token_in, start_in, answer_tokens, of_tokens, ended, evaluation_in, evaluation}

-- the attributes of an answered value: their kinds do not clash, and their value is no fault
pub record GivenBy (v : Value) (n : ℕ) (a : Attributes) : Type 0 where
  pub suited : clashes a.kind ≡ false
  pub given : answer_value v n ≡ value v n
  pub count : n ≡ a.count
  pub value : v ≡ a.value

module _ (v : Value) (n : ℕ) where
  abbrev IfValue : Attributes → Evaluation → Type 0
  IfValue a x = x ≡ value v n → GivenBy v n a

  pub never : (r : Refusal) → refused r ≡ value v n → ⊥
  never r e = let z : ◌≡◌ {A = ℕ} 0 1 = cc in omega arith

  answer_value_given : (a : Attributes) → clashes a.kind ≡ false → (w : Value) → a.value ≡ w → IfValue a (answer_value w a.count)
  answer_value_given a h (number x) g e = let w : v ≡ number x = cc in record { suited = h; count = cc; value = cc; given = rw w }
  answer_value_given a h (text k p s) g e = let w : v ≡ text k p s = cc in record { suited = h; count = cc; value = cc; given = rw w }
  answer_value_given a h (fault f) g e = absurd (never (refusal_at f.reason f.at.0) e)

  -- a refusal at a place is no value
  past : (a : Attributes) (w : Option Offset) (r : Reason) (x : Evaluation) → IfValue a x → IfValue a (refused_or w r x)
  past a None r x h = h
  past a (Some o) r x h = λ e. absurd (never (refusal_at r o.0) e)

  by_kind : (a : Attributes) (k : Kind) → a.kind ≡ k → IfValue a (refused_or (clash_in k) KindsUnsuited (answer_value a.value a.count))
  by_kind a Number h = answer_value_given a (ap clashes h) a.value refl
  by_kind a String h = answer_value_given a (ap clashes h) a.value refl
  by_kind a Wide h = answer_value_given a (ap clashes h) a.value refl
  by_kind a (Clash p) h = λ e. absurd (never (refusal_at KindsUnsuited p) e)

  pub check_then_answer_given : (bar pcd : Option Offset) (a : Attributes) → IfValue a (check_then_answer bar pcd a)
  check_then_answer_given bar pcd a = past a bar BarOutside _ (past a pcd PcdMissing _ (by_kind a a.kind refl))

module _ (m : Memory) (δ : Dialect) where
  abbrev read : List Token
  read = (reading m.expression δ).tokens

  pub tokens_read : Reads code_of read (token_in read)
  tokens_read = list_reads code_of END_TOKEN refl read

  -- a value is that of a tree that the tokens derive
  abbrev FromTree : (v : Value) (n : ℕ) → Type 0
  FromTree v n = (s : Tree Token) × Derives code_of expression read s × GivenBy v n (fold (meaning m) s)

  -- by the result of the parser
  by_outcome : (end : ℕ) (o : Outcome Attributes) → parse code_of (meaning m) (token_in read) (length read) ≡ o
      → (v : Value) (n : ℕ) → answer_tokens (start_in read end) (bar_at read δ) (pcd_at m read) o ≡ value v n → FromTree v n
  by_outcome end (underived i) p v n h = absurd (never v n _ h)
  by_outcome end (accepted a) p v n h =
      let r = ((evaluates tokens_read (meaning m)).accepted_exactly a).0 p in
      let s : Tree Token = r.0 in
      let k : check_then_answer (bar_at read δ) (pcd_at m read) (fold (meaning m) s) ≡ value v n = rw (← r.2) h in
      (s, r.1, check_then_answer_given v n (bar_at read δ) (pcd_at m read) (fold (meaning m) s) k)

  pub from_tree : (v : Value) (n : ℕ) → evaluation_in m δ ≡ value v n → FromTree v n
  unfolding evaluation_in of_tokens
  from_tree v n = by (reading m.expression δ).ending
    where
      by : (y : Result Offset Refusal) → ended y (λ end. of_tokens m read end δ) ≡ value v n → FromTree v n
      by (Err r) h = absurd (never v n _ h)
      by (Ok end) h = by_outcome end.0 (parse code_of (meaning m) (token_in read) (length read)) refl v n h

  -- fewer operators were applied than the expression has tokens
  pub counted : (v : Value) (n : ℕ) → evaluation_in m δ ≡ value v n → n < length read
  counted v n h =
      let r = from_tree v n h in
      omega (arith, r.2.count, bounded code_of (meaning m) (λ a. a.count) (counts m) read r.0 r.1)

  -- an answered value is answered over a well-formed table
  pub over_well_formed : (v : Value) (n : ℕ) → evaluation m δ ≡ value v n → (well_formed m.table ≡ true) × (evaluation_in m δ ≡ value v n)
  unfolding evaluation
  over_well_formed v n = by (well_formed m.table) refl
    where
      by : (b : Bool) → well_formed m.table ≡ b → pick b (evaluation_in m δ) (refused_with TableMalformed) ≡ value v n
          → (well_formed m.table ≡ true) × (evaluation_in m δ ≡ value v n)
      by false e h = absurd (never v n _ h)
      by true e h = (e, h)
