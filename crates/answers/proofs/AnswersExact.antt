-- The answer to an expression in terms of derivations. The grammar's parser decides whether the tokens derive a tree and gives what the
-- tree folds to; if they derive none, it names the first token after which no continuation derives. Shown here: no later refusal is 7, since
-- evaluation meets only 11 and 12 if the kinds do not clash. Assumes nothing.
use Rattle.std.specs.Prelude.{Err, None, Ok, Option, Some}
use Prim.Native.Nat.{ℕ, ◌<◌}
use native.Mathlib.Omega.{arith}
use mathlib.Core.List.{List}
use mathlib.Core.Path.{◌≡◌, refl, sym, ap, ◌∙◌}
use mathlib.Core.Logic.{inl, inr}
use mathlib.Core.Bool.{true, false}
use lib.ListN.{length}
use Rattle.units.specs.Refusals.{reason_number, refusal_at, NO_DERIVATION}
use Rattle.units.specs.declared.Refusal.{Refusal}
use Rattle.units.specs.declared.Dialect.{Dialect}
use Rattle.units.specs.declared.Offset.{Offset}
use Rattle.units.specs.declared.Reason.{Reason}
use Rattle.units.specs.declared.Reason.TheVariants.{BarOutside, KindsUnsuited, NoDerivation, PcdMissing, TableMalformed}
use Rattle.text.specs.Bytes.{pick}
use Rattle.settings.specs.Table.{well_formed}
use Rattle.token.specs.Tokens.{Token, first_place, reading}
use Rattle.grammar.specs.Grammar.{Tree, Leaf, Unary, Binary, Choice, expression, Derives}
use Rattle.grammar.specs.Fold.{fold}
use Rattle.grammar.specs.Bars.{bare_bars}
use Rattle.grammar.proofs.Decided.{evaluates}
use Rattle.grammar.proofs.Bars.{bars_seen}
use Rattle.beginnings.specs.Beginnings.{FirstBad, Supply}
use Rattle.beginnings.proofs.FirstBad.{locates}
use Rattle.value.specs.Places.{Memory}
use Rattle.value.specs.Values.{Value, number, text, fault, kind_of, RuntimeRefusal, HasKind}
use Rattle.value.specs.Attributes.{Attributes}
use Rattle.value.specs.declared.Kind.{Kind}
use Rattle.value.specs.Kinds.{clashes}
use Rattle.value.specs.declared.Kind.TheVariants.{Clash}
use Rattle.soundness.proofs.KindSound.{KindSound, primary_kind_sound, unary_kind_sound, binary_kind_sound, choice_kind_sound}
use Rattle.expression.specs.Meaning.{code_of, meaning}
use Rattle.leftmost.specs.Leftmost.{pcd_at}
use Rattle.evaluation.specs.Evaluation.{Evaluation, refusal_number, value, refused, refused_at, refused_with, answer_value, clash_in, refused_or}
use Rattle.evaluation.specs.Evaluation.{check_then_answer, start_in, of_tokens, evaluation_in, evaluation}
use Rattle.evaluation.proofs.FromTree.{GivenBy, never, check_then_answer_given, tokens_read, counted as counts-below}

-- the value of a tree has its kind, from the leaves up
pub kind_sound : (m : Memory) (s : Tree Token) → KindSound (fold (meaning m) s)
unfolding fold
kind_sound m (Leaf k) = primary_kind_sound m k
kind_sound m (Unary o s) = unary_kind_sound o (fold (meaning m) s) (kind_sound m s)
kind_sound m (Binary o l r) = binary_kind_sound o (fold (meaning m) l) (fold (meaning m) r) (kind_sound m l) (kind_sound m r)
kind_sound m (Choice q c a b) =
    choice_kind_sound q (fold (meaning m) c) (fold (meaning m) a) (fold (meaning m) b) (kind_sound m c) (kind_sound m a) (kind_sound m b)

runtime_not_7 : (n : Reason) → RuntimeRefusal n → reason_number n ≡ NO_DERIVATION → ⊥
runtime_not_7 n (inl h) e = cc
runtime_not_7 n (inr h) e = cc

answer_value_not_7 : (k : Kind) (v : Value) (n : ℕ) → HasKind k v → refusal_number (answer_value v n) ≡ NO_DERIVATION → ⊥
answer_value_not_7 k (number x) n h e = omega arith
answer_value_not_7 k (text j p s) n h e = omega arith
answer_value_not_7 k (fault f) n h e = runtime_not_7 f.reason h e

abbrev Not7 : Evaluation → Type 0
Not7 x = refusal_number x ≡ NO_DERIVATION → ⊥

-- a refusal with another number at a place
other_number : (w : Option Offset) (r : Reason) (x : Evaluation) → (reason_number r ≡ NO_DERIVATION → ⊥) → Not7 x → Not7 (refused_or w r x)
other_number None r x g h = h
other_number (Some o) r x g h = g

by_kind : (k : Kind) (v : Value) (n : ℕ) → (clashes k ≡ false → HasKind k v) → Not7 (refused_or (clash_in k) KindsUnsuited (answer_value v n))
by_kind (Clash p) v n h = λ e. omega arith
by_kind k v n h = answer_value_not_7 k v n (h refl)

check_then_answer_not_7 : (bar pcd : Option Offset) (a : Attributes) → KindSound a → Not7 (check_then_answer bar pcd a)
check_then_answer_not_7 bar pcd a h =
    other_number bar BarOutside _ (λ e. omega arith)
    (other_number pcd PcdMissing _ (λ e. omega arith) (by_kind a.kind a.value a.count h))

-- a value that is no fault has this kind
kind_of_value : (k : Kind) (v : Value) (n : ℕ) → HasKind k v → answer_value v n ≡ value v n → kind_of v ≡ k
kind_of_value k (number x) n h e = sym h
kind_of_value k (text j p s) n h e = sym h
kind_of_value k (fault f) n h e = absurd (never (fault f) n (refusal_at f.reason f.at.0) e)

given_kind : (v : Value) (n : ℕ) (a : Attributes) → KindSound a → GivenBy v n a → kind_of v ≡ a.kind
given_kind v n a h w = kind_of_value a.kind v n (rw w.value (h w.suited)) w.given

-- there is a token of every code
pub token_supply : Supply code_of
token_supply = record { token = λ c. record { code = c; start = 0; len = 0; value = 0 }; coded = λ c. refl }

module _ (m : Memory) (δ : Dialect) where
  pub malformed : well_formed m.table ≡ false → evaluation m δ ≡ refused_with TableMalformed
  unfolding evaluation
  malformed h = rw h

  pub is_well_formed : well_formed m.table ≡ true → evaluation m δ ≡ evaluation_in m δ
  unfolding evaluation
  is_well_formed h = rw h

  abbrev read : List Token
  read = (reading m.expression δ).tokens

  pub unreadable : (r : Refusal) → (reading m.expression δ).ending ≡ Err r → evaluation_in m δ ≡ refused r
  unfolding evaluation_in
  unreadable r k = rw k

  module _ (end : Offset) (complete : (reading m.expression δ).ending ≡ Ok end) where
    by_tokens : evaluation_in m δ ≡ of_tokens m read end.0 δ
    unfolding evaluation_in
    by_tokens = rw complete

    -- the tree decides
    pub derived : (s : Tree Token) (d : Derives code_of expression read s)
        → evaluation_in m δ ≡ check_then_answer (pick δ.bars None (first_place (bare_bars code_of d))) (pcd_at m read) (fold (meaning m) s)
    unfolding of_tokens
    derived s d =
        by_tokens ∙ rw (((evaluates (tokens_read m δ) (meaning m)).accepted_exactly (fold (meaning m) s)).1 (s, d, refl), bars_seen code_of d)

    -- no derivation: 7, at the first token after which no continuation derives
    pub underived : ((s : Tree Token) → Derives code_of expression read s → ⊥)
        → (e : ℕ) → FirstBad code_of read e → evaluation_in m δ ≡ refused_at NoDerivation (start_in read end.0 e)
    unfolding of_tokens
    underived h e f = by_tokens ∙ rw ((locates token_supply (tokens_read m δ) (meaning m) e).1 (h, f))

    -- a derivation: no 7
    pub not_7 : refusal_number (evaluation_in m δ) ≡ NO_DERIVATION → (s : Tree Token) → Derives code_of expression read s → ⊥
    not_7 h s d =
        check_then_answer_not_7 (pick δ.bars None (first_place (bare_bars code_of d))) (pcd_at m read) (fold (meaning m) s) (kind_sound m s)
        (ap refusal_number (sym (derived s d)) ∙ h)

    -- the value has the kind of the tree
    pub value_kind : (s : Tree Token) → Derives code_of expression read s
        → (v : Value) (n : ℕ) → evaluation_in m δ ≡ value v n → kind_of v ≡ (fold (meaning m) s).kind
    value_kind s d v n h =
        let bar = pick δ.bars None (first_place (bare_bars code_of d)) in
        given_kind v n (fold (meaning m) s) (kind_sound m s)
        (check_then_answer_given v n bar (pcd_at m read) (fold (meaning m) s) (sym (derived s d) ∙ h))

  pub counted : (v : Value) (n : ℕ) → evaluation_in m δ ≡ value v n → n < length read
  counted = counts-below m δ
