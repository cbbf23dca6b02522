-- The place that an expression carries for refusal 10 is that of the first operator to blame: of those whose operands are of wrong kinds while
-- none inside its operands is, the leftmost (document 02, order 3). Assumes nothing.
use Rattle.std.specs.Prelude.{None, Ok}
use Prim.Native.Nat.{ℕ}
use mathlib.Core.Path.{◌≡◌, refl, sym, ◌∙◌}
use mathlib.Core.Bool.{Bool, true, false, ◌&&◌, false≢true}
use Rattle.units.specs.declared.Dialect.{Dialect}
use Rattle.units.specs.declared.Offset.{Offset}
use Rattle.units.specs.declared.Reason.TheVariants.{BarOutside, KindsUnsuited, PcdMissing}
use Rattle.text.specs.Bytes.{pick}
use Rattle.lookup.specs.declared.TextKind.{TextKind}
use Rattle.lookup.specs.declared.TextKind.TheVariants.{String as TextString, Wide as TextWide}
use Rattle.token.specs.Tokens.{Token, first_place, reading}
use Rattle.grammar.specs.Grammar.{Tree, expression, Derives}
use Rattle.grammar.specs.Bars.{bare_bars}
use Rattle.grammar.specs.Fold.{fold}
use Rattle.blame.specs.Blame.{to_blame}
use Rattle.blame.proofs.Carried.{CarriesBlame, Leads}
use Rattle.blame.proofs.FirstBlamed.{blamed}
use Rattle.value.specs.Places.{Memory}
use Rattle.value.specs.Kinds.{of_text, is_number, alike_kinds, suits, clashes, unary_kind, binary_kind, choice_kind}
use Rattle.value.specs.Values.{Value, number, text, fault, kind_of, primary_value}
use Rattle.value.specs.declared.Kind.{Kind}
use Rattle.value.specs.declared.Kind.TheVariants.{Number, String, Wide, Clash}
use Rattle.value.proofs.Clashes.{no_clash, a_clash}
use Rattle.soundness.proofs.PlacesWithin.{Faultless, primary_faultless}
use Rattle.expression.specs.Meaning.{code_of, meaning}
use Rattle.leftmost.specs.Leftmost.{pcd_at}
use Rattle.evaluation.specs.Evaluation.{answer_value, clash_in, refused_or, evaluation_in}
use Rattle.answers.specs.Tests.{wrong_kinds}
use Rattle.answers.proofs.AnswersExact.{derived}

-- the place that a kind carries, 0 without a clash
abbrev carried : Kind → ℕ
carried Number = 0
carried String = 0
carried Wide = 0
carried (Clash p) = p

text_whole : (k : TextKind) → clashes (of_text k) ≡ false
text_whole TextString = refl
text_whole TextWide = refl

value_whole : (v : Value) → Faultless v → clashes (kind_of v) ≡ false
value_whole (number x) h = refl
value_whole (text k p s) h = text_whole k
value_whole (fault f) h = absurd h

-- a kind of an operator itself: what it gives, or a clash at its own place
own : (b : Bool) (k : Kind) (at : ℕ) → clashes k ≡ false → clashes (pick b k (Clash at)) ≡ true → carried (pick b k (Clash at)) ≡ at
own true k at h e = absurd (false≢true (sym h ∙ e))
own false k at h e = refl

-- the clash of an operand
handed : (k j : Kind) → j ≡ k → clashes k ≡ true → (clashes j ≡ true) × (carried j ≡ carried k)
handed k j e h = rw e (h, refl)

carries : (m : Memory) → CarriesBlame (meaning m) wrong_kinds (λ a. carried a.kind) (λ k. k.start)
unfolding unary_kind binary_kind choice_kind
carries m =
    record {
      leaf = λ k. value_whole (primary_value m k) (primary_faultless m k);
      unary_operand = λ o a h. handed a.kind (unary_kind o.start a.kind) (a_clash a.kind _ h) h;
      unary_own = λ o a h.
          rw (no_clash a.kind (pick (is_number a.kind) Number (Clash o.start)) h) (own (is_number a.kind) Number o.start refl);
      binary_left = λ o a b h. handed a.kind (binary_kind o.code o.start a.kind b.kind) (a_clash a.kind _ h) h;
      binary_right = λ o a b h i.
          handed b.kind (binary_kind o.code o.start a.kind b.kind) (no_clash a.kind _ h ∙ a_clash b.kind _ i) i;
      binary_own = λ o a b h i.
          let fits = suits o.code a.kind b.kind in
          rw (no_clash a.kind _ h ∙ no_clash b.kind (pick fits Number (Clash o.start)) i) (own fits Number o.start refl);
      choice_test = λ q c a b h. handed c.kind (choice_kind q.start c.kind a.kind b.kind) (a_clash c.kind _ h) h;
      choice_first = λ q c a b h i.
          handed a.kind (choice_kind q.start c.kind a.kind b.kind) (no_clash c.kind _ h ∙ a_clash a.kind _ i) i;
      choice_second = λ q c a b h i j.
          handed b.kind (choice_kind q.start c.kind a.kind b.kind) (no_clash c.kind _ h ∙ no_clash a.kind _ i ∙ a_clash b.kind _ j) j;
      choice_own = λ q c a b h i j.
          let fits = is_number c.kind && alike_kinds a.kind b.kind in
          rw (no_clash c.kind _ h ∙ no_clash a.kind _ i ∙ no_clash b.kind (pick fits a.kind (Clash q.start)) j)
          (own fits a.kind q.start i);
    }

-- THE THEOREM
pub clash_blamed : (m : Memory) (s : Tree Token) → clash_in (fold (meaning m) s).kind ≡ first_place (to_blame (meaning m) wrong_kinds s)
clash_blamed m s = by (fold (meaning m) s).kind (blamed (carries m) s)
  where
    by : (k : Kind) → Leads (λ t. t.start) (clashes k) (to_blame (meaning m) wrong_kinds s) (carried k)
        → clash_in k ≡ first_place (to_blame (meaning m) wrong_kinds s)
    by (Clash p) l = let f = l.first refl in rw (f.2, f.3)
    by _ l = rw (l.none refl)

-- so the answer of a tree has the places that the order names: of a bar, of a PCD, of an operator to blame
pub tree_decides : (m : Memory) (δ : Dialect) (end : Offset) → (reading m.expression δ).ending ≡ Ok end
    → (s : Tree Token) (d : Derives code_of expression (reading m.expression δ).tokens s)
    → evaluation_in m δ
    ≡ refused_or (pick δ.bars None (first_place (bare_bars code_of d))) BarOutside
    (refused_or (pcd_at m (reading m.expression δ).tokens) PcdMissing
    (refused_or (first_place (to_blame (meaning m) wrong_kinds s)) KindsUnsuited
    (answer_value (fold (meaning m) s).value (fold (meaning m) s).count)))
tree_decides m δ end h s d = derived m δ end h s d ∙ rw (clash_blamed m s)
