-- In the new edition no token depends on the one before it, and the old edition differs in bare words only. Assumes nothing.
use Rattle.std.specs.Prelude.{Err, Ok, Result}
use Prim.Native.Nat.{ℕ}
use mathlib.Core.Path.{◌≡◌, refl, sym, ap, ◌∙◌}
use mathlib.Core.Logic.{◌⊎◌, inl, inr}
use mathlib.Core.Bool.{Bool, true, false, ◌&&◌}
use mathlib.Core.List.{List}
use lib.ListN.{get_or, take}
use lib.Dec.{ltb}
use Rattle.units.specs.Dialects.{in_new, in_old}
use Rattle.units.specs.declared.Dialect.{Dialect}
use Rattle.units.specs.declared.Reason.{Reason}
use Rattle.units.specs.declared.Reason.TheVariants.{TokenBad}
use Rattle.text.specs.Bytes.{initial, class_of}
use Rattle.text.specs.Runs.{span}
use Rattle.text.specs.Names.{pcd_name}
use Rattle.text.specs.declared.bytes.Class.{Class}
use Rattle.text.specs.declared.bytes.Class.TheVariants.{Initial}
use Rattle.text.specs.declared.runs.Set.TheVariants.{Word}
use Rattle.text.proofs.Laws.{pick_both, class_case}
use Rattle.codes.specs.Spellings.{words}
use Rattle.codes.specs.declared.Lexeme.{Lexeme}
use Rattle.lexeme.specs.Lexeme.{spelled, is_wide, or_bare, word_of, lexeme_by, lexeme}
use Rattle.editions.specs.BareWords.{BareWord}
use Rattle.editions.proofs.Codes.{Only3, word_only_3}

run_alone : (after : Bool) (n : ℕ) (x : Result Lexeme Reason) → or_bare (after && false) n x ≡ x
run_alone after n (Ok f) = refl
run_alone true n (Err r) = refl
run_alone false n (Err r) = refl

word_alone : (n : ℕ) (after : Bool) (s : List ℕ) (δ : Dialect) → word_of n after s (in_new δ) ≡ word_of n false s (in_new δ)
unfolding word_of
word_alone n after s δ =
    let w : Result Lexeme Reason = spelled words (take n s) in
    pick_both ◌≡◌ (ltb 0 (pcd_name s)) (λ _. refl)
    (λ _. pick_both ◌≡◌ (is_wide s n) (λ _. refl) (λ _. run_alone after n w ∙ sym (run_alone false n w)))

-- THE FIRST THEOREM
pub new_alone : (after : Bool) (s : List ℕ) (δ : Dialect) → lexeme after s (in_new δ) ≡ lexeme false s (in_new δ)
unfolding lexeme lexeme_by
new_alone after s δ = by (class_of (get_or s 0 0))
  where
    by : (c : Class) → lexeme_by c after s (in_new δ) ≡ lexeme_by c false s (in_new δ)
    by Initial = word_alone (span Word s) after s δ
    by _ = refl

module _ (after : Bool) (s : List ℕ) (δ : Dialect) where
  abbrev run : ℕ
  run = span Word s

  -- the old edition's x is the new one's y, or the run may be a bare word
  abbrev Either : (x y : Result Lexeme Reason) → Type 0
  Either x y = (x ≡ y) ⊎ ((after ≡ true) × (is_wide s run ≡ false) × (y ≡ Err TokenBad))

  run_either : (a : Bool) → after ≡ a → is_wide s run ≡ false → (x : Result Lexeme Reason) → Only3 x
      → Either (or_bare (a && true) run x) (or_bare (a && false) run x)
  run_either a q w (Ok f) h = inl refl
  run_either true q w (Err r) h = inr (q, w, ap Err h)
  run_either false q w (Err r) h = inl refl

  word_either : Either (word_of run after s (in_old δ)) (word_of run after s (in_new δ))
  unfolding word_of
  word_either =
      pick_both Either (ltb 0 (pcd_name s)) (λ _. inl refl)
      (λ _. pick_both Either (is_wide s run) (λ _. inl refl) (λ w. run_either after refl w (spelled words (take run s)) (word_only_3 (take run s))))

  -- the same by the class of the first byte
  abbrev Split : Class → Type 0
  Split c = (lexeme_by c after s (in_old δ) ≡ lexeme_by c after s (in_new δ))
      ⊎ ((initial (get_or s 0 0) ≡ true) × (after ≡ true) × (is_wide s run ≡ false) × (lexeme_by c after s (in_new δ) ≡ Err TokenBad))

  split : Split (class_of (get_or s 0 0))
  unfolding lexeme_by
  split = class_case (get_or s 0 0) Split (λ i. by i word_either) (λ _. inl refl) (λ _. inl refl) (inl refl) (inl refl) (inl refl) (inl refl) (inl refl)
    where
      by : initial (get_or s 0 0) ≡ true → Either (word_of run after s (in_old δ)) (word_of run after s (in_new δ)) → Split Initial
      by i (inl e) = inl e
      by i (inr w) = inr (i, w.0, w.1, w.2)

  -- THE SECOND THEOREM
  pub only_bare_words : (lexeme after s (in_old δ) ≡ lexeme after s (in_new δ)) ⊎ BareWord after s (span Word s) δ
  unfolding lexeme
  only_bare_words = by split
    where
      by : Split (class_of (get_or s 0 0)) → (lexeme after s (in_old δ) ≡ lexeme after s (in_new δ)) ⊎ BareWord after s (span Word s) δ
      by (inl e) = inl e
      by (inr w) =
          inr (record {
            after_equality = w.1;
            no_digit_first = w.0;
            whole_run = refl;
            no_wide_string = w.2;
            refused_in_new = sym (new_alone after s δ) ∙ w.3;
          })
