-- Runs of unary operators: how one grows to the right, and where it ends.
use Prim.Native.Nat.{ℕ, ◌+◌, ◌≤◌, ◌<◌}
use native.Mathlib.Omega.{arith}
use mathlib.Core.Path.{◌≡◌, refl}
use mathlib.Core.Bool.{true, false}
use mathlib.Core.List.{List}
use lib.ListN.{get_or}
use borrow.Author.Count.{below_more}
use borrow.Author.Tests.{lt-ltb, le-ltb}
use Rattle.codes.specs.Levels.{is_unary}
use Rattle.grammar.specs.Parse.{END}
use Rattle.syntax.specs.Order.{code_at}
use Rattle.syntax.specs.Descent.{Run}

-- the code of one of the tokens
pub code_in : (cs : List ℕ) (n j : ℕ) → j < n → code_at cs n j ≡ get_or cs j 0
code_in cs n j h = rw (lt-ltb j n h)

end_code : is_unary END ≡ false
unfolding is_unary
end_code = refl

-- a run stops after the last token
pub end_stops : (cs : List ℕ) (n j : ℕ) → n ≤ j → is_unary (code_at cs n j) ≡ false
end_stops cs n j h = rw (le-ltb j n h) end_code

module _ (cs : List ℕ) (n : ℕ) where
  -- no operator
  pub empty : (i : ℕ) → i ≤ n → Run cs n i i
  empty i h = record { from = omega arith; to = h; each = λ x f g. absurd (omega arith) }

  -- one more operator after it
  pub longer : (i j : ℕ) → Run cs n i j → j < n → is_unary (get_or cs j 0) ≡ true → Run cs n i (j + 1)
  longer i j r l e =
      let h : is_unary (code_at cs n j) ≡ true = rw (code_in cs n j l) e in
      record {
        from = omega (arith, r.from);
        to = omega (arith, l);
        each = λ x f g. below_more (λ y. i ≤ y → is_unary (code_at cs n y) ≡ true) j (λ y b a. r.each y a b) (λ a. h) x g f;
      }
