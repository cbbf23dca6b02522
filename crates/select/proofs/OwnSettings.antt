-- What a kept DEFINE line does to the settings: it puts the one that it says among them. By `same_own` any other line leaves them. Assumes
-- nothing.
use Prim.Native.Nat.{ℕ}
use mathlib.Core.Path.{◌≡◌, refl}
use mathlib.Core.Bool.{Bool, true, false}
use mathlib.Core.List.{List}
use lib.ListN.{length}
use lib.Dec.{ltb}
use Rattle.units.specs.declared.Dialect.{Dialect}
use Rattle.text.proofs.Laws.{pick_case}
use Rattle.own.specs.Own.{Own, put}
use Rattle.define.specs.Define.{Definition, sets, fails}
use Rattle.groups.specs.Groups.{State, Outcome, go, stop}
use Rattle.select.specs.Step.{defines, defined, step}
use Rattle.select.proofs.Steps.{told, same_own}

module _ (t : List ℕ) (δ : Dialect) (n : ℕ) (s : State) (l : List ℕ) where
  -- the setting that the line says is put among them
  abbrev Puts : Outcome → Type 0
  Puts (go m s') = (x : Own) × (k : ℕ) × (told t δ n s l ≡ sets x k) × (s'.own ≡ put x s.own)
  Puts (stop x) = Unit

  defined_puts : (d : Definition) → told t δ n s l ≡ d → Puts (defined d s)
  defined_puts (sets x k) e = (x, k, e, refl)
  defined_puts (fails f) e = tt

  step_puts : defines s l ≡ true → Puts (step t n s l δ)
  unfolding step
  step_puts e = pick_case Puts (ltb 1024 (length l)) (λ _. tt) (λ _. rw e (defined_puts (told t δ n s l) refl))

  module _ (m : ℕ) (s' : State) (e : step t n s l δ ≡ go m s') where
    -- THE THEOREM
    pub own_put : defines s l ≡ true → (x : Own) × (k : ℕ) × (told t δ n s l ≡ sets x k) × (s'.own ≡ put x s.own)
    own_put f = rw e at (step_puts f)

    -- what holds of the settings before the line, and is kept if the line puts one among them, holds after it
    pub own_keeps : (P : List Own → Type 0) → ((x : Own) (k : ℕ) → told t δ n s l ≡ sets x k → P s.own → P (put x s.own))
        → P s.own → P s'.own
    own_keeps P h p = by (defines s l) refl
      where
        by : (b : Bool) → defines s l ≡ b → P s'.own
        by true f = let w = own_put f in rw w.3 (h w.0 w.1 w.2 p)
        by false f = rw (same_own t δ n s l f m s' e) p
