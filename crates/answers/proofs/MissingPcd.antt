-- The place of a missing PCD is that of the leftmost: of the one before which none is missing (document 02, order 3, refusal 9). Assumes nothing.
use Rattle.std.specs.Prelude.{None}
use mathlib.Core.Path.{◌≡◌, refl}
use mathlib.Core.Bool.{true, false}
use mathlib.Core.List.{List, [], ◌∷◌, ◌++◌, Memᴰ}
use Rattle.units.specs.Leftmost.{there}
use Rattle.token.specs.Tokens.{Token}
use Rattle.value.specs.Places.{Memory}
use Rattle.value.specs.Values.{is_missing_pcd, missing_pcds}
use Rattle.leftmost.specs.Leftmost.{pcd_at}

module _ (m : Memory) where
  -- no token of a list is a PCD that is missing
  abbrev NoneMissing : List Token → Type 0
  NoneMissing ts = (j : Token) → Memᴰ j ts → is_missing_pcd m j ≡ false

  pub nine_at : (us : List Token) (k : Token) (vs : List Token) → NoneMissing us → is_missing_pcd m k ≡ true → pcd_at m (us ++ k ∷ vs) ≡ there k.start
  unfolding missing_pcds
  nine_at [] k vs none h = rw h
  nine_at (u ∷ us) k vs none h = rw (none u (Memᴰ.head refl)) (nine_at us k vs (λ j i. none j (Memᴰ.tail i)) h)

  pub nine_nowhere : (ts : List Token) → NoneMissing ts → pcd_at m ts ≡ None
  unfolding missing_pcds
  nine_nowhere [] none = refl
  nine_nowhere (t ∷ ts) none = rw (none t (Memᴰ.head refl)) (nine_nowhere ts (λ j i. none j (Memᴰ.tail i)))
