-- Whether all records of a list are settings. Assumes nothing.
use Prim.Native.Nat.{ℕ}
use mathlib.Core.Path.{◌≡◌, refl}
use mathlib.Core.List.{List, [], ◌∷◌}
use Rattle.std.specs.List.{list_all}
use Rattle.progress.specs.Reading.{is_setting, are_settings}

pub settings_all : (rs : List (List ℕ)) → list_all is_setting rs ≡ are_settings rs
unfolding are_settings
settings_all [] = refl
settings_all (r ∷ rs) = rw (settings_all rs)
