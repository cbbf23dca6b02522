-- The examples hold of derivations, since the parser refuses them at the listed tokens and refuses at the first bad token.
use Prim.Native.Nat.{ℕ}
use mathlib.Core.Path.{◌≡◌, refl}
use mathlib.Core.List.{List, [], ◌∷◌, map}
use Rattle.grammar.specs.Parse.{END, refused}
use Rattle.grammar.specs.Decides.{trees}
use Rattle.grammar.proofs.Lists.{list_reads}
use Rattle.beginnings.specs.Beginnings.{Supply}
use Rattle.beginnings.specs.Examples.{Example, examples, outcome, examples_hold, Located, AllLocated}
use Rattle.beginnings.proofs.FirstBad.{locates}

-- a code is its own token
supply : Supply (λ c. c)
supply = record { token = λ c. c; coded = λ c. refl }

located : (cs : List ℕ) (e : ℕ) → outcome cs ≡ refused e → Located cs e
located cs e h = (locates supply (list_reads (λ c. c) END refl cs) trees e).0 h

all_located : (xs : List Example) → map (λ x. outcome x.tokens) xs ≡ map (λ x. refused x.bad) xs → AllLocated xs
all_located [] h = tt
all_located (x ∷ xs) h = (located x.tokens x.bad (cc), all_located xs (cc))

pub examples_located : AllLocated examples
examples_located = all_located examples examples_hold
