-- A run by the blocks of its lines: lines derive at most one list of blocks, and lines that derive blocks within the limits run as these
-- mean. Assumes nothing.
use Prim.Native.Nat.{ℕ, ◌+◌, ◌≤◌}
use native.Mathlib.Omega.{arith}
use native.Mathlib.Nat.{zero-add, add_comm}
use mathlib.Core.Path.{◌≡◌, sym, ◌∙◌}
use mathlib.Core.Bool.{true}
use mathlib.Core.List.{List, [], append-nil}
use Rattle.units.specs.declared.Dialect.{Dialect}
use Rattle.units.specs.declared.Fault.{Fault}
use Rattle.own.specs.Own.{Own}
use Rattle.groups.specs.Groups.{state}
use Rattle.select.specs.Select.{accepted, refused, run, start}
use Rattle.select.proofs.LimitsCorrect.{never}
use Rattle.blocks.specs.Blocks.{Blocks, lines_of, Derives, depth}
use Rattle.blocks.specs.Meaning.{Meaning, means, fault, meaning, result_of, WithinLimit}
use Rattle.blocks.proofs.Continuation.{onto_accepted, follow}
use Rattle.blocks.proofs.RunMeaning.{blocks_go}
use Rattle.blocks.proofs.Unambiguous.{same_blocks}

pub unambiguous : (ls : List (List ℕ)) (a b : Blocks) → Derives ls a → Derives ls b → a ≡ b
unambiguous ls a b p q = (same_blocks a p.words b q.words [] [] tt tt (simp append-nil (sym p.lines ∙ q.lines))).0

-- a meaning with no line after it
follow_end : (t : List ℕ) (δ : Dialect) (a : Meaning) → follow 1 0 a (λ n k own. run t n (state [] k own) [] δ) ≡ result_of a
unfolding run
follow_end t δ (means ms c own) = onto_accepted ms [] (0 + c) ∙ rw (append-nil, zero-add)
follow_end t δ (fault x i) = rw (add_comm 1 i)

pub run_complete : (t : List ℕ) (δ : Dialect) (ls : List (List ℕ)) (bs : Blocks) → Derives ls bs → depth bs ≤ 16 → WithinLimit ls
    → run t 1 start ls δ ≡ result_of (meaning t [] true bs δ)
run_complete t δ ls bs d h s =
    let w : WithinLimit (lines_of bs) = rw d.lines at s in
    let e = blocks_go t δ bs d.words w [] (omega arith) [] 1 0 [] in
    rw d.lines (rw append-nil at e ∙ follow_end t δ (meaning t [] true bs δ))

-- the meaning of lines, from their result
pub accepted_means : (a : Meaning) (ms : List ℕ) (c : ℕ) → result_of a ≡ accepted ms c → (own : List Own) × (a ≡ means ms c own)
accepted_means (means ns d own) ms c e = (own, cc)
accepted_means (fault x i) ms c e = never _ x (i + 1) ms c e

pub refused_means : (a : Meaning) (x : Fault) (i : ℕ) → result_of a ≡ refused x (i + 1) → a ≡ fault x i
refused_means (means ns d own) x i e = never _ x (i + 1) ns d (sym e)
refused_means (fault y j) x i e =
    let p : y ≡ x = cc in
    let q : j + 1 ≡ i + 1 = cc in
    let z : j ≡ i = omega arith in
    rw (p, z)
