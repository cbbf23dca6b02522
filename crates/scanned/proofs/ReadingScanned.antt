-- The reading of an expression is what the relation `Scanned` says, and nothing else is: by induction on the bytes that are left, and on the
-- relation. Assumes nothing.
use Rattle.std.specs.Prelude.{Err, Ok, Result}
use Prim.Native.Nat.{ℕ, zero, suc, ◌+◌, ◌≤◌, ◌<◌}
use native.Mathlib.Omega.{arith}
use mathlib.Core.Path.{◌≡◌, refl, sym, ◌∙◌}
use mathlib.Core.Bool.{Bool, true, false, false≢true}
use mathlib.Core.List.{List}
use lib.ListN.{length, get_or, drop, length-drop}
use lib.Dec.{eqb, ltb}
use borrow.Author.Tests.{ltb-true, ltb-false, eqb-true}
use Rattle.units.specs.declared.Dialect.{Dialect}
use Rattle.units.specs.declared.Offset.{Offset}
use Rattle.units.specs.declared.Reason.{Reason}
use Rattle.units.specs.declared.Refusal.{Refusal}
use Rattle.text.specs.Bytes.{byte, initial, digit, quote, blank, operator, class_of}
use Rattle.text.proofs.Laws.{pick_case}
use Rattle.text.specs.declared.bytes.Class.TheVariants.{Blank, Comment}
use Rattle.codes.specs.Levels.{is_equality}
use Rattle.codes.specs.declared.Lexeme.{Lexeme}
use Rattle.lexeme.specs.Lexeme.{lexeme}
use Rattle.lexeme.proofs.Within.{Within, lexeme_in}
use Rattle.token.specs.Tokens.{MAX_TOKENS, Token, Reading, read_from}
use Rattle.token.specs.Steps.{Starts as OfClass}
use Rattle.token.proofs.Reading.{at_end as reads_end, at_blank as reads-blank, at_comment as reads-comment, at_full, at_wrong, at_found}
use Rattle.scanned.specs.Scanned.{Starts, Scanned, at_end, at_comment, at_blank, too_many, unreadable, token}

-- the classes of the bytes that the relation names
class_blank : (b : ℕ) → blank b ≡ true → class_of b ≡ Blank
unfolding class_of
class_blank b h = by (eqb b (byte " ")) refl
  where
    by : (t : Bool) → eqb b (byte " ") ≡ t → class_of b ≡ Blank
    by true e = rw (eqb-true b (byte " ") e)
    by false e = rw (eqb-true b (byte "\t") (rw e at h))

class_comment : (b : ℕ) → eqb b (byte "#") ≡ true → class_of b ≡ Comment
unfolding class_of
class_comment b h = rw (eqb-true b (byte "#") h)

class_other : (b : ℕ) → blank b ≡ false → eqb b (byte "#") ≡ false → OfClass (class_of b)
unfolding class_of
class_other b h k =
    pick_case OfClass (initial b) (λ _. tt) (λ _. pick_case OfClass (digit b) (λ _. tt) (λ _. pick_case OfClass (quote b) (λ _. tt)
    (λ _. pick_case OfClass (blank b) (λ e. absurd (false≢true (sym h ∙ e))) (λ _. pick_case OfClass (operator b) (λ _. tt)
    (λ _. pick_case OfClass (eqb b (byte "$")) (λ _. tt) (λ _. pick_case OfClass (eqb b (byte "#")) (λ e. absurd (false≢true (sym k ∙ e))) (λ _. tt)))))))

module _ (e : List ℕ) (δ : Dialect) where
  -- the reading from byte `at` on, where `room` more tokens are allowed, is so
  abbrev Reads : (n room at : ℕ) → (after : Bool) → Type 0
  Reads n room at after = let r : Reading = read_from at room 0 after (drop at e) δ in Scanned e δ n at after r.tokens r.ending

  -- wherever at most `left` bytes are left
  abbrev AllRead : (left : ℕ) → Type 0
  AllRead left = (n room at : ℕ) (after : Bool) → at ≤ length e → length e ≤ at + left → n + room ≡ 200 → Reads n room at after

  ended : (n room at : ℕ) (after : Bool) → at ≡ length e → Reads n room at after
  ended n room at after h = rw (reads_end e at room after δ (omega arith)) (at_end h)

  -- one step
  module _ (left n at : ℕ) (after : Bool) (h : length e ≤ at + suc left) (ih : AllRead left) where
    by_token : (room : ℕ) (x : Result Lexeme Reason) → n + room ≡ 200 → Starts e at → lexeme after (drop at e) δ ≡ x → Within (drop at e) x
        → Reads n room at after
    by_token zero x k s w i =
        rw (at_full e at after δ s.inside _ refl (class_other _ s.no_blank s.no_comment)) (too_many {n = n} s (omega arith))
    by_token (suc room) (Err r) k s w i =
        rw (at_wrong e at after δ s.inside _ refl (class_other _ s.no_blank s.no_comment) room r w) (unreadable {n = n} s (omega arith) w)
    by_token (suc room) (Ok f) k s w i =
        let ends : at + f.len ≤ length e = omega (arith, i.1, s.inside, length-drop at e) in
        rw (at_found e at after δ s.inside _ refl (class_other _ s.no_blank s.no_comment) room f w i.0 ends)
        (token {n = n} s (omega arith) w (ih (n + 1) room (at + f.len) (is_equality f.code) ends (omega (arith, i.0)) (omega arith)))

    by_byte : (room : ℕ) (t u : Bool) → n + room ≡ 200 → at < length e → blank (get_or e at 0) ≡ t → eqb (get_or e at 0) (byte "#") ≡ u
        → Reads n room at after
    by_byte room true u k i p q =
        rw (reads-blank e at after δ i _ refl room (class_blank _ p)) (at_blank i p (ih n room (at + 1) after (omega arith) (omega arith) k))
    by_byte room false true k i p q = rw (reads-comment e at after δ i _ refl room (class_comment _ q)) (at_comment i q)
    by_byte room false false k i p q =
        by_token room (lexeme after (drop at e) δ) k (record { inside = i; no_blank = p; no_comment = q }) refl (lexeme_in after (drop at e) δ)

    by_end : (room : ℕ) (t : Bool) → at ≤ length e → n + room ≡ 200 → ltb at (length e) ≡ t → Reads n room at after
    by_end room true l k p = by_byte room (blank (get_or e at 0)) (eqb (get_or e at 0) (byte "#")) k (ltb-true at (length e) p) refl refl
    by_end room false l k p = ended n room at after (omega (arith, ltb-false at (length e) p))

  all_read : (left : ℕ) → AllRead left
  all_read zero n room at after l h k = ended n room at after (omega arith)
  all_read (suc left) n room at after l h k = by_end left n at after h (all_read left) room (ltb at (length e)) l k refl

  -- THE THEOREM
  pub reading_scanned : Scanned e δ 0 0 false (read_from 0 MAX_TOKENS 0 false e δ).tokens (read_from 0 MAX_TOKENS 0 false e δ).ending
  reading_scanned = all_read (length e) 0 200 0 false (omega arith) (omega arith) refl

  -- the reading from byte `at` on after n tokens, if it is scanned so
  read_as : {n at : ℕ} {after : Bool} {ts : List Token} {x : Result Offset Refusal} → Scanned e δ n at after ts x → (room : ℕ) → n + room ≡ 200
      → read_from at room 0 after (drop at e) δ ≡ record { tokens = ts; ending = x }
  read_as {n} {at} {after} (at_end h) room k = reads_end e at room after δ (omega arith)
  read_as {n} {at} {after} (at_comment i q) room k = reads-comment e at after δ i _ refl room (class_comment _ q)
  read_as {n} {at} {after} (at_blank i p d) room k = reads-blank e at after δ i _ refl room (class_blank _ p) ∙ read_as d room k
  read_as {n} {at} {after} (too_many s h) zero k = at_full e at after δ s.inside _ refl (class_other _ s.no_blank s.no_comment)
  read_as {n} {at} {after} (too_many s h) (suc room) k = absurd (omega arith)
  read_as {n} {at} {after} (unreadable s h w) zero k = absurd (omega arith)
  read_as {n} {at} {after} (unreadable {r = r} s h w) (suc room) k =
      at_wrong e at after δ s.inside _ refl (class_other _ s.no_blank s.no_comment) room r w
  read_as {n} {at} {after} (token s h w d) zero k = absurd (omega arith)
  read_as {n} {at} {after} (token {f = f} s h w d) (suc room) k =
      let i : Within (drop at e) (Ok f) = rw w at (lexeme_in after (drop at e) δ) in
      let ends : at + f.len ≤ length e = omega (arith, i.1, s.inside, length-drop at e) in
      at_found e at after δ s.inside _ refl (class_other _ s.no_blank s.no_comment) room f w i.0 ends
      ∙ rw (read_as d room (omega arith))

  -- nothing else is scanned
  pub scanned_reading : {ts : List Token} {x : Result Offset Refusal} → Scanned e δ 0 0 false ts x
      → read_from 0 MAX_TOKENS 0 false e δ ≡ record { tokens = ts; ending = x }
  scanned_reading d = read_as d 200 refl
