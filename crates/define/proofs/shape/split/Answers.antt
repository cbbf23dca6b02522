-- A line that passes every test has its parts where the definition has them.
use Rattle.std.proofs.Common.{◌≡◌, ℕ, ◌+◌, ◌-◌, List, length, get_or, take, drop, sym, ap, ◌∙◌, arith}
use Rattle.text.specs.Bytes.{blank}
use Rattle.text.specs.Runs.{span}
use Rattle.text.specs.declared.runs.Set.TheVariants.{Blanks}
use Rattle.text.specs.Names.{macro_name}
use Rattle.text.proofs.Laws.{part_rest}
use Rattle.define.specs.Define.{name_start, name_length, name_end, equals_at}
use Rattle.define.proofs.Shapes.{is_split}
use Rattle.define.proofs.shape.split.Goals as goal

module _ (l : List ℕ) (first : ℕ) (at : first ≡ span Blanks l) where
  -- where the name starts
  starts : (r : ℕ) → r ≡ first + 6 + span Blanks (drop (first + 6) l) → r ≡ name_start l
  starts r e = e ∙ ap (λ i. i + 6 + span Blanks (drop (i + 6) l)) at

  -- the length of the name
  named : (r n : ℕ) → r ≡ name_start l → n ≡ macro_name (take (length l - r) (drop r l)) → n ≡ name_length l
  named r n s h = h ∙ ap macro_name (part_rest l r ∙ ap (λ i. drop i l) s)

  -- where the `=` is
  ends : (r n q : ℕ) → r ≡ name_start l → n ≡ name_length l → q ≡ r + n + span Blanks (drop (r + n) l) → q ≡ equals_at l
  ends r n q s m k = let end : r + n ≡ name_end l = omega arith in k ∙ ap (λ i. i + span Blanks (drop i l)) end

pub returns : goal.returns
returns c =
    let l = c.args.line.now in
    let at = c.requires in
    let s = starts l c.args.first.0 at _ c.run_end-name.ensures in
    let m = named l c.args.first.0 at _ _ s c.macro_name-len.ensures in
    let q = ends l c.args.first.0 at _ _ _ s m c.run_end-equals.ensures in
    let spaced = sym (c.has.ensures ∙ ap blank (c.byte_at.ensures ∙ ap (λ i. get_or l (i + 6) 0) at)) ∙ c.if-not-has.false in
    let equals = ap (λ i. get_or l i 0) (sym q) ∙ sym c.byte_at-2.ensures ∙ c.if-byte_at-ne61.false in
    is_split l _ spaced s m (omega (arith, c.if-len-eq0.false)) c.if-len-gt-MAX_NAME.false equals (ap (λ i. i + 1) q)
