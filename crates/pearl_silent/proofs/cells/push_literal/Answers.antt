use Rattle.std.proofs.Common.{◌≡◌, sym, ap, ◌∙◌, subst, arith}
use Rattle.std.proofs.lemmas.Int.{ints}
use Rattle.pearl_value.specs.declared.cell.Cell.TheVariants.{Fixed, Bits, Chars}
use Rattle.pearl_instructions.specs.Literals.{seen_cell, IsShort}
use Rattle.pearl_stack.specs.Frames.{Stack, pushed}
use Rattle.pearl_silent.proofs.cells.push_literal.Goals as goal

pub returns-in-Fixed : goal.returns-in-Fixed
returns-in-Fixed c =
    let old : Stack = c.args.stack.now in
    let is : Fixed c.in-Fixed.len c.in-Fixed.value ≡ c.args.x.now = ap seen_cell (sym c.in-Fixed.is) ∙ c.seen.ensures.value in
    c.push_fixed.ensures
    ∙ (ap (λ v. record old { frames = pushed (Fixed c.in-Fixed.len v) old.frames }) (omega (arith, ints))
    ∙ ap (λ x. record old { frames = pushed x old.frames }) is)

pub returns-in-Bits : goal.returns-in-Bits
returns-in-Bits c =
    let old : Stack = c.args.stack.now in
    let is : Bits c.in-Bits.len c.in-Bits.value ≡ c.args.x.now = ap seen_cell (sym c.in-Bits.is) ∙ c.seen.ensures.value in
    c.push_bits.ensures ∙ ap (λ x. record old { frames = pushed x old.frames }) is

pub push_chars-requires-clause-text : goal.push_chars-requires-clause-text
push_chars-requires-clause-text c =
    let is : Chars (record { items = c.in-Chars.text.now }) ≡ c.args.x.now = ap seen_cell (sym c.in-Chars.is) ∙ c.seen.ensures.value in
    subst IsShort (sym is) c.seen.ensures.short

pub returns-in-Chars : goal.returns-in-Chars
returns-in-Chars c =
    let old : Stack = c.args.stack.now in
    let is : Chars (record { items = c.in-Chars.text.now }) ≡ c.args.x.now = ap seen_cell (sym c.in-Chars.is) ∙ c.seen.ensures.value in
    c.push_chars.ensures ∙ ap (λ x. record old { frames = pushed x old.frames }) is
