use Rattle.std.proofs.Common.{◌≡◌, pos, Ok, Some, length, sym, ap, ◌∙◌, subst, arith}
use Rattle.std.proofs.lemmas.Int.{ints}
use Rattle.pearl_value.specs.declared.cell.Cell.TheVariants.{Fixed}
use Rattle.pearl_stack.specs.Frames.{Stack}
use Rattle.pearl_instructions.specs.Operators.{index_of}
use Rattle.pearl_silent.specs.Indices.{offset_among, top_in_order}
use Rattle.pearl_silent.specs.Steps.{told, Does, made_on}
use Rattle.pearl_silent.proofs.Made.{same_does}
use Rattle.pearl_silent.proofs.Indexed.{index_applies}
use Rattle.pearl_silent.proofs.indices.index.Goals as goal

pub returns-in-Some : goal.returns-in-Some
returns-in-Some c =
    let old : Stack = c.args.stack.now in
    let bounds = c.args.bounds.now in
    let at = index_applies bounds old.frames old.room c.requires.ready in
    let offset : offset_among (pos 0) bounds (top_in_order (length bounds) old.frames) ≡ Some (pos c.in-Some.o) = sym c.in-Some.ensures.value in
    let does : Does (made_on (length bounds) (Ok (Fixed 31 (pos c.in-Some.o))) old.frames) old c.leave_fixed.new.stack (told c.leave_fixed.result) =
    subst (λ v. Does (made_on (length bounds) (Ok (Fixed 31 v)) old.frames) old c.leave_fixed.new.stack (told c.leave_fixed.result)) (omega (arith, ints, c.in-Some.ensures.small)) c.leave_fixed.ensures in
    same_does _ _ old c.leave_fixed.new.stack (told c.leave_fixed.result)
    (at.is ∙ ap (λ o. made_on (length bounds) (index_of o) old.frames) offset) does
