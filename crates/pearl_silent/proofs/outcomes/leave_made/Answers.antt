use Rattle.std.proofs.Common.{Ok, sym, subst, arith}
use Rattle.std.proofs.lemmas.Int.{ints}
use Rattle.pearl_value.specs.declared.cell.Cell.TheVariants.{Fixed}
use Rattle.pearl_cells.specs.Made.{result_of}
use Rattle.pearl_stack.specs.Frames.{Stack}
use Rattle.pearl_silent.specs.Steps.{told, Does, made_on}
use Rattle.pearl_silent.proofs.outcomes.leave_made.Goals as goal

pub returns-in-Number : goal.returns-in-Number
returns-in-Number c =
    let old : Stack = c.args.stack.now in
    let does : Does (made_on c.args.taken (Ok (Fixed c.in-Number.len c.in-Number.value)) old.frames) old c.leave_fixed.new.stack (told c.leave_fixed.result) =
    subst (λ v. Does (made_on c.args.taken (Ok (Fixed c.in-Number.len v)) old.frames) old c.leave_fixed.new.stack (told c.leave_fixed.result)) (omega (arith, ints)) c.leave_fixed.ensures in
    subst (λ m. Does (made_on c.args.taken (result_of m) old.frames) old c.leave_fixed.new.stack (told c.leave_fixed.result)) (sym c.in-Number.is) does
