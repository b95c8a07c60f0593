use Rattle.std.proofs.Common.{◌≡◌, ◌-◌, List, Some, length, slice_get, sym, ap, ◌∙◌, arith}
use Rattle.std.specs.Prelude.{not}
use Rattle.std.proofs.lemmas.Option.{slice_get_within}
use Rattle.pearl_instructions.specs.declared.instr.Instr.{Instr}
use Rattle.pearl_verify.proofs.Flowing.{closed_last}
use Rattle.pearl_verify.proofs.routine.is_closed.Goals as goal

pub returns-in-Some : goal.returns-in-Some
returns-in-Some c =
    let is : List Instr = c.args.instrs.now in
    let at : slice_get is (length is - 1) ≡ Some c.in-Some.instr.now = sym c.in-Some.ensures.value in
    let within = slice_get_within is (length is - 1) c.in-Some.instr.now at in
    ap not c.goes_on.ensures ∙ sym (closed_last is (length is - 1) c.in-Some.instr.now (omega (arith, within)) at)
