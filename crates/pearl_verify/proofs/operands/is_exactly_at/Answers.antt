use Rattle.std.proofs.Common.{sym, ◌∙◌}
use Rattle.pearl_instructions.specs.Opcodes.{Exactly}
use Rattle.pearl_verify.proofs.Asking.{asked_some, asked_none}
use Rattle.pearl_verify.proofs.operands.is_exactly_at.Goals as goal

pub returns-in-Some : goal.returns-in-Some
returns-in-Some c =
    c.same_cell.ensures ∙ asked_some (Exactly c.args.of) c.args.kinds.now c.args.below c.in-Some.kind (sym c.in-Some.ensures)

pub returns-in-None : goal.returns-in-None
returns-in-None c = asked_none (Exactly c.args.of) c.args.kinds.now c.args.below (sym c.in-None.ensures)
