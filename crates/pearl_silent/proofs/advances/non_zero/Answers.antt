use Rattle.pearl_silent.specs.Steps.{told}
use Rattle.std.proofs.Common.{sym, ◌∙◌}
use Rattle.pearl_silent.proofs.Made.{same_does, offers_does}
use Rattle.pearl_silent.proofs.AdvanceRows.{null_traps, other_stays, non_zero_there}
use Rattle.pearl_silent.proofs.advances.non_zero.Goals as goal

pub top-requires : goal.top-requires
top-requires c = non_zero_there c.args.stack.now.frames c.args.stack.now.room c.requires.ready

pub returns-in-Some : goal.returns-in-Some
returns-in-Some c =
    offers_does _ c.args.stack.now _ _
    (null_traps c.args.stack.now.frames c.args.stack.now.room c.top.result.now c.in-Some.trap c.requires.ready c.top.ensures (sym c.null_trap.ensures ∙ c.in-Some.is))

pub returns-in-None : goal.returns-in-None
returns-in-None c =
    same_does _ _ c.args.stack.now c.leave_none.new.stack (told c.leave_none.result)
    (other_stays c.args.stack.now.frames c.args.stack.now.room c.top.result.now c.requires.ready c.top.ensures (sym c.null_trap.ensures ∙ c.in-None.is)) c.leave_none.ensures
