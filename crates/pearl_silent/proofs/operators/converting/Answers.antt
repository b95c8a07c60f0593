use Rattle.std.proofs.Common.{sym, ap, ◌∙◌, arith}
use Rattle.pearl_silent.specs.Steps.{told, made_on}
use Rattle.pearl_silent.proofs.Made.{same_applies, same_does}
use Rattle.pearl_silent.proofs.OperatorRows.{convert_there, convert_applies}
use Rattle.pearl_silent.proofs.operators.converting.Goals as goal

pub top-x-requires : goal.top-x-requires
top-x-requires c = convert_there c.args.to c.args.stack.now.frames c.args.stack.now.room c.requires.ready

pub leave_made-requires-clause-there : goal.leave_made-requires-clause-there
leave_made-requires-clause-there c = let there = convert_there c.args.to c.args.stack.now.frames c.args.stack.now.room c.requires.ready in omega (arith, there)

pub leave_made-requires-clause-ready : goal.leave_made-requires-clause-ready
leave_made-requires-clause-ready c =
    let at = convert_applies c.args.to c.args.stack.now.frames c.args.stack.now.room c.top-x.result.now c.requires.ready c.requires.formed c.top-x.ensures in
    same_applies _ _ c.args.stack.now.room (at.is ∙ ap (λ m. made_on 1 m c.args.stack.now.frames) (sym c.in-Some.ensures)) c.requires.ready

pub returns-in-Some : goal.returns-in-Some
returns-in-Some c =
    let at = convert_applies c.args.to c.args.stack.now.frames c.args.stack.now.room c.top-x.result.now c.requires.ready c.requires.formed c.top-x.ensures in
    same_does _ _ c.args.stack.now c.leave_made.new.stack (told c.leave_made.result)
    (at.is ∙ ap (λ m. made_on 1 m c.args.stack.now.frames) (sym c.in-Some.ensures)) c.leave_made.ensures

pub length_in-requires : goal.length_in-requires
length_in-requires c = (convert_applies c.args.to c.args.stack.now.frames c.args.stack.now.room c.top-x.result.now c.requires.ready c.requires.formed c.top-x.ensures).suit

pub leave_filled-requires-clause-there : goal.leave_filled-requires-clause-there
leave_filled-requires-clause-there c = convert_there c.args.to c.args.stack.now.frames c.args.stack.now.room c.requires.ready

pub returns-in-Some-length_in : goal.returns-in-Some-length_in
returns-in-Some-length_in c =
    let at = convert_applies c.args.to c.args.stack.now.frames c.args.stack.now.room c.top-x.result.now c.requires.ready c.requires.formed c.top-x.ensures in
    same_does _ _ c.args.stack.now c.leave_filled.new.stack (told c.leave_filled.result)
    (at.is ∙ ap (λ m. made_on 1 m c.args.stack.now.frames) c.in-Some-length_in.ensures) (c.leave_filled.ensures c.top-x.result.now c.top-x.ensures)
