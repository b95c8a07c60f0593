use Rattle.std.proofs.Common.{sym, ap, ◌∙◌, arith}
use Rattle.pearl_silent.specs.Steps.{told, made_on}
use Rattle.pearl_silent.proofs.Made.{same_applies, same_does}
use Rattle.pearl_silent.proofs.OperatorRows.{dyadic_there, dyadic_applies}
use Rattle.pearl_silent.proofs.operators.dyadic.Goals as goal

pub top-right-requires : goal.top-right-requires
top-right-requires c = let there = dyadic_there c.args.op c.args.stack.now.frames c.args.stack.now.room c.requires.ready in omega (arith, there)

pub top-left-requires : goal.top-left-requires
top-left-requires c = dyadic_there c.args.op c.args.stack.now.frames c.args.stack.now.room c.requires.ready

pub small_of-requires-clause-left : goal.small_of-requires-clause-left
small_of-requires-clause-left c = (dyadic_applies c.args.op c.args.stack.now.frames c.args.stack.now.room c.top-left.result.now c.top-right.result.now c.requires.ready c.requires.formed c.top-right.ensures c.top-left.ensures).left

pub small_of-requires-clause-right : goal.small_of-requires-clause-right
small_of-requires-clause-right c = (dyadic_applies c.args.op c.args.stack.now.frames c.args.stack.now.room c.top-left.result.now c.top-right.result.now c.requires.ready c.requires.formed c.top-right.ensures c.top-left.ensures).right

pub leave_made-requires-clause-there : goal.leave_made-requires-clause-there
leave_made-requires-clause-there c = let there = dyadic_there c.args.op c.args.stack.now.frames c.args.stack.now.room c.requires.ready in omega (arith, there)

pub leave_made-requires-clause-ready : goal.leave_made-requires-clause-ready
leave_made-requires-clause-ready c =
    let at = dyadic_applies c.args.op c.args.stack.now.frames c.args.stack.now.room c.top-left.result.now c.top-right.result.now c.requires.ready c.requires.formed c.top-right.ensures c.top-left.ensures in
    same_applies _ _ c.args.stack.now.room (at.is ∙ ap (λ m. made_on 2 m c.args.stack.now.frames) (sym c.in-Some.ensures)) c.requires.ready

pub returns-in-Some : goal.returns-in-Some
returns-in-Some c =
    let at = dyadic_applies c.args.op c.args.stack.now.frames c.args.stack.now.room c.top-left.result.now c.top-right.result.now c.requires.ready c.requires.formed c.top-right.ensures c.top-left.ensures in
    same_does _ _ c.args.stack.now c.leave_made.new.stack (told c.leave_made.result)
    (at.is ∙ ap (λ m. made_on 2 m c.args.stack.now.frames) (sym c.in-Some.ensures)) c.leave_made.ensures
