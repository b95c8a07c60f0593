use Rattle.std.proofs.Common.{sym, ap, ◌∙◌, arith}
use Rattle.pearl_silent.specs.Steps.{told, made_on}
use Rattle.pearl_silent.proofs.Made.{same_applies, same_does}
use Rattle.pearl_silent.proofs.OperatorRows.{dyadic_there, dyadic_applies}
use Rattle.pearl_silent.proofs.operators.dyadic_of_all.Goals as goal

pub top-right-requires : goal.top-right-requires
top-right-requires c = let there = dyadic_there c.args.op c.args.stack.now.frames c.args.stack.now.room c.requires.ready in omega (arith, there)

pub top-left-requires : goal.top-left-requires
top-left-requires c = dyadic_there c.args.op c.args.stack.now.frames c.args.stack.now.room c.requires.ready

pub apply2-made-requires-clause-left : goal.apply2-made-requires-clause-left
apply2-made-requires-clause-left c = (dyadic_applies c.args.op c.args.stack.now.frames c.args.stack.now.room c.top-left.result.now c.top-right.result.now c.requires.ready c.requires.formed c.top-right.ensures c.top-left.ensures).left

pub apply2-made-requires-clause-right : goal.apply2-made-requires-clause-right
apply2-made-requires-clause-right c = (dyadic_applies c.args.op c.args.stack.now.frames c.args.stack.now.room c.top-left.result.now c.top-right.result.now c.requires.ready c.requires.formed c.top-right.ensures c.top-left.ensures).right

pub apply2-made-requires-clause-row : goal.apply2-made-requires-clause-row
apply2-made-requires-clause-row c = (dyadic_applies c.args.op c.args.stack.now.frames c.args.stack.now.room c.top-left.result.now c.top-right.result.now c.requires.ready c.requires.formed c.top-right.ensures c.top-left.ensures).row

pub leave-requires-clause-there : goal.leave-requires-clause-there
leave-requires-clause-there c = let there = dyadic_there c.args.op c.args.stack.now.frames c.args.stack.now.room c.requires.ready in omega (arith, there)

pub leave-requires-clause-ready : goal.leave-requires-clause-ready
leave-requires-clause-ready c =
    let at = dyadic_applies c.args.op c.args.stack.now.frames c.args.stack.now.room c.top-left.result.now c.top-right.result.now c.requires.ready c.requires.formed c.top-right.ensures c.top-left.ensures in
    same_applies _ _ c.args.stack.now.room (at.is ∙ ap (λ m. made_on 2 m c.args.stack.now.frames) (sym c.apply2-made.ensures.value)) c.requires.ready

pub returns : goal.returns
returns c =
    let at = dyadic_applies c.args.op c.args.stack.now.frames c.args.stack.now.room c.top-left.result.now c.top-right.result.now c.requires.ready c.requires.formed c.top-right.ensures c.top-left.ensures in
    same_does _ _ c.args.stack.now c.leave.new.stack (told c.leave.result)
    (at.is ∙ ap (λ m. made_on 2 m c.args.stack.now.frames) (sym c.apply2-made.ensures.value)) c.leave.ensures
