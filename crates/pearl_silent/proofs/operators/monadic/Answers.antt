use Rattle.std.proofs.Common.{sym, ap, ◌∙◌, arith}
use Rattle.pearl_silent.specs.Steps.{told, made_on}
use Rattle.pearl_silent.proofs.Made.{same_applies, same_does}
use Rattle.pearl_silent.proofs.OperatorRows.{monadic_there, monadic_applies}
use Rattle.pearl_silent.proofs.operators.monadic.Goals as goal

pub top-requires : goal.top-requires
top-requires c = monadic_there c.args.op c.args.stack.now.frames c.args.stack.now.room c.requires.ready

pub apply1-made-requires-clause-value : goal.apply1-made-requires-clause-value
apply1-made-requires-clause-value c =
    (monadic_applies c.args.op c.args.stack.now.frames c.args.stack.now.room c.top.result.now c.requires.ready c.requires.formed c.top.ensures).value

pub apply1-made-requires-clause-row : goal.apply1-made-requires-clause-row
apply1-made-requires-clause-row c =
    (monadic_applies c.args.op c.args.stack.now.frames c.args.stack.now.room c.top.result.now c.requires.ready c.requires.formed c.top.ensures).row

pub leave-requires-clause-there : goal.leave-requires-clause-there
leave-requires-clause-there c = let there = monadic_there c.args.op c.args.stack.now.frames c.args.stack.now.room c.requires.ready in omega (arith, there)

pub leave-requires-clause-ready : goal.leave-requires-clause-ready
leave-requires-clause-ready c =
    let at = monadic_applies c.args.op c.args.stack.now.frames c.args.stack.now.room c.top.result.now c.requires.ready c.requires.formed c.top.ensures in
    same_applies _ _ c.args.stack.now.room (at.is ∙ ap (λ m. made_on 1 m c.args.stack.now.frames) (sym c.apply1-made.ensures.value)) c.requires.ready

pub returns : goal.returns
returns c =
    let at = monadic_applies c.args.op c.args.stack.now.frames c.args.stack.now.room c.top.result.now c.requires.ready c.requires.formed c.top.ensures in
    same_does _ _ c.args.stack.now c.leave.new.stack (told c.leave.result)
    (at.is ∙ ap (λ m. made_on 1 m c.args.stack.now.frames) (sym c.apply1-made.ensures.value)) c.leave.ensures
