use Rattle.std.proofs.Common.{sym, ap, ◌∙◌, arith}
use Rattle.pearl_silent.specs.Steps.{told, made_on}
use Rattle.pearl_silent.proofs.Made.{same_applies, same_does}
use Rattle.pearl_silent.proofs.OperatorRows.{convert_there, convert_applies}
use Rattle.pearl_silent.proofs.operators.converting_all.Goals as goal

pub top-x-requires : goal.top-x-requires
top-x-requires c = convert_there c.args.to c.args.stack.now.frames c.args.stack.now.room c.requires.ready

pub convert-made-requires-clause-value : goal.convert-made-requires-clause-value
convert-made-requires-clause-value c = (convert_applies c.args.to c.args.stack.now.frames c.args.stack.now.room c.top-x.result.now c.requires.ready c.requires.formed c.top-x.ensures).value

pub convert-made-requires-clause-suit : goal.convert-made-requires-clause-suit
convert-made-requires-clause-suit c = (convert_applies c.args.to c.args.stack.now.frames c.args.stack.now.room c.top-x.result.now c.requires.ready c.requires.formed c.top-x.ensures).suit

pub leave-requires-clause-there : goal.leave-requires-clause-there
leave-requires-clause-there c = let there = convert_there c.args.to c.args.stack.now.frames c.args.stack.now.room c.requires.ready in omega (arith, there)

pub leave-requires-clause-ready : goal.leave-requires-clause-ready
leave-requires-clause-ready c =
    let at = convert_applies c.args.to c.args.stack.now.frames c.args.stack.now.room c.top-x.result.now c.requires.ready c.requires.formed c.top-x.ensures in
    same_applies _ _ c.args.stack.now.room (at.is ∙ ap (λ m. made_on 1 m c.args.stack.now.frames) (sym c.convert-made.ensures.value)) c.requires.ready

pub returns : goal.returns
returns c =
    let at = convert_applies c.args.to c.args.stack.now.frames c.args.stack.now.room c.top-x.result.now c.requires.ready c.requires.formed c.top-x.ensures in
    same_does _ _ c.args.stack.now c.leave.new.stack (told c.leave.result)
    (at.is ∙ ap (λ m. made_on 1 m c.args.stack.now.frames) (sym c.convert-made.ensures.value)) c.leave.ensures
