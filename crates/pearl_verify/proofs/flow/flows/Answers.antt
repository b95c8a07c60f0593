use Rattle.pearl_verify.proofs.Flowing.{targets_named}
use Rattle.pearl_verify.proofs.flow.flows.Goals as goal

pub arrives-requires-clause-named : goal.arrives-requires-clause-named
arrives-requires-clause-named c = targets_named c.args.object.now c.args.code.now c.args.i c.args.instr.now c.requires.at c.requires.names
