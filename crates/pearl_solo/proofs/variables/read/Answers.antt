use Rattle.std.proofs.Common.{refl}
use Rattle.pearl_solo.proofs.VariableRows.{read_offers}
use Rattle.pearl_solo.proofs.variables.read.Goals as goal

pub returns : goal.returns
returns c =
    let at = read_offers c.args.stack.now.frames c.args.here.now c.args.code.now c.args.v c.args.leaf.now c.args.first c.requires.here.top c.requires.leaf in
    (at.0, at.1, refl)
