use Rattle.std.proofs.Common.{sym}
use Rattle.pearl_verify.proofs.Shapes.{other_lengths}
use Rattle.pearl_verify.proofs.same.same_list.Goals as goal

pub returns-then-one-other : goal.returns-then-one-other
returns-then-one-other c = sym (other_lengths c.args.one.now c.args.other.now c.if-one-other.true)
