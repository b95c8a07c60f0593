use Rattle.pearl_verify.proofs.Routines.{valid_where_all_are}
use Rattle.pearl_verify.proofs.verify.judge_all.Goals as goal

pub returns : goal.returns
returns c = valid_where_all_are c.args.object.now c.routines.routine c.in_default.ensures.code c.routines.invariant
