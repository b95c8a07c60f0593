use Rattle.std.proofs.Common.{refl, ap}
use Rattle.pearl_program.specs.PlainExpressions.{plain_exprs}
use Rattle.pearl_resolve.proofs.Reached.{kind_stands}
use Rattle.pearl_resolve.proofs.walk.kind_walk.Goals as goal

pub returns : goal.returns
returns c = λ forms. record {
  target = refl;
  part = kind_stands forms c.args.kind;
  bounds = c.new.ensures.items;
  subscripts = ap plain_exprs c.new-2.ensures.items;
}
