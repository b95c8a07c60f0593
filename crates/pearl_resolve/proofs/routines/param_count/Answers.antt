use Rattle.std.proofs.Common.{arith}
use Rattle.pearl_tree.specs.ShownDeclarations.{shown_param}
use Rattle.pearl_resolve.specs.Resolve.{names_in_param}
use Rattle.pearl_resolve.proofs.RoutineLists.{sum_more, sum_all}
use Rattle.pearl_resolve.proofs.routines.param_count.Goals as goal

pub loop-param-init : goal.loop-param-init
loop-param-init c = omega arith

pub loop-param-preserved : goal.loop-param-preserved
loop-param-preserved c =
    sum_more shown_param names_in_param c.args.params.now c.loop-param.param-index c.param-item.result _ _ _ _
    c.loop-param-test.true c.param-item.is c.in_ok-names.ensures c.in_ok-count.ensures c.loop-param.invariant

pub returns : goal.returns
returns c = sum_all shown_param names_in_param c.args.params.now c.loop-param.param-index _ _ c.loop-param-test.false c.loop-param.invariant
