use Rattle.pearl_gen_expr.proofs.Nodes.{has_parameters}
use Rattle.pearl_gen_expr.proofs.expression.parameters.Goals as goal

pub returns : goal.returns
returns c =
    has_parameters c.args.program.now c.as_slice.result.now c.args.number c.in-Some.procedure.now c.as_slice-cells.result.now c.as_slice.ensures
    c.in-Some.ensures.lookup.0 c.in-Some.ensures.lookup.1 c.as_slice-cells.ensures
