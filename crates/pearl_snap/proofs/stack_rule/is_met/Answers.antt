use Rattle.std.proofs.Common.{rules}
use Rattle.pearl_snap.proofs.Asking.{met_by}
use Rattle.pearl_snap.proofs.stack_rule.is_met.Goals as goal

pub returns-clause-met : goal.returns-clause-met
returns-clause-met c =
    let o = c.args.shapes.now.object in let asked = c.args.asked in
    met_by o asked.frame.now asked.arguments c.go.new.self.shape c.in_ok-go.field-0 c.below-kinds.result.now c.as_slice.result.now c.are_of.result
    c.in_ok-go.ensures.shape (search rules) c.below-kinds.ensures c.as_slice.ensures c.are_of.ensures
