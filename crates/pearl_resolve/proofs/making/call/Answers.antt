use Rattle.std.proofs.Common.{ap, ◌∙◌}
use Rattle.pearl_program.specs.declared.expression.Call.{Call}
use Rattle.pearl_program.specs.PlainExpressions.{OfCall, plain_arguments}
use Rattle.pearl_resolve.proofs.PlainNodes.{call_plain}
use Rattle.pearl_resolve.proofs.making.call.Goals as goal

pub returns : goal.returns
returns c = call_plain c.in_ok-call.call ∙ ap (λ (x : Call). OfCall x.procedure (plain_arguments x.arguments.items)) c.in_ok-call.ensures.ok
