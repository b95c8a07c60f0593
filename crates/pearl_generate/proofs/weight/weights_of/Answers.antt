use Rattle.std.proofs.Common.{map}
use Rattle.pearl_program.specs.PlainPrograms.{plain_procedure}
use Rattle.pearl_program.specs.Weights.{weights_of}
use Rattle.pearl_generate.proofs.Weights.{weights_more}
use Rattle.pearl_generate.proofs.weight.weights_of.Goals as goal

pub loop-procedure-preserved : goal.loop-procedure-preserved
loop-procedure-preserved c =
    weights_more c.args.procedures.now c.loop-procedure.procedure-index c.procedure-item.result c.loop-procedure.weights.items c.as_slice.result.now
    c.push.new.self.items (weights_of (map plain_procedure c.args.procedures.now)) c.in_ok-weight.weight c.loop-procedure-test.true c.procedure-item.is
    c.as_slice.ensures.value c.in_ok-weight.ensures c.in_ok-push.ensures.items c.loop-procedure.invariant
