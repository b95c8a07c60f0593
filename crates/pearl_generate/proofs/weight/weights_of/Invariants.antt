use Rattle.std.proofs.Common.{◌≡◌, drop, map}
use Rattle.pearl_program.specs.PlainPrograms.{plain_procedure}
use Rattle.pearl_program.specs.Weights.{weights_behind, weights_of}
use Rattle.pearl_generate.proofs.weight.weights_of.Given as goal

abbrev pub invariant-loop-procedure : goal.invariant-loop-procedure
invariant-loop-procedure l =
    weights_behind l.weights.items (map plain_procedure (drop l.procedure-index l.procedures)) ≡ weights_of (map plain_procedure l.procedures)
