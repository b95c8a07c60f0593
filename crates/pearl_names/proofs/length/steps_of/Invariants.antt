use Rattle.std.proofs.Common.{take}
use Rattle.pearl_names.specs.Steps.{HasSteps}
use Rattle.pearl_names.proofs.length.steps_of.Given as goal

abbrev pub invariant-loop-default : goal.invariant-loop-default
invariant-loop-default l = HasSteps (take l.default-index l.set) l.sort l.steps.items
