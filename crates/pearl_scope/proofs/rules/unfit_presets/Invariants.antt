use Rattle.std.proofs.Common.{◌≡◌, ◌++◌, length}
use Rattle.pearl_scope.specs.Rules.{unfit_presets}
use Rattle.pearl_scope.proofs.rules.unfit_presets.Given as goal

abbrev pub invariant-loop-preset : goal.invariant-loop-preset
invariant-loop-preset l = l.faults.items ++ unfit_presets l.names l.preset ≡ l.fn.faults.items ++ unfit_presets l.initial.names l.initial.preset

abbrev pub decreases-loop-preset : goal.decreases-loop-preset
decreases-loop-preset l = length l.preset
