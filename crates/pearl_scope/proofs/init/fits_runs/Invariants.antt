use Rattle.std.proofs.Common.{◌≡◌, length}
use Rattle.std.specs.List.{list_all}
use Rattle.pearl_tree.specs.ShownLiterals.{shown_const}
use Rattle.pearl_scope.specs.Constants.{fits_kind}
use Rattle.pearl_names.specs.declared.slots.Run.{Run}
use Rattle.pearl_scope.proofs.init.fits_runs.Given as goal

abbrev pub invariant-loop-runs : goal.invariant-loop-runs
invariant-loop-runs l =
    list_all (λ (run : Run). fits_kind (shown_const l.constant) run.kind) l.runs ≡ list_all (λ (run : Run). fits_kind (shown_const l.constant) run.kind) l.initial.runs

abbrev pub decreases-loop-runs : goal.decreases-loop-runs
decreases-loop-runs l = length l.runs
