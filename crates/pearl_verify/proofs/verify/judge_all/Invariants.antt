use Rattle.std.proofs.Common.{◌≡◌, ℕ, ◌-◌, ◌<◌, None, length}
use Rattle.pearl_instructions.specs.Objects.{routines}
use Rattle.pearl_instructions.specs.Valid.{unsound}
use Rattle.pearl_verify.proofs.verify.judge_all.Given as goal

abbrev pub invariant-routines : goal.invariant-routines
invariant-routines l = (s j : ℕ) → s < l.routine → unsound l.object s j ≡ None

abbrev pub decreases-routines : goal.decreases-routines
decreases-routines l = length (routines l.object) - l.routine
