use Rattle.std.proofs.Common.{◌≡◌, ◌+◌, length, List}
use Rattle.pearl_value.specs.declared.kind.Kind.{Kind}
use Rattle.pearl_scope.specs.Filling.{AreFull, IsAhead}
use Rattle.pearl_names.specs.Kinds.{kinds_among}
use Rattle.pearl_scope.proofs.Filled.{Told}
use Rattle.pearl_scope.proofs.init.tell_misses.Given as goal

abbrev pub invariant-loop-constant : goal.invariant-loop-constant
invariant-loop-constant l =
    (l.left + l.constant-index ≡ length l.init) ×
    ((rest : List Kind) → l.behind ≡ kinds_among rest → AreFull l.runs → IsAhead l.runs (record { at = 0; used = 0 }) rest (length l.init) →
    Told l.runs rest l.init l.fn.faults.items l.faults.items l.spot l.constant-index l.left)
