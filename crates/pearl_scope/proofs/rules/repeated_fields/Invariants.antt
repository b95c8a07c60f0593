use Rattle.std.proofs.Common.{take}
use Rattle.pearl_scope.proofs.Seen.{ToldFields}
use Rattle.pearl_scope.proofs.rules.repeated_fields.Given as goal

abbrev pub invariant-loop-field : goal.invariant-loop-field
invariant-loop-field l = ToldFields l.seen.entries l.fn.faults.items l.faults.items (take l.field-index l.fields)
