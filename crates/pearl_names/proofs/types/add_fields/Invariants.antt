use Rattle.std.proofs.Common.{take}
use Rattle.pearl_names.proofs.Building.{Added}
use Rattle.pearl_names.proofs.types.add_fields.Given as goal

abbrev pub invariant-loop-name : goal.invariant-loop-name
invariant-loop-name l = Added l.fn.form l.form l.field l.each (take l.name-index l.names)
