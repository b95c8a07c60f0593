use Rattle.std.proofs.Common.{length, ◌-◌}
use Rattle.pearl_names.specs.Forms.{FieldsStand}
use Rattle.pearl_names.specs.Shapes.{Fields}
use Rattle.pearl_names.proofs.Walking.{Skips}
use Rattle.pearl_names.proofs.slots.next_field.Given as goal

abbrev pub invariant-loop-field : goal.invariant-loop-field
invariant-loop-field l = (fields : Fields) → FieldsStand l.forms 0 0 l.form.fields.entries fields → Skips fields l.from l.index

abbrev pub decreases-loop-field : goal.decreases-loop-field
decreases-loop-field l = length l.form.fields.entries - l.index
