use Rattle.std.proofs.Common.{◌≤◌, length}
use Rattle.pearl_names.specs.Forms.{FieldsStand}
use Rattle.pearl_names.specs.Runs.{drop_fields}
use Rattle.pearl_names.specs.Shapes.{Fields}
use Rattle.pearl_names.proofs.Walking.{Tailed}
use Rattle.pearl_names.proofs.types.tails_of.Given as goal

abbrev pub invariant-loop-left : goal.invariant-loop-left
invariant-loop-left l =
    (l.left ≤ length l.form.fields.entries) ×
    ((fields : Fields) → FieldsStand l.forms 0 0 l.form.fields.entries fields → Tailed l.tails.items l.kinds (drop_fields l.left fields))

abbrev pub decreases-loop-left : goal.decreases-loop-left
decreases-loop-left l = l.left
