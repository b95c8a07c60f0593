use Rattle.pearl_names.proofs.Walking.{left_kinds, behind_kinds}
use Rattle.pearl_names.proofs.slots.kinds_left.Goals as goal

pub returns-in-FieldsFrom : goal.returns-in-FieldsFrom
returns-in-FieldsFrom c = λ slots has. left_kinds c.args.forms.now c.args.frame c.in-FieldsFrom.next slots _ c.in-FieldsFrom.is has c.kinds_from.ensures

pub returns-in-Behind : goal.returns-in-Behind
returns-in-Behind c = λ slots has. behind_kinds c.args.forms.now c.args.frame c.in-Behind.field-0 slots _ c.in-Behind.is has c.kinds_past.ensures
