use Rattle.std.proofs.Common.{subst}
use Rattle.pearl_names.specs.Leaps.{LeapStands}
use Rattle.pearl_names.proofs.Walking.{way_by_leap, way_by_field}
use Rattle.pearl_names.proofs.slots.way_into.Goals as goal

pub returns-in-Some : goal.returns-in-Some
returns-in-Some c = λ fields h so.
    rw c.in-Some.is
    (way_by_leap c.args.forms.now c.in-Some.leap c.args.form.now.fields.entries fields h
    (subst (λ leap. LeapStands c.args.forms.now leap c.args.form.now.fields.entries fields) c.in-Some.is so))

pub returns-in-Some-next_field : goal.returns-in-Some-next_field
returns-in-Some-next_field c = λ fields h so.
    rw c.in-None.is
    (way_by_field c.args.forms.now c.in-Some-next_field.next fields (c.in-Some-next_field.ensures fields h))

pub returns-in-None-next_field : goal.returns-in-None-next_field
returns-in-None-next_field c = λ fields h so. c.in-None-next_field.ensures fields h
