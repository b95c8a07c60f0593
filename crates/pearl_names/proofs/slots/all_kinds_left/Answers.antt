use Rattle.pearl_names.proofs.Walking.{gathered_none, gathered_more, gathered_all}
use Rattle.pearl_names.specs.declared.slots.Left.TheVariants.{FieldsFrom}
use Rattle.pearl_names.proofs.slots.all_kinds_left.Goals as goal

pub loop-frame-init : goal.loop-frame-init
loop-frame-init c = λ slots h. gathered_none c.args.forms.now c.args.stack.now slots h

pub loop-frame-preserved : goal.loop-frame-preserved
loop-frame-preserved c = λ slots h.
    rw c.joined_kinds-kinds.ensures
    (gathered_more c.args.forms.now c.args.stack.now c.loop-frame.frame-index (record { number = 0; left = FieldsFrom 0; count = 0 }) _ _ slots c.loop-frame-test.true (c.loop-frame.invariant slots h)
    c.kinds_left.ensures)

pub returns : goal.returns
returns c = λ slots h. gathered_all c.args.forms.now c.args.stack.now c.loop-frame.frame-index _ slots c.loop-frame-test.false (c.loop-frame.invariant slots h)
