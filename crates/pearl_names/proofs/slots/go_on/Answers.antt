use Rattle.std.proofs.Common.{◌≡◌, ◌+◌, ◌*◌, refl, subst, sym, ◌∙◌, arith}
use Rattle.std.proofs.lemmas.Option.{slice_get_read, slice_get_past}
use Rattle.pearl_names.specs.Walks.{AllLeft, HasLeft, weight}
use Rattle.pearl_names.specs.declared.slots.Left.TheVariants.{FieldsFrom, Behind}
use Rattle.pearl_names.proofs.Walking.{frame_gone, frame_done, frame_next, onward_goes, Onward, nothing_behind, left_apart, popped_weight}
use Rattle.pearl_names.proofs.slots.go_on.Goals as goal

pub returns-in-None-get : goal.returns-in-None-get
returns-in-None-get c = λ left h.
    absurd (frame_gone c.args.forms.now c.pop.new.self.items c.in-Some.frame left (subst (λ l. AllLeft c.args.forms.now l left) c.in-Some.ensures.items (c.loop-frame.invariant left h))
    (slice_get_past c.args.forms.now c.in-Some.frame.number c.in-None-get.ensures.lookup.3))

pub returns-in-Some-next_field : goal.returns-in-Some-next_field
returns-in-Some-next_field c = λ left h.
    let forms = c.args.forms.now in
    let at : _ = slice_get_read forms _ c.in-Some.frame.number c.in-Some-get.form.now refl c.in-Some-get.ensures.lookup.3.0 c.in-Some-get.ensures.lookup.1 in
    let next = c.in-Some-next_field.next in
    let count = c.cut_product-count.result in
    let on = frame_next forms c.pop.new.self.items c.in-Some.frame c.in-FieldsFrom.from c.in-Some-get.form.now next left c.in-FieldsFrom.is
    (subst (λ l. AllLeft forms l left) c.in-Some.ensures.items (c.loop-frame.invariant left h)) at c.in-Some-next_field.ensures in
    let pushed : Onward forms next.field.part count c.push.new.self.items left = rw (c.cut_product-count.ensures, c.in_ok-push-in-Some-next_field.ensures.items) on in
    onward_goes forms next.field.part count c.push.new.self.items c.descend.new.stack.items left c.in_ok-run-in-Some-next_field.run' pushed c.in_ok-run-in-Some-next_field.ensures

pub loop-frame-preserved-in-None-next_field : goal.loop-frame-preserved-in-None-next_field
loop-frame-preserved-in-None-next_field c = λ left h.
    let forms = c.args.forms.now in
    let at : _ = slice_get_read forms _ c.in-Some.frame.number c.in-Some-get.form.now refl c.in-Some-get.ensures.lookup.3.0 c.in-Some-get.ensures.lookup.1 in
    frame_done forms c.pop.new.self.items c.in-Some.frame c.in-FieldsFrom.from c.in-Some-get.form.now left c.in-FieldsFrom.is
    (subst (λ l. AllLeft forms l left) c.in-Some.ensures.items (c.loop-frame.invariant left h)) at c.in-None-next_field.ensures

pub loop-frame-preserved : goal.loop-frame-preserved
loop-frame-preserved c = λ left h.
    nothing_behind c.args.forms.now c.pop.new.self.items c.in-Some.frame c.in-Behind.steps left c.kinds_past.result c.in-Behind.is
    (subst (λ l. AllLeft c.args.forms.now l left) c.in-Some.ensures.items (c.loop-frame.invariant left h)) c.kinds_past.ensures (sym c.has_kind.ensures ∙ c.if-has_kind.false)

pub loop-frame-preserved-in-Continue-branch-3 : goal.loop-frame-preserved-in-Continue-branch-3
loop-frame-preserved-in-Continue-branch-3 c = λ left h.
    let forms = c.args.forms.now in
    let frame = c.in-Some.frame in
    let a = left_apart forms c.pop.new.self.items frame left (subst (λ l. AllLeft forms l left) c.in-Some.ensures.items (c.loop-frame.invariant left h)) in
    subst (AllLeft forms c.note_parts.new.stack.items) (sym a.is)
    (c.in_ok-note_parts-in-Behind.ensures.left a.own a.rest (subst (λ l. HasLeft forms (record frame { left = l }) a.own) c.in-Behind.is a.has) a.left)

pub loop-frame-smaller-in-None-next_field : goal.loop-frame-smaller-in-None-next_field
loop-frame-smaller-in-None-next_field c =
    let old : weight c.loop-frame.stack.items ≡ weight c.pop.new.self.items + 1 =
    popped_weight c.loop-frame.stack.items c.pop.new.self.items c.in-Some.frame (FieldsFrom c.in-FieldsFrom.from) c.in-Some.ensures.items c.in-FieldsFrom.is in
    omega (arith, old)

pub loop-frame-smaller : goal.loop-frame-smaller
loop-frame-smaller c =
    let old : weight c.loop-frame.stack.items ≡ weight c.pop.new.self.items + (4 * c.in-Behind.steps + 2) =
    popped_weight c.loop-frame.stack.items c.pop.new.self.items c.in-Some.frame (Behind c.in-Behind.steps) c.in-Some.ensures.items c.in-Behind.is in
    omega (arith, old)

pub loop-frame-smaller-in-Continue-branch-3 : goal.loop-frame-smaller-in-Continue-branch-3
loop-frame-smaller-in-Continue-branch-3 c =
    let old : weight c.loop-frame.stack.items ≡ weight c.pop.new.self.items + (4 * c.in-Behind.steps + 2) =
    popped_weight c.loop-frame.stack.items c.pop.new.self.items c.in-Some.frame (Behind c.in-Behind.steps) c.in-Some.ensures.items c.in-Behind.is in
    let more = c.in_ok-note_parts-in-Behind.ensures.lighter in
    omega (arith, old, more)
