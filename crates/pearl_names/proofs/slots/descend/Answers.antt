use Rattle.std.proofs.Common.{◌++◌, refl, subst}
use Rattle.std.proofs.lemmas.Option.{slice_get_read, slice_get_past}
use Rattle.pearl_names.proofs.Walking.{Descends, descends_first, descends_last, no_descent, no_next, descends_more}
use Rattle.pearl_names.proofs.slots.descend.Goals as goal

pub loop-part-init : goal.loop-part-init
loop-part-init c = λ slots left found leaf h.
    descends_first c.args.forms.now c.args.part c.args.count c.args.stack.now.items slots left found leaf h

pub returns-in-Basic : goal.returns-in-Basic
returns-in-Basic c = λ slots left found leaf h.
    descends_last c.args.forms.now c.loop-part.earlier.now c.in-Basic.kind c.loop-part.count c.loop-part.stack.items (slots ++ left)
    (subst (λ p. Descends c.args.forms.now c.loop-part.earlier.now p c.loop-part.count c.loop-part.stack.items (slots ++ left)) c.in-Basic.is (c.loop-part.invariant slots left found leaf h))

pub returns-in-None : goal.returns-in-None
returns-in-None c = λ slots left found leaf h.
    absurd (no_descent c.args.forms.now c.loop-part.earlier.now c.in-Struct.number c.loop-part.count c.loop-part.stack.items (slots ++ left)
    (subst (λ p. Descends c.args.forms.now c.loop-part.earlier.now p c.loop-part.count c.loop-part.stack.items (slots ++ left)) c.in-Struct.is (c.loop-part.invariant slots left found leaf h))
    (slice_get_past c.loop-part.earlier.now c.in-Struct.number c.in-None.ensures.lookup.3))

pub returns-in-None-way_into : goal.returns-in-None-way_into
returns-in-None-way_into c = λ slots left found leaf h.
    let earlier = c.loop-part.earlier.now in
    let at : _ = slice_get_read earlier _ c.in-Struct.number c.in-Some.form.now refl c.in-Some.ensures.lookup.3.0 c.in-Some.ensures.lookup.1 in
    absurd (no_next c.args.forms.now earlier c.in-Struct.number c.loop-part.count c.loop-part.stack.items (slots ++ left) c.in-Some.form.now
    (subst (λ p. Descends c.args.forms.now earlier p c.loop-part.count c.loop-part.stack.items (slots ++ left)) c.in-Struct.is (c.loop-part.invariant slots left found leaf h))
    at c.in-None-way_into.ensures)

pub loop-part-preserved : goal.loop-part-preserved
loop-part-preserved c = λ slots left found leaf h.
    let forms = c.args.forms.now in
    let earlier = c.loop-part.earlier.now in
    let number = c.in-Struct.number in
    let at : _ = slice_get_read earlier _ number c.in-Some.form.now refl c.in-Some.ensures.lookup.3.0 c.in-Some.ensures.lookup.1 in
    rw (c.cut_product-inner.ensures, c.in_ok-push.ensures.items)
    (descends_more forms earlier number c.loop-part.count c.loop-part.stack.items (slots ++ left) c.in-Some.form.now c.in-Some-way_into.way
    (subst (λ p. Descends forms earlier p c.loop-part.count c.loop-part.stack.items (slots ++ left)) c.in-Struct.is (c.loop-part.invariant slots left found leaf h))
    at c.in-Some-way_into.ensures)
