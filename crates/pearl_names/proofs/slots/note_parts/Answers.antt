use Rattle.std.proofs.Common.{◌≡◌, ◌+◌, ◌<◌, ◌++◌, ◌∷◌, [], sym, ap, subst, ◌∙◌, refl, append_assoc, arith}
use Rattle.std.proofs.lemmas.Option.{slice_get_read, slice_get_past}
use Rattle.pearl_names.specs.Walks.{AllLeft, weight}
use Rattle.pearl_names.specs.declared.slots.Frame.{Frame}
use Rattle.pearl_names.specs.declared.slots.Left.TheVariants.{FieldsFrom}
use Rattle.pearl_names.proofs.Walking.{parted, no_behind, no_first, left_more, weight_more}
use Rattle.pearl_names.proofs.slots.note_parts.Goals as goal

pub returns-in-None-clause-left : goal.returns-in-None-clause-left
returns-in-None-clause-left c = λ own left has h. absurd (no_behind c.args.forms.now _ own has (slice_get_past c.args.forms.now c.args.number c.in-None.ensures.lookup.3))

pub returns-in-None-get_index-clause-left : goal.returns-in-None-get_index-clause-left
returns-in-None-get_index-clause-left c = λ own left has h.
    let at : _ = slice_get_read c.args.forms.now _ c.args.number c.in-Some.form.now refl c.in-Some.ensures.lookup.3.0 c.in-Some.ensures.lookup.1 in
    absurd (no_first c.args.forms.now c.args.number c.args.steps c.args.count own c.in-Some.form.now has at (sym c.in-None-get_index.ensures.entry))

pub returns-then-steps-le1-clause-left : goal.returns-then-steps-le1-clause-left
returns-then-steps-le1-clause-left c = λ own left has h.
    let forms = c.args.forms.now in
    let at : _ = slice_get_read forms _ c.args.number c.in-Some.form.now refl c.in-Some.ensures.lookup.3.0 c.in-Some.ensures.lookup.1 in
    let parts = parted forms c.args.number c.args.steps c.args.count own c.in-Some.form.now _ has at (sym c.in-Some-get_index.ensures.entry) in
    let frame : Frame = record { number = c.args.number; left = FieldsFrom 1; count = c.args.count } in
    rw c.in_ok-push.ensures.items
    (subst (λ l. AllLeft forms (c.args.stack.now.items ++ frame ∷ []) (l ++ left)) (sym (parts.is ∙ ap (λ l. l ++ parts.last) (parts.short c.if-steps-le1.true)))
    (left_more forms c.args.stack.now.items frame parts.last left parts.left h))

pub returns-clause-left : goal.returns-clause-left
returns-clause-left c = λ own left has h.
    let forms = c.args.forms.now in
    let at : _ = slice_get_read forms _ c.args.number c.in-Some.form.now refl c.in-Some.ensures.lookup.3.0 c.in-Some.ensures.lookup.1 in
    let parts = parted forms c.args.number c.args.steps c.args.count own c.in-Some.form.now _ has at (sym c.in-Some-get_index.ensures.entry) in
    let frame : Frame = record { number = c.args.number; left = FieldsFrom 1; count = c.args.count } in
    let beyond : 1 < c.args.steps = let short = c.if-steps-le1.false in omega (arith, short) in
    let two = parts.long beyond in
    let more = c.in_ok-note_leaps.ensures.left _ (parts.last ++ left)
    (record { shape = parts.shape; many = parts.many; stands = parts.stands; counted = c.cut_product.ensures ∙ parts.counted; some = parts.some; few = parts.few; is = refl })
    two.two two.fewer (rw c.in_ok-push.ensures.items (left_more forms c.args.stack.now.items frame parts.last left parts.left h)) in
    subst (AllLeft forms c.note_leaps.new.stack.items)
    (ap (λ l. l ++ (parts.last ++ left)) (sym two.is) ∙ sym (append_assoc parts.more parts.last left) ∙ ap (λ l. l ++ left) (sym parts.is)) more

pub returns-then-steps-le1-clause-lighter : goal.returns-then-steps-le1-clause-lighter
returns-then-steps-le1-clause-lighter c =
    let one : weight c.push.new.self.items ≡ weight c.args.stack.now.items + 1 = ap weight c.in_ok-push.ensures.items ∙ weight_more c.args.stack.now.items _ in
    omega (arith, one)

pub returns-clause-lighter : goal.returns-clause-lighter
returns-clause-lighter c =
    let one : weight c.push.new.self.items ≡ weight c.args.stack.now.items + 1 = ap weight c.in_ok-push.ensures.items ∙ weight_more c.args.stack.now.items _ in
    let more = c.in_ok-note_leaps.ensures.lighter in
    omega (arith, one, more)
