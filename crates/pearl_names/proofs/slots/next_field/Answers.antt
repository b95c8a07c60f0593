use Rattle.std.proofs.Common.{sym, ◌∙◌, refl, arith}
use Rattle.pearl_names.proofs.Walking.{field_there, no_field, skips_none, skips_more, skips_found, skips_all}
use Rattle.pearl_names.proofs.slots.next_field.Goals as goal

pub overflow_add-index : goal.overflow_add-index
overflow_add-index c =
    let few = c.in-Some.ensures.few in
    omega (arith, few)

pub loop-field-init : goal.loop-field-init
loop-field-init c = λ fields h. skips_none fields c.args.from

pub returns-then-has_leaf : goal.returns-then-has_leaf
returns-then-has_leaf c = λ fields h.
    let forms = c.args.forms.now in
    let at = field_there forms 0 0 c.args.form.now.fields.entries fields c.loop-field.index _ h (sym c.in-Some.ensures.entry) in
    skips_found forms c.in-Some.field.now fields c.args.from c.loop-field.index _ refl at (c.loop-field.invariant fields h) (λ shape stands. sym c.if-has_leaf.true ∙ c.has_leaf.ensures shape stands)

pub loop-field-preserved : goal.loop-field-preserved
loop-field-preserved c = λ fields h.
    let forms = c.args.forms.now in
    let at = field_there forms 0 0 c.args.form.now.fields.entries fields c.loop-field.index _ h (sym c.in-Some.ensures.entry) in
    skips_more forms c.in-Some.field.now fields c.args.from c.loop-field.index _ refl at (c.loop-field.invariant fields h) (λ shape stands. sym c.if-has_leaf.false ∙ c.has_leaf.ensures shape stands)

pub returns-in-None : goal.returns-in-None
returns-in-None c = λ fields h.
    let forms = c.args.forms.now in
    skips_all fields c.args.from c.loop-field.index (c.loop-field.invariant fields h) (no_field forms 0 0 c.args.form.now.fields.entries fields c.loop-field.index h (sym c.in-None.ensures.entry))
