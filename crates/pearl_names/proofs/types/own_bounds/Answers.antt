use Rattle.std.proofs.Common.{◌∙◌}
use Rattle.pearl_names.proofs.Standing.{found_bounds, some_bounds, no_bounds}
use Rattle.pearl_names.proofs.types.own_bounds.Goals as goal

pub returns-in-Some : goal.returns-in-Some
returns-in-Some c = λ forms fields h b.
    let form = c.args.form.now in
    some_bounds form.bounds.items c.bounds_from.result.now c.field_named.result c.in-Some.field _ c.in-Some.is
    (rw c.field_named.ensures (found_bounds form.bounds.items forms 0 0 form.fields.entries fields c.args.text.now.items h b))
    (λ before mine behind is first past. c.bounds_from.ensures before mine behind (c.as_slice.ensures.value ∙ is) first past)

pub returns-in-None : goal.returns-in-None
returns-in-None c = λ forms fields h b.
    let form = c.args.form.now in
    no_bounds form.bounds.items c.field_named.result _ c.in-None.is
    (rw c.field_named.ensures (found_bounds form.bounds.items forms 0 0 form.fields.entries fields c.args.text.now.items h b))
