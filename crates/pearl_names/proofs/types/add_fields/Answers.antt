use Rattle.std.proofs.Common.{◌≡◌, sym, subst, ◌∙◌, take, drop, true, ◌+◌}
use Rattle.pearl_tree.specs.Names.{has_repeats}
use Rattle.pearl_names.specs.Shapes.{NoField, with_fields}
use Rattle.pearl_names.specs.Forms.{IsForm, append_fields}
use Rattle.pearl_names.proofs.Building.{Added, added_none, added_more, added_twice}
use Rattle.pearl_names.proofs.Lists.{one_taken, all_taken, cut_at}
use Rattle.pearl_names.proofs.types.add_fields.Goals as goal

pub loop-name-init : goal.loop-name-init
loop-name-init c = added_none _ _ _

pub returns-then-not-branch-clause-twice : goal.returns-then-not-branch-clause-twice
returns-then-not-branch-clause-twice c = λ before named _.
    let names = c.args.names.now in
    let i = c.loop-name.name-index in
    subst (λ l. has_repeats before l ≡ true) (cut_at names i c.name-item.result c.loop-name-test.true c.name-item.is)
    (added_twice _ _ _ _ (take i names) (drop (i + 1) names) c.name-item.result c.loop-name.invariant (sym c.if-not-branch.true ∙ c.in_ok-add_field.ensures.fresh) before named)

pub loop-name-preserved : goal.loop-name-preserved
loop-name-preserved c =
    let names = c.args.names.now in
    let i = c.loop-name.name-index in
    subst (Added c.args.form.now c.add_field.new.form c.args.field c.args.each) (sym (one_taken names i c.name-item.result c.loop-name-test.true c.name-item.is))
    (added_more _ _ _ _ _ (take i names) c.name-item.result c.loop-name.invariant (sym c.in_ok-add_field.ensures.fresh ∙ c.if-not-branch.false) (c.in_ok-add_field.ensures.added c.if-not-branch.false))

pub returns-clause-added : goal.returns-clause-added
returns-clause-added c = λ forms fields bounds shape _ is part.
    subst (λ l. IsForm forms c.loop-name.form (append_fields fields (with_fields l bounds shape NoField))) (all_taken c.args.names.now c.loop-name.name-index c.loop-name-test.false)
    (c.loop-name.invariant.built forms fields bounds shape is part)
