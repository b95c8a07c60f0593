use Rattle.std.proofs.Common.{◌++◌, map, sym, ap, subst, ◌∙◌, append-nil}
use Rattle.pearl_tree.specs.ShownLiterals.{shown_const}
use Rattle.pearl_names.specs.Holding.{HoldsSense}
use Rattle.pearl_program.specs.PlainPrograms.{plain_leaf}
use Rattle.pearl_resolve.specs.Laying.{filled_leaves, leaves_of_sense}
use Rattle.pearl_resolve.specs.Resolve.{variable_leaves}
use Rattle.pearl_resolve.specs.Statements.{slots_of_meant}
use Rattle.pearl_resolve.proofs.Lookups.{meant_so, meant_nothing}
use Rattle.pearl_resolve.proofs.module_leaves.add_found_leaves.Goals as goal

pub returns-in_ok-count-in-Some-clause-slots : goal.returns-in_ok-count-in-Some-clause-slots
returns-in_ok-count-in-Some-clause-slots c = λ of holds.
    let m = meant_so c.args.numbered.now.table.forms.items of c.args.found c.in-Some.sense.now (c.in-Some.ensures of.table holds.table) in
    let held = subst (λ f. HoldsSense f c.in-Some.sense.now m.meant) (sym c.forms-forms.ensures) m.holds in
    c.in_ok-count-in-Some.ensures.slots m.meant held ∙ ap slots_of_meant (sym m.is)

pub returns-in_ok-count-in-Some-clause-leaves : goal.returns-in_ok-count-in-Some-clause-leaves
returns-in_ok-count-in-Some-clause-leaves c = λ of holds.
    let m = meant_so c.args.numbered.now.table.forms.items of c.args.found c.in-Some.sense.now (c.in-Some.ensures of.table holds.table) in
    let held = subst (λ f. HoldsSense f c.in-Some.sense.now m.meant) (sym c.forms-forms.ensures) m.holds in
    let old = map plain_leaf c.args.into.now.items in
    let constants = map shown_const c.args.constants.now in
    c.in_ok-count-in-Some.ensures.leaves m.meant held
    ∙ ap (λ t. old ++ filled_leaves t constants (leaves_of_sense m.meant)) c.as_slice-text.ensures.value
    ∙ ap (λ t. old ++ variable_leaves c.args.name.now constants t) (sym m.is)

pub returns-in-None-clause-slots : goal.returns-in-None-clause-slots
returns-in-None-clause-slots c = λ of holds.
    ap slots_of_meant (sym (meant_nothing c.args.numbered.now.table.forms.items of c.args.found (c.in-None.ensures of.table holds.table)))

pub returns-in-None-clause-leaves : goal.returns-in-None-clause-leaves
returns-in-None-clause-leaves c = λ of holds.
    sym (append-nil _)
    ∙ ap (λ t. map plain_leaf c.args.into.now.items ++ variable_leaves c.args.name.now (map shown_const c.args.constants.now) t)
    (sym (meant_nothing c.args.numbered.now.table.forms.items of c.args.found (c.in-None.ensures of.table holds.table)))
