use Rattle.std.proofs.Common.{◌++◌, List, [], map, sym, ap, subst, ◌∙◌}
use Rattle.pearl_tree.specs.ShownLiterals.{shown_const}
use Rattle.pearl_names.specs.Holding.{HoldsSense}
use Rattle.pearl_program.specs.declared.table.FirstValues.{FirstValues}
use Rattle.pearl_program.specs.PlainStatements.{plain_stmts, plain_values}
use Rattle.pearl_resolve.specs.Expressions.{number_at}
use Rattle.pearl_resolve.specs.Holding.{values_renewals}
use Rattle.pearl_resolve.specs.Laying.{filled_leaves, filled_values, leaves_of_sense, merged}
use Rattle.pearl_resolve.specs.Statements.{joined, slots_of_meant, variable_renewals}
use Rattle.pearl_resolve.proofs.Lookups.{meant_so, meant_nothing}
use Rattle.pearl_resolve.proofs.Renewing.{leaves_renew}
use Rattle.pearl_resolve.proofs.Resolving.{joined_none}
use Rattle.pearl_resolve.proofs.renewals.add_found_renewals.Goals as goal

pub returns-in_ok-add_values_renewals-in-Some-clause-slots : goal.returns-in_ok-add_values_renewals-in-Some-clause-slots
returns-in_ok-add_values_renewals-in-Some-clause-slots c = λ of holds.
    let m = meant_so c.args.numbered.now.table.forms.items of c.args.found c.in-Some.sense.now (c.in-Some.ensures of.table holds.table) in
    let held = subst (λ f. HoldsSense f c.in-Some.sense.now m.meant) (sym c.forms-forms.ensures) m.holds in
    c.in_ok-count-in-Some.ensures.slots m.meant held ∙ ap slots_of_meant (sym m.is)

pub returns-in_ok-add_values_renewals-in-Some-clause-renewals : goal.returns-in_ok-add_values_renewals-in-Some-clause-renewals
returns-in_ok-add_values_renewals-in-Some-clause-renewals c = λ of holds.
    let m = meant_so c.args.numbered.now.table.forms.items of c.args.found c.in-Some.sense.now (c.in-Some.ensures of.table holds.table) in
    let held = subst (λ f. HoldsSense f c.in-Some.sense.now m.meant) (sym c.forms-forms.ensures) m.holds in
    let old = plain_stmts c.args.into.now.items in
    let constants = map shown_const c.args.constants.now in
    let number = c.number_at.ensures ∙ ap (λ n. number_at n c.args.found) holds.numbers in
    let leaves = merged (leaves_of_sense m.meant) in
    let values = c.in_ok-count-in-Some.ensures.values m.meant held
    ∙ ap (λ (l : List FirstValues). map plain_values l ++ filled_values constants leaves) c.new-values.ensures.items in
    c.in_ok-add_values_renewals-in-Some.ensures
    ∙ (λ i. joined old (values_renewals (number i) (values i)))
    ∙ ap (joined old) (leaves_renew (number_at of.numbers c.args.found) (filled_leaves [] constants leaves))
    ∙ ap (λ t. joined old (variable_renewals constants t)) (sym m.is)

pub returns-in-None-clause-slots : goal.returns-in-None-clause-slots
returns-in-None-clause-slots c = λ of holds.
    ap slots_of_meant (sym (meant_nothing c.args.numbered.now.table.forms.items of c.args.found (c.in-None.ensures of.table holds.table)))

pub returns-in-None-clause-renewals : goal.returns-in-None-clause-renewals
returns-in-None-clause-renewals c = λ of holds.
    let old = plain_stmts c.args.into.now.items in
    let constants = map shown_const c.args.constants.now in
    sym (joined_none old)
    ∙ ap (λ t. joined old (variable_renewals constants t))
    (sym (meant_nothing c.args.numbered.now.table.forms.items of c.args.found (c.in-None.ensures of.table holds.table)))
