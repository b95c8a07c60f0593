use Rattle.std.proofs.Common.{map, sym, ap, ◌∙◌}
use Rattle.std.specs.Option.{option_and_then}
use Rattle.pearl_tree.specs.ShownLiterals.{shown_const}
use Rattle.pearl_program.specs.PlainStatements.{plain_stmts}
use Rattle.pearl_resolve.specs.Expressions.{meant_at}
use Rattle.pearl_resolve.specs.Statements.{joined, slots_of_meant, variable_renewals}
use Rattle.pearl_resolve.proofs.Resolving.{joined_none}
use Rattle.pearl_resolve.proofs.renewals.add_name_renewals.Goals as goal

pub returns-in_ok-count-in-Some-clause-slots : goal.returns-in_ok-count-in-Some-clause-slots
returns-in_ok-count-in-Some-clause-slots c = λ of holds.
    c.in_ok-count-in-Some.ensures.slots of holds
    ∙ ap (λ o. slots_of_meant (option_and_then (meant_at of) o)) (c.in-Some.ensures of.table holds.table)

pub returns-in_ok-count-in-Some-clause-renewals : goal.returns-in_ok-count-in-Some-clause-renewals
returns-in_ok-count-in-Some-clause-renewals c = λ of holds.
    c.in_ok-count-in-Some.ensures.renewals of holds
    ∙ ap (λ o. joined (plain_stmts c.args.into.now.items) (variable_renewals (map shown_const c.args.constants.now) (option_and_then (meant_at of) o)))
    (c.in-Some.ensures of.table holds.table)

pub returns-in-None-clause-slots : goal.returns-in-None-clause-slots
returns-in-None-clause-slots c = λ of holds.
    ap (λ o. slots_of_meant (option_and_then (meant_at of) o)) (c.in-None.ensures of.table holds.table)

pub returns-in-None-clause-renewals : goal.returns-in-None-clause-renewals
returns-in-None-clause-renewals c = λ of holds.
    sym (joined_none (plain_stmts c.args.into.now.items))
    ∙ ap (λ o. joined (plain_stmts c.args.into.now.items) (variable_renewals (map shown_const c.args.constants.now) (option_and_then (meant_at of) o)))
    (c.in-None.ensures of.table holds.table)
