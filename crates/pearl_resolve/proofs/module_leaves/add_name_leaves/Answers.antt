use Rattle.std.proofs.Common.{◌++◌, map, sym, ap, ◌∙◌, append-nil}
use Rattle.std.specs.Option.{option_and_then}
use Rattle.pearl_tree.specs.ShownLiterals.{shown_const}
use Rattle.pearl_program.specs.PlainPrograms.{plain_leaf}
use Rattle.pearl_resolve.specs.Expressions.{meant_at}
use Rattle.pearl_resolve.specs.Resolve.{variable_leaves}
use Rattle.pearl_resolve.specs.Statements.{slots_of_meant}
use Rattle.pearl_resolve.proofs.module_leaves.add_name_leaves.Goals as goal

pub returns-in_ok-count-in-Some-clause-slots : goal.returns-in_ok-count-in-Some-clause-slots
returns-in_ok-count-in-Some-clause-slots c = λ of holds.
    c.in_ok-count-in-Some.ensures.slots of holds
    ∙ ap (λ o. slots_of_meant (option_and_then (meant_at of) o)) (c.in-Some.ensures of.table holds.table)

pub returns-in_ok-count-in-Some-clause-leaves : goal.returns-in_ok-count-in-Some-clause-leaves
returns-in_ok-count-in-Some-clause-leaves c = λ of holds.
    c.in_ok-count-in-Some.ensures.leaves of holds
    ∙ ap (λ o. map plain_leaf c.args.into.now.items ++ variable_leaves c.args.name.now (map shown_const c.args.constants.now) (option_and_then (meant_at of) o))
    (c.in-Some.ensures of.table holds.table)

pub returns-in-None-clause-slots : goal.returns-in-None-clause-slots
returns-in-None-clause-slots c = λ of holds.
    ap (λ o. slots_of_meant (option_and_then (meant_at of) o)) (c.in-None.ensures of.table holds.table)

pub returns-in-None-clause-leaves : goal.returns-in-None-clause-leaves
returns-in-None-clause-leaves c = λ of holds.
    sym (append-nil _)
    ∙ ap (λ o. map plain_leaf c.args.into.now.items ++ variable_leaves c.args.name.now (map shown_const c.args.constants.now) (option_and_then (meant_at of) o))
    (c.in-None.ensures of.table holds.table)
