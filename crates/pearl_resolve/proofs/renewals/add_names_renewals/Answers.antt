use Rattle.std.proofs.Common.{map, sym, ap, refl, ◌∙◌}
use Rattle.std.proofs.lemmas.List.{drop_all}
use Rattle.pearl_tree.specs.ShownLiterals.{shown_const}
use Rattle.pearl_program.specs.PlainStatements.{plain_stmts}
use Rattle.pearl_resolve.specs.Statements.{joined, names_renewals}
use Rattle.pearl_resolve.proofs.Renewing.{name_more}
use Rattle.pearl_resolve.proofs.Resolving.{joined_none}
use Rattle.pearl_resolve.proofs.renewals.add_names_renewals.Goals as goal

pub loop-name-init : goal.loop-name-init
loop-name-init c = λ of holds. refl

pub loop-name-preserved : goal.loop-name-preserved
loop-name-preserved c = λ of holds.
    name_more of c.args.scope c.args.names.now c.loop-name.name-index c.name-item.result (map shown_const c.loop-name.left.now) _ _ _ _ _
    c.loop-name-test.true c.name-item.is (c.in_ok-count.ensures.renewals of holds) (c.in_ok-count.ensures.slots of holds)
    c.left_behind-left.ensures (c.loop-name.invariant of holds)

pub returns : goal.returns
returns c = λ of holds.
    sym (joined_none (plain_stmts c.loop-name.into.items))
    ∙ ap (λ l. joined (plain_stmts c.loop-name.into.items) (names_renewals of c.args.scope (map shown_const c.loop-name.left.now) l))
    (sym (drop_all c.loop-name.name-index c.args.names.now c.loop-name-test.false))
    ∙ c.loop-name.invariant of holds
