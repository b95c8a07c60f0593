use Rattle.std.proofs.Common.{◌++◌, map, ap, ◌∙◌}
use Rattle.pearl_value.specs.declared.kind.CellKind.TheVariants.{Plain}
use Rattle.pearl_tree.specs.ShownExpressions.{ShownRef, shown_ref}
use Rattle.pearl_names.proofs.Offered.{all_taken}
use Rattle.pearl_names.specs.declared.scope.View.TheVariants.{Within}
use Rattle.pearl_program.specs.PlainExpressions.{plain_variable}
use Rattle.pearl_resolve.specs.Expressions.{resolve_variable, target_kind}
use Rattle.pearl_resolve.proofs.StatementParts.{one_made, one_behind}
use Rattle.pearl_resolve.proofs.simple.targets_in.Goals as goal

pub loop-target-preserved : goal.loop-target-preserved
loop-target-preserved c = λ of holds.
    let view = Within c.args.scope in
    let xs = c.args.targets.now in
    let i = c.loop-target.target-index in
    let before = c.loop-target.invariant of holds in (
      rw c.in_ok-push.ensures.items (one_made (resolve_variable of view) shown_ref plain_variable xs _ i c.target-item.result c.in_ok-variable.variable
          c.loop-target-test.true c.target-item.is (c.in_ok-variable.ensures.variable of holds) before.0),
      one_behind (λ (target : ShownRef). Plain (target_kind of view target)) shown_ref xs c.args.cells.now.items _ _ i c.target-item.result _
          c.loop-target-test.true c.target-item.is (ap Plain (c.in_ok-variable.ensures.kind of holds)) before.1 c.in_ok-push-2.ensures.items,
    )

pub returns-clause-variables : goal.returns-clause-variables
returns-clause-variables c = λ of holds.
    (c.loop-target.invariant of holds).0
    ∙ ap (λ l. map (resolve_variable of (Within c.args.scope)) (map shown_ref l)) (all_taken c.args.targets.now c.loop-target.target-index c.loop-target-test.false)

pub returns-clause-cells : goal.returns-clause-cells
returns-clause-cells c = λ of holds.
    (c.loop-target.invariant of holds).1
    ∙ ap (λ l. c.args.cells.now.items ++ map (λ (target : ShownRef). Plain (target_kind of (Within c.args.scope) target)) (map shown_ref l))
    (all_taken c.args.targets.now c.loop-target.target-index c.loop-target-test.false)
