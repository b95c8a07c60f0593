use Rattle.std.proofs.Common.{map, refl, ◌∙◌}
use Rattle.pearl_tree.specs.Names.{names_of}
use Rattle.pearl_tree.specs.ShownDeclarations.{ShownItem, shown_item}
use Rattle.pearl_tree.specs.ShownLiterals.{shown_const}
use Rattle.pearl_program.specs.PlainStatements.{plain_stmts}
use Rattle.pearl_resolve.specs.Statements.{items_renewals, joined, names_renewals}
use Rattle.pearl_resolve.proofs.Renewing.{part_more, parts_all}
use Rattle.pearl_resolve.proofs.renewals.add_items_renewals.Goals as goal

pub loop-item-init : goal.loop-item-init
loop-item-init c = λ of holds. refl

pub loop-item-preserved : goal.loop-item-preserved
loop-item-preserved c = λ of holds.
    let scope = c.args.scope in
    part_more shown_item (λ (item : ShownItem). names_renewals of scope item.init (names_of item.names)) (items_renewals of scope) (λ s rest. refl)
    c.args.items.now c.loop-item.item-index c.item-item.result (plain_stmts c.loop-item.into.items) _ _
    c.loop-item-test.true c.item-item.is
    (c.in_ok-add_names_renewals.ensures of holds
    ∙ (λ i. joined (plain_stmts c.loop-item.into.items) (names_renewals of scope (map shown_const (c.as_slice-constants.ensures i)) (c.as_slice.ensures i))))
    (c.loop-item.invariant of holds)

pub returns : goal.returns
returns c = λ of holds.
    parts_all shown_item (items_renewals of c.args.scope) refl c.args.items.now c.loop-item.item-index _ _ c.loop-item-test.false (c.loop-item.invariant of holds)
