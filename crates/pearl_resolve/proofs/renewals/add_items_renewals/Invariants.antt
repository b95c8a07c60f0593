use Rattle.std.proofs.Common.{◌≡◌, map, drop}
use Rattle.pearl_tree.specs.ShownDeclarations.{shown_item}
use Rattle.pearl_program.specs.PlainStatements.{plain_stmts}
use Rattle.pearl_resolve.specs.Expressions.{Numbered}
use Rattle.pearl_resolve.specs.Holding.{HoldsNumbered}
use Rattle.pearl_resolve.specs.Statements.{joined, items_renewals}
use Rattle.pearl_resolve.proofs.renewals.add_items_renewals.Given as goal

abbrev pub invariant-loop-item : goal.invariant-loop-item
invariant-loop-item l = (of : Numbered) → HoldsNumbered l.numbered of →
    joined (plain_stmts l.into.items) (items_renewals of l.scope (map shown_item (drop l.item-index l.items))) ≡
    joined (plain_stmts l.fn.into.items) (items_renewals of l.scope (map shown_item l.items))
