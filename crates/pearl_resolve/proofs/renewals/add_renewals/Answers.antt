use Rattle.std.proofs.Common.{map, ap, refl, ◌∙◌}
use Rattle.pearl_tree.specs.ShownDeclarations.{shown_item}
use Rattle.pearl_tree.specs.ShownStatements.{ShownBodyDecl, shown_body_decl}
use Rattle.pearl_program.specs.PlainStatements.{plain_stmts}
use Rattle.pearl_resolve.specs.Statements.{declared_renewals, items_renewals, joined}
use Rattle.pearl_resolve.proofs.Renewing.{part_more, parts_all}
use Rattle.pearl_resolve.proofs.renewals.add_renewals.Goals as goal

pub loop-declaration-init : goal.loop-declaration-init
loop-declaration-init c = λ of holds. refl

pub loop-declaration-preserved : goal.loop-declaration-preserved
loop-declaration-preserved c = λ of holds.
    let scope = c.args.scope in
    part_more shown_body_decl (λ (declaration : ShownBodyDecl). items_renewals of scope declaration.items) (declared_renewals of scope) (λ s rest. refl)
    c.args.declarations.now c.loop-declaration.declaration-index c.declaration-item.result (plain_stmts c.loop-declaration.into.items) _ _
    c.loop-declaration-test.true c.declaration-item.is
    (c.in_ok-add_items_renewals.ensures of holds
    ∙ ap (λ l. joined (plain_stmts c.loop-declaration.into.items) (items_renewals of scope (map shown_item l))) c.as_slice.ensures)
    (c.loop-declaration.invariant of holds)

pub returns : goal.returns
returns c = λ of holds.
    parts_all shown_body_decl (declared_renewals of c.args.scope) refl c.args.declarations.now c.loop-declaration.declaration-index _ _
    c.loop-declaration-test.false (c.loop-declaration.invariant of holds)
