use Rattle.std.proofs.Common.{◌≡◌, map, drop}
use Rattle.pearl_tree.specs.ShownStatements.{shown_body_decl}
use Rattle.pearl_program.specs.PlainStatements.{plain_stmts}
use Rattle.pearl_resolve.specs.Expressions.{Numbered}
use Rattle.pearl_resolve.specs.Holding.{HoldsNumbered}
use Rattle.pearl_resolve.specs.Statements.{joined, declared_renewals}
use Rattle.pearl_resolve.proofs.renewals.add_renewals.Given as goal

abbrev pub invariant-loop-declaration : goal.invariant-loop-declaration
invariant-loop-declaration l = (of : Numbered) → HoldsNumbered l.numbered of →
    joined (plain_stmts l.into.items) (declared_renewals of l.scope (map shown_body_decl (drop l.declaration-index l.declarations))) ≡
    joined (plain_stmts l.fn.into.items) (declared_renewals of l.scope (map shown_body_decl l.declarations))
