use Rattle.std.proofs.Common.{◌≡◌, map, drop}
use Rattle.pearl_tree.specs.ShownLiterals.{shown_const}
use Rattle.pearl_program.specs.PlainStatements.{plain_stmts}
use Rattle.pearl_resolve.specs.Expressions.{Numbered}
use Rattle.pearl_resolve.specs.Holding.{HoldsNumbered}
use Rattle.pearl_resolve.specs.Statements.{joined, names_renewals}
use Rattle.pearl_resolve.proofs.renewals.add_names_renewals.Given as goal

abbrev pub invariant-loop-name : goal.invariant-loop-name
invariant-loop-name l = (of : Numbered) → HoldsNumbered l.numbered of →
    joined (plain_stmts l.into.items) (names_renewals of l.scope (map shown_const l.left) (drop l.name-index l.names)) ≡
    joined (plain_stmts l.fn.into.items) (names_renewals of l.scope (map shown_const l.constants) l.names)
