use Rattle.std.proofs.Common.{drop}
use Rattle.pearl_names.specs.Listed.{branches_shown, stmts_shown}
use Rattle.pearl_program.specs.PlainStatements.{plain_stmts, plain_branches}
use Rattle.pearl_resolve.specs.Expressions.{Numbered}
use Rattle.pearl_resolve.specs.Holding.{HoldsNumbered, at_in}
use Rattle.pearl_resolve.proofs.Resolving.{Going, GoingBranches}
use Rattle.pearl_resolve.proofs.statements.«+statement».Given as goal

abbrev pub invariant-add_stmts-loop-stmt : goal.invariant-add_stmts-loop-stmt
invariant-add_stmts-loop-stmt l = (of : Numbered) → HoldsNumbered l.numbered of →
    Going of l.scope (at_in l.here) (at_in l.fn.at) l.cells.items l.fn.cells.items (plain_stmts l.into.items) (plain_stmts l.fn.into.items)
    (stmts_shown (drop l.stmt-index l.stmts.items.items)) (stmts_shown l.stmts.items.items)

abbrev pub invariant-add_branches-loop-branch : goal.invariant-add_branches-loop-branch
invariant-add_branches-loop-branch l = (of : Numbered) → HoldsNumbered l.numbered of →
    GoingBranches of l.scope (at_in l.here) (at_in l.fn.at) l.cells.items l.fn.cells.items (plain_branches l.into.items) (plain_branches l.fn.into.items)
    (branches_shown (drop l.branch-index l.branches.items.items)) (branches_shown l.branches.items.items)
