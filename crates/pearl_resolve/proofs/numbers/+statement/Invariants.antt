use Rattle.std.proofs.Common.{drop}
use Rattle.pearl_names.specs.Holding.{HoldsTable}
use Rattle.pearl_names.specs.Listed.{branches_shown, stmts_shown}
use Rattle.pearl_names.specs.Tables.{Table}
use Rattle.pearl_resolve.specs.Holding.{at_in, numbers_held}
use Rattle.pearl_resolve.proofs.Numbering.{Past, PastBranches}
use Rattle.pearl_resolve.proofs.numbers.«+statement».Given as goal

abbrev pub invariant-number_stmts-loop-stmt : goal.invariant-number_stmts-loop-stmt
invariant-number_stmts-loop-stmt l = (t : Table) → HoldsTable l.table t →
    Past t (at_in l.here) (at_in l.fn.at) (numbers_held l.into.items) (numbers_held l.fn.into.items)
    (stmts_shown (drop l.stmt-index l.stmts.items.items)) (stmts_shown l.stmts.items.items)

abbrev pub invariant-number_branches-loop-branch : goal.invariant-number_branches-loop-branch
invariant-number_branches-loop-branch l = (t : Table) → HoldsTable l.table t →
    PastBranches t (at_in l.here) (at_in l.fn.at) (numbers_held l.into.items) (numbers_held l.fn.into.items)
    (branches_shown (drop l.branch-index l.branches.items.items)) (branches_shown l.branches.items.items)
