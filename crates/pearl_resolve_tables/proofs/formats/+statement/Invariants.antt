use Rattle.std.proofs.Common.{◌≡◌, ◌++◌, drop}
use Rattle.pearl_names.specs.Listed.{branches_shown, stmts_shown}
use Rattle.pearl_resolve_tables.specs.Formats.{formats_in_all, formats_in_branches}
use Rattle.pearl_resolve_tables.proofs.formats.«+statement».Given as goal

abbrev pub invariant-add_stmts-loop-stmt : goal.invariant-add_stmts-loop-stmt
invariant-add_stmts-loop-stmt l =
    l.into.items ++ formats_in_all (stmts_shown (drop l.stmt-index l.stmts.items.items)) ≡
    l.fn.into.items ++ formats_in_all (stmts_shown l.stmts.items.items)

abbrev pub invariant-add_branches-loop-branch : goal.invariant-add_branches-loop-branch
invariant-add_branches-loop-branch l =
    l.into.items ++ formats_in_branches (branches_shown (drop l.branch-index l.branches.items.items)) ≡
    l.fn.into.items ++ formats_in_branches (branches_shown l.branches.items.items)
