use Rattle.std.proofs.Common.{◌≡◌, ◌++◌, take, length}
use Rattle.pearl_names.specs.Groups.{scopes_in_list}
use Rattle.pearl_names.specs.Listed.{stmts_shown, branches_shown}
use Rattle.pearl_names.specs.Scopes.{all_scopes, branch_scopes}
use Rattle.pearl_names.proofs.collect.«+statement».Given as goal

abbrev pub invariant-collect_stmts-loop-stmt : goal.invariant-collect_stmts-loop-stmt
invariant-collect_stmts-loop-stmt l =
    scopes_in_list l.scopes.items ≡ scopes_in_list l.fn.scopes.items ++
    all_scopes l.types l.scope (length (scopes_in_list l.fn.scopes.items)) (stmts_shown (take l.stmt-index l.stmts.items.items))

abbrev pub invariant-collect_branches-loop-branch : goal.invariant-collect_branches-loop-branch
invariant-collect_branches-loop-branch l =
    scopes_in_list l.scopes.items ≡ scopes_in_list l.fn.scopes.items ++
    branch_scopes l.types l.scope (length (scopes_in_list l.fn.scopes.items)) (branches_shown (take l.branch-index l.branches.items.items))
