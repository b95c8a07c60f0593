use Rattle.std.proofs.Common.{take}
use Rattle.pearl_scope.specs.Placed.{placed_in, Grows}
use Rattle.pearl_scope.proofs.Placing.{PutSo, PutBranches}
use Rattle.pearl_scope.proofs.places.«+place».Given as goal

abbrev pub invariant-place_all-loop-stmt : goal.invariant-place_all-loop-stmt
invariant-place_all-loop-stmt l =
    PutSo (placed_in l.fn.places.items) (placed_in l.places.items) l.spot l.next l.number (take l.stmt-index l.stmts.items.items) ×
    Grows l.fn.places.items l.places.items

abbrev pub invariant-place_branches-loop-branch : goal.invariant-place_branches-loop-branch
invariant-place_branches-loop-branch l =
    PutBranches (placed_in l.fn.places.items) (placed_in l.places.items) l.spot l.next l.number (take l.branch-index l.branches.items.items) ×
    Grows l.fn.places.items l.places.items
