use Rattle.std.proofs.Common.{drop}
use Rattle.pearl_program.specs.PlainStatements.{plain_stmts, plain_branches}
use Rattle.pearl_gen_expr.specs.Emitting.{Extends}
use Rattle.pearl_gen_stmt.specs.Emission.{setting_of, Notes}
use Rattle.pearl_gen_stmt.proofs.Nesting.{StmtsSoFar, BranchesSoFar}
use Rattle.pearl_gen_stmt.proofs.statement.«+statement».Given as goal

abbrev pub invariant-emit_stmts-loop-stmt : goal.invariant-emit_stmts-loop-stmt
invariant-emit_stmts-loop-stmt l =
    Extends l.fn.code.items l.code.items ×
    StmtsSoFar (setting_of l.site.program.now l.site.result l.site.routine.now) l.site.in_loop l.fn.code.items l.exits.items l.code.items (plain_stmts (drop l.stmt-index l.stmts)) (plain_stmts l.stmts) ×
    Notes l.fn.exits.items l.exits.items

abbrev pub invariant-emit_branches-loop-branch : goal.invariant-emit_branches-loop-branch
invariant-emit_branches-loop-branch l =
    Extends l.fn.code.items l.code.items ×
    BranchesSoFar (setting_of l.site.program.now l.site.result l.site.routine.now) l.site.in_loop l.fn.code.items l.exits.items l.ends.items l.code.items l.places.items (plain_branches (drop l.branch-index l.branches)) (plain_branches l.branches) ×
    Notes l.fn.exits.items l.exits.items ×
    Notes l.fn.ends.items l.ends.items
