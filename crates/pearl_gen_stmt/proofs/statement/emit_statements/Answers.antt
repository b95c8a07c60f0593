use Rattle.std.proofs.Common.{None, true≢false, sym, subst, length, List}
use Rattle.pearl_program.specs.declared.statement.Stmt.{Stmt}
use Rattle.pearl_program.specs.PlainStatements.{plain_stmts}
use Rattle.pearl_gen_stmt.specs.StmtCode.{StmtsAt}
use Rattle.pearl_gen_stmt.specs.Emission.{setting_of}
use Rattle.pearl_gen_stmt.proofs.Adding.{stays_self, stays_on}
use Rattle.pearl_gen_stmt.proofs.statement.emit_statements.Goals as goal

pub returns-clause-stands : goal.returns-clause-stands
returns-clause-stands c = λ later more.
    let old = c.args.code.now.items in let new = c.emit_stmts.new.code.items in
    subst (λ (xs : List Stmt). StmtsAt (setting_of c.args.program.now c.args.returns c.args.routine.now) later None (length old) (plain_stmts xs) (length new)) c.as_slice.ensures.value
    (c.in_ok-emit_stmts.ensures.added later None (stays_on new later later more (stays_self later)) (λ within. absurd (true≢false (sym within))))
