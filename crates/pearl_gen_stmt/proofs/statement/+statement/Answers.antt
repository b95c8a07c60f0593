use Rattle.std.proofs.Common.{◌≡◌, ℕ, ◌+◌, ◌≤◌, true, List, [], ◌∷◌, ◌++◌, length, map, drop, slice_get, option_map, refl, sym, ap, ◌∙◌, subst, arith}
use Rattle.std.specs.Prelude.{Contains}
use Rattle.std.specs.Result.{OnOk}
use Rattle.arrayvec.specs.ArrayVec.{ArrayVec}
use Rattle.pearl_program.specs.declared.schedule.Once.{Once}
use Rattle.pearl_program.specs.declared.expression.Call.{Call}
use Rattle.pearl_program.specs.declared.statement.Renewal.{Renewal}
use Rattle.pearl_program.specs.declared.statement.Assign.{Assign}
use Rattle.pearl_program.specs.declared.statement.Return.{Return as ReturnPart}
use Rattle.pearl_program.specs.declared.statement.Activate.{Activate}
use Rattle.pearl_program.specs.declared.statement.Continue.{Continue}
use Rattle.pearl_program.specs.declared.statement.Put.{Put}
use Rattle.pearl_program.specs.declared.statement.Get.{Get}
use Rattle.pearl_program.specs.declared.statement.Send.{Send}
use Rattle.pearl_program.specs.declared.statement.Take.{Take}
use Rattle.pearl_program.specs.declared.statement.If.{If}
use Rattle.pearl_program.specs.declared.statement.Case.{Case, out-Case}
use Rattle.pearl_program.specs.declared.statement.Repeat.{Repeat}
use Rattle.pearl_program.specs.declared.statement.Branch.{Branch}
use Rattle.pearl_program.specs.declared.statement.Stmt.{Stmt}
use Rattle.pearl_program.specs.PlainExpressions.{cell_of, plain_expr, plain_exprs, plain_variable, plain_arguments}
use Rattle.pearl_program.specs.PlainStatements.{plain_values, plain_start, plain_once, plain_period, plain_counter, plain_stmt, plain_stmts, plain_branches}
use Rattle.pearl_program.specs.PlainPrograms.{plain_prog}
use Rattle.pearl_meaning.specs.Setting.{Setting}
use Rattle.pearl_instructions.specs.declared.instr.Instr.TheVariants as instr
use Rattle.pearl_gen_expr.specs.ExprCode.{Is}
use Rattle.pearl_gen_expr.proofs.Offered.{extends_more, some_are}
use Rattle.pearl_gen_stmt.specs.StmtCode.{on_task, RenewAt, AssignAt, CallOfAt, ReturnAt, ActivateAt, ContinueAt, ResumeAt, Alone, PutAt, GetAt, SendAt, TakeAt, AdvanceAt}
use Rattle.pearl_gen_stmt.specs.Emission.{setting_of, plain_if, plain_case, plain_repeat, Adds, AddsStmt, AddsStmts, AddsElse, AddsBranches}
use Rattle.pearl_gen_stmt.proofs.Adding.{alone_adds}
use Rattle.pearl_gen_stmt.proofs.Settling.{on_ok, none_there, extends_longer, extends_by, extends_apart}
use Rattle.pearl_gen_stmt.proofs.StatementRows.{if_plain, case_plain, repeat_plain}
use Rattle.pearl_gen_stmt.proofs.Nesting.{suspend_known, terminate_known, prevent_known, BranchesSoFar, stmts_more, stmts_done, branches_more, branches_done, no_else_adds, else_adds, if_adds, case_adds, repeat_adds}
use Rattle.pearl_gen_stmt.proofs.statement.«+statement».Goals as goal

pub emit_stmt-returns-in-Renew-clause-added : goal.emit_stmt-returns-in-Renew-clause-added
emit_stmt-returns-in-Renew-clause-added t c =
    let old = c.args.code.now.items in let new = c.emit_renew.new.code.items in
    subst (λ s. OnOk c.emit_renew.result (AddsStmt (setting_of c.args.site.program.now c.args.site.result c.args.site.routine.now) c.args.site.in_loop c.args.exits.now.items (plain_stmt s) old new)) (sym c.in-Renew.is)
    (on_ok c.emit_renew.result (λ adds final leave stays exits. adds (setting_of c.args.site.program.now c.args.site.result c.args.site.routine.now) final stays)
    (subst (λ (part : Renewal). OnOk c.emit_renew.result ((setting : Setting) → Adds (λ code from to. RenewAt setting code from part.cell (plain_values part.values) (map cell_of part.values.constants) to) old new)) c.deref.ensures c.emit_renew.ensures.added))

pub emit_stmt-returns-in-Assign-clause-added : goal.emit_stmt-returns-in-Assign-clause-added
emit_stmt-returns-in-Assign-clause-added t c =
    let old = c.args.code.now.items in let new = c.emit_assign.new.code.items in
    subst (λ s. OnOk c.emit_assign.result (AddsStmt (setting_of c.args.site.program.now c.args.site.result c.args.site.routine.now) c.args.site.in_loop c.args.exits.now.items (plain_stmt s) old new)) (sym c.in-Assign.is)
    (on_ok c.emit_assign.result (λ adds final leave stays exits. adds final stays)
    (subst (λ (part : Assign). OnOk c.emit_assign.result (Adds (λ code from to. AssignAt (setting_of c.args.site.program.now c.args.site.result c.args.site.routine.now) code from (plain_variable part.target) (plain_expr part.value) to) old new)) c.deref-in-Assign.ensures c.emit_assign.ensures.added))

pub emit_stmt-returns-in-Call-clause-added : goal.emit_stmt-returns-in-Call-clause-added
emit_stmt-returns-in-Call-clause-added t c =
    let old = c.args.code.now.items in let new = c.emit_call_of.new.code.items in
    subst (λ s. OnOk c.emit_call_of.result (AddsStmt (setting_of c.args.site.program.now c.args.site.result c.args.site.routine.now) c.args.site.in_loop c.args.exits.now.items (plain_stmt s) old new)) (sym c.in-Call.is)
    (on_ok c.emit_call_of.result (λ adds final leave stays exits. adds final stays)
    (subst (λ (part : Call). OnOk c.emit_call_of.result (Adds (λ code from to. CallOfAt (setting_of c.args.site.program.now c.args.site.result c.args.site.routine.now) code from part.procedure (slice_get (plain_prog c.args.site.program.now).procedures part.procedure) (plain_arguments part.arguments.items) to) old new)) c.deref-in-Call.ensures c.emit_call_of.ensures.added))

pub emit_stmt-returns-in-Return-clause-added : goal.emit_stmt-returns-in-Return-clause-added
emit_stmt-returns-in-Return-clause-added t c =
    let old = c.args.code.now.items in let new = c.emit_return.new.code.items in
    subst (λ s. OnOk c.emit_return.result (AddsStmt (setting_of c.args.site.program.now c.args.site.result c.args.site.routine.now) c.args.site.in_loop c.args.exits.now.items (plain_stmt s) old new)) (sym c.in-Return.is)
    (on_ok c.emit_return.result (λ adds final leave stays exits. adds final stays)
    (subst (λ (part : ReturnPart). OnOk c.emit_return.result (Adds (λ code from to. ReturnAt (setting_of c.args.site.program.now c.args.site.result c.args.site.routine.now) code from (option_map plain_expr part.value) to) old new)) c.deref-in-Return.ensures c.emit_return.ensures.added))

pub emit_stmt-returns-in-Activate-clause-added : goal.emit_stmt-returns-in-Activate-clause-added
emit_stmt-returns-in-Activate-clause-added t c =
    let old = c.args.code.now.items in let new = c.emit_activate.new.code.items in
    subst (λ s. OnOk c.emit_activate.result (AddsStmt (setting_of c.args.site.program.now c.args.site.result c.args.site.routine.now) c.args.site.in_loop c.args.exits.now.items (plain_stmt s) old new)) (sym c.in-Activate.is)
    (on_ok c.emit_activate.result (λ adds final leave stays exits. adds final stays)
    (subst (λ (part : Activate). OnOk c.emit_activate.result (Adds (λ code from to. ActivateAt (setting_of c.args.site.program.now c.args.site.result c.args.site.routine.now) code from part.task (option_map plain_start part.start) (option_map plain_period part.period) (option_map plain_expr part.priority) to) old new)) c.deref-in-Activate.ensures c.emit_activate.ensures.added))

pub emit_stmt-returns-in-Continue-clause-added : goal.emit_stmt-returns-in-Continue-clause-added
emit_stmt-returns-in-Continue-clause-added t c =
    let old = c.args.code.now.items in let new = c.emit_continue.new.code.items in
    subst (λ s. OnOk c.emit_continue.result (AddsStmt (setting_of c.args.site.program.now c.args.site.result c.args.site.routine.now) c.args.site.in_loop c.args.exits.now.items (plain_stmt s) old new)) (sym c.in-Continue.is)
    (on_ok c.emit_continue.result (λ adds final leave stays exits. adds final stays)
    (subst (λ (part : Continue). OnOk c.emit_continue.result (Adds (λ code from to. ContinueAt (setting_of c.args.site.program.now c.args.site.result c.args.site.routine.now) code from part.task (option_map plain_once part.once) to) old new)) c.deref-in-Continue.ensures c.emit_continue.ensures.added))

pub emit_stmt-returns-in-Resume-clause-added : goal.emit_stmt-returns-in-Resume-clause-added
emit_stmt-returns-in-Resume-clause-added t c =
    let old = c.args.code.now.items in let new = c.emit_resume.new.code.items in
    subst (λ s. OnOk c.emit_resume.result (AddsStmt (setting_of c.args.site.program.now c.args.site.result c.args.site.routine.now) c.args.site.in_loop c.args.exits.now.items (plain_stmt s) old new)) (sym c.in-Resume.is)
    (on_ok c.emit_resume.result (λ adds final leave stays exits. adds final stays)
    (subst (λ (part : Once). OnOk c.emit_resume.result (Adds (λ code from to. ResumeAt (setting_of c.args.site.program.now c.args.site.result c.args.site.routine.now) code from (plain_once part) to) old new)) c.deref-in-Resume.ensures c.emit_resume.ensures.added))

pub emit_stmt-returns-in-Request-clause-added : goal.emit_stmt-returns-in-Request-clause-added
emit_stmt-returns-in-Request-clause-added t c =
    let old = c.args.code.now.items in let new = c.emit_request.new.code.items in
    subst (λ s. OnOk c.emit_request.result (AddsStmt (setting_of c.args.site.program.now c.args.site.result c.args.site.routine.now) c.args.site.in_loop c.args.exits.now.items (plain_stmt s) old new)) (sym c.in-Request.is)
    (on_ok c.emit_request.result (λ adds final leave stays exits. adds (setting_of c.args.site.program.now c.args.site.result c.args.site.routine.now) final stays)
    (subst (λ (part : ArrayVec ℕ). OnOk c.emit_request.result ((setting : Setting) → Adds (λ code from to. Alone setting code from (instr.Request part.items) to) old new)) c.deref-in-Request.ensures c.emit_request.ensures.added))

pub emit_stmt-returns-in-Release-clause-added : goal.emit_stmt-returns-in-Release-clause-added
emit_stmt-returns-in-Release-clause-added t c =
    let old = c.args.code.now.items in let new = c.emit_release.new.code.items in
    subst (λ s. OnOk c.emit_release.result (AddsStmt (setting_of c.args.site.program.now c.args.site.result c.args.site.routine.now) c.args.site.in_loop c.args.exits.now.items (plain_stmt s) old new)) (sym c.in-Release.is)
    (on_ok c.emit_release.result (λ adds final leave stays exits. adds (setting_of c.args.site.program.now c.args.site.result c.args.site.routine.now) final stays)
    (subst (λ (part : ArrayVec ℕ). OnOk c.emit_release.result ((setting : Setting) → Adds (λ code from to. Alone setting code from (instr.Release part.items) to) old new)) c.deref-in-Release.ensures c.emit_release.ensures.added))

pub emit_stmt-returns-in-Put-clause-added : goal.emit_stmt-returns-in-Put-clause-added
emit_stmt-returns-in-Put-clause-added t c =
    let old = c.args.code.now.items in let new = c.emit_put.new.code.items in
    subst (λ s. OnOk c.emit_put.result (AddsStmt (setting_of c.args.site.program.now c.args.site.result c.args.site.routine.now) c.args.site.in_loop c.args.exits.now.items (plain_stmt s) old new)) (sym c.in-Put.is)
    (on_ok c.emit_put.result (λ adds final leave stays exits. adds final stays)
    (subst (λ (part : Put). OnOk c.emit_put.result (Adds (λ code from to. PutAt (setting_of c.args.site.program.now c.args.site.result c.args.site.routine.now) code from (plain_exprs part.values.items) part.device part.format to) old new)) c.deref-in-Put.ensures c.emit_put.ensures.added))

pub emit_stmt-returns-in-Get-clause-added : goal.emit_stmt-returns-in-Get-clause-added
emit_stmt-returns-in-Get-clause-added t c =
    let old = c.args.code.now.items in let new = c.emit_get.new.code.items in
    subst (λ s. OnOk c.emit_get.result (AddsStmt (setting_of c.args.site.program.now c.args.site.result c.args.site.routine.now) c.args.site.in_loop c.args.exits.now.items (plain_stmt s) old new)) (sym c.in-Get.is)
    (on_ok c.emit_get.result (λ adds final leave stays exits. adds final stays)
    (subst (λ (part : Get). OnOk c.emit_get.result (Adds (λ code from to. GetAt (setting_of c.args.site.program.now c.args.site.result c.args.site.routine.now) code from (map plain_variable part.targets.items) part.device part.format part.cell to) old new)) c.deref-in-Get.ensures c.emit_get.ensures.added))

pub emit_stmt-returns-in-Send-clause-added : goal.emit_stmt-returns-in-Send-clause-added
emit_stmt-returns-in-Send-clause-added t c =
    let old = c.args.code.now.items in let new = c.emit_send.new.code.items in
    subst (λ s. OnOk c.emit_send.result (AddsStmt (setting_of c.args.site.program.now c.args.site.result c.args.site.routine.now) c.args.site.in_loop c.args.exits.now.items (plain_stmt s) old new)) (sym c.in-Send.is)
    (on_ok c.emit_send.result (λ adds final leave stays exits. adds final stays)
    (subst (λ (part : Send). OnOk c.emit_send.result (Adds (λ code from to. SendAt (setting_of c.args.site.program.now c.args.site.result c.args.site.routine.now) code from (plain_expr part.value) part.device to) old new)) c.deref-in-Send.ensures c.emit_send.ensures.added))

pub emit_stmt-returns-in-Take-clause-added : goal.emit_stmt-returns-in-Take-clause-added
emit_stmt-returns-in-Take-clause-added t c =
    let old = c.args.code.now.items in let new = c.emit_take.new.code.items in
    subst (λ s. OnOk c.emit_take.result (AddsStmt (setting_of c.args.site.program.now c.args.site.result c.args.site.routine.now) c.args.site.in_loop c.args.exits.now.items (plain_stmt s) old new)) (sym c.in-Take.is)
    (on_ok c.emit_take.result (λ adds final leave stays exits. adds final stays)
    (subst (λ (part : Take). OnOk c.emit_take.result (Adds (λ code from to. TakeAt (setting_of c.args.site.program.now c.args.site.result c.args.site.routine.now) code from (plain_variable part.target) part.device to) old new)) c.deref-in-Take.ensures c.emit_take.ensures.added))

pub emit_stmt-returns-in-If-clause-added : goal.emit_stmt-returns-in-If-clause-added
emit_stmt-returns-in-If-clause-added t c =
    let old = c.args.code.now.items in let new = c.emit_if.new.code.items in
    subst (λ s. OnOk c.emit_if.result (AddsStmt (setting_of c.args.site.program.now c.args.site.result c.args.site.routine.now) c.args.site.in_loop c.emit_if.new.exits.items (plain_stmt s) old new)) (sym c.in-If.is)
    (subst (λ s. OnOk c.emit_if.result (AddsStmt (setting_of c.args.site.program.now c.args.site.result c.args.site.routine.now) c.args.site.in_loop c.emit_if.new.exits.items s old new)) (sym (if_plain c.in-If.part))
    (subst (λ (part : If). OnOk c.emit_if.result (AddsStmt (setting_of c.args.site.program.now c.args.site.result c.args.site.routine.now) c.args.site.in_loop c.emit_if.new.exits.items (plain_if part) old new)) c.deref-in-If.ensures c.emit_if.ensures.added))

pub emit_stmt-returns-in-Case-clause-added : goal.emit_stmt-returns-in-Case-clause-added
emit_stmt-returns-in-Case-clause-added t c =
    let old = c.args.code.now.items in let new = c.emit_case.new.code.items in
    subst (λ s. OnOk c.emit_case.result (AddsStmt (setting_of c.args.site.program.now c.args.site.result c.args.site.routine.now) c.args.site.in_loop c.emit_case.new.exits.items (plain_stmt s) old new)) (sym c.in-Case.is)
    (subst (λ s. OnOk c.emit_case.result (AddsStmt (setting_of c.args.site.program.now c.args.site.result c.args.site.routine.now) c.args.site.in_loop c.emit_case.new.exits.items s old new)) (sym (case_plain c.in-Case.part))
    (subst (λ (part : Case). OnOk c.emit_case.result (AddsStmt (setting_of c.args.site.program.now c.args.site.result c.args.site.routine.now) c.args.site.in_loop c.emit_case.new.exits.items (plain_case part) old new)) c.deref-in-Case.ensures c.emit_case.ensures.added))

pub emit_stmt-returns-in-Repeat-clause-added : goal.emit_stmt-returns-in-Repeat-clause-added
emit_stmt-returns-in-Repeat-clause-added t c =
    let old = c.args.code.now.items in let new = c.emit_repeat.new.code.items in
    subst (λ s. OnOk c.emit_repeat.result (AddsStmt (setting_of c.args.site.program.now c.args.site.result c.args.site.routine.now) c.args.site.in_loop c.args.exits.now.items (plain_stmt s) old new)) (sym c.in-Repeat.is)
    (subst (λ s. OnOk c.emit_repeat.result (AddsStmt (setting_of c.args.site.program.now c.args.site.result c.args.site.routine.now) c.args.site.in_loop c.args.exits.now.items s old new)) (sym (repeat_plain c.in-Repeat.part))
    (on_ok c.emit_repeat.result (λ adds. adds c.args.exits.now.items)
    (subst (λ (part : Repeat). OnOk c.emit_repeat.result ((noted : List ℕ) → AddsStmt (setting_of c.args.site.program.now c.args.site.result c.args.site.routine.now) c.args.site.in_loop noted (plain_repeat part) old new)) c.deref-in-Repeat.ensures c.emit_repeat.ensures.added)))

pub emit_stmt-returns-in-Exit-clause-added : goal.emit_stmt-returns-in-Exit-clause-added
emit_stmt-returns-in-Exit-clause-added t c =
    subst (λ s. OnOk c.emit_exit.result (AddsStmt (setting_of c.args.site.program.now c.args.site.result c.args.site.routine.now) c.args.site.in_loop c.emit_exit.new.exits.items (plain_stmt s) c.args.code.now.items c.emit_exit.new.code.items)) (sym c.in-Exit.is)
    c.emit_exit.ensures.added

pub emit_stmt-returns-in-Suspend-clause-added : goal.emit_stmt-returns-in-Suspend-clause-added
emit_stmt-returns-in-Suspend-clause-added t c =
    let old = c.args.code.now.items in let new = c.emit.new.code.items in let i = on_task instr.Suspend instr.SuspendOwn c.in-Suspend.task in
    subst (λ s. OnOk c.emit.result (AddsStmt (setting_of c.args.site.program.now c.args.site.result c.args.site.routine.now) c.args.site.in_loop c.args.exits.now.items (plain_stmt s) old new)) (sym c.in-Suspend.is)
    (on_ok c.emit.result (λ last final leave stays exits. alone_adds old new i last (setting_of c.args.site.program.now c.args.site.result c.args.site.routine.now) (suspend_known c.in-Suspend.task) final stays)
    (subst (λ i. OnOk c.emit.result (new ≡ old ++ i ∷ [])) c.suspending.ensures c.emit.ensures.added))

pub emit_stmt-returns-in-Terminate-clause-added : goal.emit_stmt-returns-in-Terminate-clause-added
emit_stmt-returns-in-Terminate-clause-added t c =
    let old = c.args.code.now.items in let new = c.emit-in-Terminate.new.code.items in let i = on_task instr.Terminate instr.TerminateOwn c.in-Terminate.task in
    subst (λ s. OnOk c.emit-in-Terminate.result (AddsStmt (setting_of c.args.site.program.now c.args.site.result c.args.site.routine.now) c.args.site.in_loop c.args.exits.now.items (plain_stmt s) old new)) (sym c.in-Terminate.is)
    (on_ok c.emit-in-Terminate.result (λ last final leave stays exits. alone_adds old new i last (setting_of c.args.site.program.now c.args.site.result c.args.site.routine.now) (terminate_known c.in-Terminate.task) final stays)
    (subst (λ i. OnOk c.emit-in-Terminate.result (new ≡ old ++ i ∷ [])) c.terminating.ensures c.emit-in-Terminate.ensures.added))

pub emit_stmt-returns-in-Prevent-clause-added : goal.emit_stmt-returns-in-Prevent-clause-added
emit_stmt-returns-in-Prevent-clause-added t c =
    let old = c.args.code.now.items in let new = c.emit-in-Prevent.new.code.items in let i = on_task instr.Prevent instr.PreventOwn c.in-Prevent.task in
    subst (λ s. OnOk c.emit-in-Prevent.result (AddsStmt (setting_of c.args.site.program.now c.args.site.result c.args.site.routine.now) c.args.site.in_loop c.args.exits.now.items (plain_stmt s) old new)) (sym c.in-Prevent.is)
    (on_ok c.emit-in-Prevent.result (λ last final leave stays exits. alone_adds old new i last (setting_of c.args.site.program.now c.args.site.result c.args.site.routine.now) (prevent_known c.in-Prevent.task) final stays)
    (subst (λ i. OnOk c.emit-in-Prevent.result (new ≡ old ++ i ∷ [])) c.preventing.ensures c.emit-in-Prevent.ensures.added))

pub emit_stmt-returns-in-Enable-clause-added : goal.emit_stmt-returns-in-Enable-clause-added
emit_stmt-returns-in-Enable-clause-added t c =
    let old = c.args.code.now.items in let new = c.emit-in-Enable.new.code.items in let i = instr.Enable c.in-Enable.interrupt in
    subst (λ s. OnOk c.emit-in-Enable.result (AddsStmt (setting_of c.args.site.program.now c.args.site.result c.args.site.routine.now) c.args.site.in_loop c.args.exits.now.items (plain_stmt s) old new)) (sym c.in-Enable.is)
    (on_ok c.emit-in-Enable.result (λ last final leave stays exits. alone_adds old new i last (setting_of c.args.site.program.now c.args.site.result c.args.site.routine.now) refl final stays)
    (subst (λ i. OnOk c.emit-in-Enable.result (new ≡ old ++ i ∷ [])) (ap instr.Enable c.from.ensures) c.emit-in-Enable.ensures.added))

pub emit_stmt-returns-in-Disable-clause-added : goal.emit_stmt-returns-in-Disable-clause-added
emit_stmt-returns-in-Disable-clause-added t c =
    let old = c.args.code.now.items in let new = c.emit-in-Disable.new.code.items in let i = instr.Disable c.in-Disable.interrupt in
    subst (λ s. OnOk c.emit-in-Disable.result (AddsStmt (setting_of c.args.site.program.now c.args.site.result c.args.site.routine.now) c.args.site.in_loop c.args.exits.now.items (plain_stmt s) old new)) (sym c.in-Disable.is)
    (on_ok c.emit-in-Disable.result (λ last final leave stays exits. alone_adds old new i last (setting_of c.args.site.program.now c.args.site.result c.args.site.routine.now) refl final stays)
    (subst (λ i. OnOk c.emit-in-Disable.result (new ≡ old ++ i ∷ [])) (ap instr.Disable c.from-in-Disable.ensures) c.emit-in-Disable.ensures.added))

pub emit_stmt-returns-in-Trigger-clause-added : goal.emit_stmt-returns-in-Trigger-clause-added
emit_stmt-returns-in-Trigger-clause-added t c =
    let old = c.args.code.now.items in let new = c.emit-in-Trigger.new.code.items in let i = instr.Trigger c.in-Trigger.interrupt in
    subst (λ s. OnOk c.emit-in-Trigger.result (AddsStmt (setting_of c.args.site.program.now c.args.site.result c.args.site.routine.now) c.args.site.in_loop c.args.exits.now.items (plain_stmt s) old new)) (sym c.in-Trigger.is)
    (on_ok c.emit-in-Trigger.result (λ last final leave stays exits. alone_adds old new i last (setting_of c.args.site.program.now c.args.site.result c.args.site.routine.now) refl final stays)
    (subst (λ i. OnOk c.emit-in-Trigger.result (new ≡ old ++ i ∷ [])) (ap instr.Trigger c.from-in-Trigger.ensures) c.emit-in-Trigger.ensures.added))

pub emit_stmts-loop-stmt-preserved : goal.emit_stmts-loop-stmt-preserved
emit_stmts-loop-stmt-preserved t c =
    let old = c.args.code.now.items in let now = c.loop-stmt.code.items in let next = c.emit_stmt.new.code.items in (
      extends_more old now next c.loop-stmt.invariant.0 c.in_ok-emit_stmt.ensures.kept,
      stmts_more (setting_of c.args.site.program.now c.args.site.result c.args.site.routine.now) c.args.site.in_loop old c.loop-stmt.exits.items c.emit_stmt.new.exits.items now next c.args.stmts.now c.loop-stmt.stmt-index c.stmt-item.result c.loop-stmt-test.true c.stmt-item.is
          c.loop-stmt.invariant.0 c.in_ok-emit_stmt.ensures.noted c.in_ok-emit_stmt.ensures.kept c.in_ok-emit_stmt.ensures.added c.loop-stmt.invariant.1,
      (λ place at. c.in_ok-emit_stmt.ensures.noted place (c.loop-stmt.invariant.2 place at)),
    )

pub emit_stmts-returns-clause-added : goal.emit_stmts-returns-clause-added
emit_stmts-returns-clause-added t c =
    stmts_done (setting_of c.args.site.program.now c.args.site.result c.args.site.routine.now) c.args.site.in_loop c.args.code.now.items c.loop-stmt.exits.items c.loop-stmt.code.items c.args.stmts.now c.loop-stmt.stmt-index c.loop-stmt-test.false c.loop-stmt.invariant.1

pub emit_if-returns-clause-added : goal.emit_if-returns-clause-added
emit_if-returns-clause-added t c =
    let setting = setting_of c.args.site.program.now c.args.site.result c.args.site.routine.now in let in_loop = c.args.site.in_loop in let part = c.args.part.now in
    let old = c.args.code.now.items in let one = c.emit_expr.new.code.items in let two = c.emit_pending.new.code.items in
    let three = c.emit_stmts.new.code.items in let four = c.emit_else.new.code.items in let five = c.put.new.code.items in
    let at : c.len-tested.result ≡ length one = c.len-tested.ensures ∙ omega (arith, c.emit_expr.new.code.ok.0) in
    let ones = c.emit_stmts.new.exits.items in let twos = c.emit_else.new.exits.items in
    if_adds setting in_loop old ones twos one two three four five (plain_expr part.condition) (plain_stmts part.statements.items) (plain_stmts part.otherwise.items) c.in_ok-other.other
    c.in_ok-emit_expr.ensures.added c.in_ok-emit_expr.ensures.kept c.in_ok-emit_pending.ensures.added c.in_ok-emit_stmts.ensures.kept
    (subst (λ (xs : List Stmt). AddsStmts setting in_loop ones (plain_stmts xs) two three) c.as_slice.ensures.value c.in_ok-emit_stmts.ensures.added)
    c.in_ok-other.ensures.noted c.in_ok-other.ensures.kept
    (subst (λ (xs : List Stmt). AddsElse setting in_loop twos c.in_ok-other.other (plain_stmts xs) three four) c.as_slice-2.ensures.value c.in_ok-other.ensures.added)
    (subst (λ k. Is five k (instr.JumpZero c.in_ok-other.other)) at c.put.ensures.there)
    (λ k apart. c.put.ensures.elsewhere k (λ same. apart (same ∙ at))) c.put.ensures.long

pub emit_else-returns-then-is_empty-clause-added : goal.emit_else-returns-then-is_empty-clause-added
emit_else-returns-then-is_empty-clause-added t c =
    no_else_adds (setting_of c.args.site.program.now c.args.site.result c.args.site.routine.now) c.args.site.in_loop c.args.code.now.items c.args.exits.now.items (plain_stmts c.args.otherwise.now) c.len-end.result
    (ap plain_stmts (none_there c.args.otherwise.now c.if-is_empty.ensures)) (c.len-end.ensures ∙ omega (arith, c.args.code.now.ok.0))

pub emit_else-returns-clause-added : goal.emit_else-returns-clause-added
emit_else-returns-clause-added t c =
    let old = c.args.code.now.items in let one = c.emit_pending.new.code.items in let two = c.emit_stmts.new.code.items in let three = c.put.new.code.items in
    let at : c.len-end.result ≡ length old = c.len-end.ensures ∙ omega (arith, c.args.code.now.ok.0) in
    let to : c.len-to.result ≡ length two = c.len-to.ensures ∙ omega (arith, c.emit_stmts.new.code.ok.0) in
    else_adds (setting_of c.args.site.program.now c.args.site.result c.args.site.routine.now) c.args.site.in_loop old c.emit_stmts.new.exits.items one two three c.args.otherwise.now (c.len-end.result + 1)
    (some_are (length c.args.otherwise.now) c.args.otherwise.now c.if-is_empty.ensures refl) (ap (λ n. n + 1) at) c.in_ok-emit_pending.ensures.added
    c.in_ok-emit_stmts.ensures.kept c.in_ok-emit_stmts.ensures.added
    (subst (λ k. Is three k (instr.Jump (length two))) at (subst (λ n. Is three c.len-end.result (instr.Jump n)) to c.put.ensures.there))
    (λ k apart. c.put.ensures.elsewhere k (λ same. apart (same ∙ at))) c.put.ensures.long

pub emit_case-returns-clause-added : goal.emit_case-returns-clause-added
emit_case-returns-clause-added t c =
    let setting = setting_of c.args.site.program.now c.args.site.result c.args.site.routine.now in let in_loop = c.args.site.in_loop in let part = out-Case c.args.part.now in
    let old = c.args.code.now.items in let one = c.emit_expr.new.code.items in let two = c.emit_pending.new.code.items in
    let three = c.emit_stmts.new.code.items in let four = c.emit_pending-2.new.code.items in let five = c.emit_branches.new.code.items in
    let six = c.settle_at.new.code.items in let seven = c.put.new.code.items in
    let at : c.len-selected.result ≡ length one = c.len-selected.ensures ∙ omega (arith, c.emit_expr.new.code.ok.0) in
    let end : c.len-end.result ≡ length three = c.len-end.ensures ∙ omega (arith, c.emit_stmts.new.code.ok.0) in
    let to : c.len-to.result ≡ length five = c.len-to.ensures ∙ omega (arith, c.emit_branches.new.code.ok.0) in
    let targets = c.in_ok-targets.targets in
    let places : c.in_ok-places.places.items ≡ targets = sym (c.in_ok-targets.ensures ∙ c.new.ensures) in
    let ones = c.emit_stmts.new.exits.items in let twos = c.emit_branches.new.exits.items in
    let ends = c.emit_branches.new.ends.items in
    let end_at : Contains ends (length three) = c.in_ok-places.ensures.ended (length three) (subst (λ k. Contains c.note.new.places.items k) end c.in_ok-note.ensures.there) in
    case_adds setting in_loop old ones twos ends one two three four five six seven (plain_expr part.selector) (plain_branches part.alternatives.items) (plain_stmts part.otherwise.items)
    targets c.len-to.result to c.in_ok-emit_expr.ensures.added c.in_ok-emit_expr.ensures.kept c.in_ok-emit_pending.ensures.added c.in_ok-emit_stmts.ensures.kept
    (subst (λ (xs : List Stmt). AddsStmts setting in_loop ones (plain_stmts xs) two three) c.as_slice.ensures.value c.in_ok-emit_stmts.ensures.added)
    c.in_ok-emit_pending-2.ensures.added c.in_ok-places.ensures.kept c.in_ok-places.ensures.noted end_at
    (subst (λ (ns : List ℕ). AddsBranches setting in_loop twos ns ends (plain_branches part.alternatives.items) four five) places
    (subst (λ (xs : List Branch). AddsBranches setting in_loop twos c.in_ok-places.places.items ends (plain_branches xs) four five) c.as_slice-alternatives.ensures.value c.in_ok-places.ensures.added))
    (λ k far at is. c.settle_at.ensures.settled k (omega (arith, far, end)) (subst (λ (ns : List ℕ). Contains ns k) (sym c.as_slice-2.ensures.value) at) is) c.settle_at.ensures.kept
    (λ k less. c.settle_at.ensures.before k (omega (arith, less, end))) c.settle_at.ensures.long (subst (λ k. Is seven k (instr.Case targets)) at c.put.ensures.there)
    (λ k apart. c.put.ensures.elsewhere k (λ same. apart (same ∙ at))) c.put.ensures.long

pub emit_branches-loop-branch-preserved : goal.emit_branches-loop-branch-preserved
emit_branches-loop-branch-preserved t c =
    let old = c.args.code.now.items in let now = c.loop-branch.code.items in let one = c.emit_stmts.new.code.items in let two = c.emit_pending.new.code.items in
    let setting = setting_of c.args.site.program.now c.args.site.result c.args.site.routine.now in let in_loop = c.args.site.in_loop in
    let before = c.loop-branch.exits.items in let after = c.emit_stmts.new.exits.items in let ends = c.loop-branch.ends.items in let ended = c.note.new.places.items in
    let at : c.len.result ≡ length now = c.len.ensures ∙ omega (arith, c.loop-branch.code.ok.0) in
    let end : c.len-in-loop-branch.result ≡ length one = c.len-in-loop-branch.ensures ∙ omega (arith, c.emit_stmts.new.code.ok.0) in
    let end_at : Contains ended (length one) = subst (λ k. Contains ended k) end c.in_ok-note.ensures.there in (
      extends_more old now two c.loop-branch.invariant.0 (extends_more now one two c.in_ok-emit_stmts.ensures.kept c.in_ok-emit_pending.ensures.kept),
      subst (λ (places : List ℕ). BranchesSoFar setting in_loop old after ended two places (plain_branches (drop (c.loop-branch.branch-index + 1) c.args.branches.now)) (plain_branches c.args.branches.now))
          (sym (c.in_ok-push.ensures.items ∙ ap (λ n. c.loop-branch.places.items ++ n ∷ []) at))
          (branches_more setting in_loop old before after ends ended now one two c.loop-branch.places.items c.args.branches.now c.loop-branch.branch-index c.branch-item.result c.loop-branch-test.true
          c.branch-item.is c.loop-branch.invariant.0 c.in_ok-emit_stmts.ensures.noted c.in_ok-note.ensures.noted end_at c.in_ok-emit_stmts.ensures.kept
          (subst (λ (xs : List Stmt). AddsStmts setting in_loop after (plain_stmts xs) now one) c.as_slice.ensures.value c.in_ok-emit_stmts.ensures.added)
          c.in_ok-emit_pending.ensures.added c.loop-branch.invariant.1),
      (λ place is. c.in_ok-emit_stmts.ensures.noted place (c.loop-branch.invariant.2 place is)),
      (λ place is. c.in_ok-note.ensures.noted place (c.loop-branch.invariant.3 place is)),
    )

pub emit_branches-returns-in_err-emit_stmts-clause-noted : goal.emit_branches-returns-in_err-emit_stmts-clause-noted
emit_branches-returns-in_err-emit_stmts-clause-noted t c place is = c.emit_stmts.ensures.noted place (c.loop-branch.invariant.2 place is)

pub emit_branches-returns-in_err-note-clause-noted : goal.emit_branches-returns-in_err-note-clause-noted
emit_branches-returns-in_err-note-clause-noted t c place is = c.emit_stmts.ensures.noted place (c.loop-branch.invariant.2 place is)

pub emit_branches-returns-in_err-emit_pending-clause-noted : goal.emit_branches-returns-in_err-emit_pending-clause-noted
emit_branches-returns-in_err-emit_pending-clause-noted t c place is = c.emit_stmts.ensures.noted place (c.loop-branch.invariant.2 place is)

pub emit_branches-returns-in_err-emit_pending-clause-ended : goal.emit_branches-returns-in_err-emit_pending-clause-ended
emit_branches-returns-in_err-emit_pending-clause-ended t c place is = c.note.ensures.noted place (c.loop-branch.invariant.3 place is)

pub emit_branches-returns-clause-added : goal.emit_branches-returns-clause-added
emit_branches-returns-clause-added t c =
    branches_done (setting_of c.args.site.program.now c.args.site.result c.args.site.routine.now) c.args.site.in_loop c.args.code.now.items c.loop-branch.exits.items c.loop-branch.ends.items c.loop-branch.code.items c.loop-branch.places.items c.args.branches.now c.loop-branch.branch-index
    c.loop-branch-test.false c.loop-branch.invariant.1

pub emit_repeat-returns-clause-added : goal.emit_repeat-returns-clause-added
emit_repeat-returns-clause-added t c =
    let setting = setting_of c.args.site.program.now c.args.site.result c.args.site.routine.now in let part = c.args.part.now in
    let old = c.args.code.now.items in let one = c.emit_begins.new.code.items in let two = c.emit.new.code.items in let three = c.emit_counts.new.code.items in
    let four = c.emit_while.new.code.items in let five = c.emit_stmts.new.code.items in let six = c.emit_advance.new.code.items in
    let seven = c.settle_at.new.code.items in let eight = c.settle_between.new.code.items in
    let top : c.len-top.result ≡ length one = c.len-top.ensures ∙ omega (arith, c.emit_begins.new.code.ok.0) in
    let past : c.len-past.result ≡ length six = c.len-past.ensures ∙ omega (arith, c.emit_advance.new.code.ok.0) in
    let exits = c.emit_stmts.new.exits.items in
    let tested : c.len-tested.result ≡ length four = c.len-tested.ensures ∙ omega (arith, c.emit_while.new.code.ok.0) in
    repeat_adds setting c.args.site.in_loop exits old one two three four five six seven eight (option_map plain_counter part.counter) (option_map plain_expr part.condition)
    (plain_stmts part.statements.items) c.len-past.result past c.in_ok-emit_begins.ensures.added c.in_ok-emit.ensures.added (c.in_ok-emit_counts.ensures.added setting)
    c.in_ok-emit_counts.ensures.kept c.in_ok-emit_while.ensures.added c.in_ok-emit_while.ensures.kept
    (subst (λ (xs : List Stmt). AddsStmts setting true exits (plain_stmts xs) four five) c.as_slice.ensures.value c.in_ok-emit_stmts.ensures.added)
    c.in_ok-emit_stmts.ensures.kept
    (subst (λ top. Adds (λ code from to. AdvanceAt setting code from top (option_map plain_counter part.counter) to) five six) top (c.in_ok-emit_advance.ensures.added setting))
    c.in_ok-emit_advance.ensures.kept
    (λ k far at is. c.settle_at.ensures.settled k (omega (arith, far, top)) (subst (λ (ns : List ℕ). Contains ns k) (sym c.as_slice-2.ensures.value) at) is)
    c.settle_at.ensures.kept c.settle_at.ensures.long
    (λ k far near is. c.settle_between.ensures.settled k (omega (arith, far, top)) (omega (arith, near, tested)) is) c.settle_between.ensures.kept c.settle_between.ensures.long

pub emit_if-returns-clause-kept : goal.emit_if-returns-clause-kept
emit_if-returns-clause-kept t c =
    let old = c.args.code.now.items in let one = c.emit_expr.new.code.items in let four = c.emit_else.new.code.items in
    let longer = extends_longer old one c.in_ok-emit_expr.ensures.kept in
    extends_apart old four c.put.new.code.items c.len-tested.result
    (extends_more old one four c.in_ok-emit_expr.ensures.kept (extends_more one c.emit_pending.new.code.items four c.in_ok-emit_pending.ensures.kept
    (extends_more c.emit_pending.new.code.items c.emit_stmts.new.code.items four c.in_ok-emit_stmts.ensures.kept c.in_ok-other.ensures.kept)))
    (omega (arith, longer, c.len-tested.ensures, c.emit_expr.new.code.ok.0)) c.put.ensures.elsewhere

pub emit_else-returns-clause-kept : goal.emit_else-returns-clause-kept
emit_else-returns-clause-kept t c =
    let old = c.args.code.now.items in let two = c.emit_stmts.new.code.items in
    extends_apart old two c.put.new.code.items c.len-end.result
    (extends_more old c.emit_pending.new.code.items two c.in_ok-emit_pending.ensures.kept c.in_ok-emit_stmts.ensures.kept)
    (omega (arith, c.len-end.ensures, c.args.code.now.ok.0)) c.put.ensures.elsewhere

pub emit_case-returns-clause-kept : goal.emit_case-returns-clause-kept
emit_case-returns-clause-kept t c =
    let old = c.args.code.now.items in let one = c.emit_expr.new.code.items in let two = c.emit_pending.new.code.items in let three = c.emit_stmts.new.code.items in
    let five = c.emit_branches.new.code.items in let six = c.settle_at.new.code.items in
    let to_three = extends_more old one three c.in_ok-emit_expr.ensures.kept (extends_more one two three c.in_ok-emit_pending.ensures.kept c.in_ok-emit_stmts.ensures.kept) in
    let to_five = extends_more old three five to_three (extends_more three c.emit_pending-2.new.code.items five c.in_ok-emit_pending-2.ensures.kept c.in_ok-places.ensures.kept) in
    let longer = extends_longer old one c.in_ok-emit_expr.ensures.kept in
    let longest = extends_longer old three to_three in
    extends_apart old six c.put.new.code.items c.len-selected.result
    (extends_by old five six c.len-end.result to_five (omega (arith, longest, c.len-end.ensures, c.emit_stmts.new.code.ok.0)) c.settle_at.ensures.before)
    (omega (arith, longer, c.len-selected.ensures, c.emit_expr.new.code.ok.0)) c.put.ensures.elsewhere

pub emit_repeat-returns-clause-kept : goal.emit_repeat-returns-clause-kept
emit_repeat-returns-clause-kept t c =
    let old = c.args.code.now.items in let one = c.emit_begins.new.code.items in let two = c.emit.new.code.items in let three = c.emit_counts.new.code.items in
    let four = c.emit_while.new.code.items in let five = c.emit_stmts.new.code.items in let six = c.emit_advance.new.code.items in
    let seven = c.settle_at.new.code.items in
    let longer = extends_longer old one c.in_ok-emit_begins.ensures.kept in
    let far : length old ≤ c.len-top.result = omega (arith, longer, c.len-top.ensures, c.emit_begins.new.code.ok.0) in
    extends_by old seven c.settle_between.new.code.items c.len-top.result
    (extends_by old six seven c.len-top.result
    (extends_more old one six c.in_ok-emit_begins.ensures.kept (extends_more one two six c.in_ok-emit.ensures.kept
    (extends_more two three six c.in_ok-emit_counts.ensures.kept (extends_more three four six c.in_ok-emit_while.ensures.kept
    (extends_more four five six c.in_ok-emit_stmts.ensures.kept c.in_ok-emit_advance.ensures.kept))))) far c.settle_at.ensures.before) far c.settle_between.ensures.before
