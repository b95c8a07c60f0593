-- No rule of the validator fails in statements.
use Rattle.std.proofs.Common.{◌≡◌, ℕ, ◌+◌, ◌<◌, ◌≤◌, max, true, List, [], ◌∷◌, Option, Some, None, slice_get, length, refl, sym, subst, arith}
use Rattle.std.specs.List.{AllByRecursion}
use Rattle.pearl_value.specs.declared.kind.Kind.TheVariants as kind_
use Rattle.pearl_value.specs.declared.kind.CellKind.TheVariants.{Plain}
use Rattle.pearl_program.specs.PlainStatements.{PlainStmt, OfRenew, OfAssign, OfCallOf, OfIf, OfCase, OfRepeat, OfExit, OfReturn, OfActivate, OfContinue, OfResume, OfSuspend, OfTerminate, OfPrevent, OfRequest, OfRelease, OfEnable, OfDisable, OfTrigger, OfPut, OfGet, OfSend, OfTake, PlainStmts, NoStmts, MoreStmts, PlainBranches, NoBranches, MoreBranches}
use Rattle.pearl_program.specs.Typing.{Around}
use Rattle.pearl_program.specs.SoundStatements.{IsIf, IsTaskNumber, IsStmt, AreStmts, AreBranches, within}
use Rattle.pearl_program.specs.Weights.{Sizes, values, of_expr, of_if, of_counter, greatest, greatest_of_all, greatest_of_branches}
use Rattle.pearl_meaning.specs.Setting.{Setting}
use Rattle.pearl_instructions.specs.declared.instr.Instr.{Instr}
use Rattle.pearl_instructions.specs.declared.instr.Instr.TheVariants as instr
use Rattle.pearl_instructions.specs.declared.object.Code.{Code}
use Rattle.pearl_instructions.specs.declared.object.Parts.{Parts as Object}
use Rattle.pearl_instructions.specs.Valid.{is_semaphore_list}
use Rattle.pearl_gen_expr.specs.Shapes.{Keeps}
use Rattle.pearl_gen_expr.proofs.Offered.{both_keep, then_one, just_one}
use Rattle.pearl_gen_stmt.specs.StmtCode.{on_task, StmtAt, StmtsAt, ElseAt, BranchesAt}
use Rattle.pearl_faithful.proofs.Small.{IsSmall, left, right, first, second}
use Rattle.pearl_faithful.proofs.StatementsStand.{Stands, within_loop}
use Rattle.pearl_faithful.proofs.Quiet.{stays, IsWhole}
use Rattle.pearl_faithful.proofs.Steps.{semaphore_list, turn_keeps, jump_keeps, jump_zero_keeps, case_keeps, enable_keeps, disable_keeps, trigger_keeps, suspend_keeps, suspend_own_keeps, terminate_keeps, terminate_own_keeps, prevent_keeps, prevent_own_keeps, request_keeps, release_keeps}
use Rattle.pearl_faithful.proofs.Kept.{expr_keep, renew_keeps, assign_keeps, take_keep, call_keep, return_keep, send_keep}
use Rattle.pearl_faithful.proofs.Planned.{interrupt_there, task_there, activate_keep, continue_keep, resume_keep}
use Rattle.pearl_faithful.proofs.TextsKept.{put_keep, get_keep}
use Rattle.pearl_faithful.proofs.LoopsKept.{begins_keep, counts_keep, while_keep, back_keep}

module _ (o : Object) (r : ℕ) (code : Code) (setting : Setting) (below most need : ℕ) (whole : IsWhole o code) (room : length code.cells + (need + 2) + most ≤ code.depth) where
  abbrev instrs : List Instr
  instrs = code.instructions

  abbrev Fit : (Sizes → ℕ) → Type 0
  Fit of = IsSmall o below most need of

  abbrev Goes : (from to : ℕ) → Type 0
  Goes from to = Keeps o r code from to [] []

  alone : (from to : ℕ) → to ≡ from + 1 → Goes from (from + 1) → Goes from to
  alone from to last one = just_one o r code from to [] [] last one

  on_task_keeps : (other : ℕ → Instr) (own : Instr) (around : Around) → Stands o r code setting around below → (task : Option ℕ) (from to : ℕ) → IsIf (IsTaskNumber around) task →
      ((t : ℕ) → t < length o.tasks → slice_get instrs from ≡ Some (other t) → Goes from (from + 1)) → (slice_get instrs from ≡ Some own → Goes from (from + 1)) →
      (slice_get instrs from ≡ Some (on_task other own task)) × (to ≡ from + 1) → Goes from to
  on_task_keeps other own around stands None from to typed of_other of_own is = alone from to is.1 (of_own is.0)
  on_task_keeps other own around stands (Some t) from to typed of_other of_own is =
      alone from to is.1 (of_other t (task_there o r code setting below most need whole room around stands t typed) is.0)

  semaphores_there : (around : Around) → Stands o r code setting around below → (ns : List ℕ) → AllByRecursion (λ n. n < around.semaphores) ns → AllByRecursion (λ n. n < length o.semaphores) ns
  semaphores_there around stands ns there = subst (λ count. AllByRecursion (λ n. n < count) ns) stands.placed.semaphores there

  mutual
    stmt_keeps : (statement : PlainStmt) (around : Around) → Stands o r code setting around below → (leave : Option ℕ) (from to : ℕ) → IsStmt around statement → Fit (λ z. greatest z statement) →
        StmtAt setting instrs leave from statement to → Goes from to
    stmt_keeps (OfRenew cell values) around stands leave from to typed small is =
        renew_keeps o r code setting below most need whole room around stands cell values values.constants from to typed.0 typed.0.constants typed.0.few typed.1.0 is
    stmt_keeps (OfAssign target value) around stands leave from to typed small is =
        assign_keeps o r code setting below most need whole room around stands target value typed.0 from to typed.1 typed.2 small is
    stmt_keeps (OfCallOf procedure arguments) around stands leave from to typed small is =
        call_keep o r code setting below most need whole room around stands procedure (slice_get setting.program.procedures procedure) arguments typed.0 from to refl typed.1 typed.2 small is
    stmt_keeps (OfIf condition statements otherwise) around stands leave from to typed small is =
        let tested = is.0 in let other = is.1 in let end = is.2 in
        let f : Sizes → ℕ = λ z. of_expr z condition in
        let g : Sizes → ℕ = λ z. greatest_of_all z statements in
        let h : Sizes → ℕ = λ z. greatest_of_all z otherwise in
        let sizes = first o below most need f (λ z. max (g z) (h z)) small in let more = second o below most need f (λ z. max (g z) (h z)) small in
        let few = sizes.2 in
        let test = then_one o r code from tested (tested + 1) [] (Plain (kind_.Bits 1) ∷ []) [] refl
        (expr_keep o r code setting below most need whole room around stands condition (kind_.Bits 1) from tested [] typed.0 sizes (omega (arith, few)) is.3)
        (jump_zero_keeps o r code whole tested other is.4 (omega (arith, room))) in
        both_keep o r code from (tested + 1) to [] [] [] test
        (both_keep o r code (tested + 1) end to [] [] [] (stmts_keep statements around stands leave (tested + 1) end typed.1 (first o below most need g h more) is.5)
        (else_keeps otherwise around stands leave end other to typed.2 (second o below most need g h more) is.6))
    stmt_keeps (OfCase selector alternatives otherwise) around stands leave from to typed small is =
        let selected = is.0 in let end = is.1 in let targets = is.2 in
        let f : Sizes → ℕ = λ z. of_expr z selector in
        let g : Sizes → ℕ = λ z. greatest_of_branches z alternatives in
        let h : Sizes → ℕ = λ z. greatest_of_all z otherwise in
        let sizes = first o below most need f (λ z. max (g z) (h z)) small in let more = second o below most need f (λ z. max (g z) (h z)) small in
        let few = sizes.2 in
        let test = then_one o r code from selected (selected + 1) [] (Plain (kind_.Fixed typed.0.0) ∷ []) [] refl
        (expr_keep o r code setting below most need whole room around stands selector (kind_.Fixed typed.0.0) from selected [] typed.0.1 sizes (omega (arith, few)) is.3)
        (case_keeps o r code whole selected targets typed.0.0 is.4 (omega (arith, room))) in
        both_keep o r code from (selected + 1) to [] [] [] test
        (both_keep o r code (selected + 1) end to [] [] [] (stmts_keep otherwise around stands leave (selected + 1) end typed.2 (second o below most need g h more) is.5)
        (both_keep o r code end (end + 1) to [] [] [] (jump_keeps o r code whole end to is.6 (omega (arith, room)))
        (branches_keep alternatives around stands leave (end + 1) targets to typed.1 (first o below most need g h more) is.7)))
    stmt_keeps (OfRepeat counter condition statements) around stands leave from to typed small is =
        let top = is.0 in let counted = is.1 in let begin = is.2 in let end = is.3 in
        let inner = within_loop o r code setting around below counter stands in
        let f : Sizes → ℕ = λ z. of_if z (of_counter z) counter in
        let g : Sizes → ℕ = λ z. of_if z (of_expr z) condition in
        let h : Sizes → ℕ = λ z. greatest_of_all z statements in
        let own = first o below most need (λ z. z.both (f z) (g z)) h small in
        both_keep o r code from top to [] [] [] (begins_keep o r code setting below most need whole room around stands counter from top typed.0 (left o below most need f g own) is.4)
        (both_keep o r code top (top + 1) to [] [] [] (turn_keeps o r code whole top is.5 (omega (arith, room)))
        (both_keep o r code (top + 1) counted to [] [] [] (counts_keep o r code setting below most need whole room around stands counter to (top + 1) counted typed.0 is.6)
        (both_keep o r code counted begin to [] [] [] (while_keep o r code setting below most need whole room (within around counter) inner condition to counted begin typed.1 (right o below most need f g own) is.7)
        (both_keep o r code begin end to [] [] [] (stmts_keep statements (within around counter) inner (Some to) begin end typed.2 (second o below most need (λ z. z.both (f z) (g z)) h small) is.8)
        (back_keep o r code setting below most need whole room around stands counter top end to typed.0 is.9)))))
    stmt_keeps OfExit around stands leave from to typed small is = alone from to is.2.1 (jump_keeps o r code whole from is.0 is.2.0 (omega (arith, room)))
    stmt_keeps (OfReturn value) around stands leave from to typed small is = return_keep o r code setting below most need whole room around stands value from to typed small is
    stmt_keeps (OfActivate task start period priority) around stands leave from to typed small is =
        activate_keep o r code setting below most need whole room around stands task start period priority from to typed small is
    stmt_keeps (OfContinue task once) around stands leave from to typed small is = continue_keep o r code setting below most need whole room around stands task once from to typed.0 typed.1 small is
    stmt_keeps (OfResume once) around stands leave from to typed small is = resume_keep o r code setting below most need whole room around stands once from to typed small is
    stmt_keeps (OfSuspend task) around stands leave from to typed small is =
        on_task_keeps instr.Suspend instr.SuspendOwn around stands task from to typed (λ t there at. suspend_keeps o r code whole from t at there (omega (arith, room)))
        (λ at. suspend_own_keeps o r code whole from at (omega (arith, room))) is
    stmt_keeps (OfTerminate task) around stands leave from to typed small is =
        on_task_keeps instr.Terminate instr.TerminateOwn around stands task from to typed (λ t there at. terminate_keeps o r code whole from t at there (omega (arith, room)))
        (λ at. terminate_own_keeps o r code whole from at (omega (arith, room))) is
    stmt_keeps (OfPrevent task) around stands leave from to typed small is =
        on_task_keeps instr.Prevent instr.PreventOwn around stands task from to typed (λ t there at. prevent_keeps o r code whole from t at there (omega (arith, room)))
        (λ at. prevent_own_keeps o r code whole from at (omega (arith, room))) is
    stmt_keeps (OfRequest semaphores) around stands leave from to typed small is =
        alone from to is.1 (request_keeps o r code whole from semaphores is.0 (semaphore_list semaphores typed.some typed.few typed.distinct)
        (semaphores_there around stands semaphores typed.there) (omega (arith, room)))
    stmt_keeps (OfRelease semaphores) around stands leave from to typed small is =
        alone from to is.1 (release_keeps o r code whole from semaphores is.0 (semaphore_list semaphores typed.some typed.few typed.distinct)
        (semaphores_there around stands semaphores typed.there) (omega (arith, room)))
    stmt_keeps (OfEnable interrupt) around stands leave from to typed small is =
        alone from to is.1 (enable_keeps o r code whole from interrupt is.0 (interrupt_there o r code setting below most need whole room around stands interrupt typed) (omega (arith, room)))
    stmt_keeps (OfDisable interrupt) around stands leave from to typed small is =
        alone from to is.1 (disable_keeps o r code whole from interrupt is.0 (interrupt_there o r code setting below most need whole room around stands interrupt typed) (omega (arith, room)))
    stmt_keeps (OfTrigger interrupt) around stands leave from to typed small is =
        alone from to is.1 (trigger_keeps o r code whole from interrupt is.0 (interrupt_there o r code setting below most need whole room around stands interrupt typed) (omega (arith, room)))
    stmt_keeps (OfPut values device format) around stands leave from to typed small is = put_keep o r code setting below most need whole room around stands values device format from to typed small is
    stmt_keeps (OfGet targets device format cell) around stands leave from to typed small is =
        get_keep o r code setting below most need whole room around stands targets device format cell from to typed small is
    stmt_keeps (OfSend value device) around stands leave from to typed small is =
        send_keep o r code setting below most need whole room around stands value typed.0 device from to typed.1 typed.2 small is
    stmt_keeps (OfTake target device) around stands leave from to typed small is =
        take_keep o r code setting below most need whole room around stands target typed.0 typed.1 device from to typed.2 typed.3 typed.4 small is

    pub stmts_keep : (statements : PlainStmts) (around : Around) → Stands o r code setting around below → (leave : Option ℕ) (from to : ℕ) → AreStmts around statements →
        Fit (λ z. greatest_of_all z statements) → StmtsAt setting code.instructions leave from statements to → Keeps o r code from to [] []
    stmts_keep NoStmts around stands leave from to typed small is = stays o r code from to [] is
    stmts_keep (MoreStmts statement rest) around stands leave from to typed small is =
        let f : Sizes → ℕ = λ z. greatest z statement in
        let g : Sizes → ℕ = λ z. greatest_of_all z rest in
        both_keep o r code from is.0 to [] [] [] (stmt_keeps statement around stands leave from is.0 typed.0 (first o below most need f g small) is.1)
        (stmts_keep rest around stands leave is.0 to typed.1 (second o below most need f g small) is.2)

    else_keeps : (otherwise : PlainStmts) (around : Around) → Stands o r code setting around below → (leave : Option ℕ) (from other to : ℕ) → AreStmts around otherwise →
        Fit (λ z. greatest_of_all z otherwise) → ElseAt setting instrs leave from other otherwise to → Goes from to
    else_keeps NoStmts around stands leave from other to typed small is = stays o r code from to [] is.1
    else_keeps (MoreStmts statement rest) around stands leave from other to typed small is =
        let f : Sizes → ℕ = λ z. greatest z statement in
        let g : Sizes → ℕ = λ z. greatest_of_all z rest in
        both_keep o r code from (from + 1) to [] [] [] (jump_keeps o r code whole from to is.1 (omega (arith, room)))
        (both_keep o r code (from + 1) is.0 to [] [] [] (stmt_keeps statement around stands leave (from + 1) is.0 typed.0 (first o below most need f g small) is.3)
        (stmts_keep rest around stands leave is.0 to typed.1 (second o below most need f g small) is.4))

    branches_keep : (alternatives : PlainBranches) (around : Around) → Stands o r code setting around below → (leave : Option ℕ) (from : ℕ) (targets : List ℕ) (to : ℕ) →
        AreBranches around alternatives → Fit (λ z. greatest_of_branches z alternatives) → BranchesAt setting instrs leave from targets alternatives to → Goes from to
    branches_keep NoBranches around stands leave from [] to typed small is = stays o r code from to [] is
    branches_keep NoBranches around stands leave from (target ∷ targets) to typed small is = absurd is
    branches_keep (MoreBranches statements rest) around stands leave from [] to typed small is = absurd is
    branches_keep (MoreBranches statements rest) around stands leave from (target ∷ targets) to typed small is =
        let f : Sizes → ℕ = λ z. greatest_of_all z statements in
        let g : Sizes → ℕ = λ z. greatest_of_branches z rest in
        let end = is.0 in
        both_keep o r code from end to [] [] [] (stmts_keep statements around stands leave from end typed.0 (first o below most need f g small) is.2)
        (both_keep o r code end (end + 1) to [] [] [] (jump_keeps o r code whole end to is.3 (omega (arith, room)))
        (branches_keep rest around stands leave (end + 1) targets to typed.1 (second o below most need f g small) is.4))
