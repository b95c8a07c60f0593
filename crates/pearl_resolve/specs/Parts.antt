-- What the parts of statements in memory show.
use Rattle.std.specs.Prelude.{map, option_map}
use Rattle.pearl_tree.specs.declared.statement.Activate.{Activate}
use Rattle.pearl_tree.specs.declared.statement.Assign.{Assign}
use Rattle.pearl_tree.specs.declared.statement.Begin.{Begin}
use Rattle.pearl_tree.specs.declared.statement.Call.{Call}
use Rattle.pearl_tree.specs.declared.statement.Case as case_
use Rattle.pearl_tree.specs.declared.statement.Case.{out-Case}
use Rattle.pearl_tree.specs.declared.statement.Continue.{Continue}
use Rattle.pearl_tree.specs.declared.statement.Get.{Get}
use Rattle.pearl_tree.specs.declared.statement.If as if_
use Rattle.pearl_tree.specs.declared.statement.If.{out-If}
use Rattle.pearl_tree.specs.declared.statement.OnInterrupt.{OnInterrupt}
use Rattle.pearl_tree.specs.declared.statement.OnSemas.{OnSemas}
use Rattle.pearl_tree.specs.declared.statement.OnTask.{OnTask}
use Rattle.pearl_tree.specs.declared.statement.Put.{Put}
use Rattle.pearl_tree.specs.declared.statement.Repeat.{Repeat}
use Rattle.pearl_tree.specs.declared.statement.Resume.{Resume}
use Rattle.pearl_tree.specs.declared.statement.Return.{Return}
use Rattle.pearl_tree.specs.declared.statement.Send.{Send}
use Rattle.pearl_tree.specs.declared.statement.Take.{Take}
use Rattle.pearl_tree.specs.ShownExpressions.{shown_expr, shown_ref}
use Rattle.pearl_tree.specs.ShownStatements.{ShownStmt, OfActivate, OfAssign, OfBegin, OfCall, OfCase, OfContinue, OfGet, OfIf, OfOnInterrupt, OfOnSemas, OfOnTask, OfPut, OfRepeat, OfResume, OfReturn, OfSend, OfTake, shown_body_decl, shown_once, shown_start}
use Rattle.pearl_names.specs.Listed.{branches_shown, otherwise_shown, stmts_shown}

abbrev pub shown_assign : Assign → ShownStmt
shown_assign part = OfAssign (shown_ref part.target) (shown_expr part.value) part.place

abbrev pub shown_call : Call → ShownStmt
shown_call part = OfCall part.call part.name (map shown_expr part.arguments.items.items) part.place

abbrev pub shown_if : if_.If → ShownStmt
shown_if part =
    OfIf (shown_expr (out-If part).condition) (stmts_shown (out-If part).statements.items.items) (otherwise_shown (out-If part).otherwise)
    (out-If part).place

abbrev pub shown_case : case_.Case → ShownStmt
shown_case part =
    OfCase (shown_expr (out-Case part).selector) (branches_shown (out-Case part).alternatives.items.items)
    (otherwise_shown (out-Case part).otherwise) (out-Case part).place

abbrev pub shown_repeat : Repeat → ShownStmt
shown_repeat part =
    OfRepeat part.control (option_map shown_expr part.begin) (option_map shown_expr part.step) (option_map shown_expr part.end)
    (option_map shown_expr part.condition) (map shown_body_decl part.body.declarations.items.items)
    (stmts_shown part.body.statements.items.items) part.body.place part.place

abbrev pub shown_begin : Begin → ShownStmt
shown_begin part =
    OfBegin (map shown_body_decl part.body.declarations.items.items) (stmts_shown part.body.statements.items.items) part.body.place part.place

abbrev pub shown_return : Return → ShownStmt
shown_return part = OfReturn (option_map shown_expr part.value) part.place

abbrev pub shown_activate : Activate → ShownStmt
shown_activate part =
    OfActivate (option_map shown_start part.start) part.task (option_map shown_expr part.priority) part.place

abbrev pub shown_continue : Continue → ShownStmt
shown_continue part = OfContinue (option_map shown_once part.once) part.task part.place

abbrev pub shown_resume : Resume → ShownStmt
shown_resume part = OfResume (shown_once part.once) part.place

abbrev pub shown_on_task : OnTask → ShownStmt
shown_on_task part = OfOnTask part.word part.task part.place

abbrev pub shown_on_semaphores : OnSemas → ShownStmt
shown_on_semaphores part = OfOnSemas part.word part.names.items.items part.place

abbrev pub shown_on_interrupt : OnInterrupt → ShownStmt
shown_on_interrupt part = OfOnInterrupt part.word part.name part.place

abbrev pub shown_put : Put → ShownStmt
shown_put part = OfPut (map shown_expr part.values.items.items) part.dation part.formats.items.items part.place

abbrev pub shown_get : Get → ShownStmt
shown_get part = OfGet (map shown_ref part.targets.items.items) part.dation part.formats.items.items part.place

abbrev pub shown_send : Send → ShownStmt
shown_send part = OfSend (shown_expr part.value) part.dation part.place

abbrev pub shown_take : Take → ShownStmt
shown_take part = OfTake (shown_ref part.target) part.dation part.place
