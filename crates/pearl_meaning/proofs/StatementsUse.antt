-- No statement of a program gives back more answers than there were, whatever calls stand in it.
use Rattle.std.specs.Prelude.{ℕ, zero, suc, ◌+◌, pos, ℤ, Bool, ◌&&◌, List, [], ◌∷◌, ◌++◌, length, Option, Some, None, Result, Ok, Err, is_some, option_map, unsigned_abs, slice_get}
use Rattle.std.specs.Ordering.{int_eq}
use Rattle.std.proofs.Common.{subst, arith}
use Rattle.std.proofs.lemmas.List.{length-append}
use Rattle.pearl_value.specs.declared.kind.Kind.{Kind}
use Rattle.pearl_value.specs.declared.cell.Cell.{Cell}
use Rattle.pearl_value.specs.declared.cell.Cell.TheVariants.{Fixed}
use Rattle.pearl_value.specs.declared.trap.Trap.{Trap}
use Rattle.pearl_format.specs.Texts.{text_of}
use Rattle.pearl_rules.specs.declared.action.Action.{Action}
use Rattle.pearl_rules.specs.declared.action.Action.TheVariants as action
use Rattle.pearl_program.specs.PlainExpressions.{PlainExpr, PlainVariable, OfVariable}
use Rattle.pearl_program.specs.PlainStatements.{OfUntil, OfDuring, PlainPeriodEnd, PlainPeriod, OfAt, OfAfter, OfWhen, OfWhenAfter, PlainStart, OnceAt, OnceAfter, OnceWhen, PlainOnce, PlainCounter, PlainStmt, OfRenew, OfAssign, OfCallOf, OfIf, OfCase, OfRepeat, OfExit, OfReturn, OfActivate, OfContinue, OfResume, OfSuspend, OfTerminate, OfPrevent, OfRequest, OfRelease, OfEnable, OfDisable, OfTrigger, OfPut, OfGet, OfSend, OfTake, PlainStmts, NoStmts, MoreStmts, PlainBranches, NoBranches, MoreBranches}
use Rattle.pearl_program.specs.PlainPrograms.{PlainProg}
use Rattle.pearl_meaning.specs.Evaluation.{Does}
use Rattle.pearl_meaning.specs.Setting.{Setting, variable_kind, cell_kind, sent_kind, items_of}
use Rattle.pearl_meaning.specs.Variables.{number_of, elements_before}
use Rattle.pearl_meaning.specs.Values.{eval}
use Rattle.pearl_meaning.specs.Loops.{Flow, Normal, Exit, Return, holds, counted, limited, begins, is_within, counts_on, stepped, advance_to, advances, asks_while, goes_on, after_turn, turn, turns, repeats}
use Rattle.pearl_meaning.specs.Schedules.{acts, start_of, once_of, with_end, repeat_of, priority_of, moment, lapse, acts_if, is_start, is_repeat, is_priority, activates}
use Rattle.pearl_meaning.specs.Transfers.{puts_text, delivers, assigns, takes, offset, keep_offsets, kept_reference, write_targets, kinds_of, gets}
use Rattle.pearl_meaning.specs.Execution.{on_flow, acts_on, terminates, returns, alternative, chosen, exec, exec_all, exec_nth}
use Rattle.pearl_meaning.specs.Programs.{result_at_end, result_of, call_within}
use Rattle.pearl_meaning.specs.Laws.{GoesOn, UsesUp, StatementsUseUp, standing, LoopsTurn}
use Rattle.pearl_meaning.proofs.Uses.{bind_uses, next_uses, gives_uses, fails_uses, ask_uses, stop_uses, value_uses, given_uses, either_uses, own_cell_uses, own_task_uses, put_cell_uses, put_cells_uses, push_frame_uses, drop_frame_uses}
use Rattle.pearl_meaning.proofs.Turning.{same_turns, turns_again}
use Rattle.pearl_meaning.proofs.ExpressionsUse.{CallsUse, convert_uses, offset_uses, reference_uses, write_uses, calls_uses, eval_uses, taken_uses, all_use, hand_over_uses}

-- LOOPS

within_uses : (counter : PlainCounter) (end : Option PlainExpr) → UsesUp (is_within counter end)
within_uses counter None = gives_uses
within_uses counter (Some end) = bind_uses own_cell_uses (λ control. bind_uses own_cell_uses (λ step. bind_uses own_cell_uses (λ limit. gives_uses)))

counts_on_uses : (counter : Option PlainCounter) → UsesUp (counts_on counter)
counts_on_uses None = gives_uses
counts_on_uses (Some counter) = within_uses counter counter.end

advance_uses : (counter : PlainCounter) (sum : Result Cell Trap) → UsesUp (advance_to counter sum)
advance_uses counter (Ok x) = next_uses put_cell_uses gives_uses
advance_uses counter (Err trap) = either_uses (is_some counter.end) gives_uses fails_uses

pub advances_uses : (counter : Option PlainCounter) → UsesUp (advances counter)
advances_uses None = gives_uses
advances_uses (Some counter) = bind_uses own_cell_uses (λ control. bind_uses own_cell_uses (λ step. advance_uses counter (stepped control step)))

after_turn_uses : {on : Does Flow} (flow : Flow) → UsesUp on → UsesUp (after_turn flow on)
after_turn_uses Normal on = on
after_turn_uses Exit on = gives_uses
after_turn_uses (Return result) on = gives_uses

turn_uses : {more advance : Does Bool} {statements again : Does Flow} → UsesUp more → UsesUp statements → UsesUp advance → UsesUp again →
    UsesUp (turn more statements advance again)
turn_uses asks does counts again = next_uses ask_uses (bind_uses asks (λ going.
    either_uses going (bind_uses does (λ flow. after_turn_uses flow (bind_uses counts (λ on. either_uses on again gives_uses)))) gives_uses))

turns_use : {more advance : Does Bool} {statements : Does Flow} (n : ℕ) → UsesUp more → UsesUp statements → UsesUp advance →
    UsesUp (turns n more statements advance)
turns_use zero asks does counts = stop_uses
turns_use (suc n) asks does counts = turn_uses asks does counts (turns_use n asks does counts)

repeats_uses : {more advance : Does Bool} {statements : Does Flow} → UsesUp more → UsesUp statements → UsesUp advance →
    UsesUp (repeats more statements advance)
repeats_uses {more = asking} {advance = advance} {statements = statements} asks does counts = record {
  leaves = λ store rest. (turns_use (length rest) asks does counts).leaves store rest;
  goes_on = λ store rest more. let long = length-append rest more in
      subst (λ o. GoesOn more o (repeats asking statements advance store (rest ++ more)))
      (same_turns asking statements advance asks does counts (length (rest ++ more)) (length rest) (length rest) (omega (arith, long)) (omega arith) store rest (omega arith))
      ((turns_use (length (rest ++ more)) asks does counts).goes_on store rest more);
}

-- SINGLE STATEMENTS

acts_uses : {action : Action} → UsesUp (acts action)
acts_uses = next_uses ask_uses gives_uses

acts_on_uses : (action : ℕ → Action) (task : Option ℕ) → UsesUp (acts_on action task)
acts_on_uses action (Some task) = acts_uses
acts_on_uses action None = bind_uses own_task_uses (λ task. acts_uses)

terminates_uses : (task : Option ℕ) → UsesUp (terminates task)
terminates_uses (Some task) = acts_uses
terminates_uses None = bind_uses own_task_uses (λ task. stop_uses)

acts_if_uses : (lawful : Bool) (action : Action) → UsesUp (acts_if lawful action)
acts_if_uses lawful action = either_uses lawful acts_uses fails_uses

text_uses : (device : ℕ) (text : Option (List ℕ)) → UsesUp (puts_text device text)
text_uses device None = fails_uses
text_uses device (Some text) = acts_uses

on_flow_uses : {following : Does Flow} (flow : Flow) → UsesUp following → UsesUp (on_flow flow following)
on_flow_uses Normal following = following
on_flow_uses Exit following = gives_uses
on_flow_uses (Return result) following = gives_uses

chosen_uses : {take : ℕ → Does Flow} {otherwise : Does Flow} (n : Option ℕ) → ((n : ℕ) → UsesUp (take n)) → UsesUp otherwise →
    UsesUp (chosen n take otherwise)
chosen_uses None take otherwise = otherwise
chosen_uses (Some n) take otherwise = take n

module _ (setting : Setting) (calls_use : CallsUse setting) where
  value_of : (e : PlainExpr) → UsesUp (eval setting e)
  value_of = eval_uses setting calls_use

  counted_uses : (counter : PlainCounter) (e : Option PlainExpr) → UsesUp (counted setting counter e)
  counted_uses counter None = convert_uses (cell_kind setting counter.cell) (Fixed 31 (pos 1))
  counted_uses counter (Some e) = bind_uses (value_of e) (λ x. convert_uses (cell_kind setting counter.cell) x)

  limited_uses : (counter : PlainCounter) (e : Option PlainExpr) → UsesUp (limited setting counter e)
  limited_uses counter None = gives_uses
  limited_uses counter (Some e) = bind_uses (counted_uses counter (Some e)) (λ limit. put_cell_uses)

  begins_uses : (counter : Option PlainCounter) → UsesUp (begins setting counter)
  begins_uses None = gives_uses
  begins_uses (Some counter) =
      bind_uses (counted_uses counter counter.begin) (λ control. next_uses put_cell_uses
      (bind_uses (counted_uses counter counter.step) (λ step. either_uses (int_eq (number_of step) (pos 0)) fails_uses
      (next_uses put_cell_uses (limited_uses counter counter.end)))))

  while_uses : (condition : Option PlainExpr) → UsesUp (asks_while setting condition)
  while_uses None = gives_uses
  while_uses (Some condition) = bind_uses (value_of condition) (λ x. gives_uses)

  pub goes_on_uses : (counter : Option PlainCounter) (condition : Option PlainExpr) → UsesUp (goes_on setting counter condition)
  goes_on_uses counter condition = bind_uses (counts_on_uses counter) (λ inside. either_uses inside (while_uses condition) gives_uses)

  moment_uses : (e : PlainExpr) → UsesUp (moment setting e)
  moment_uses e = bind_uses (value_of e) (λ x. gives_uses)

  lapse_uses : (e : PlainExpr) → UsesUp (lapse setting e)
  lapse_uses e = bind_uses (value_of e) (λ x. gives_uses)

  start_uses : (start : Option PlainStart) → UsesUp (start_of setting start)
  start_uses None = gives_uses
  start_uses (Some (OfAt time)) = bind_uses (moment_uses time) (λ t. gives_uses)
  start_uses (Some (OfAfter duration)) = bind_uses (lapse_uses duration) (λ d. gives_uses)
  start_uses (Some (OfWhen interrupt)) = gives_uses
  start_uses (Some (OfWhenAfter interrupt duration)) = bind_uses (lapse_uses duration) (λ d. gives_uses)

  once_uses : (once : Option PlainOnce) → UsesUp (once_of setting once)
  once_uses None = gives_uses
  once_uses (Some (OnceAt time)) = bind_uses (moment_uses time) (λ t. gives_uses)
  once_uses (Some (OnceAfter duration)) = bind_uses (lapse_uses duration) (λ d. gives_uses)
  once_uses (Some (OnceWhen interrupt)) = gives_uses

  end_uses : (end : Option PlainPeriodEnd) (period : ℤ) → UsesUp (with_end setting end period)
  end_uses None period = gives_uses
  end_uses (Some (OfUntil time)) period = bind_uses (moment_uses time) (λ t. gives_uses)
  end_uses (Some (OfDuring duration)) period = bind_uses (lapse_uses duration) (λ d. gives_uses)

  repeat_uses : (period : Option PlainPeriod) → UsesUp (repeat_of setting period)
  repeat_uses None = gives_uses
  repeat_uses (Some period) = bind_uses (lapse_uses period.duration) (λ p. end_uses period.end p)

  priority_uses : (priority : Option PlainExpr) → UsesUp (priority_of setting priority)
  priority_uses None = gives_uses
  priority_uses (Some e) = bind_uses (value_of e) (λ x. gives_uses)

  activates_uses : (task : ℕ) (start : Option PlainStart) (period : Option PlainPeriod) (priority : Option PlainExpr) →
      UsesUp (activates setting task start period priority)
  activates_uses task start period priority =
      bind_uses (start_uses start) (λ when. bind_uses (repeat_uses period) (λ how. bind_uses (priority_uses priority) (λ urgent.
      acts_if_uses (is_start when && is_repeat how && is_priority urgent) (action.Activate task when how (option_map unsigned_abs urgent)))))

  delivers_uses : (target : PlainVariable) (to x : Cell) → UsesUp (delivers setting target to x)
  delivers_uses target to x = bind_uses (convert_uses (variable_kind setting target) x) (λ y. next_uses (write_uses to y) gives_uses)

  assigns_uses : (target : PlainVariable) (e : PlainExpr) → UsesUp (assigns setting target e)
  assigns_uses target e = bind_uses (taken_uses setting calls_use target) (λ to. bind_uses (value_of e) (λ x. delivers_uses target to x))

  takes_uses : (target : PlainVariable) (device : ℕ) → UsesUp (takes setting target device)
  takes_uses target device = bind_uses (taken_uses setting calls_use target) (λ to. bind_uses value_uses (λ x. delivers_uses target to x))

  pub target_uses : (target : PlainVariable) → UsesUp (offset setting target)
  target_uses (OfVariable target bounds subscripts) =
      bind_uses (all_use setting calls_use subscripts) (λ xs. offset_uses (elements_before bounds xs))

  keep_uses : (cell : ℕ) (targets : List PlainVariable) → UsesUp (keep_offsets setting cell targets)
  keep_uses cell [] = gives_uses
  keep_uses cell (target ∷ targets) = bind_uses (target_uses target) (λ at. next_uses put_cell_uses (keep_uses (cell + 1) targets))

  kept_uses : (target : PlainVariable) (at : Cell) → UsesUp (kept_reference setting target at)
  kept_uses (OfVariable target bounds subscripts) at = reference_uses setting target bounds at

  write_targets_uses : (from at : ℕ) (targets : List PlainVariable) → UsesUp (write_targets setting from at targets)
  write_targets_uses from at [] = gives_uses
  write_targets_uses from at (target ∷ targets) =
      bind_uses own_cell_uses (λ offset. bind_uses (kept_uses target offset) (λ to. bind_uses own_cell_uses (λ x.
      next_uses (write_uses to x) (write_targets_uses (from + 1) (at + 1) targets))))

  gets_uses : (targets : List PlainVariable) (device format cell : ℕ) → UsesUp (gets setting targets device format cell)
  gets_uses targets device format cell = given_uses (kinds_of setting targets) (λ kinds.
      next_uses (keep_uses (cell + length targets) targets) (next_uses put_cells_uses (bind_uses ask_uses (λ answer.
      next_uses put_cells_uses (write_targets_uses cell (cell + length targets) targets)))))

  returns_uses : (e : Option PlainExpr) → UsesUp (returns setting e)
  returns_uses None = gives_uses
  returns_uses (Some e) = bind_uses (value_of e) (λ x. bind_uses (convert_uses setting.result x) (λ y. gives_uses))

  mutual
    pub exec_uses : (statement : PlainStmt) → UsesUp (exec setting statement)
    exec_uses (OfRenew cell values) = next_uses put_cells_uses gives_uses
    exec_uses (OfAssign target value) = assigns_uses target value
    exec_uses (OfCallOf procedure arguments) =
        next_uses (calls_uses setting calls_use procedure (λ params. hand_over_uses setting calls_use params arguments)) gives_uses
    exec_uses (OfIf condition statements otherwise) =
        bind_uses (value_of condition) (λ x. either_uses (holds x) (exec_all_uses statements) (exec_all_uses otherwise))
    exec_uses (OfCase selector alternatives otherwise) =
        bind_uses (value_of selector) (λ x. chosen_uses (alternative (number_of x))
        (λ n. exec_nth_uses alternatives n (exec_all_uses otherwise)) (exec_all_uses otherwise))
    exec_uses (OfRepeat counter condition statements) =
        next_uses (begins_uses counter) (repeats_uses (goes_on_uses counter condition) (exec_all_uses statements) (advances_uses counter))
    exec_uses OfExit = gives_uses
    exec_uses (OfReturn value) = returns_uses value
    exec_uses (OfActivate task start period priority) = activates_uses task start period priority
    exec_uses (OfContinue task once) = bind_uses (once_uses once) (λ when. acts_if_uses (is_start when) (action.Continue task when))
    exec_uses (OfResume once) = bind_uses (once_uses (Some once)) (λ when. acts_if_uses (is_start when) (action.Resume when))
    exec_uses (OfSuspend task) = acts_on_uses action.Suspend task
    exec_uses (OfTerminate task) = terminates_uses task
    exec_uses (OfPrevent task) = acts_on_uses action.Prevent task
    exec_uses (OfRequest semaphores) = acts_uses
    exec_uses (OfRelease semaphores) = acts_uses
    exec_uses (OfEnable interrupt) = acts_uses
    exec_uses (OfDisable interrupt) = acts_uses
    exec_uses (OfTrigger interrupt) = acts_uses
    exec_uses (OfPut values device format) =
        bind_uses (all_use setting calls_use values) (λ xs. text_uses device (text_of (items_of setting format) xs))
    exec_uses (OfGet targets device format cell) = gets_uses targets device format cell
    exec_uses (OfSend value device) = bind_uses (value_of value) (λ x. bind_uses (convert_uses (sent_kind setting device) x) (λ y. acts_uses))
    exec_uses (OfTake target device) = takes_uses target device

    pub exec_all_uses : (statements : PlainStmts) → UsesUp (exec_all setting statements)
    exec_all_uses NoStmts = gives_uses
    exec_all_uses (MoreStmts statement rest) = bind_uses (exec_uses statement) (λ flow. on_flow_uses flow (exec_all_uses rest))

    exec_nth_uses : {otherwise : Does Flow} (branches : PlainBranches) (n : ℕ) → UsesUp otherwise → UsesUp (exec_nth setting branches n otherwise)
    exec_nth_uses NoBranches n otherwise = otherwise
    exec_nth_uses (MoreBranches statements rest) zero otherwise = exec_all_uses statements
    exec_nth_uses (MoreBranches statements rest) (suc n) otherwise = exec_nth_uses rest n otherwise

-- CALLS

at_end_uses : (kind : Option Kind) → UsesUp (result_at_end kind)
at_end_uses None = gives_uses
at_end_uses (Some kind) = fails_uses

result_of_uses : (kind : Option Kind) (flow : Flow) → UsesUp (result_of kind flow)
result_of_uses kind Normal = at_end_uses kind
result_of_uses kind Exit = at_end_uses kind
result_of_uses kind (Return result) = gives_uses

pub calls_use_up : (p : PlainProg) (depth : ℕ) (number : ℕ) (arguments : List Cell) → UsesUp (call_within p depth number arguments)
calls_use_up p zero number arguments = fails_uses
calls_use_up p (suc depth) number arguments = given_uses (slice_get p.procedures number) (λ procedure.
    next_uses ask_uses (next_uses push_frame_uses
    (bind_uses (exec_all_uses (standing p depth procedure.result procedure.routine) (calls_use_up p depth) procedure.routine.body)
    (λ flow. next_uses drop_frame_uses (result_of_uses procedure.result flow)))))

pub statements_use_up : StatementsUseUp
statements_use_up p depth result routine statements = exec_all_uses (standing p depth result routine) (calls_use_up p depth) statements

-- so each loop of it is a turn and then the same loop again
pub loops_turn : LoopsTurn
loops_turn p depth result routine counter condition statements store rest =
    let setting : Setting = standing p depth result routine in
    turns_again (goes_on setting counter condition) (exec_all setting statements) (advances counter)
    (goes_on_uses setting (calls_use_up p depth) counter condition) (statements_use_up p depth result routine statements) (advances_uses counter) store rest
