-- Which code stands for a statement: it stands from one place of the code up to another, and at both the routine has
-- no operands.
use Rattle.std.specs.Prelude.{◌≡◌, ℕ, zero, suc, ◌+◌, ◌-◌, pos, Bool, true, false, List, [], ◌∷◌, length, Option, Some, None, slice_get}
use Rattle.pearl_value.specs.declared.kind.Kind.{Kind}
use Rattle.pearl_value.specs.declared.cell.Cell.{Cell}
use Rattle.pearl_value.specs.declared.cell.Cell.TheVariants.{Fixed}
use Rattle.pearl_value.specs.declared.trap.Trap.TheVariants.{Overflow}
use Rattle.pearl_program.specs.declared.expression.Target.{Target}
use Rattle.pearl_program.specs.declared.expression.Target.TheVariants.{Leaf, Own, Param}
use Rattle.pearl_program.specs.declared.expression.Bound.{Bound}
use Rattle.pearl_program.specs.Typing.{elements}
use Rattle.pearl_program.specs.PlainExpressions.{PlainExpr, PlainVariable, OfVariable, PlainExprs, PlainArguments}
use Rattle.pearl_program.specs.PlainStatements.{PlainValues, PlainPeriodEnd, OfUntil, OfDuring, PlainPeriod, PlainStart, OfAt, OfAfter, OfWhen, OfWhenAfter, PlainOnce, OnceAt, OnceAfter, OnceWhen, PlainCounter, PlainStmt, OfRenew, OfAssign, OfCallOf, OfIf, OfCase, OfRepeat, OfExit, OfReturn, OfActivate, OfContinue, OfResume, OfSuspend, OfTerminate, OfPrevent, OfRequest, OfRelease, OfEnable, OfDisable, OfTrigger, OfPut, OfGet, OfSend, OfTake, PlainStmts, NoStmts, MoreStmts, PlainBranches, NoBranches, MoreBranches}
use Rattle.pearl_program.specs.PlainPrograms.{PlainProcedure}
use Rattle.pearl_meaning.specs.Setting.{Setting, variable_kind, cell_kind, sent_kind}
use Rattle.pearl_meaning.specs.Transfers.{kinds_of}
use Rattle.pearl_instructions.specs.declared.schedule.OnceForm.{OnceForm}
use Rattle.pearl_instructions.specs.declared.schedule.OnceForm.TheVariants as once
use Rattle.pearl_instructions.specs.declared.schedule.StartForm.{StartForm}
use Rattle.pearl_instructions.specs.declared.schedule.StartForm.TheVariants as start
use Rattle.pearl_instructions.specs.declared.schedule.RepeatForm.{RepeatForm}
use Rattle.pearl_instructions.specs.declared.schedule.RepeatForm.TheVariants as again
use Rattle.pearl_instructions.specs.declared.instr.Instr.{Instr}
use Rattle.pearl_instructions.specs.declared.instr.Instr.TheVariants as instr
use Rattle.pearl_gen_expr.specs.ExprCode.{writing_to, Is, IsConst, IsIndex, ExprAt, WayAt, AllAt, CallAt}

-- the instruction on the task that is named, or else that on the own one
abbrev pub on_task : (ℕ → Instr) → Instr → Option ℕ → Instr
on_task other own None = own
on_task other own (Some task) = other task

-- the instruction that takes an offset and a value off, or a reference and a value, and puts the value there
abbrev pub writing_at : Target → List Bound → Instr
writing_at (Leaf number) bounds = instr.WriteAt number
writing_at (Own cell) bounds = instr.StoreAt cell (elements bounds)
writing_at (Param cell) bounds = instr.WriteRef

-- where its offset or its reference is kept
abbrev pub kept_in : Target → ℕ → ℕ
kept_in (Leaf number) at = at
kept_in (Own cell) at = at
kept_in (Param cell) at = cell

module _ (setting : Setting) (code : List Instr) where
  abbrev Stands : (place : ℕ) → Instr → Type 0
  Stands place instr = Is code place instr

  abbrev Expr : (from : ℕ) → PlainExpr → (to : ℕ) → Type 0
  Expr from e to = ExprAt setting.program code from e to

  -- FIRST VALUES

  -- each value is put into its cell
  abbrev pub StoresAt : (from cell : ℕ) → List Cell → (to : ℕ) → Type 0
  StoresAt from cell [] to = to ≡ from
  StoresAt from cell (x ∷ xs) to =
      IsConst code from x × Stands (from + 1) (instr.Store cell) × StoresAt (from + 2) (cell + 1) xs to

  -- what a cell holds is put into so many cells behind it, from each into the next
  abbrev pub RepeatsAt : (from cell more to : ℕ) → Type 0
  RepeatsAt from cell zero to = to ≡ from
  RepeatsAt from cell (suc more) to =
      Stands from (instr.Load cell) × Stands (from + 1) (instr.Store (cell + 1)) ×
      RepeatsAt (from + 2) (cell + 1) more to

  -- all constants, and the last of them in the cells that are left; without constants what is unset
  abbrev pub RenewAt : (from cell : ℕ) → PlainValues → List Cell → (to : ℕ) → Type 0
  RenewAt from cell values [] to = Stands from (instr.Fill cell values.count values.kind) × (to ≡ from + 1)
  RenewAt from cell values (x ∷ xs) to =
      (end : ℕ) × StoresAt from cell (x ∷ xs) end × RepeatsAt end (cell + length xs) (values.count - length (x ∷ xs)) to

  -- VARIABLES

  -- an expression, and its value converted to this kind
  abbrev pub ConvertedAt : (from : ℕ) → PlainExpr → Option Kind → (to : ℕ) → Type 0
  ConvertedAt from e kind to =
      (end : ℕ) × (of : Kind) × (kind ≡ Some of) × Expr from e end × Stands end (instr.Conv of) × (to ≡ end + 1)

  -- the way to the target, then the value, and then it is written
  abbrev pub AssignAt : (from : ℕ) → PlainVariable → PlainExpr → (to : ℕ) → Type 0
  AssignAt from target e to =
      (value : ℕ) × (end : ℕ) × WayAt setting.program code from target value ×
      ConvertedAt value e (variable_kind setting target) end ×
      Stands end (writing_to target) × (to ≡ end + 1)

  abbrev pub TakeAt : (from : ℕ) → PlainVariable → (device to : ℕ) → Type 0
  TakeAt from target device to =
      (value : ℕ) × (of : Kind) × (variable_kind setting target ≡ Some of) ×
      WayAt setting.program code from target value × Stands value (instr.Take device) ×
      Stands (value + 1) (instr.Conv of) × Stands (value + 2) (writing_to target) × (to ≡ value + 3)

  -- a result is dropped
  abbrev pub DroppedAt : (from : ℕ) → Option Kind → (to : ℕ) → Type 0
  DroppedAt from None to = to ≡ from
  DroppedAt from (Some kind) to = Stands from instr.Drop × (to ≡ from + 1)

  abbrev pub CallOfAt : (from procedure : ℕ) → Option PlainProcedure → PlainArguments → (to : ℕ) → Type 0
  CallOfAt from number None handed to = ⊥
  CallOfAt from number (Some procedure) handed to =
      (end : ℕ) × CallAt setting.program code from number handed end × DroppedAt end procedure.result to

  -- LOOPS

  -- FROM, BY or TO in the kind of the control variable, put into a cell
  abbrev pub CountedAt : (from : ℕ) → PlainCounter → Option PlainExpr → (to : ℕ) → Type 0
  CountedAt from counter None to =
      (of : Kind) × (cell_kind setting counter.cell ≡ Some of) × IsConst code from (Fixed 31 (pos 1)) ×
      Stands (from + 1) (instr.Conv of) × (to ≡ from + 2)
  CountedAt from counter (Some e) to = ConvertedAt from e (cell_kind setting counter.cell) to

  abbrev pub LimitAt : (from : ℕ) → PlainCounter → Option PlainExpr → (to : ℕ) → Type 0
  LimitAt from counter None to = to ≡ from
  LimitAt from counter (Some e) to =
      (end : ℕ) × CountedAt from counter (Some e) end × Stands end (instr.Store (counter.cell + 2)) × (to ≡ end + 1)

  abbrev pub BeginsAt : (from : ℕ) → Option PlainCounter → (to : ℕ) → Type 0
  BeginsAt from None to = to ≡ from
  BeginsAt from (Some counter) to =
      (begun : ℕ) × (step : ℕ) × CountedAt from counter counter.begin begun × Stands begun (instr.Store counter.cell) ×
      CountedAt (begun + 1) counter counter.step step × Stands step instr.NonZero ×
      Stands (step + 1) (instr.Store (counter.cell + 1)) ×
      LimitAt (step + 2) counter counter.end to

  -- a jump to the loop's end where the bit on top is 0
  abbrev pub LeavesAt : (from past to : ℕ) → Type 0
  LeavesAt from past to = Stands from (instr.JumpZero past) × (to ≡ from + 1)

  abbrev pub WithinAt : (from past : ℕ) → PlainCounter → Option PlainExpr → (to : ℕ) → Type 0
  WithinAt from past counter None to = to ≡ from
  WithinAt from past counter (Some e) to = Stands from (instr.Within counter.cell) × LeavesAt (from + 1) past to

  abbrev pub CountsAt : (from past : ℕ) → Option PlainCounter → (to : ℕ) → Type 0
  CountsAt from past None to = to ≡ from
  CountsAt from past (Some counter) to = WithinAt from past counter counter.end to

  abbrev pub WhileAt : (from past : ℕ) → Option PlainExpr → (to : ℕ) → Type 0
  WhileAt from past None to = to ≡ from
  WhileAt from past (Some e) to = (end : ℕ) × Expr from e end × LeavesAt end past to

  -- Where a sum leaves the kind the loop ends where there is TO; else Overflow is trapped.
  abbrev pub PassedAt : (from top : ℕ) → PlainCounter → Option PlainExpr → (past : ℕ) → Type 0
  PassedAt from top counter None past =
      Stands from (instr.Advance counter.cell (from + 2)) × Stands (from + 1) (instr.Jump top) ×
      Stands (from + 2) (instr.Trap Overflow) × (past ≡ from + 3)
  PassedAt from top counter (Some e) past =
      Stands from (instr.Advance counter.cell past) × Stands (from + 1) (instr.Jump top) × (past ≡ from + 2)

  -- BY is added, and back to the loop's Turn
  abbrev pub AdvanceAt : (from top : ℕ) → Option PlainCounter → (past : ℕ) → Type 0
  AdvanceAt from top None past = Stands from (instr.Jump top) × (past ≡ from + 1)
  AdvanceAt from top (Some counter) past = PassedAt from top counter counter.end past

  -- SCHEDULES

  abbrev pub WhenAt : (from : ℕ) → Option PlainStart → StartForm → (to : ℕ) → Type 0
  WhenAt from None form to = (form ≡ start.Free) × (to ≡ from)
  WhenAt from (Some (OfAt time)) form to = (form ≡ start.At) × Expr from time to
  WhenAt from (Some (OfAfter duration)) form to = (form ≡ start.After) × Expr from duration to
  WhenAt from (Some (OfWhen interrupt)) form to = (form ≡ start.When interrupt) × (to ≡ from)
  WhenAt from (Some (OfWhenAfter interrupt duration)) form to =
      (form ≡ start.WhenAfter interrupt) × Expr from duration to

  abbrev pub LaterAt : (from : ℕ) → PlainOnce → OnceForm → (to : ℕ) → Type 0
  LaterAt from (OnceAt time) form to = (form ≡ once.At) × Expr from time to
  LaterAt from (OnceAfter duration) form to = (form ≡ once.After) × Expr from duration to
  LaterAt from (OnceWhen interrupt) form to = (form ≡ once.When interrupt) × (to ≡ from)

  abbrev pub MaybeLaterAt : (from : ℕ) → Option PlainOnce → Option OnceForm → (to : ℕ) → Type 0
  MaybeLaterAt from None form to = (form ≡ None) × (to ≡ from)
  MaybeLaterAt from (Some once) form to = (when : OnceForm) × (form ≡ Some when) × LaterAt from once when to

  abbrev pub PeriodEndAt : (from : ℕ) → Option PlainPeriodEnd → RepeatForm → (to : ℕ) → Type 0
  PeriodEndAt from None form to = (form ≡ again.All) × (to ≡ from)
  PeriodEndAt from (Some (OfUntil time)) form to = (form ≡ again.Until) × Expr from time to
  PeriodEndAt from (Some (OfDuring duration)) form to = (form ≡ again.During) × Expr from duration to

  abbrev pub PeriodAt : (from : ℕ) → Option PlainPeriod → RepeatForm → (to : ℕ) → Type 0
  PeriodAt from None form to = (form ≡ again.Once) × (to ≡ from)
  PeriodAt from (Some period) form to = (end : ℕ) × Expr from period.duration end × PeriodEndAt end period.end form to

  abbrev pub PriorityAt : (from : ℕ) → Option PlainExpr → Bool → (to : ℕ) → Type 0
  PriorityAt from None given to = (given ≡ false) × (to ≡ from)
  PriorityAt from (Some e) given to = (given ≡ true) × Expr from e to

  abbrev pub ActivateAt : (from task : ℕ) → Option PlainStart → Option PlainPeriod → Option PlainExpr →
      (to : ℕ) → Type 0
  ActivateAt from task begin period priority to =
      (form : StartForm) × (how : RepeatForm) × (given : Bool) × (begun : ℕ) × (repeated : ℕ) × (end : ℕ) ×
      WhenAt from begin form begun × PeriodAt begun period how repeated × PriorityAt repeated priority given end ×
      Stands end (instr.Activate (record { task = task; start = form; repeat = how; priority = given })) ×
      (to ≡ end + 1)

  abbrev pub ContinueAt : (from task : ℕ) → Option PlainOnce → (to : ℕ) → Type 0
  ContinueAt from task later to =
      (form : Option OnceForm) × (end : ℕ) × MaybeLaterAt from later form end ×
      Stands end (instr.Continue (record { task = task; once = form })) × (to ≡ end + 1)

  abbrev pub ResumeAt : (from : ℕ) → PlainOnce → (to : ℕ) → Type 0
  ResumeAt from later to =
      (form : OnceForm) × (end : ℕ) × LaterAt from later form end × Stands end (instr.Resume form) × (to ≡ end + 1)

  -- GET

  -- how far a target lies behind its first element
  abbrev pub FoundAt : (from : ℕ) → PlainVariable → (to : ℕ) → Type 0
  FoundAt from (OfVariable target [] subscripts) to = IsConst code from (Fixed 31 (pos 0)) × (to ≡ from + 1)
  FoundAt from (OfVariable target (bound ∷ bounds) subscripts) to =
      (end : ℕ) × AllAt setting.program code from subscripts end × IsIndex code end (bound ∷ bounds) × (to ≡ end + 1)

  -- that of each target is put into a cell
  abbrev pub KeptAt : (from at : ℕ) → List PlainVariable → (to : ℕ) → Type 0
  KeptAt from at [] to = to ≡ from
  KeptAt from at (target ∷ targets) to =
      (end : ℕ) × FoundAt from target end × Stands end (instr.Store at) × KeptAt (end + 1) (at + 1) targets to

  -- the cells into which values come get what is unset
  abbrev pub FilledAt : (from cell : ℕ) → List Kind → (to : ℕ) → Type 0
  FilledAt from cell [] to = to ≡ from
  FilledAt from cell (kind ∷ kinds) to = Stands from (instr.Fill cell 1 kind) × FilledAt (from + 1) (cell + 1) kinds to

  -- each value is written to its target
  abbrev pub WrittenAt : (from cell at : ℕ) → List PlainVariable → (to : ℕ) → Type 0
  WrittenAt from cell at [] to = to ≡ from
  WrittenAt from cell at (OfVariable target bounds subscripts ∷ targets) to =
      Stands from (instr.Load (kept_in target at)) × Stands (from + 1) (instr.Load cell) ×
      Stands (from + 2) (writing_at target bounds) ×
      WrittenAt (from + 3) (cell + 1) (at + 1) targets to

  abbrev pub GetAt : (from : ℕ) → List PlainVariable → (device format cell to : ℕ) → Type 0
  GetAt from targets device format cell to =
      (kinds : List Kind) × (kinds_of setting targets ≡ Some kinds) × (kept : ℕ) × (end : ℕ) ×
      KeptAt from (cell + length targets) targets kept × FilledAt kept cell kinds end ×
      Stands end (instr.Get (record { device = device; format = format; first = cell })) ×
      WrittenAt (end + 1) cell (cell + length targets) targets to

  -- STATEMENTS

  -- an instruction by itself
  abbrev pub Alone : (from : ℕ) → Instr → (to : ℕ) → Type 0
  Alone from instr to = Stands from instr × (to ≡ from + 1)

  abbrev pub ReturnAt : (from : ℕ) → Option PlainExpr → (to : ℕ) → Type 0
  ReturnAt from None to = Alone from instr.Return to
  ReturnAt from (Some e) to = (end : ℕ) × ConvertedAt from e setting.result end × Alone end instr.Return to

  abbrev pub PutAt : (from : ℕ) → PlainExprs → (device format to : ℕ) → Type 0
  PutAt from values device format to =
      (end : ℕ) × AllAt setting.program code from values end × Alone end (instr.Put device format) to

  abbrev pub SendAt : (from : ℕ) → PlainExpr → (device to : ℕ) → Type 0
  SendAt from e device to =
      (end : ℕ) × ConvertedAt from e (sent_kind setting device) end × Alone end (instr.Send device) to

  -- Within a loop `leave` is the place behind it.
  abbrev mutual
    pub StmtAt : (leave : Option ℕ) → (from : ℕ) → PlainStmt → (to : ℕ) → Type 0
    StmtAt leave from (OfRenew cell values) to = RenewAt from cell values values.constants to
    StmtAt leave from (OfAssign target value) to = AssignAt from target value to
    StmtAt leave from (OfCallOf procedure arguments) to =
        CallOfAt from procedure (slice_get setting.program.procedures procedure) arguments to
    StmtAt leave from (OfIf condition statements otherwise) to =
        (tested : ℕ) × (other : ℕ) × (end : ℕ) × Expr from condition tested × Stands tested (instr.JumpZero other) ×
        StmtsAt leave (tested + 1) statements end × ElseAt leave end other otherwise to
    StmtAt leave from (OfCase selector alternatives otherwise) to =
        (selected : ℕ) × (end : ℕ) × (targets : List ℕ) × Expr from selector selected ×
        Stands selected (instr.Case targets) ×
        StmtsAt leave (selected + 1) otherwise end × Stands end (instr.Jump to) ×
        BranchesAt leave (end + 1) targets alternatives to
    StmtAt leave from (OfRepeat counter condition statements) to =
        (top : ℕ) × (counted : ℕ) × (begin : ℕ) × (end : ℕ) × BeginsAt from counter top × Stands top instr.Turn ×
        CountsAt (top + 1) to counter counted × WhileAt counted to condition begin ×
        StmtsAt (Some to) begin statements end ×
        AdvanceAt end top counter to
    StmtAt leave from OfExit to = (past : ℕ) × (leave ≡ Some past) × Alone from (instr.Jump past) to
    StmtAt leave from (OfReturn value) to = ReturnAt from value to
    StmtAt leave from (OfActivate task start period priority) to = ActivateAt from task start period priority to
    StmtAt leave from (OfContinue task once) to = ContinueAt from task once to
    StmtAt leave from (OfResume once) to = ResumeAt from once to
    StmtAt leave from (OfSuspend task) to = Alone from (on_task instr.Suspend instr.SuspendOwn task) to
    StmtAt leave from (OfTerminate task) to = Alone from (on_task instr.Terminate instr.TerminateOwn task) to
    StmtAt leave from (OfPrevent task) to = Alone from (on_task instr.Prevent instr.PreventOwn task) to
    StmtAt leave from (OfRequest semaphores) to = Alone from (instr.Request semaphores) to
    StmtAt leave from (OfRelease semaphores) to = Alone from (instr.Release semaphores) to
    StmtAt leave from (OfEnable interrupt) to = Alone from (instr.Enable interrupt) to
    StmtAt leave from (OfDisable interrupt) to = Alone from (instr.Disable interrupt) to
    StmtAt leave from (OfTrigger interrupt) to = Alone from (instr.Trigger interrupt) to
    StmtAt leave from (OfPut values device format) to = PutAt from values device format to
    StmtAt leave from (OfGet targets device format cell) to = GetAt from targets device format cell to
    StmtAt leave from (OfSend value device) to = SendAt from value device to
    StmtAt leave from (OfTake target device) to = TakeAt from target device to

    -- statements in order
    pub StmtsAt : (leave : Option ℕ) → (from : ℕ) → PlainStmts → (to : ℕ) → Type 0
    StmtsAt leave from NoStmts to = to ≡ from
    StmtsAt leave from (MoreStmts statement rest) to =
        (end : ℕ) × StmtAt leave from statement end × StmtsAt leave end rest to

    -- behind the statements of IF, where there is ELSE, stands a jump behind its statements
    pub ElseAt : (leave : Option ℕ) → (from other : ℕ) → PlainStmts → (to : ℕ) → Type 0
    ElseAt leave from other NoStmts to = (other ≡ from) × (to ≡ from)
    ElseAt leave from other (MoreStmts statement rest) to =
        (end : ℕ) × Stands from (instr.Jump to) × (other ≡ from + 1) × StmtAt leave (from + 1) statement end ×
        StmtsAt leave end rest to

    -- behind the statements of each alternative stands a jump behind CASE
    pub BranchesAt : (leave : Option ℕ) → (from : ℕ) → List ℕ → PlainBranches → (to : ℕ) → Type 0
    BranchesAt leave from [] NoBranches to = to ≡ from
    BranchesAt leave from (target ∷ targets) (MoreBranches statements rest) to =
        (end : ℕ) × (target ≡ from) × StmtsAt leave from statements end × Stands end (instr.Jump to) ×
        BranchesAt leave (end + 1) targets rest to
    BranchesAt leave from _ _ to = ⊥
