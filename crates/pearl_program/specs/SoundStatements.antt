-- Which statements of a program are sound: every number in them names a thing of the needed sort, and every value suits.
-- Control variables aren't assigned, and no variable lies in hidden cells.
use Rattle.std.specs.Prelude.{◌≡◌, ℕ, ◌+◌, ◌<◌, ◌≤◌, true, nat_eq, List, ◌∷◌, ◌++◌, length, map, take, drop, replicate, Option, Some, None, slice_get}
use Rattle.std.specs.List.{AllByRecursion, AllZip, IsDistinct}
use Rattle.pearl_value.specs.declared.kind.Kind.{Kind}
use Rattle.pearl_value.specs.declared.kind.Kind.TheVariants.{Fixed, Bits, Clock, Span}
use Rattle.pearl_value.specs.declared.kind.CellKind.TheVariants.{Plain}
use Rattle.pearl_value.specs.Kinds.{IsKind}
use Rattle.pearl_value.specs.WellFormed.{IsValueOf}
use Rattle.pearl_value.specs.Conversions.{SuitsKind}
use Rattle.pearl_format.specs.Items.{FitsSome}
use Rattle.pearl_value.specs.declared.device.Direction.{Direction}
use Rattle.pearl_value.specs.declared.device.Direction.TheVariants.{In, Out}
use Rattle.pearl_value.specs.declared.device.Device.{Device}
use Rattle.pearl_value.specs.declared.device.Device.TheVariants.{Interrupt, Terminal, Input, Output}
use Rattle.pearl_program.specs.PlainExpressions.{PlainExpr, PlainVariable, PlainExprs, PlainArguments}
use Rattle.pearl_program.specs.PlainStatements.{PlainValues, PlainPeriodEnd, OfUntil, OfDuring, PlainPeriod, PlainStart, OfAt, OfAfter, OfWhen, OfWhenAfter, PlainOnce, OnceAt, OnceAfter, OnceWhen, PlainCounter, PlainStmt, OfRenew, OfAssign, OfCallOf, OfIf, OfCase, OfRepeat, OfExit, OfReturn, OfActivate, OfContinue, OfResume, OfSuspend, OfTerminate, OfPrevent, OfRequest, OfRelease, OfEnable, OfDisable, OfTrigger, OfPut, OfGet, OfSend, OfTake, PlainStmts, NoStmts, MoreStmts, PlainBranches, NoBranches, MoreBranches}
use Rattle.pearl_program.specs.Typing.{Signature, Around, AreCells, AreOwn, HasKind, IsVariable, Suit, HasValueFor, IsFixed, HaveKinds}

-- where it is there
abbrev pub IsIf : {X : Type 0} → (X → Type 0) → Option X → Type 0
IsIf P None = Unit {0}
IsIf P (Some x) = P x

-- at least one, and no more constants than there is room for, all of this kind
pub record AreFirst (values : PlainValues) : Type 0 where
  pub kind : IsKind values.kind
  pub some : 0 < values.count
  pub few : length values.constants ≤ values.count
  pub constants : AllByRecursion (IsValueOf values.kind) values.constants

abbrev pub IsRenewal : Around → ℕ → PlainValues → Type 0
IsRenewal around cell values = AreFirst values × AreOwn around cell values.count values.kind

abbrev pub IsAssign : Around → PlainVariable → PlainExpr → Type 0
IsAssign around target value = (to : Kind) × IsVariable around target to × HasValueFor around value to

-- a result, if there is one, is dropped
abbrev pub IsCall : Around → ℕ → PlainArguments → Type 0
IsCall around procedure arguments =
    (signature : Signature) × (slice_get around.procedures procedure ≡ Some signature) × Suit around signature.params arguments

-- control variable, step and limit have one FIXED kind
pub record IsCounter (around : Around) (counter : PlainCounter) : Type 0 where
  pub cells : (len : ℕ) × AreCells around.cells counter.cell 3 (Plain (Fixed len))
  pub begin : IsIf (IsFixed around) counter.begin
  pub step : IsIf (IsFixed around) counter.step
  pub end : IsIf (IsFixed around) counter.end

abbrev pub IsCondition : Around → PlainExpr → Type 0
IsCondition around e = HasKind around e (Bits 1)

-- RETURN in a procedure, with a value where it has RETURNS
abbrev pub IsReturn : Around → Option (Option Kind) → Option PlainExpr → Type 0
IsReturn around (Some None) None = Unit {0}
IsReturn around (Some (Some to)) (Some value) = HasValueFor around value to
IsReturn around _ _ = ⊥

abbrev pub IsTaskNumber : Around → ℕ → Type 0
IsTaskNumber around task = task < around.tasks

abbrev pub IsInterruptDevice : Option Device → Type 0
IsInterruptDevice (Some (Interrupt number)) = Unit {0}
IsInterruptDevice _ = ⊥

abbrev pub IsInterrupt : Around → ℕ → Type 0
IsInterrupt around device = IsInterruptDevice (slice_get around.devices device)

abbrev pub IsMoment : Around → PlainExpr → Type 0
IsMoment around e = HasKind around e Clock

abbrev pub IsLapse : Around → PlainExpr → Type 0
IsLapse around e = HasKind around e Span

abbrev pub IsPeriodEnd : Around → PlainPeriodEnd → Type 0
IsPeriodEnd around (OfUntil time) = IsMoment around time
IsPeriodEnd around (OfDuring duration) = IsLapse around duration

abbrev pub IsPeriod : Around → PlainPeriod → Type 0
IsPeriod around period = IsLapse around period.duration × IsIf (IsPeriodEnd around) period.end

abbrev pub IsStart : Around → PlainStart → Type 0
IsStart around (OfAt time) = IsMoment around time
IsStart around (OfAfter duration) = IsLapse around duration
IsStart around (OfWhen interrupt) = IsInterrupt around interrupt
IsStart around (OfWhenAfter interrupt duration) = IsInterrupt around interrupt × IsLapse around duration

abbrev pub IsOnce : Around → PlainOnce → Type 0
IsOnce around (OnceAt time) = IsMoment around time
IsOnce around (OnceAfter duration) = IsLapse around duration
IsOnce around (OnceWhen interrupt) = IsInterrupt around interrupt

pub record IsActivate (around : Around) (task : ℕ) (start : Option PlainStart) (period : Option PlainPeriod) (priority : Option PlainExpr) : Type 0 where
  pub named : IsTaskNumber around task
  pub starts : IsIf (IsStart around) start
  pub repeats : IsIf (IsPeriod around) period
  pub urgent : IsIf (IsFixed around) priority

-- from 1 to 16, none of them twice
pub record AreSemaphores (around : Around) (semaphores : List ℕ) : Type 0 where
  pub some : 0 < length semaphores
  pub few : length semaphores ≤ 16
  pub distinct : IsDistinct nat_eq semaphores
  pub there : AllByRecursion (λ semaphore. semaphore < around.semaphores) semaphores

abbrev pub Writes : Direction → Type 0
Writes In = ⊥
Writes _ = Unit {0}

abbrev pub Reads : Direction → Type 0
Reads Out = ⊥
Reads _ = Unit {0}

abbrev pub TakesTexts : Option Device → Type 0
TakesTexts (Some (Terminal number direction)) = Writes direction
TakesTexts _ = ⊥

abbrev pub GivesTexts : Option Device → Type 0
GivesTexts (Some (Terminal number direction)) = Reads direction
GivesTexts _ = ⊥

abbrev pub IsOutput : Option Device → Kind → Type 0
IsOutput (Some (Output number of)) kind = of ≡ kind
IsOutput _ kind = ⊥

abbrev pub IsInput : Option Device → Kind → Type 0
IsInput (Some (Input number of)) kind = of ≡ kind
IsInput _ kind = ⊥

abbrev pub IsPut : Around → PlainExprs → (device format : ℕ) → Type 0
IsPut around values device format =
    TakesTexts (slice_get around.devices device) × (kinds : List Kind) × HaveKinds around values kinds ×
    FitsSome (slice_get around.formats format) kinds

-- its cells are of the targets' kinds, and behind them as many of FIXED(31)
abbrev pub IsGet : Around → List PlainVariable → (device format cell : ℕ) → Type 0
IsGet around targets device format cell =
    GivesTexts (slice_get around.devices device) × (kinds : List Kind) × AllZip (IsVariable around) targets kinds ×
    FitsSome (slice_get around.formats format) kinds ×
    (take (length kinds + length kinds) (drop cell around.cells) ≡ map Plain kinds ++ replicate (length kinds) (Plain (Fixed 31)))

abbrev pub IsSend : Around → PlainExpr → ℕ → Type 0
IsSend around value device = (to : Kind) × IsOutput (slice_get around.devices device) to × HasValueFor around value to

abbrev pub IsTake : Around → PlainVariable → ℕ → Type 0
IsTake around target device =
    (from : Kind) × (to : Kind) × IsInput (slice_get around.devices device) from × IsVariable around target to × SuitsKind from to

abbrev pub with_control : Option PlainCounter → List ℕ → List ℕ
with_control None controls = controls
with_control (Some counter) controls = counter.cell ∷ controls

-- what stands around the condition and the statements of a loop
abbrev pub within : Around → Option PlainCounter → Around
within around counter = record around { in_loop = true; controls = with_control counter around.controls }

abbrev mutual
  pub IsStmt : Around → PlainStmt → Type 0
  IsStmt around (OfRenew cell values) = IsRenewal around cell values
  IsStmt around (OfAssign target value) = IsAssign around target value
  IsStmt around (OfCallOf procedure arguments) = IsCall around procedure arguments
  IsStmt around (OfIf condition statements otherwise) =
      IsCondition around condition × AreStmts around statements × AreStmts around otherwise
  IsStmt around (OfCase selector alternatives otherwise) =
      IsFixed around selector × AreBranches around alternatives × AreStmts around otherwise
  IsStmt around (OfRepeat counter condition statements) =
      IsIf (IsCounter around) counter × IsIf (IsCondition (within around counter)) condition ×
      AreStmts (within around counter) statements
  IsStmt around OfExit = around.in_loop ≡ true
  IsStmt around (OfReturn value) = IsReturn around around.returns value
  IsStmt around (OfActivate task start period priority) = IsActivate around task start period priority
  IsStmt around (OfContinue task once) = IsTaskNumber around task × IsIf (IsOnce around) once
  IsStmt around (OfResume once) = IsOnce around once
  IsStmt around (OfSuspend task) = IsIf (IsTaskNumber around) task
  IsStmt around (OfTerminate task) = IsIf (IsTaskNumber around) task
  IsStmt around (OfPrevent task) = IsIf (IsTaskNumber around) task
  IsStmt around (OfRequest semaphores) = AreSemaphores around semaphores
  IsStmt around (OfRelease semaphores) = AreSemaphores around semaphores
  IsStmt around (OfEnable interrupt) = IsInterrupt around interrupt
  IsStmt around (OfDisable interrupt) = IsInterrupt around interrupt
  IsStmt around (OfTrigger interrupt) = IsInterrupt around interrupt
  IsStmt around (OfPut values device format) = IsPut around values device format
  IsStmt around (OfGet targets device format cell) = IsGet around targets device format cell
  IsStmt around (OfSend value device) = IsSend around value device
  IsStmt around (OfTake target device) = IsTake around target device

  pub AreStmts : Around → PlainStmts → Type 0
  AreStmts around NoStmts = Unit {0}
  AreStmts around (MoreStmts statement rest) = IsStmt around statement × AreStmts around rest

  pub AreBranches : Around → PlainBranches → Type 0
  AreBranches around NoBranches = Unit {0}
  AreBranches around (MoreBranches statements rest) = AreStmts around statements × AreBranches around rest
