-- The code of statements does what they mean.
use Rattle.std.specs.Prelude.{◌≡◌, ℕ, zero, suc, ◌+◌, ◌≤◌, pos, negsuc, if◌then◌else◌, List, [], ◌∷◌, Option, Some, None, IfSome, slice_get}
use Rattle.std.proofs.Common.{refl, sym, subst, ap, ◌∙◌, arith}
use Rattle.pearl_value.specs.declared.kind.Kind.{Kind}
use Rattle.pearl_value.specs.declared.kind.Kind.TheVariants.{Bits as of_bits, Fixed as of_fixed, Clock as of_clock, Span as of_span}
use Rattle.pearl_value.specs.declared.cell.Cell.{Cell}
use Rattle.pearl_value.specs.declared.cell.Cell.TheVariants.{Fixed}
use Rattle.pearl_rules.specs.declared.action.Action.{Action}
use Rattle.pearl_rules.specs.declared.action.Action.TheVariants as action
use Rattle.pearl_rules.specs.declared.action.Answer.{Answer}
use Rattle.pearl_stack.specs.Frames.{Frame}
use Rattle.pearl_program.specs.FirstCells.{first_cells}
use Rattle.pearl_program.specs.PlainExpressions.{PlainExpr, PlainVariable, PlainArguments}
use Rattle.pearl_program.specs.PlainStatements.{PlainPeriodEnd, OfUntil, OfDuring, PlainPeriod, PlainStart, OfAt, OfAfter, OfWhen, OfWhenAfter, PlainOnce, OnceAt, OnceAfter, OnceWhen, PlainCounter, PlainStmt, OfRenew, OfAssign, OfCallOf, OfIf, OfCase, OfRepeat, OfExit, OfReturn, OfActivate, OfContinue, OfResume, OfSuspend, OfTerminate, OfPrevent, OfRequest, OfRelease, OfEnable, OfDisable, OfTrigger, OfPut, OfGet, OfSend, OfTake, PlainStmts, NoStmts, MoreStmts, PlainBranches, NoBranches, MoreBranches}
use Rattle.pearl_program.specs.PlainPrograms.{PlainProcedure}
use Rattle.pearl_program.specs.Sound.{signature_of}
use Rattle.pearl_program.specs.Typing.{Around, Signature, HasKind, Suit, IsFixed}
use Rattle.pearl_format.specs.Items.{FitsSome}
use Rattle.pearl_program.specs.SoundStatements.{IsStmt, AreStmts, AreBranches, IsIf, IsCounter, IsGet, IsReturn, IsStart, IsOnce, IsPeriod, IsPeriodEnd, within}
use Rattle.pearl_program.specs.SoundStatements as sound
use Rattle.pearl_program.specs.Weights.{calls, of_expr, of_if, of_counter, of_start, of_once, of_period, of_period_end, of_variables, of_stmt, greatest, greatest_of_all, greatest_of_branches}
use Rattle.pearl_instructions.specs.declared.instr.Instr.{Instr}
use Rattle.pearl_instructions.specs.declared.instr.Instr.TheVariants as instr
use Rattle.pearl_instructions.specs.declared.object.Parts.{Parts as Object}
use Rattle.pearl_instructions.specs.Steps.{Offers}
use Rattle.pearl_instructions.specs.Flow.{branch, goes_or_on}
use Rattle.pearl_instructions.specs.Rows.{act, own_task}
use Rattle.pearl_meaning.specs.Frames.{Store}
use Rattle.pearl_meaning.specs.Evaluation.{Does, gives, bind, next, put_cells}
use Rattle.pearl_meaning.specs.Setting.{Setting, params_of}
use Rattle.pearl_meaning.specs.Variables.{number_of}
use Rattle.pearl_meaning.specs.Values.{eval}
use Rattle.pearl_meaning.specs.Loops.{Flow, Normal, Exit, Return, holds, begins, goes_on, advances, repeats}
use Rattle.pearl_meaning.specs.Schedules.{acts}
use Rattle.pearl_meaning.specs.Transfers.{gets}
use Rattle.pearl_meaning.specs.Execution.{on_flow, acts_on, terminates, returns, alternative, chosen, exec, exec_all, exec_nth}
use Rattle.pearl_gen_expr.specs.Contexts.{stack, Context, at, IsStoreOf}
use Rattle.pearl_gen_expr.specs.Carrying.{End, Meets, Carries}
use Rattle.pearl_gen_expr.specs.ExprCode.{code_of, Is, ExprAt}
use Rattle.pearl_gen_expr.specs.Ends.{on_top, done, IsFlow, flow_stack, ways}
use Rattle.pearl_gen_expr.specs.Laws.{CodeCarries, ExpressionsCarry}
use Rattle.pearl_gen_expr.proofs.Offered.{frame_at, RowMeets, bind_carries, gives_carries, instr_carries, missing_meets}
use Rattle.pearl_gen_expr.proofs.Offered.{goes_meets, signature_is}
use Rattle.pearl_gen_stmt.specs.StmtCode.{on_task, BeginsAt, CountsAt, WhileAt, AdvanceAt, ReturnAt, GetAt, StmtAt, StmtsAt, ElseAt, BranchesAt}
use Rattle.pearl_gen_stmt.specs.Laws.{IsPlaced, LeadsOut}
use Rattle.pearl_gen_stmt.proofs.Single.{branch_carries}
use Rattle.pearl_gen_stmt.proofs.Flows.{jump_carries, normal_carries, acts_carries, acts_own_carries, stop_own_carries, return_carries}
use Rattle.pearl_gen_stmt.proofs.Renewals.{renew_carries}
use Rattle.pearl_gen_stmt.proofs.Counters.{then_gives, advance_carries, goes_on_carries, begins_carries}
use Rattle.pearl_gen_stmt.proofs.Turning.{repeats_carry}
use Rattle.pearl_gen_stmt.proofs.Transfers.{assign_carries, takes_carries, sends_carries, returns_carries, call_of_carries, puts_carries}
use Rattle.pearl_gen_stmt.proofs.Schedules.{activates_carries, continues_carries, resumes_carries}

-- the place that is named, or else the next one
abbrev place_or : Option ℕ → ℕ → ℕ
place_or None next = next
place_or (Some place) next = place

module _ (o : Object) (c : Context) (out : ℕ) (returning : Option Kind) where
  abbrev ends : ℕ → End Flow
  ends to = ways c to out returning

  -- what ends at a jump ends where that leads
  ends_on : (from : Store → List Frame) (end to : ℕ) (does : Does Flow) → Is (code_of o c.routine) end (instr.Jump to) → Carries o c (ends end) from does → Carries o c (ends to) from does
  ends_on from end to does is carries = then_gives o c (ends end) (ends to) from does carries each
    where
      each : (flow : Flow) → IsFlow returning flow → Carries o c (ends to) (flow_stack c end out flow) (gives flow)
      each Normal of = jump_carries o c (ends to) end to [] (gives Normal) is (normal_carries o c to out returning)
      each Exit of = gives_carries o c (ends to) Exit tt
      each (Return result) of = gives_carries o c (ends to) (Return result) of

  -- an action by itself
  alone_carries : (from to : ℕ) (instr : Instr) (offered : Action) → Is (code_of o c.routine) from instr → to ≡ from + 1 →
      ((cells : List Cell) (low : List Frame) → act o instr (frame_at c from [] cells) low ≡ Offers offered (λ answer. frame_at c (from + 1) [] cells ∷ low)) →
      Carries o c (ends to) (at c from []) (acts offered)
  alone_carries from to instr offered is to_is acts = acts_carries o c to out returning from [] instr offered is
      (λ cells low. acts cells low ∙ ap (λ place. Offers offered (λ answer. frame_at c place [] cells ∷ low)) (sym to_is))

  own_carries : (from to : ℕ) (instr : Instr) (action : ℕ → Action) → Is (code_of o c.routine) from instr → to ≡ from + 1 →
      ((cells : List Cell) (low : List Frame) → act o instr (frame_at c from [] cells) low ≡ Offers (action (own_task o (frame_at c from [] cells) low)) (λ answer. frame_at c (from + 1) [] cells ∷ low)) →
      Carries o c (ends to) (at c from []) (acts_on action None)
  own_carries from to instr action is to_is acts = acts_own_carries o c to out returning from instr action is
      (λ cells low. acts cells low ∙ ap (λ place. Offers (action (own_task o (frame_at c from [] cells) low)) (λ answer. frame_at c place [] cells ∷ low)) (sym to_is))

  suspends : (from to : ℕ) (task : Option ℕ) → Is (code_of o c.routine) from (on_task instr.Suspend instr.SuspendOwn task) → to ≡ from + 1 → Carries o c (ends to) (at c from []) (acts_on action.Suspend task)
  suspends from to None is to_is = own_carries from to instr.SuspendOwn action.Suspend is to_is (λ cells low. refl)
  suspends from to (Some task) is to_is = alone_carries from to (instr.Suspend task) (action.Suspend task) is to_is (λ cells low. refl)

  prevents : (from to : ℕ) (task : Option ℕ) → Is (code_of o c.routine) from (on_task instr.Prevent instr.PreventOwn task) → to ≡ from + 1 → Carries o c (ends to) (at c from []) (acts_on action.Prevent task)
  prevents from to None is to_is = own_carries from to instr.PreventOwn action.Prevent is to_is (λ cells low. refl)
  prevents from to (Some task) is to_is = alone_carries from to (instr.Prevent task) (action.Prevent task) is to_is (λ cells low. refl)

  terminates_carries : (from to : ℕ) (task : Option ℕ) → Is (code_of o c.routine) from (on_task instr.Terminate instr.TerminateOwn task) → to ≡ from + 1 → Carries o c (ends to) (at c from []) (terminates task)
  terminates_carries from to None is to_is = stop_own_carries o c to out returning from is
  terminates_carries from to (Some task) is to_is = alone_carries from to (instr.Terminate task) (action.Terminate task) is to_is (λ cells low. refl)

  -- CASE

  -- the statements of an alternative, or else those of OUT
  abbrev selected : Cell → (ℕ → Does Flow) → Does Flow → Does Flow
  selected x nth otherwise = chosen (alternative (number_of x)) nth otherwise

  selects_meet : (end : End Flow) (place : ℕ) (targets : List ℕ) (x : Cell) (nth : ℕ → Does Flow) (otherwise : Does Flow) →
      Carries o c end (at c (place + 1) []) otherwise → ((n : ℕ) → Carries o c end (at c (place_or (slice_get targets n) (place + 1)) []) (nth n)) →
      (task : ℕ) (cells : List Cell) (more : List (List Cell)) (rest : List Answer) → IsStoreOf o c (record { task = task; frames = cells ∷ more }) →
      let f = frame_at c place (x ∷ []) cells in let lower = stack c.callers more in
      RowMeets o c end (f ∷ lower) (branch targets f lower [] x) rest (selected x nth otherwise (record { task = task; frames = cells ∷ more }) rest)
  selects_meet end place targets (Fixed len (pos zero)) nth otherwise other each task cells more rest of =
      goes_meets o c end (frame_at c place (Fixed len (pos zero) ∷ []) cells ∷ stack c.callers more) (at c (place + 1) [] (record { task = task; frames = cells ∷ more })) rest
      (otherwise (record { task = task; frames = cells ∷ more }) rest) (other.over (record { task = task; frames = cells ∷ more }) rest of)
  selects_meet end place targets (Fixed len (negsuc n)) nth otherwise other each task cells more rest of =
      goes_meets o c end (frame_at c place (Fixed len (negsuc n) ∷ []) cells ∷ stack c.callers more) (at c (place + 1) [] (record { task = task; frames = cells ∷ more })) rest
      (otherwise (record { task = task; frames = cells ∷ more }) rest) (other.over (record { task = task; frames = cells ∷ more }) rest of)
  selects_meet end place targets (Fixed len (pos (suc n))) nth otherwise other each task cells more rest of =
      goes (slice_get targets n) (frame_at c place (Fixed len (pos (suc n)) ∷ []) cells) ((each n).over (record { task = task; frames = cells ∷ more }) rest of)
    where
      goes : (found : Option ℕ) (f : Frame) → Meets o c end (at c (place_or found (place + 1)) [] (record { task = task; frames = cells ∷ more })) rest (nth n (record { task = task; frames = cells ∷ more }) rest) →
          RowMeets o c end (f ∷ stack c.callers more) (goes_or_on found (frame_at c place (Fixed len (pos (suc n)) ∷ []) cells) (stack c.callers more) []) rest
          (nth n (record { task = task; frames = cells ∷ more }) rest)
      goes None f meets = goes_meets o c end (f ∷ stack c.callers more) (at c (place + 1) [] (record { task = task; frames = cells ∷ more })) rest (nth n (record { task = task; frames = cells ∷ more }) rest) meets
      goes (Some target) f meets = goes_meets o c end (f ∷ stack c.callers more) (at c target [] (record { task = task; frames = cells ∷ more })) rest (nth n (record { task = task; frames = cells ∷ more }) rest) meets
  selects_meet end place targets x nth otherwise other each task cells more rest of =
      missing_meets o c end (frame_at c place (x ∷ []) cells ∷ stack c.callers more) rest (selected x nth otherwise (record { task = task; frames = cells ∷ more }) rest)

  selects : (end : End Flow) (place : ℕ) (targets : List ℕ) (x : Cell) (nth : ℕ → Does Flow) (otherwise : Does Flow) → Is (code_of o c.routine) place (instr.Case targets) →
      Carries o c end (at c (place + 1) []) otherwise → ((n : ℕ) → Carries o c end (at c (place_or (slice_get targets n) (place + 1)) []) (nth n)) →
      Carries o c end (at c place (x ∷ [])) (selected x nth otherwise)
  selects end place targets x nth otherwise is other each =
      instr_carries o c end place (x ∷ []) (instr.Case targets) (selected x nth otherwise) is (selects_meet end place targets x nth otherwise other each)

-- WHAT STANDS AROUND

-- a loop changes nothing of what is known
placed_within : {o : Object} {c : Context} {setting : Setting} {around : Around} {below : ℕ} (counter : Option PlainCounter) → IsPlaced o c setting around below →
    IsPlaced o c setting (within around counter) below
placed_within counter placed = record {
  known = record {
    sound = placed.known.sound;
    tables = placed.known.tables;
    stands = record { leaves = placed.known.stands.leaves; procedures = placed.known.stands.procedures };
    cells = placed.known.cells;
    calls = placed.known.calls;
  };
  formats = placed.formats;
  result = placed.result;
  returns = placed.returns;
}

-- what RETURN in a routine asks for
none_returned : (returns : Option (Option Kind)) (result : Option Kind) → IfSome returns (λ returns. returns ≡ result) → (around : Around) → IsReturn around returns None → result ≡ None
none_returned None result known around is = absurd is
none_returned (Some None) result known around is = sym known
none_returned (Some (Some kind)) result known around is = absurd is

some_returned : (returns : Option (Option Kind)) (result : Option Kind) → IfSome returns (λ returns. returns ≡ result) → (around : Around) (e : PlainExpr) → IsReturn around returns (Some e) →
    (kind : Kind) × (result ≡ Some kind) × (of : Kind) × HasKind around e of
some_returned None result known around e is = absurd is
some_returned (Some None) result known around e is = absurd is
some_returned (Some (Some kind)) result known around e is = (kind, sym known, is.0, is.1)

-- GETs do what they mean
abbrev pub GetsCarry : Type 0
GetsCarry = (o : Object) (c : Context) (setting : Setting) (around : Around) (below : ℕ) → IsPlaced o c setting around below → CodeCarries o c setting around below →
    (out from to : ℕ) (targets : List PlainVariable) (device format cell : ℕ) → IsGet around targets device format cell → of_variables calls targets ≤ below →
    GetAt setting (code_of o c.routine) from targets device format cell to → Carries o c (ways c to out setting.result) (at c from []) (gets setting targets device format cell)

module _ (expressions : ExpressionsCarry) (gets_carry : GetsCarry) (o : Object) (c : Context) (setting : Setting) (below : ℕ) where
  abbrev Placed : Around → Type 0
  Placed around = IsPlaced o c setting around below

  abbrev known : (around : Around) → Placed around → CodeCarries o c setting around below
  known around placed = expressions o c setting around below placed.known

  abbrev FineIn : Around → PlainExpr → Type 0
  FineIn around e = (kind : Kind) × HasKind around e kind × (of_expr calls e ≤ below)

  abbrev values : (around : Around) → Placed around → (e : PlainExpr) (from to : ℕ) (operands : List Cell) → FineIn around e → ExprAt setting.program (code_of o c.routine) from e to →
      Carries o c (on_top c to operands) (at c from operands) (eval setting e)
  values around placed e from to operands fine code = (known around placed).expr from to e fine.0 operands fine.1 fine.2 code

  abbrev Ends : (to out : ℕ) → End Flow
  Ends to out = ways c to out setting.result

  abbrev Done : (from to out : ℕ) → Does Flow → Type 0
  Done from to out does = Carries o c (Ends to out) (at c from []) does

  -- ITS EXPRESSIONS

  abbrev Below : ℕ → Type 0
  Below size = size ≤ below

  module _ (around : Around) where
    abbrev Fine_if : Option PlainExpr → Type 0
    Fine_if None = Unit {0}
    Fine_if (Some e) = FineIn around e

    fixed_if : (e : Option PlainExpr) → IsIf (IsFixed around) e → Below (of_if calls (of_expr calls) e) → Fine_if e
    fixed_if None is less = tt
    fixed_if (Some e) is less = (of_fixed is.0, is.1, less)

    condition_if : (e : Option PlainExpr) → IsIf (λ e. HasKind around e (of_bits 1)) e → Below (of_if calls (of_expr calls) e) → Fine_if e
    condition_if None is less = tt
    condition_if (Some e) is less = (of_bits 1, is, less)

    abbrev Fine_counter : Option PlainCounter → Type 0
    Fine_counter None = Unit {0}
    Fine_counter (Some counter) = Fine_if counter.begin × Fine_if counter.step × Fine_if counter.end

    fine_counter : (counter : Option PlainCounter) → IsIf (IsCounter around) counter → Below (of_if calls (of_counter calls) counter) → Fine_counter counter
    fine_counter None is less = tt
    fine_counter (Some counter) is less = (
      fixed_if counter.begin is.begin (omega (arith, less)),
      fixed_if counter.step is.step (omega (arith, less)),
      fixed_if counter.end is.end (omega (arith, less)),
    )

    abbrev Fine_start : Option PlainStart → Type 0
    Fine_start None = Unit {0}
    Fine_start (Some (OfAt time)) = FineIn around time
    Fine_start (Some (OfAfter duration)) = FineIn around duration
    Fine_start (Some (OfWhen interrupt)) = Unit {0}
    Fine_start (Some (OfWhenAfter interrupt duration)) = FineIn around duration

    fine_start : (start : Option PlainStart) → IsIf (IsStart around) start → Below (of_if calls (of_start calls) start) → Fine_start start
    fine_start None is less = tt
    fine_start (Some (OfAt time)) is less = (of_clock, is, less)
    fine_start (Some (OfAfter duration)) is less = (of_span, is, less)
    fine_start (Some (OfWhen interrupt)) is less = tt
    fine_start (Some (OfWhenAfter interrupt duration)) is less = (of_span, is.1, less)

    abbrev Fine_once : PlainOnce → Type 0
    Fine_once (OnceAt time) = FineIn around time
    Fine_once (OnceAfter duration) = FineIn around duration
    Fine_once (OnceWhen interrupt) = Unit {0}

    fine_once : (once : PlainOnce) → IsOnce around once → Below (of_once calls once) → Fine_once once
    fine_once (OnceAt time) is less = (of_clock, is, less)
    fine_once (OnceAfter duration) is less = (of_span, is, less)
    fine_once (OnceWhen interrupt) is less = tt

    abbrev Fine_later : Option PlainOnce → Type 0
    Fine_later None = Unit {0}
    Fine_later (Some once) = Fine_once once

    fine_later : (once : Option PlainOnce) → IsIf (IsOnce around) once → Below (of_if calls (of_once calls) once) → Fine_later once
    fine_later None is less = tt
    fine_later (Some once) is less = fine_once once is less

    abbrev Fine_end : Option PlainPeriodEnd → Type 0
    Fine_end None = Unit {0}
    Fine_end (Some (OfUntil time)) = FineIn around time
    Fine_end (Some (OfDuring duration)) = FineIn around duration

    fine_end : (end : Option PlainPeriodEnd) → IsIf (IsPeriodEnd around) end → Below (of_if calls (of_period_end calls) end) → Fine_end end
    fine_end None is less = tt
    fine_end (Some (OfUntil time)) is less = (of_clock, is, less)
    fine_end (Some (OfDuring duration)) is less = (of_span, is, less)

    abbrev Fine_period : Option PlainPeriod → Type 0
    Fine_period None = Unit {0}
    Fine_period (Some period) = FineIn around period.duration × Fine_end period.end

    fine_period : (period : Option PlainPeriod) → IsIf (IsPeriod around) period → Below (of_if calls (of_period calls) period) → Fine_period period
    fine_period None is less = tt
    fine_period (Some period) is less = ((of_span, is.0, omega (arith, less)), fine_end period.end is.1 (omega (arith, less)))

  -- SINGLE STATEMENTS

  renews : (from to out cell : ℕ) (xs : List Cell) → Carries o c (done c to []) (at c from []) (put_cells cell xs) → Done from to out (next (put_cells cell xs) (gives Normal))
  renews from to out cell xs carries =
      bind_carries o c (done c to []) (Ends to out) (at c from []) (put_cells cell xs) (λ it. gives Normal) carries (λ it of. normal_carries o c to out setting.result)

  leaves : (leave : Option ℕ) (out from to past : ℕ) → LeadsOut leave out → leave ≡ Some past → Is (code_of o c.routine) from (instr.Jump past) → Done from to out (gives Exit)
  leaves leave out from to past leads is jump =
      jump_carries o c (Ends to out) from past [] (gives Exit) jump
      (subst (λ place. Carries o c (Ends to out) (at c place []) (gives Exit)) (sym (leads past is)) (gives_carries o c (Ends to out) Exit tt))

  returned : (around : Around) (placed : Placed around) (from to out : ℕ) (value : Option PlainExpr) → IsReturn around around.returns value → Below (of_if calls (of_expr calls) value) →
      ReturnAt setting (code_of o c.routine) from value to → Done from to out (returns setting value)
  returned around placed from to out None is less code =
      return_carries o c to out setting.result from (none_returned around.returns setting.result placed.returns around is) placed.result code.0
  returned around placed from to out (Some e) is less code =
      let r = some_returned around.returns setting.result placed.returns around e is in
      returns_carries o c setting around below (known around placed) to out from e r.0 r.1 placed.result (r.2, r.3, less) code

  called : (around : Around) (placed : Placed around) (from to out number : ℕ) (handed : PlainArguments) → sound.IsCall around number handed → Below (of_stmt calls (OfCallOf number handed)) →
      StmtAt setting (code_of o c.routine) None from (OfCallOf number handed) to → Done from to out (exec setting (OfCallOf number handed))
  called around placed from to out number handed is less code =
      call_of_carries o c setting around below (known around placed) to out from number (slice_get setting.program.procedures number) handed refl
      (λ procedure there. suits procedure there (sym (signature_is setting.program around placed.known.stands number procedure is.0 there is.1))) (omega (arith, less)) (omega (arith, less)) code
    where
      suits : (procedure : PlainProcedure) → slice_get setting.program.procedures number ≡ Some procedure → is.0 ≡ signature_of procedure → Suit around (params_of procedure) handed
      suits procedure there same = subst (λ (signature : Signature). Suit around signature.params handed) same is.2

  -- where the statements of IF end, those of ELSE aside
  then_end : (from : Store → List Frame) (end other to out : ℕ) (leave : Option ℕ) (otherwise : PlainStmts) (does : Does Flow) → ElseAt setting (code_of o c.routine) leave end other otherwise to →
      Carries o c (Ends end out) from does → Carries o c (Ends to out) from does
  then_end from end other to out leave NoStmts does code carries = subst (λ to. Carries o c (Ends to out) from does) (sym code.1) carries
  then_end from end other to out leave (MoreStmts statement rest) does code carries = ends_on o c out setting.result from end to does code.1 carries

  -- what follows a statement
  follows : (from : Store → List Frame) (middle to out : ℕ) (first second : Does Flow) → Carries o c (Ends middle out) from first → Carries o c (Ends to out) (at c middle []) second →
      Carries o c (Ends to out) from (bind first (λ flow. on_flow flow second))
  follows from middle to out first second one two = bind_carries o c (Ends middle out) (Ends to out) from first (λ flow. on_flow flow second) one each
    where
      each : (flow : Flow) → IsFlow setting.result flow → Carries o c (Ends to out) (flow_stack c middle out flow) (on_flow flow second)
      each Normal of = two
      each Exit of = gives_carries o c (Ends to out) Exit tt
      each (Return result) of = gives_carries o c (Ends to out) (Return result) of

  inside_loop : (past : ℕ) → LeadsOut (Some past) past
  inside_loop past other is = let same : past ≡ other = cc in sym same

  -- a loop, its statements aside
  loops : (around : Around) (placed : Placed around) (counter : Option PlainCounter) (condition : Option PlainExpr) (body : Does Flow) (from to out : ℕ)
      (top counted begin end : ℕ) → IsIf (IsCounter around) counter → IsIf (λ e. HasKind (within around counter) e (of_bits 1)) condition →
      Below (of_if calls (of_counter calls) counter) → Below (of_if calls (of_expr calls) condition) →
      BeginsAt setting (code_of o c.routine) from counter top → Is (code_of o c.routine) top instr.Turn → CountsAt setting (code_of o c.routine) (top + 1) to counter counted →
      WhileAt setting (code_of o c.routine) counted to condition begin → AdvanceAt setting (code_of o c.routine) end top counter to →
      Carries o c (Ends end to) (at c begin []) body →
      Done from to out (next (begins setting counter) (repeats (goes_on setting counter condition) body (advances counter)))
  loops around placed counter condition body from to out top counted begin end is asks less fewer beginning turn counts whiles adds carries =
      let inner = within around counter in let placed_in = placed_within counter placed in
      bind_carries o c (done c top []) (Ends to out) (at c from []) (begins setting counter) (λ it. repeats (goes_on setting counter condition) body (advances counter))
      (begins_carries o c setting (FineIn around) (values around placed) from top counter (fine_counter around counter is less) beginning) (λ it of.
      repeats_carry o c top begin end to out setting.result (goes_on setting counter condition) body (advances counter) turn
      (goes_on_carries o c setting (FineIn inner) (values inner placed_in) (top + 1) counted to begin counter condition (condition_if inner condition asks fewer) counts whiles)
      carries (advance_carries o c setting end top to counter adds))

  mutual
    stmt_carries : (statement : PlainStmt) (around : Around) (placed : Placed around) (leave : Option ℕ) (out from to : ℕ) → LeadsOut leave out → IsStmt around statement →
        Below (greatest calls statement) → StmtAt setting (code_of o c.routine) leave from statement to → Done from to out (exec setting statement)
    stmt_carries (OfRenew cell values) around placed leave out from to leads is less code =
        renews from to out cell (first_cells values) (renew_carries o c setting from cell values values.constants to refl code)
    stmt_carries (OfAssign target value) around placed leave out from to leads is less code =
        assign_carries o c setting around below (known around placed) to out from target is.0 value is.1 (omega (arith, less)) (is.2.0, is.2.1, omega (arith, less)) code
    stmt_carries (OfCallOf number handed) around placed leave out from to leads is less code = called around placed from to out number handed is less code
    stmt_carries (OfIf condition statements otherwise) around placed leave out from to leads is less code =
        let tested = code.0 in let other = code.1 in let end = code.2 in
        bind_carries o c (on_top c tested []) (Ends to out) (at c from []) (eval setting condition) (λ x. if holds x then exec_all setting statements else exec_all setting otherwise)
        (values around placed condition from tested [] (of_bits 1, is.0, omega (arith, less)) code.3) (λ x of.
        branch_carries o c (Ends to out) tested other x [] (exec_all setting statements) (exec_all setting otherwise) code.4
        (then_end (at c (tested + 1) []) end other to out leave otherwise (exec_all setting statements) code.6
        (stmts_carry statements around placed leave out (tested + 1) end leads is.1 (omega (arith, less)) code.5))
        (else_carries otherwise around placed leave out end other to leads is.2 (omega (arith, less)) code.6))
    stmt_carries (OfCase selector alternatives otherwise) around placed leave out from to leads is less code =
        let place = code.0 in let end = code.1 in let targets = code.2 in
        let other : Carries o c (Ends to out) (at c (place + 1) []) (exec_all setting otherwise) =
        ends_on o c out setting.result (at c (place + 1) []) end to (exec_all setting otherwise) code.6
        (stmts_carry otherwise around placed leave out (place + 1) end leads is.2 (omega (arith, less)) code.5) in
        bind_carries o c (on_top c place []) (Ends to out) (at c from []) (eval setting selector)
        (λ x. selected o c out setting.result x (λ n. exec_nth setting alternatives n (exec_all setting otherwise)) (exec_all setting otherwise))
        (values around placed selector from place [] (of_fixed is.0.0, is.0.1, omega (arith, less)) code.3) (λ x of.
        selects o c out setting.result (Ends to out) place targets x (λ n. exec_nth setting alternatives n (exec_all setting otherwise)) (exec_all setting otherwise) code.4 other
        (λ n. branches_carry alternatives around placed leave out (end + 1) to (place + 1) targets n (exec_all setting otherwise) leads is.1 (omega (arith, less)) code.7 other))
    stmt_carries (OfRepeat counter condition statements) around placed leave out from to leads is less code =
        let top = code.0 in let counted = code.1 in let begin = code.2 in let end = code.3 in
        loops around placed counter condition (exec_all setting statements) from to out top counted begin end is.0 is.1 (omega (arith, less)) (omega (arith, less))
        code.4 code.5 code.6 code.7 code.9
        (stmts_carry statements (within around counter) (placed_within counter placed) (Some to) to begin end (inside_loop to) is.2 (omega (arith, less)) code.8)
    stmt_carries OfExit around placed leave out from to leads is less code = leaves leave out from to code.0 leads code.1 code.2.0
    stmt_carries (OfReturn value) around placed leave out from to leads is less code = returned around placed from to out value is less code
    stmt_carries (OfActivate task start period priority) around placed leave out from to leads is less code =
        activates_carries o c setting (FineIn around) (values around placed) from to out task start period priority
        (fine_start around start is.starts (omega (arith, less))) (fine_period around period is.repeats (omega (arith, less))) (fixed_if around priority is.urgent (omega (arith, less))) code
    stmt_carries (OfContinue task once) around placed leave out from to leads is less code =
        continues_carries o c setting (FineIn around) (values around placed) from to out task once (fine_later around once is.1 less) code
    stmt_carries (OfResume once) around placed leave out from to leads is less code =
        resumes_carries o c setting (FineIn around) (values around placed) from to out once (fine_once around once is less) code
    stmt_carries (OfSuspend task) around placed leave out from to leads is less code = suspends o c out setting.result from to task code.0 code.1
    stmt_carries (OfTerminate task) around placed leave out from to leads is less code = terminates_carries o c out setting.result from to task code.0 code.1
    stmt_carries (OfPrevent task) around placed leave out from to leads is less code = prevents o c out setting.result from to task code.0 code.1
    stmt_carries (OfRequest semaphores) around placed leave out from to leads is less code =
        alone_carries o c out setting.result from to (instr.Request semaphores) (action.Request (record { items = semaphores })) code.0 code.1 (λ cells low. refl)
    stmt_carries (OfRelease semaphores) around placed leave out from to leads is less code =
        alone_carries o c out setting.result from to (instr.Release semaphores) (action.Release (record { items = semaphores })) code.0 code.1 (λ cells low. refl)
    stmt_carries (OfEnable interrupt) around placed leave out from to leads is less code =
        alone_carries o c out setting.result from to (instr.Enable interrupt) (action.Enable interrupt) code.0 code.1 (λ cells low. refl)
    stmt_carries (OfDisable interrupt) around placed leave out from to leads is less code =
        alone_carries o c out setting.result from to (instr.Disable interrupt) (action.Disable interrupt) code.0 code.1 (λ cells low. refl)
    stmt_carries (OfTrigger interrupt) around placed leave out from to leads is less code =
        alone_carries o c out setting.result from to (instr.Trigger interrupt) (action.Trigger interrupt) code.0 code.1 (λ cells low. refl)
    stmt_carries (OfPut es device format) around placed leave out from to leads is less code =
        puts_carries o c setting around below (known around placed) to out from es is.1 device format is.2 less
        (subst (λ formats. FitsSome (slice_get formats format) is.1) placed.formats is.3) placed.known.tables.formats code
    stmt_carries (OfGet targets device format cell) around placed leave out from to leads is less code =
        gets_carry o c setting around below placed (known around placed) out from to targets device format cell is less code
    stmt_carries (OfSend value device) around placed leave out from to leads is less code =
        sends_carries o c setting around below (known around placed) to out from value device (is.2.0, is.2.1, less) code
    stmt_carries (OfTake target device) around placed leave out from to leads is less code =
        takes_carries o c setting around below (known around placed) to out from target is.1 device is.3 less code

    pub stmts_carry : (statements : PlainStmts) (around : Around) (placed : Placed around) (leave : Option ℕ) (out from to : ℕ) → LeadsOut leave out → AreStmts around statements →
        Below (greatest_of_all calls statements) → StmtsAt setting (code_of o c.routine) leave from statements to → Done from to out (exec_all setting statements)
    stmts_carry NoStmts around placed leave out from to leads are less code =
        subst (λ to. Done from to out (gives Normal)) (sym code) (normal_carries o c from out setting.result)
    stmts_carry (MoreStmts statement rest) around placed leave out from to leads are less code =
        follows (at c from []) code.0 to out (exec setting statement) (exec_all setting rest)
        (stmt_carries statement around placed leave out from code.0 leads are.0 (omega (arith, less)) code.1)
        (stmts_carry rest around placed leave out code.0 to leads are.1 (omega (arith, less)) code.2)

    else_carries : (statements : PlainStmts) (around : Around) (placed : Placed around) (leave : Option ℕ) (out from other to : ℕ) → LeadsOut leave out → AreStmts around statements →
        Below (greatest_of_all calls statements) → ElseAt setting (code_of o c.routine) leave from other statements to → Done other to out (exec_all setting statements)
    else_carries NoStmts around placed leave out from other to leads are less code =
        subst (λ to. Done other to out (gives Normal)) (code.0 ∙ sym code.1) (normal_carries o c other out setting.result)
    else_carries (MoreStmts statement rest) around placed leave out from other to leads are less code =
        subst (λ place. Done place to out (exec_all setting (MoreStmts statement rest))) (sym code.2)
        (follows (at c (from + 1) []) code.0 to out (exec setting statement) (exec_all setting rest)
        (stmt_carries statement around placed leave out (from + 1) code.0 leads are.0 (omega (arith, less)) code.3)
        (stmts_carry rest around placed leave out code.0 to leads are.1 (omega (arith, less)) code.4))

    branches_carry : (alternatives : PlainBranches) (around : Around) (placed : Placed around) (leave : Option ℕ) (out from to behind : ℕ) (targets : List ℕ) (n : ℕ) (otherwise : Does Flow) →
        LeadsOut leave out → AreBranches around alternatives → Below (greatest_of_branches calls alternatives) →
        BranchesAt setting (code_of o c.routine) leave from targets alternatives to → Carries o c (Ends to out) (at c behind []) otherwise →
        Carries o c (Ends to out) (at c (place_or (slice_get targets n) behind) []) (exec_nth setting alternatives n otherwise)
    branches_carry NoBranches around placed leave out from to behind [] n otherwise leads are less code other = other
    branches_carry NoBranches around placed leave out from to behind (target ∷ targets) n otherwise leads are less code other = absurd code
    branches_carry (MoreBranches statements rest) around placed leave out from to behind [] n otherwise leads are less code other = absurd code
    branches_carry (MoreBranches statements rest) around placed leave out from to behind (target ∷ targets) zero otherwise leads are less code other =
        subst (λ place. Carries o c (Ends to out) (at c place []) (exec_all setting statements)) (sym code.1)
        (ends_on o c out setting.result (at c from []) code.0 to (exec_all setting statements) code.3
        (stmts_carry statements around placed leave out from code.0 leads are.0 (omega (arith, less)) code.2))
    branches_carry (MoreBranches statements rest) around placed leave out from to behind (target ∷ targets) (suc n) otherwise leads are less code other =
        branches_carry rest around placed leave out (code.0 + 1) to behind targets n otherwise leads are.1 (omega (arith, less)) code.4 other
