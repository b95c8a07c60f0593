-- In a valid object the code of expressions and statements arrives at what they mean.
use Rattle.std.specs.Prelude.{◌≡◌, ℕ, ◌+◌, Bool, List, [], ◌∷◌, ◌++◌, length, map, Option, Some, None, option_map, option_and_then, slice_get}
use Rattle.std.specs.List.{AllZip}
use Rattle.std.proofs.Common.{refl, sym, subst, ap, ◌∙◌, arith}
use Rattle.std.proofs.lemmas.List.{length-map}
use Rattle.std.proofs.lemmas.Option.{slice_get-map}
use Rattle.pearl_value.specs.declared.kind.Kind.{Kind}
use Rattle.pearl_value.specs.declared.cell.Cell.{Cell}
use Rattle.pearl_rules.specs.declared.action.Action.{Action}
use Rattle.pearl_rules.specs.declared.action.Answer.{Answer}
use Rattle.pearl_stack.specs.Frames.{Frame}
use Rattle.pearl_program.specs.PlainExpressions.{OfVariable}
use Rattle.pearl_program.specs.PlainPrograms.{PlainRoutine, PlainProcedure, PlainTask, PlainProg}
use Rattle.pearl_program.specs.Typing.{Around}
use Rattle.pearl_program.specs.Sound.{IsSound, signature_of}
use Rattle.pearl_instructions.specs.declared.object.Procedure.{Procedure}
use Rattle.pearl_instructions.specs.declared.object.Parts.{Parts as Object}
use Rattle.pearl_instructions.specs.Lawful.{IsObject}
use Rattle.pearl_instructions.specs.Laws.{Leads as RowsLead, KeepsTask}
use Rattle.pearl_instructions.specs.Objects as objects
use Rattle.pearl_instructions.specs.Owned.{IsOfTask}
use Rattle.pearl_instructions.specs.Stacks.{IsStack, cell_kinds}
use Rattle.pearl_instructions.specs.Valid.{IsValid}
use Rattle.pearl_meaning.specs.Frames.{Store}
use Rattle.pearl_meaning.specs.Evaluation.{Outcome, Value, Needs, Fails, Does}
use Rattle.pearl_meaning.specs.Setting.{Setting, params_of}
use Rattle.pearl_meaning.specs.Values as values
use Rattle.pearl_meaning.specs.Values.{eval, hand_over}
use Rattle.pearl_meaning.specs.Transfers.{offset}
use Rattle.pearl_meaning.specs.Execution.{exec_all}
use Rattle.pearl_meaning.specs.Hearing.{SuitsNeed, HeardInAfter}
use Rattle.pearl_meaning.specs.Laws.{UsesUp}
use Rattle.pearl_meaning.proofs.Offered.{CallsUse, calls_uses, eval_uses, hand_over_uses, target_uses, exec_all_uses}
use Rattle.pearl_meaning.proofs.Offered.{calls_use_up, LeavesNone, heard_used}
use Rattle.pearl_gen_expr.specs.Comes.{or_lost, Comes}
use Rattle.pearl_gen_expr.specs.Contexts.{Standing, stack, Context, at, lowest, HasCells, IsStoreOf}
use Rattle.pearl_gen_expr.specs.Carrying.{End, meant, Carries}
use Rattle.pearl_gen_expr.specs.Ends.{on_top, result_on_top, offset_on_top, ways}
use Rattle.pearl_gen_expr.specs.Laws.{CodeCarries}
use Rattle.pearl_gen_expr.specs.Tables.{code_head, head_of}
use Rattle.pearl_gen_expr.proofs.Offered.{expressions_carry}
use Rattle.pearl_gen_stmt.specs.Laws.{IsPlaced}
use Rattle.pearl_gen_stmt.specs.Generated.{within_program, IsGenerated}
use Rattle.pearl_gen_stmt.specs.Arriving.{at_stack, Arrives, IsRoutineOf, result_of, around_part, ExprArrives, CallArrives, OffsetArrives, StatementsArrive, CodeArrives}
use Rattle.pearl_gen_stmt.proofs.Named.{expr_there, variable_there, arguments_there, stmts_there}
use Rattle.pearl_gen_stmt.proofs.Procedures.{statements_carry, procedures_carry, in_list, its_cells, its_result}
use Rattle.pearl_gen_stmt.proofs.Tasks as tasks
use Rattle.pearl_gen_stmt.proofs.Tasks.{past_end}
use Rattle.pearl_gen_stmt.proofs.Heard.{suits_same}
use Rattle.pearl_gen_stmt.proofs.Arriving.{IsHere, AreHeard, arrives}

-- ONE PART

-- the stack of a context is that of the store's task
stack_owned : (o : Object) (task : ℕ) (standing : Standing) (callers : List Standing) (frames : List (List Cell)) →
    AllZip (HasCells o) (standing.routine ∷ map (λ (caller : Standing). caller.routine) callers) frames →
    lowest standing.routine callers ≡ length o.procedures + task → IsOfTask o task (stack (standing ∷ callers) frames)
stack_owned o task standing callers [] are low = absurd are
stack_owned o task standing [] (cells ∷ more) are low = low
stack_owned o task standing (caller ∷ callers) (cells ∷ []) are low = absurd are.1
stack_owned o task standing (caller ∷ callers) (cells ∷ lower ∷ more) are low =
    stack_owned o task caller callers (lower ∷ more) are.1 low

module _ (leads : RowsLead) (keeps : KeepsTask) (p : PlainProg) (o : Object) (generated : IsGenerated p o)
    (valid : IsValid o) (object : IsObject o) (c : Context) where
  module _ {X : Type 0} (does : Does X) (store : Store) where
    -- what the part needs after some answers
    abbrev Asks : List Answer → Action → Type 0
    Asks answers a = does store answers ≡ Needs a

    are_heard : (before answers : List Answer) → HeardInAfter p does store before answers →
        AreHeard o store.task Asks before answers
    are_heard before [] heard = tt
    are_heard before (answer ∷ answers) heard =
        by (does store before) refl heard.0 (are_heard (before ++ answer ∷ []) answers heard.1)
      where
        by : (m : Outcome X) → does store before ≡ m → SuitsNeed p store.task m answer →
            AreHeard o store.task Asks (before ++ answer ∷ []) answers →
            AreHeard o store.task Asks before (answer ∷ answers)
        by (Value x after left) e suits others = absurd suits
        by (Needs a) e suits others = (a, e, suits_same p o generated.tables store.task a answer suits, others)
        by (Fails trap) e suits others = absurd suits

  -- where no answer is left by what is meant none is left at the end
  none_at : {X : Type 0} (end : End X) (answers : List Answer) (m : Outcome X) → LeavesNone m →
      (frames : List Frame) (rest : List Answer) → (meant o c end answers m).Reached frames rest → rest ≡ []
  none_at end answers (Value x store left) none frames rest is = is.answers ∙ none
  none_at end answers (Needs a) none frames rest is = absurd is
  none_at end answers (Fails trap) none frames rest is = absurd is

  module _ {X : Type 0} (end : End X) (place : ℕ) (operands : List Cell) (does : Does X) where
    here : (store : Store) → IsStoreOf o c store → IsStack o (at c place operands store) →
        IsHere leads keeps o valid object store.task (at c place operands store)
    here store of is =
        let top : Standing = record { routine = c.routine; place = place; operands = operands } in
        record { stack = is; own = stack_owned o store.task top c.callers store.frames of.cells of.task }

    pub part_arrives : UsesUp does → Carries o c end (at c place operands) does →
        Arrives p o c end (at c place operands) does
    part_arrives uses carries = record {
      over = λ store answers of is heard.
          let aim = meant o c end answers (does store answers) in
          let none = none_at end answers (does store answers) (heard_used p does uses store answers heard) in
          arrives leads keeps o valid object store.task (Asks does store) aim (at_stack o aim)
          (λ frames rest at it. (it, at.stack, none frames rest it)) (λ a is. is) answers (at c place operands store)
          (here store of is)
          (λ more a e. subst (λ m. Comes o (at c place operands store) more (or_lost (meant o c end more m))) e
          (carries.over store more of)) (are_heard does store [] answers heard) (carries.over store answers of);
    }

-- ALL PARTS OF A ROUTINE

found_of : {X Y : Type 0} (f : X → Y) (found : Option X) (y : Y) → option_map f found ≡ Some y →
    (x : X) × (found ≡ Some x)
found_of f None y is = cc
found_of f (Some x) y is = (x, refl)

module _ (p : PlainProg) (o : Object) (sound : IsSound p) (generated : IsGenerated p o) (c : Context)
    (controls : List ℕ) (in_loop : Bool) where
  -- what holds of a routine's parts
  abbrev Placed : Option (Option Kind) → PlainRoutine → Type 0
  Placed returns routine =
      IsPlaced o c (within_program p (result_of returns) routine) (around_part p routine returns controls in_loop)
      (length p.procedures)

  callee : (procedure : PlainProcedure) → slice_get p.procedures c.routine ≡ Some procedure →
      (found : Procedure) × (slice_get o.procedures c.routine ≡ Some found)
  callee procedure there = found_of code_head (slice_get o.procedures c.routine) (head_of procedure)
      (sym (slice_get-map code_head o.procedures c.routine) ∙
      (ap (λ heads. slice_get heads c.routine) generated.tables.procedures ∙
      (slice_get-map head_of p.procedures c.routine ∙ ap (option_map head_of) there)))

  procedure_placed : (procedure : PlainProcedure) → slice_get p.procedures c.routine ≡ Some procedure →
      Placed (Some procedure.result) procedure.routine
  procedure_placed procedure there = let found = callee procedure there in record {
    known = record {
      sound = sound;
      tables = generated.tables;
      stands = record { leaves = refl; procedures = refl };
      cells = its_cells p o sound generated c.routine procedure there found.0 found.1;
      calls = procedures_carry p o sound generated procedure.result procedure.routine;
    };
    formats = refl;
    result = its_result p o sound generated c.routine procedure there found.0 found.1;
    returns = refl;
  }

  task_placed : (t : ℕ) (task : PlainTask) → slice_get p.tasks t ≡ Some task → c.routine ≡ length o.procedures + t →
      Placed None task.routine
  task_placed t task there same = record {
    known = record {
      sound = sound;
      tables = generated.tables;
      stands = record { leaves = refl; procedures = refl };
      cells = ap (cell_kinds o) same ∙ tasks.its_cells p o sound generated t task there;
      calls = procedures_carry p o sound generated None task.routine;
    };
    formats = refl;
    result = ap (objects.result_of o) same ∙
        ap (λ found. option_and_then (λ (p : Procedure). p.result) found) (past_end o.procedures t);
    returns = tt;
  }

  placed : (returns : Option (Option Kind)) (routine : PlainRoutine) → IsRoutineOf p o c.routine returns routine →
      Placed returns routine
  placed (Some result) routine is =
      subst (λ result. Placed (Some result) routine) is.2
      (subst (λ routine. Placed (Some is.0.result) routine) is.3 (procedure_placed is.0 is.1))
  placed None routine is = subst (λ routine. Placed None routine) is.4 (task_placed is.0 is.1 is.2 is.3)

module _ (leads : RowsLead) (keeps : KeepsTask) (p : PlainProg) (o : Object) (generated : IsGenerated p o)
    (valid : IsValid o) (object : IsObject o) (c : Context) (result : Option Kind) (routine : PlainRoutine)
    (around : Around) (known : IsPlaced o c (within_program p result routine) around (length p.procedures)) where
  abbrev setting : Setting
  setting = within_program p result routine

  abbrev calls : CallsUse setting
  calls = calls_use_up p (length p.procedures)

  code : CodeCarries o c setting around (length p.procedures)
  code = expressions_carry o c setting around (length p.procedures) known.known

  many : length around.procedures ≡ length p.procedures
  many = ap length known.known.stands.procedures ∙ length-map p.procedures signature_of

  -- a part where it stands
  arrives_at : {X : Type 0} (end : End X) (place : ℕ) (operands : List Cell) (does : Does X) → UsesUp does →
      Carries o c end (at c place operands) does → Arrives p o c end (at c place operands) does
  arrives_at end place operands does uses carries =
      part_arrives leads keeps p o generated valid object c end place operands does uses carries

  expr_arrives : ExprArrives p o c setting around
  expr_arrives from to e kind operands has is =
      let less = expr_there around e kind has in let same = many in
      arrives_at (on_top c to operands) from operands (eval setting e) (eval_uses setting calls e)
      (code.expr from to e kind operands has (omega (arith, less, same)) is)

  call_arrives : CallArrives p o c setting around
  call_arrives from to number procedure arguments operands there suit is =
      let one = in_list p.procedures number procedure there in
      let two = arguments_there around arguments (params_of procedure) suit in let same = many in
      arrives_at (result_on_top c to operands procedure.result) from operands
      (values.calls setting number (λ params. hand_over setting params arguments))
      (calls_uses setting calls number (λ params. hand_over_uses setting calls params arguments))
      (code.call from to number procedure arguments operands there suit (omega (arith, one)) (omega (arith, two, same)) is)

  offset_arrives : OffsetArrives p o c setting around
  offset_arrives from to target bounds subscripts kind operands is stands =
      let variable = OfVariable target bounds subscripts in
      let less = variable_there around variable kind is in let same = many in
      arrives_at (offset_on_top c to operands bounds) from operands (offset setting variable)
      (target_uses setting calls variable)
      (code.offset from to target bounds subscripts kind operands is (omega (arith, less, same)) stands)

  statements_arrive : StatementsArrive p o c setting around
  statements_arrive leave out from to statements leads_out are is =
      let less = stmts_there statements around are in let same = many in
      arrives_at (ways c to out result) from [] (exec_all setting statements) (exec_all_uses setting calls statements)
      (statements_carry o c setting around (length p.procedures) known leave out from to statements leads_out are
      (omega (arith, less, same)) is)

pub code_arrives : RowsLead → KeepsTask → CodeArrives
code_arrives leads keeps p o sound generated valid object c returns routine is controls in_loop =
    let around = around_part p routine returns controls in_loop in let result = result_of returns in
    let known = placed p o sound generated c controls in_loop returns routine is in
    record {
      expr = expr_arrives leads keeps p o generated valid object c result routine around known;
      call = call_arrives leads keeps p o generated valid object c result routine around known;
      offset = offset_arrives leads keeps p o generated valid object c result routine around known;
      statements = statements_arrive leads keeps p o generated valid object c result routine around known;
    }
