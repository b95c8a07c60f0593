-- The code of tasks comes to what they do next.
use Rattle.std.specs.Prelude.{◌≡◌, ℕ, suc, ◌+◌, List, [], ◌∷◌, ◌++◌, length, map, Option, Some, None, option_map, option_and_then, slice_get}
use Rattle.std.proofs.Common.{refl, sym, subst, ap, ◌∙◌, arith}
use Rattle.std.proofs.lemmas.List.{length-map}
use Rattle.std.proofs.lemmas.Option.{slice_get-map, same_Some}
use Rattle.pearl_value.specs.declared.cell.Cell.{Cell}
use Rattle.pearl_rules.specs.declared.action.Action.TheVariants as action
use Rattle.pearl_rules.specs.declared.action.Answer.{Answer}
use Rattle.pearl_stack.specs.Frames.{Frame}
use Rattle.pearl_program.specs.PlainPrograms.{PlainTask, PlainProg}
use Rattle.pearl_program.specs.Typing.{Around}
use Rattle.pearl_program.specs.Sound.{IsSound, IsTask, around_of, signature_of}
use Rattle.pearl_instructions.specs.declared.instr.Instr.TheVariants as instr
use Rattle.pearl_instructions.specs.declared.object.Code.{Code}
use Rattle.pearl_instructions.specs.declared.object.Task.{Task}
use Rattle.pearl_instructions.specs.declared.object.Procedure.{Procedure}
use Rattle.pearl_instructions.specs.declared.object.Parts.{Parts as Object}
use Rattle.pearl_instructions.specs.Objects.{routines, routine_at}
use Rattle.pearl_instructions.specs.Steps.{Missing}
use Rattle.pearl_instructions.specs.Flow.{fresh}
use Rattle.pearl_instructions.specs.Rows.{fresh_cells, begun}
use Rattle.pearl_instructions.specs.Stacks.{cell_kinds, cells_or_none}
use Rattle.pearl_meaning.specs.Evaluation.{Outcome, Value, Needs, Fails}
use Rattle.pearl_meaning.specs.Setting.{Setting}
use Rattle.pearl_meaning.specs.Loops.{Flow, Normal, Exit, Return}
use Rattle.pearl_meaning.specs.Execution.{exec_all}
use Rattle.pearl_meaning.specs.Programs.{unset, store_at_start, next_action, offer_of, offer}
use Rattle.pearl_gen_expr.specs.Comes.{offers, or_lost, Comes}
use Rattle.pearl_gen_expr.specs.Contexts.{stack, Context, at, IsStoreOf}
use Rattle.pearl_gen_expr.specs.Carrying.{Meets, Carries}
use Rattle.pearl_gen_expr.specs.Ends.{flow_stack, ways}
use Rattle.pearl_gen_expr.proofs.Offered.{by_row, missing_from, stopped, from_end, frame_at, row_is, each}
use Rattle.pearl_gen_stmt.specs.Laws.{IsPlaced}
use Rattle.pearl_gen_stmt.specs.Generated.{within_program, IsCode, IsGenerated, TasksCome}
use Rattle.pearl_gen_stmt.proofs.Named.{stmts_there}
use Rattle.pearl_gen_stmt.proofs.Procedures.{statements_carry, all_fresh, procedures_carry}

found_behind : (one two : List Code) (n : ℕ) → slice_get (one ++ two) (length one + n) ≡ slice_get two n
found_behind [] two n = let none : length {A = Code} [] + n ≡ n = omega arith in ap (λ n. slice_get two n) none
found_behind (y ∷ one) two n =
    let more : length (y ∷ one) + n ≡ suc (length one + n) = omega arith in
    ap (λ n. slice_get (y ∷ (one ++ two)) n) more ∙ found_behind one two n

-- a task's code is its routine's
task_routine : (o : Object) (t : ℕ) → routine_at o (length o.procedures + t) ≡ option_map (λ (task : Task). task.code) (slice_get o.tasks t)
task_routine o t =
    let codes = map (λ (p : Procedure). p.code) o.procedures in
    let long : length o.procedures + t ≡ length codes + t = ap (λ n. n + t) (sym (length-map o.procedures (λ (p : Procedure). p.code))) in
    ap (λ r. slice_get (routines o) r) long ∙ (found_behind codes (map (λ (task : Task). task.code) o.tasks) t ∙ slice_get-map (λ (task : Task). task.code) o.tasks t)

pub past_end : {X : Type 0} (xs : List X) (n : ℕ) → slice_get xs (length xs + n) ≡ None
past_end [] n = refl
past_end (x ∷ xs) n = let more : length (x ∷ xs) + n ≡ suc (length xs + n) = omega arith in ap (λ n. slice_get (x ∷ xs) n) more ∙ past_end xs n

-- the cells of a task of the object are those of the program's
cells_found : (found : Option Task) (task : PlainTask) → option_map (λ (task : Task). task.code.cells) found ≡ Some task.routine.cells →
    cells_or_none (option_map (λ (task : Task). task.code) found) ≡ task.routine.cells
cells_found None task is = cc
cells_found (Some found) task is = same_Some found.code.cells task.routine.cells is

fresh_are : (code : Option Code) → fresh_cells code ≡ map fresh (cells_or_none code)
fresh_are None = refl
fresh_are (Some code) = refl

module _ (p : PlainProg) (o : Object) (sound : IsSound p) (generated : IsGenerated p o) (t : ℕ) (task : PlainTask) (there : slice_get p.tasks t ≡ Some task) where
  abbrev number : ℕ
  number = length o.procedures + t

  abbrev setting : Setting
  setting = within_program p None task.routine

  abbrev around : Around
  around = around_of p task.routine None

  abbrev context : Context
  context = record { routine = number; callers = [] }

  pub its_cells : cell_kinds o number ≡ task.routine.cells
  its_cells = ap cells_or_none (task_routine o t) ∙ cells_found (slice_get o.tasks t) task
      (sym (slice_get-map (λ (task : Task). task.code.cells) o.tasks t) ∙ (ap (λ all. slice_get all t) generated.tables.task_cells ∙
      (slice_get-map (λ (task : PlainTask). task.routine.cells) p.tasks t ∙ ap (option_map (λ (task : PlainTask). task.routine.cells)) there)))

  abbrev code : IsCode p o number None task.routine instr.End
  code = generated.tasks t task there

  placed : IsPlaced o context setting around (length p.procedures)
  placed = record {
    known = record { sound = sound; tables = generated.tables; stands = record { leaves = refl; procedures = refl }; cells = its_cells; calls = procedures_carry p o sound generated None task.routine };
    formats = refl;
    result = ap (λ found. option_and_then (λ (p : Procedure). p.result) found) (past_end o.procedures t);
    returns = tt;
  }

  its_task : IsTask p task
  its_task = each (IsTask p) p.tasks t task sound.tasks there

  body_carries : Carries o context (ways context code.end code.end None) (at context 0 []) (exec_all setting task.routine.body)
  body_carries =
      let less = stmts_there task.routine.body around its_task.routine.body in let long = length-map p.procedures signature_of in
      statements_carry o context setting around (length p.procedures) placed None code.end 0 code.end task.routine.body (λ past is. cc)
      its_task.routine.body (omega (arith, less, long)) code.statements

  -- where its statements have ended the task ends
  ends : (flow : Flow) (tasks : ℕ) (frames : List (List Cell)) (rest : List Answer) → IsStoreOf o context (record { task = tasks; frames = frames }) →
      Comes o (flow_stack context code.end code.end flow (record { task = tasks; frames = frames })) rest (or_lost (offers action.End))
  ends flow tasks [] rest of = absurd of.cells
  ends Normal tasks (cells ∷ more) rest of =
      stopped o (frame_at context code.end [] cells ∷ stack context.callers more) rest action.End (row_is o context code.end [] cells (stack context.callers more) instr.End code.behind)
  ends Exit tasks (cells ∷ more) rest of =
      stopped o (frame_at context code.end [] cells ∷ stack context.callers more) rest action.End (row_is o context code.end [] cells (stack context.callers more) instr.End code.behind)
  ends (Return result) tasks (cells ∷ more) rest of = by_row o [] Missing rest (or_lost (offers action.End)) refl (missing_from o rest (offers action.End))

  comes_to : (rest : List Answer) (from : List Frame) (m : Outcome Flow) → Meets o context (ways context code.end code.end None) from rest m → Comes o from rest (or_lost (offers (next_action m)))
  comes_to rest from (Value flow store left) meets =
      from_end o context (ways context code.end code.end None) from rest flow store left (offers action.End) meets (λ here. ends flow store.task store.frames left here.cells)
  comes_to rest from (Needs a) meets = meets
  comes_to rest from (Fails trap) meets = meets

  starts : IsStoreOf o context (store_at_start t task)
  starts =
      let long = length-map task.routine.cells unset in let kinds : length (cell_kinds o number) ≡ length task.routine.cells = ap length its_cells in
      record { cells = (omega (arith, long, kinds), tt); task = refl }

  begun_is : begun o number ≡ at context 0 [] (store_at_start t task)
  begun_is = ap (λ cells. record { routine = number; place = 0; cells = cells; operands = [] } ∷ [])
      (fresh_are (routine_at o number) ∙ all_fresh (cells_or_none (routine_at o number)) ∙ ap (λ kinds. map unset kinds) its_cells)

  task_comes : (answers : List Answer) → Comes o (begun o number) answers (or_lost (offers (offer_of p t (Some task) answers)))
  task_comes answers = subst (λ frames. Comes o frames answers (or_lost (offers (offer_of p t (Some task) answers)))) (sym begun_is)
      (comes_to answers (at context 0 [] (store_at_start t task)) (exec_all setting task.routine.body (store_at_start t task) answers)
      (body_carries.over (store_at_start t task) answers starts))

pub tasks_come : TasksCome
unfolding offer
tasks_come p o sound generated t task there answers =
    subst (λ found. Comes o (begun o (length o.procedures + t)) answers (or_lost (offers (offer_of p t found answers)))) (sym there) (task_comes p o sound generated t task there answers)
