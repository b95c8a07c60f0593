-- The code of procedures does what calls of them mean.
use Rattle.std.specs.Prelude.{◌≡◌, ℕ, zero, suc, ◌+◌, ◌≤◌, ◌<◌, nat_le, List, [], ◌∷◌, ◌++◌, length, map, drop, Option, Some, None, option_map, option_and_then, slice_get}
use Rattle.std.proofs.Common.{refl, sym, subst, ap, ◌∙◌, arith}
use Rattle.std.proofs.lemmas.List.{length-append, length-map, length-drop}
use Rattle.std.proofs.lemmas.Option.{slice_get-map, same_Some}
use Rattle.pearl_value.specs.declared.kind.Kind.{Kind}
use Rattle.pearl_value.specs.declared.kind.CellKind.{CellKind}
use Rattle.pearl_value.specs.declared.kind.CellKind.TheVariants.{Plain, RefTo}
use Rattle.pearl_value.specs.declared.cell.Cell.{Cell}
use Rattle.pearl_value.specs.declared.trap.Trap.TheVariants.{Range}
use Rattle.pearl_rules.specs.declared.action.Action.TheVariants as action
use Rattle.pearl_rules.specs.declared.action.Answer.{Answer}
use Rattle.pearl_program.specs.PlainPrograms.{PlainRoutine, PlainProcedure, PlainProg}
use Rattle.pearl_program.specs.Typing.{Around}
use Rattle.pearl_program.specs.Sound.{IsSound, IsProcedure, CallSmaller, around_of}
use Rattle.pearl_program.specs.Weights.{calls, greatest_of_all}
use Rattle.pearl_instructions.specs.declared.instr.Instr.TheVariants as instr
use Rattle.pearl_instructions.specs.declared.object.Code.{Code}
use Rattle.pearl_instructions.specs.declared.object.Procedure.{Procedure}
use Rattle.pearl_instructions.specs.declared.object.Parts.{Parts as Object}
use Rattle.pearl_instructions.specs.Objects.{routine_at, result_of}
use Rattle.pearl_instructions.specs.Steps.{Silent, Offers, needed}
use Rattle.pearl_instructions.specs.Flow.{fresh, called}
use Rattle.pearl_instructions.specs.Flow as flow
use Rattle.pearl_instructions.specs.Stacks.{cell_kinds, cells_or_none}
use Rattle.pearl_meaning.specs.Frames.{Store}
use Rattle.pearl_meaning.specs.Evaluation.{Does, bind, next, push_frame, drop_frame}
use Rattle.pearl_meaning.specs.Setting.{Setting}
use Rattle.pearl_meaning.specs.Loops.{Flow, Normal, Exit, Return}
use Rattle.pearl_meaning.specs.Execution.{exec_all}
use Rattle.pearl_meaning.specs.Programs.{unset, result_at_end, result_of as result_of_flow, entered, call_within}
use Rattle.pearl_meaning.proofs.Offered.{calls_run}
use Rattle.pearl_gen_expr.specs.Contexts.{stack, Context, at, within_call, HasCells, IsStoreOf, pushed}
use Rattle.pearl_gen_expr.specs.Carrying.{End, Meets, Carries}
use Rattle.pearl_gen_expr.specs.Tables.{HasTables, Head, head_of, code_head}
use Rattle.pearl_gen_expr.specs.ExprCode.{code_of, Is}
use Rattle.pearl_gen_expr.specs.Ends.{IsResult, result_on_top, flow_stack, IsFlow, ways}
use Rattle.pearl_gen_expr.specs.Calls.{CallsCarry}
use Rattle.pearl_gen_expr.proofs.Offered.{frame_at, RowMeets, gives_carries, instr_carries, silent_meets, stops_meets}
use Rattle.pearl_gen_expr.proofs.Offered.{given_meets, needed_meets, bind_within, row_within, taken_is, dropped_is}
use Rattle.pearl_gen_expr.proofs.Offered.{each, expressions_carry}
use Rattle.pearl_gen_stmt.specs.Laws.{IsPlaced, StatementsCarry}
use Rattle.pearl_gen_stmt.specs.Generated.{within_program, last_of, IsCode, IsGenerated, ProceduresCarry}
use Rattle.pearl_gen_stmt.proofs.Single.{asked_meets}
use Rattle.pearl_gen_stmt.proofs.Statements.{stmts_carry}
use Rattle.pearl_gen_stmt.proofs.Gets.{gets_carry}

pub statements_carry : StatementsCarry
statements_carry o c setting around below placed leave out from to statements leads are less code =
    stmts_carry expressions_carry gets_carry o c setting below statements around placed leave out from to leads are less code

-- ROUTINES

found_first : (one two : List Code) (n : ℕ) (x : Code) → slice_get one n ≡ Some x → slice_get (one ++ two) n ≡ Some x
found_first [] two n x is = cc
found_first (y ∷ one) two zero x is = is
found_first (y ∷ one) two (suc n) x is = found_first one two n x is

-- a procedure's code is its routine's
pub procedure_routine : (o : Object) (number : ℕ) (procedure : Procedure) → slice_get o.procedures number ≡ Some procedure → routine_at o number ≡ Some procedure.code
procedure_routine o number procedure is =
    found_first (map (λ (p : Procedure). p.code) o.procedures) (map (λ t. t.code) o.tasks) number procedure.code
    (slice_get-map (λ (p : Procedure). p.code) o.procedures number ∙ ap (option_map (λ (p : Procedure). p.code)) is)

-- and its head that of the program's procedure
same_head : (p : PlainProg) (o : Object) → HasTables p o → (number : ℕ) (procedure : PlainProcedure) (found : Procedure) → slice_get p.procedures number ≡ Some procedure →
    slice_get o.procedures number ≡ Some found → code_head found ≡ head_of procedure
same_head p o tables number procedure found one two =
    same_Some (code_head found) (head_of procedure)
    (ap (option_map code_head) (sym two) ∙ (sym (slice_get-map code_head o.procedures number) ∙ (ap (λ heads. slice_get heads number) tables.procedures ∙
    (slice_get-map head_of p.procedures number ∙ ap (option_map head_of) one))))

fresh_same : (kind : CellKind) → fresh kind ≡ unset kind
fresh_same (Plain kind) = refl
fresh_same (RefTo kind) = refl

pub all_fresh : (kinds : List CellKind) → map fresh kinds ≡ map unset kinds
all_fresh [] = refl
all_fresh (kind ∷ kinds) = ap (λ x. x ∷ map fresh kinds) (fresh_same kind) ∙ ap (λ xs. unset kind ∷ xs) (all_fresh kinds)

-- procedures call smaller ones
smaller : (procedures : List PlainProcedure) (first n : ℕ) (procedure : PlainProcedure) → CallSmaller first procedures → slice_get procedures n ≡ Some procedure →
    greatest_of_all calls procedure.routine.body ≤ first + n
smaller [] first n procedure all is = cc
smaller (other ∷ procedures) first zero procedure all is =
    let same : other ≡ procedure = same_Some other procedure is in
    let less : greatest_of_all calls procedure.routine.body ≤ first = subst (λ (p : PlainProcedure). greatest_of_all calls p.routine.body ≤ first) same all.0 in omega (arith, less)
smaller (other ∷ procedures) first (suc n) procedure all is =
    let less = smaller procedures (first + 1) n procedure all.1 is in omega (arith, less)

pub in_list : {X : Type 0} (xs : List X) (n : ℕ) (x : X) → slice_get xs n ≡ Some x → n < length xs
in_list [] n x is = cc
in_list (y ∷ xs) zero x is = omega arith
in_list (y ∷ xs) (suc n) x is = let less = in_list xs n x is in omega (arith, less)

module _ (p : PlainProg) (o : Object) (sound : IsSound p) (generated : IsGenerated p o) where
  -- A PROCEDURE

  module _ (number : ℕ) (procedure : PlainProcedure) (there : slice_get p.procedures number ≡ Some procedure) (found : Procedure) (here : slice_get o.procedures number ≡ Some found) where
    abbrev setting : Setting
    setting = within_program p procedure.result procedure.routine

    abbrev around : Around
    around = around_of p procedure.routine (Some procedure.result)

    heads : code_head found ≡ head_of procedure
    heads = same_head p o generated.tables number procedure found there here

    pub its_cells : cell_kinds o number ≡ procedure.routine.cells
    its_cells = ap cells_or_none (procedure_routine o number found here) ∙ ap (λ (head : Head). head.cells) heads

    pub its_result : result_of o number ≡ procedure.result
    its_result = ap (λ found. option_and_then (λ (p : Procedure). p.result) found) here ∙ ap (λ (head : Head). head.result) heads

    module _ (c : Context) (place : ℕ) (operands : List Cell) where
      abbrev inner : Context
      inner = within_call c number place operands

      abbrev back_at : End (Option Cell)
      back_at = result_on_top c (place + 1) operands procedure.result

      placed : CallsCarry o setting number → IsPlaced o inner setting around number
      placed smaller_carry = record {
        known = record { sound = sound; tables = generated.tables; stands = record { leaves = refl; procedures = refl }; cells = its_cells; calls = smaller_carry };
        formats = refl;
        result = its_result;
        returns = refl;
      }

      abbrev code : IsCode p o number procedure.result procedure.routine (last_of procedure.result)
      code = generated.procedures number procedure there

      body_carries : CallsCarry o setting number → Carries o inner (ways inner code.end code.end procedure.result) (at inner 0 []) (exec_all setting procedure.routine.body)
      body_carries smaller_carry =
          let less = smaller p.procedures 0 number procedure sound.order there in
          statements_carry o inner setting around number (placed smaller_carry) None code.end 0 code.end procedure.routine.body (λ past is. cc)
          (each (IsProcedure p) p.procedures number procedure sound.procedures there).routine.body (omega (arith, less)) code.statements

      -- its end
      ends_meets : (kind : Option Kind) → procedure.result ≡ kind → (task : ℕ) (cells own : List Cell) (more : List (List Cell)) (rest : List Answer) → IsStoreOf o c (record { task = task; frames = cells ∷ more }) →
          Meets o c back_at (frame_at inner code.end [] own ∷ stack inner.callers (cells ∷ more)) rest (next drop_frame (result_at_end procedure.result) (record { task = task; frames = own ∷ cells ∷ more }) rest)
      ends_meets None is task cells own more rest of =
          let frames = frame_at inner code.end [] own ∷ stack inner.callers (cells ∷ more) in let after : Store = record { task = task; frames = cells ∷ more } in
          row_within o inner c back_at code.end [] own (stack inner.callers (cells ∷ more)) instr.Return rest (next drop_frame (result_at_end procedure.result) (record { task = task; frames = own ∷ cells ∷ more }) rest)
          (subst (λ kind. Is (code_of o number) code.end (last_of kind)) is code.behind)
          (subst (λ kind. RowMeets o c back_at frames (flow.returns kind (frame_at inner code.end [] own) (stack inner.callers (cells ∷ more))) rest
          (next drop_frame (result_at_end procedure.result) (record { task = task; frames = own ∷ cells ∷ more }) rest)) (sym (its_result ∙ is))
          (subst (λ kind. RowMeets o c back_at frames (Silent (at c (place + 1) operands after)) rest (next drop_frame (result_at_end kind) (record { task = task; frames = own ∷ cells ∷ more }) rest)) (sym is)
          (silent_meets o c back_at frames None after rest (subst (λ kind. IsResult kind None) (sym is) tt) of)))
      ends_meets (Some kind) is task cells own more rest of =
          let frames = frame_at inner code.end [] own ∷ stack inner.callers (cells ∷ more) in
          row_within o inner c back_at code.end [] own (stack inner.callers (cells ∷ more)) (instr.Trap Range) rest (next drop_frame (result_at_end procedure.result) (record { task = task; frames = own ∷ cells ∷ more }) rest)
          (subst (λ kind. Is (code_of o number) code.end (last_of kind)) is code.behind)
          (subst (λ kind. RowMeets o c back_at frames (Offers (action.Trap Range) (λ answer. frames)) rest (next drop_frame (result_at_end kind) (record { task = task; frames = own ∷ cells ∷ more }) rest)) (sym is)
          (stops_meets o c back_at frames Range rest))

      leaves_meets : (way : Flow) → IsFlow procedure.result way → (task : ℕ) (frames : List (List Cell)) (rest : List Answer) → IsStoreOf o inner (record { task = task; frames = frames }) →
          Meets o c back_at (flow_stack inner code.end code.end way (record { task = task; frames = frames })) rest (next drop_frame (result_of_flow procedure.result way) (record { task = task; frames = frames }) rest)
      leaves_meets way flows task [] rest of = absurd of.cells
      leaves_meets way flows task (own ∷ []) rest of = absurd of.cells.1
      leaves_meets Normal flows task (own ∷ cells ∷ more) rest of = ends_meets procedure.result refl task cells own more rest (record { cells = of.cells.1; task = of.task })
      leaves_meets Exit flows task (own ∷ cells ∷ more) rest of = ends_meets procedure.result refl task cells own more rest (record { cells = of.cells.1; task = of.task })
      leaves_meets (Return result) flows task (own ∷ cells ∷ more) rest of =
          (gives_carries o c back_at result flows).over (record { task = task; frames = cells ∷ more }) rest (record { cells = of.cells.1; task = of.task })

      -- its beginning
      entered_meets : CallsCarry o setting number → (arguments : List Cell) → length arguments ≡ procedure.params → (task : ℕ) (cells : List Cell) (more : List (List Cell)) (rest : List Answer) →
          IsStoreOf o c (record { task = task; frames = cells ∷ more }) →
          Meets o c back_at (at inner 0 [] (record { task = task; frames = entered procedure arguments ∷ cells ∷ more })) rest
          (next (push_frame (entered procedure arguments)) (bind (exec_all setting procedure.routine.body) (λ flow. next drop_frame (result_of_flow procedure.result flow))) (record { task = task; frames = cells ∷ more }) rest)
      entered_meets smaller_carry arguments long task cells more rest of =
          let own = entered procedure arguments in let store : Store = record { task = task; frames = own ∷ cells ∷ more } in
          let all = length-append arguments (map unset (drop procedure.params procedure.routine.cells)) in
          let others = length-map (drop procedure.params procedure.routine.cells) unset in
          let left = length-drop procedure.params procedure.routine.cells in
          let kinds : length (cell_kinds o number) ≡ length procedure.routine.cells = ap length its_cells in
          let wide : HasCells o number own = omega (arith, all, others, left, kinds, long) in
          let fits : IsStoreOf o inner store = record { cells = (wide, of.cells); task = of.task } in
          bind_within o inner c (ways inner code.end code.end procedure.result) back_at (at inner 0 [] store) rest (exec_all setting procedure.routine.body store rest)
          (λ flow. next drop_frame (result_of_flow procedure.result flow)) ((body_carries smaller_carry).over store rest fits)
          (λ way after left there. leaves_meets way there.of after.task after.frames left there.cells)

      called_is : (arguments : List Cell) → length arguments ≡ procedure.params → (task : ℕ) (cells : List Cell) (more : List (List Cell)) →
          called number found (frame_at c place (pushed arguments operands) cells ∷ stack c.callers more) (pushed arguments operands)
          ≡ at inner 0 [] (record { task = task; frames = entered procedure arguments ∷ cells ∷ more })
      called_is arguments long task cells more =
          let params : found.params ≡ procedure.params = ap (λ (head : Head). head.params) heads in
          let kinds : found.code.cells ≡ procedure.routine.cells = ap (λ (head : Head). head.cells) heads in
          let first = taken_is arguments operands found.params (long ∙ sym params) in
          let behind = dropped_is arguments operands found.params (long ∙ sym params) in
          let others : map fresh (drop found.params found.code.cells) ≡ map unset (drop procedure.params procedure.routine.cells) =
          all_fresh (drop found.params found.code.cells) ∙ ap (λ n. map unset (drop n found.code.cells)) params ∙ ap (λ kinds. map unset (drop procedure.params kinds)) kinds in
          ap (λ own. record { routine = number; place = 0; cells = own ++ map fresh (drop found.params found.code.cells); operands = [] } ∷
          record { routine = c.routine; place = place; cells = cells; operands = drop found.params (pushed arguments operands) } ∷ stack c.callers more) first
          ∙ ap (λ rest. record { routine = number; place = 0; cells = arguments ++ rest; operands = [] } ∷
          record { routine = c.routine; place = place; cells = cells; operands = drop found.params (pushed arguments operands) } ∷ stack c.callers more) others
          ∙ ap (λ left. record { routine = number; place = 0; cells = entered procedure arguments; operands = [] } ∷
          record { routine = c.routine; place = place; cells = cells; operands = left } ∷ stack c.callers more) behind

  -- ALL PROCEDURES

  -- a call
  call_carries : (number : ℕ) (procedure : PlainProcedure) → slice_get p.procedures number ≡ Some procedure → CallsCarry o (within_program p procedure.result procedure.routine) number →
      (c : Context) (place : ℕ) → Is (code_of o c.routine) place (instr.Call number) → (arguments operands : List Cell) → length arguments ≡ procedure.params →
      Carries o c (result_on_top c (place + 1) operands procedure.result) (at c place (pushed arguments operands)) (call_within p (length p.procedures) number arguments)
  call_carries number procedure there smaller_carry c place is arguments operands long =
      let ending = result_on_top c (place + 1) operands procedure.result in let depth = length p.procedures in
      let body : Does Flow = exec_all (within_program p procedure.result procedure.routine) procedure.routine.body in
      let onward : Answer → Does (Option Cell) = λ answer. next (push_frame (entered procedure arguments)) (bind body (λ flow. next drop_frame (result_of_flow procedure.result flow))) in
      instr_carries o c ending place (pushed arguments operands) (instr.Call number) (call_within p depth number arguments) is (λ task cells more rest of.
      let f = frame_at c place (pushed arguments operands) cells in let lower = stack c.callers more in let store : Store = record { task = task; frames = cells ∷ more } in
      given_meets o c ending (f ∷ lower) (slice_get o.procedures number)
      (λ (found : Procedure). needed (nat_le found.params (length (pushed arguments operands))) (Offers action.Enter (λ answer. called number found (f ∷ lower) (pushed arguments operands)))) rest
      (call_within p depth number arguments store rest) (λ found here.
      needed_meets o c ending (f ∷ lower) (nat_le found.params (length (pushed arguments operands))) (Offers action.Enter (λ answer. called number found (f ∷ lower) (pushed arguments operands))) rest
      (call_within p depth number arguments store rest) (λ enough.
      subst (RowMeets o c ending (f ∷ lower) (Offers action.Enter (λ answer. called number found (f ∷ lower) (pushed arguments operands))) rest)
      (sym (calls_run p sound.order number depth procedure there (in_list p.procedures number procedure there) arguments store rest))
      (asked_meets o c ending (f ∷ lower) action.Enter (λ answer. called number found (f ∷ lower) (pushed arguments operands)) store onward rest (λ answer left.
      subst (λ frames. Meets o c ending frames left (onward answer store left)) (sym (called_is number procedure there found here c place operands arguments long task cells more))
      (entered_meets number procedure there found here c place operands smaller_carry arguments long task cells more left of))))))

  -- where calls are the same, what is known of them is the same
  calls_as : (one two : Option Kind) (routine other : PlainRoutine) (below : ℕ) → CallsCarry o (within_program p one routine) below → CallsCarry o (within_program p two other) below
  calls_as one two routine other below all = record { called = all.called }

  fewer_calls : (result : Option Kind) (routine : PlainRoutine) (below number : ℕ) → number ≤ below → CallsCarry o (within_program p result routine) below → CallsCarry o (within_program p result routine) number
  fewer_calls result routine below number less all = record { called = λ other lesser. all.called other (omega (arith, lesser, less)) }

  calls_carry : (below : ℕ) (result : Option Kind) (routine : PlainRoutine) → CallsCarry o (within_program p result routine) below
  calls_carry zero result routine = record { called = λ number less. absurd (omega (arith, less)) }
  calls_carry (suc below) result routine = record {
    called = λ number less procedure there c place is arguments operands long.
        call_carries number procedure there (fewer_calls procedure.result procedure.routine below number (omega (arith, less)) (calls_carry below procedure.result procedure.routine))
        c place is arguments operands long;
  }

pub procedures_carry : ProceduresCarry
procedures_carry p o sound generated result routine = calls_carry p o sound generated (length p.procedures) result routine
