-- What jumps, RETURN, and instructions that offer an action do as statements.
use Rattle.std.specs.Prelude.{◌≡◌, ℕ, List, [], ◌∷◌, map, Option, Some, None, option_to_list}
use Rattle.std.specs.List.{AllZip}
use Rattle.std.proofs.Common.{refl, sym, subst, ap, ◌∙◌, arith}
use Rattle.pearl_value.specs.declared.kind.Kind.{Kind}
use Rattle.pearl_value.specs.declared.cell.Cell.{Cell}
use Rattle.pearl_rules.specs.declared.action.Action.{Action}
use Rattle.pearl_rules.specs.declared.action.Action.TheVariants as action
use Rattle.pearl_rules.specs.declared.action.Answer.{Answer}
use Rattle.pearl_stack.specs.Frames.{Frame}
use Rattle.pearl_instructions.specs.declared.instr.Instr.{Instr}
use Rattle.pearl_instructions.specs.declared.instr.Instr.TheVariants as instr
use Rattle.pearl_instructions.specs.declared.object.Parts.{Parts as Object}
use Rattle.pearl_instructions.specs.Objects.{result_of}
use Rattle.pearl_instructions.specs.Steps.{Silent, Offers}
use Rattle.pearl_instructions.specs.Flow.{returned}
use Rattle.pearl_instructions.specs.Flow as flow
use Rattle.pearl_instructions.specs.Rows.{act, row, own_task}
use Rattle.pearl_instructions.specs.Rows as rows
use Rattle.pearl_meaning.specs.Frames.{Store}
use Rattle.pearl_meaning.specs.Evaluation.{Value, Needs, Does, gives, bind, stop, own_task as the_task}
use Rattle.pearl_meaning.specs.Loops.{Flow, Normal, Exit, Return}
use Rattle.pearl_meaning.specs.Schedules.{acts}
use Rattle.pearl_gen_expr.specs.Contexts.{Standing, stack, Context, at, back, lowest, HasCells, IsStoreOf}
use Rattle.pearl_gen_expr.specs.Carrying.{End, Carries}
use Rattle.pearl_gen_expr.specs.ExprCode.{code_of, Is}
use Rattle.pearl_gen_expr.specs.Ends.{IsResult, IsFlow, ways}
use Rattle.pearl_gen_expr.proofs.Offered.{stopped_from, frame_at, RowMeets, gives_carries, instr_carries, missing_meets}
use Rattle.pearl_gen_expr.proofs.Offered.{silent_meets}
use Rattle.pearl_gen_stmt.proofs.Single.{asked_meets, silent_carries, ask_carries}

-- THE OWN TASK

lowest_is : (o : Object) (place : ℕ) (operands cells : List Cell) (routine : ℕ) (callers : List Standing) (more : List (List Cell)) →
    AllZip (HasCells o) (map (λ (caller : Standing). caller.routine) callers) more →
    rows.lowest (record { routine = routine; place = place; cells = cells; operands = operands }) (stack callers more) ≡ lowest routine callers
lowest_is o place operands cells routine [] more is = refl
lowest_is o place operands cells routine (caller ∷ callers) [] is = absurd is
lowest_is o place operands cells routine (caller ∷ callers) (lower ∷ more) is = lowest_is o caller.place caller.operands lower caller.routine callers more is.1

pub own_task_is : (o : Object) (c : Context) (place : ℕ) (operands cells : List Cell) (more : List (List Cell)) (task : ℕ) → IsStoreOf o c (record { task = task; frames = cells ∷ more }) →
    own_task o (frame_at c place operands cells) (stack c.callers more) ≡ task
own_task_is o c place operands cells more task of =
    let low = lowest_is o place operands cells c.routine c.callers more of.cells.1 in let is = of.task in
    omega (arith, low, is)

module _ (o : Object) (c : Context) where
  -- JUMPS

  pub jump_carries : {X : Type 0} (end : End X) (place to : ℕ) (operands : List Cell) (does : Does X) → Is (code_of o c.routine) place (instr.Jump to) →
      Carries o c end (at c to operands) does → Carries o c end (at c place operands) does
  jump_carries end place to operands does is = silent_carries o c end place to operands operands (instr.Jump to) does is (λ cells low. refl)

  module _ (to leave : ℕ) (returns : Option Kind) where
    abbrev Ending : End Flow
    Ending = ways c to leave returns

    pub normal_carries : Carries o c Ending (at c to []) (gives Normal)
    normal_carries = gives_carries o c Ending Normal tt

    pub exit_carries : Carries o c Ending (at c leave []) (gives Exit)
    exit_carries = gives_carries o c Ending Exit tt

    -- an action, and then the next statement
    pub acts_carries : (place : ℕ) (operands : List Cell) (instr : Instr) (offered : Action) → Is (code_of o c.routine) place instr →
        ((cells : List Cell) (low : List Frame) → act o instr (frame_at c place operands cells) low ≡ Offers offered (λ answer. frame_at c to [] cells ∷ low)) →
        Carries o c Ending (at c place operands) (acts offered)
    acts_carries place operands instr offered is acts =
        ask_carries o c Ending place to operands (λ answer. []) instr offered (λ answer. gives Normal) is acts (λ answer. normal_carries)

    -- an action on the own task
    pub acts_own_carries : (place : ℕ) (instr : Instr) (action : ℕ → Action) → Is (code_of o c.routine) place instr →
        ((cells : List Cell) (low : List Frame) → act o instr (frame_at c place [] cells) low ≡ Offers (action (own_task o (frame_at c place [] cells) low)) (λ answer. frame_at c to [] cells ∷ low)) →
        Carries o c Ending (at c place []) (bind the_task (λ task. acts (action task)))
    acts_own_carries place instr action is row = instr_carries o c Ending place [] instr (bind the_task (λ task. acts (action task))) is (λ task cells more rest of.
        let f = frame_at c place [] cells in let lower = stack c.callers more in let store : Store = record { task = task; frames = cells ∷ more } in
        subst (λ step. RowMeets o c Ending (f ∷ lower) step rest (acts (action task) store rest)) (sym (row cells lower))
        (subst (λ number. RowMeets o c Ending (f ∷ lower) (Offers (action number) (λ answer. frame_at c to [] cells ∷ lower)) rest (acts (action task) store rest))
        (sym (own_task_is o c place [] cells more task of))
        (asked_meets o c Ending (f ∷ lower) (action task) (λ answer. frame_at c to [] cells ∷ lower) store (λ answer. gives Normal) rest
        (λ answer left. normal_carries.over store left of))))

    -- one after which nothing more is heard
    stopped_meets : (frames : List Frame) (offered : Action) (rest : List Answer) → RowMeets o c Ending frames (Offers offered (λ answer. frames)) rest (Needs offered)
    stopped_meets frames offered rest e = stopped_from o frames rest offered e

    pub stop_own_carries : (place : ℕ) → Is (code_of o c.routine) place instr.TerminateOwn →
        Carries o c Ending (at c place []) (bind the_task (λ task. stop (action.Terminate task)))
    stop_own_carries place is = instr_carries o c Ending place [] instr.TerminateOwn (bind the_task (λ task. stop (action.Terminate task))) is (λ task cells more rest of.
        let f = frame_at c place [] cells in let lower = stack c.callers more in
        subst (λ number. RowMeets o c Ending (f ∷ lower) (Offers (action.Terminate number) (λ answer. f ∷ lower)) rest (Needs (action.Terminate task)))
        (sym (own_task_is o c place [] cells more task of)) (stopped_meets (f ∷ lower) (action.Terminate task) rest))

    -- RETURN

    returned_meets : (callers : List Standing) (more : List (List Cell)) (frames : List Frame) (result : Option Cell) (task : ℕ) (cells : List Cell) (rest : List Answer) →
        c.callers ≡ callers → IsFlow returns (Return result) → IsStoreOf o c (record { task = task; frames = cells ∷ more }) →
        RowMeets o c Ending frames (returned (stack callers more) (option_to_list result)) rest (Value (Return result) (record { task = task; frames = cells ∷ more }) rest)
    returned_meets [] more frames result task cells rest e of is = missing_meets o c Ending frames rest (Value (Return result) (record { task = task; frames = cells ∷ more }) rest)
    returned_meets (caller ∷ callers) [] frames result task cells rest e of is = missing_meets o c Ending frames rest (Value (Return result) (record { task = task; frames = cells ∷ [] }) rest)
    returned_meets (caller ∷ callers) (below ∷ more) frames result task cells rest e of is =
        subst (λ left. RowMeets o c Ending frames (Silent left) rest (Value (Return result) (record { task = task; frames = cells ∷ below ∷ more }) rest))
        (ap (λ callers. stack (back result callers) (below ∷ more)) e)
        (silent_meets o c Ending frames (Return result) (record { task = task; frames = cells ∷ below ∷ more }) rest of is)

    pub return_carries : (place : ℕ) → returns ≡ None → result_of o c.routine ≡ returns → Is (code_of o c.routine) place instr.Return →
        Carries o c Ending (at c place []) (gives (Return None))
    return_carries place none known is = instr_carries o c Ending place [] instr.Return (gives (Return None)) is (λ task cells more rest of.
        let f = frame_at c place [] cells in let lower = stack c.callers more in
        subst (λ kind. RowMeets o c Ending (f ∷ lower) (flow.returns kind f lower) rest (Value (Return None) (record { task = task; frames = cells ∷ more }) rest)) (sym (known ∙ none))
        (returned_meets c.callers more (f ∷ lower) None task cells rest refl (subst (λ kind. IsResult kind None) (sym none) tt) of))

    pub return_value_carries : (place : ℕ) (kind : Kind) (x : Cell) → returns ≡ Some kind → result_of o c.routine ≡ returns → Is (code_of o c.routine) place instr.Return →
        Carries o c Ending (at c place (x ∷ [])) (gives (Return (Some x)))
    return_value_carries place kind x some known is = instr_carries o c Ending place (x ∷ []) instr.Return (gives (Return (Some x))) is (λ task cells more rest of.
        let f = frame_at c place (x ∷ []) cells in let lower = stack c.callers more in
        subst (λ kind. RowMeets o c Ending (f ∷ lower) (flow.returns kind f lower) rest (Value (Return (Some x)) (record { task = task; frames = cells ∷ more }) rest)) (sym (known ∙ some))
        (returned_meets c.callers more (f ∷ lower) (Some x) task cells rest refl (subst (λ kind. IsResult kind (Some x)) (sym some) tt) of))
