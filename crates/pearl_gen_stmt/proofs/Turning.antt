-- The turns of a loop.
use Rattle.std.specs.Prelude.{ℕ, zero, suc, ◌+◌, ◌≤◌, Bool, true, false, if◌then◌else◌, List, [], ◌∷◌, length, Option}
use Rattle.std.proofs.Common.{arith}
use Rattle.pearl_value.specs.declared.kind.Kind.{Kind}
use Rattle.pearl_value.specs.declared.cell.Cell.{Cell}
use Rattle.pearl_rules.specs.declared.action.Action.TheVariants as action
use Rattle.pearl_rules.specs.declared.action.Answer.{Answer}
use Rattle.pearl_instructions.specs.declared.instr.Instr.TheVariants as instr
use Rattle.pearl_instructions.specs.declared.object.Parts.{Parts as Object}
use Rattle.pearl_meaning.specs.Frames.{Store}
use Rattle.pearl_meaning.specs.Evaluation.{Needs, Does, gives, bind}
use Rattle.pearl_meaning.specs.Loops.{Flow, Normal, Exit, Return, after_turn, turn, turns, repeats}
use Rattle.pearl_gen_expr.specs.Contexts.{stack, Context, at, IsStoreOf}
use Rattle.pearl_gen_expr.specs.Carrying.{End, Meets, Carries}
use Rattle.pearl_gen_expr.specs.ExprCode.{code_of, Is}
use Rattle.pearl_gen_expr.specs.Ends.{IsFlow, flow_stack, ways}
use Rattle.pearl_gen_expr.proofs.Offered.{offered_from, frame_at, bind_meets, gives_carries, row_within, heard_meets}
use Rattle.pearl_gen_stmt.proofs.Counters.{forked}

module _ (o : Object) (c : Context) (top begin behind past out : ℕ) (returns : Option Kind) (more : Does Bool) (statements : Does Flow) (advance : Does Bool)
    (is : Is (code_of o c.routine) top instr.Turn) (asks : Carries o c (forked o c begin past) (at c (top + 1) []) more)
    (does : Carries o c (ways c behind past returns) (at c begin []) statements) (counts : Carries o c (forked o c top past) (at c behind []) advance) where
  abbrev end : End Flow
  end = ways c past out returns

  -- what is met at the loop's beginning, where so many answers are left at most
  abbrev MeetsWithin : ℕ → Does Flow → Type 0
  MeetsWithin n again = (store : Store) (rest : List Answer) → length rest ≤ n → IsStoreOf o c store → Meets o c end (at c top [] store) rest (again store rest)

  goes_back : (n : ℕ) (again : Does Flow) → MeetsWithin n again → (on : Bool) (store : Store) (rest : List Answer) → length rest ≤ n → IsStoreOf o c store →
      Meets o c end (at c (if on then top else past) [] store) rest ((if on then again else gives Normal) store rest)
  goes_back n again meets true store rest less of = meets store rest less of
  goes_back n again meets false store rest less of = (gives_carries o c end Normal tt).over store rest of

  ended : (n : ℕ) (again : Does Flow) → MeetsWithin n again → (flow : Flow) → IsFlow returns flow → (store : Store) (rest : List Answer) → length rest ≤ n → IsStoreOf o c store →
      Meets o c end (flow_stack c behind past flow store) rest (after_turn flow (bind advance (λ on. if on then again else gives Normal)) store rest)
  ended n again meets Normal flows store rest less of =
      bind_meets o c (forked o c top past) end (at c behind [] store) rest (advance store rest) (λ on. if on then again else gives Normal) (counts.over store rest of)
      (λ on after left here. let fewer = here.fewer in goes_back n again meets on after left (omega (arith, less, fewer)) here.cells)
  ended n again meets Exit flows store rest less of = (gives_carries o c end Normal tt).over store rest of
  ended n again meets (Return result) flows store rest less of = (gives_carries o c end (Return result) flows).over store rest of

  goes_in : (n : ℕ) (again : Does Flow) → MeetsWithin n again → (going : Bool) (store : Store) (rest : List Answer) → length rest ≤ n → IsStoreOf o c store →
      Meets o c end (at c (if going then begin else past) [] store) rest
      ((if going then bind statements (λ flow. after_turn flow (bind advance (λ on. if on then again else gives Normal))) else gives Normal) store rest)
  goes_in n again meets true store rest less of =
      bind_meets o c (ways c behind past returns) end (at c begin [] store) rest (statements store rest) (λ flow. after_turn flow (bind advance (λ on. if on then again else gives Normal)))
      (does.over store rest of) (λ flow after left here. let fewer = here.fewer in ended n again meets flow here.of after left (omega (arith, less, fewer)) here.cells)
  goes_in n again meets false store rest less of = (gives_carries o c end Normal tt).over store rest of

  turned : (n : ℕ) (again : Does Flow) → MeetsWithin n again → (store : Store) (rest : List Answer) → length rest ≤ n → IsStoreOf o c store →
      Meets o c end (at c (top + 1) [] store) rest
      (bind more (λ going. if going then bind statements (λ flow. after_turn flow (bind advance (λ on. if on then again else gives Normal))) else gives Normal) store rest)
  turned n again meets store rest less of =
      bind_meets o c (forked o c begin past) end (at c (top + 1) [] store) rest (more store rest)
      (λ going. if going then bind statements (λ flow. after_turn flow (bind advance (λ on. if on then again else gives Normal))) else gives Normal)
      (asks.over store rest of) (λ going after left here. let fewer = here.fewer in goes_in n again meets going after left (omega (arith, less, fewer)) here.cells)

  -- a turn
  turn_meets : (n : ℕ) (again : Does Flow) → MeetsWithin n again → MeetsWithin (suc n) (turn more statements advance again)
  turn_meets n again meets store rest less of = framed store.task store.frames rest less of
    where
      framed : (task : ℕ) (frames : List (List Cell)) (rest : List Answer) → length rest ≤ suc n → IsStoreOf o c (record { task = task; frames = frames }) →
          Meets o c end (at c top [] (record { task = task; frames = frames })) rest (turn more statements advance again (record { task = task; frames = frames }) rest)
      framed task [] rest less of = absurd of.cells
      framed task (cells ∷ lower) [] less of =
          row_within o c c end top [] cells (stack c.callers lower) instr.Turn [] (Needs action.Turn) is
          (λ e. offered_from o action.Turn (λ answer. frame_at c (top + 1) [] cells ∷ stack c.callers lower))
      framed task (cells ∷ lower) (answer ∷ left) less of =
          let store : Store = record { task = task; frames = cells ∷ lower } in
          let m = bind more (λ going. if going then bind statements (λ flow. after_turn flow (bind advance (λ on. if on then again else gives Normal))) else gives Normal) store left in
          row_within o c c end top [] cells (stack c.callers lower) instr.Turn (answer ∷ left) m is
          (heard_meets o c end (frame_at c top [] cells ∷ stack c.callers lower) action.Turn (λ answer. frame_at c (top + 1) [] cells ∷ stack c.callers lower) answer left m
          (turned n again meets store left (omega (arith, less)) of))

  turns_meet : (n : ℕ) → MeetsWithin n (turns n more statements advance)
  turns_meet zero store rest less of = framed store.task store.frames rest less of
    where
      framed : (task : ℕ) (frames : List (List Cell)) (rest : List Answer) → length rest ≤ zero → IsStoreOf o c (record { task = task; frames = frames }) →
          Meets o c end (at c top [] (record { task = task; frames = frames })) rest (Needs action.Turn)
      framed task [] rest less of = absurd of.cells
      framed task (cells ∷ lower) [] less of =
          row_within o c c end top [] cells (stack c.callers lower) instr.Turn [] (Needs action.Turn) is
          (λ e. offered_from o action.Turn (λ answer. frame_at c (top + 1) [] cells ∷ stack c.callers lower))
      framed task (cells ∷ lower) (answer ∷ left) less of = absurd (omega (arith, less))
  turns_meet (suc n) store rest less of = turn_meets n (turns n more statements advance) (turns_meet n) store rest less of

  -- as many turns as there are answers are enough
  pub repeats_carry : Carries o c end (at c top []) (repeats more statements advance)
  repeats_carry = record { over = λ store rest of. turns_meet (length rest) store rest (omega arith) of }
