-- Where a task stands, apart from what its cells hold: these are its own variables.
use Rattle.std.specs.Prelude.{◌≡◌, ℕ, ◌+◌, ◌≤◌, List, [], ◌∷◌, ◌++◌, length, map, Option, option_to_list}
use Rattle.std.specs.List.{AllZip}
use Rattle.pearl_value.specs.declared.cell.Cell.{Cell}
use Rattle.pearl_stack.specs.Frames.{Frame}
use Rattle.pearl_instructions.specs.declared.object.Parts.{Parts as Object}
use Rattle.pearl_instructions.specs.Stacks.{cell_kinds}
use Rattle.pearl_meaning.specs.Frames.{Store}

-- a frame without its cells
pub record Standing : Type 0 where
  pub routine : ℕ
  pub place : ℕ
  pub operands : List Cell

-- the stack of a task that stands so, with these cells in its frames
abbrev pub stack : List Standing → List (List Cell) → List Frame
stack [] cells = []
stack (standing ∷ lower) [] = []
stack (standing ∷ lower) (cells ∷ more) =
    record { routine = standing.routine; place = standing.place; cells = cells; operands = standing.operands } ∷ stack lower more

-- The routine at work, and how those stand that called it, the last caller first and the task itself last: each at its Call, without
-- the arguments.
pub record Context : Type 0 where
  pub routine : ℕ
  pub callers : List Standing

-- the stack of a task whose routine at work is at this instruction, with these operands
abbrev pub at : Context → (place : ℕ) → (operands : List Cell) → Store → List Frame
at c place operands store = stack (record { routine = c.routine; place = place; operands = operands } ∷ c.callers) store.frames

-- the callers once a routine that they called has given this result, if it gives one
abbrev pub back : Option Cell → List Standing → List Standing
back result [] = []
back result (caller ∷ callers) = record caller { place = caller.place + 1; operands = option_to_list result ++ caller.operands } ∷ callers

-- the context of a procedure that is called at this instruction, with these operands below its arguments
abbrev pub within_call : Context → (procedure place : ℕ) → (operands : List Cell) → Context
within_call c procedure place operands =
    record { routine = procedure; callers = record { routine = c.routine; place = place; operands = operands } ∷ c.callers }

-- the routine of the lowest frame
abbrev pub lowest : ℕ → List Standing → ℕ
lowest routine [] = routine
lowest routine (caller ∷ callers) = lowest caller.routine callers

-- the routines of all frames
abbrev pub routines : Context → List ℕ
routines c = c.routine ∷ map (λ (caller : Standing). caller.routine) c.callers

-- a frame of this routine has a cell for each of the routine's
abbrev pub HasCells : Object → ℕ → List Cell → Type 0
HasCells o routine cells = length (cell_kinds o routine) ≤ length cells

-- there are as many frames, each has its cells, and the lowest routine is that of the task
pub record IsStoreOf (o : Object) (c : Context) (store : Store) : Type 0 where
  pub cells : AllZip (HasCells o) (routines c) store.frames
  pub task : lowest c.routine c.callers ≡ length o.procedures + store.task

-- values are pushed in order on these operands
abbrev pub pushed : List Cell → List Cell → List Cell
pushed [] operands = operands
pushed (x ∷ xs) operands = pushed xs (x ∷ operands)
