-- Whose stack a task's code stands with, and how soon it offers an action.
use Rattle.std.specs.Prelude.{◌≡◌, ◌⊎◌, ℕ, zero, suc, ◌≤◌, List, length}
use Rattle.pearl_stack.specs.Frames.{Frame}
use Rattle.pearl_instructions.specs.declared.object.Parts.{Parts as Object}
use Rattle.pearl_instructions.specs.Rows.{row}
use Rattle.pearl_instructions.specs.Stacks.{IsStack, task_of}
use Rattle.pearl_instructions.specs.Steps.{Step, Silent, Offers, Missing}
use Rattle.pearl_instructions.specs.Engines.{total_rows}

-- a stack of the object that is task t's
pub record IsStackOf (o : Object) (t : ℕ) (frames : List Frame) : Type 0 where
  pub stack : IsStack o frames
  pub task : task_of o frames ≡ t

-- the object has no task t, and so no row for it
pub record HasNone (o : Object) (t : ℕ) (frames : List Frame) : Type 0 where
  pub past : length o.tasks ≤ t
  pub missing : row o frames ≡ Missing

-- where the code of task t stands, at whatever instruction
abbrev pub StandsIn : Object → ℕ → List Frame → Type 0
StandsIn o t frames = IsStackOf o t frames ⊎ HasNone o t frames

-- how many silent rows come, of the next so many
abbrev pub one_more : (List Frame → ℕ) → Step → ℕ
one_more more (Silent frames) = suc (more frames)
one_more more (Offers action go) = 0
one_more more Missing = 0

abbrev pub silent_rows : Object → ℕ → List Frame → ℕ
silent_rows o zero frames = 0
silent_rows o (suc n) frames = one_more (silent_rows o n) (row o frames)

-- how many rows are silent before an action is offered
abbrev pub rows_left : Object → List Frame → ℕ
rows_left o frames = silent_rows o (total_rows o) frames
