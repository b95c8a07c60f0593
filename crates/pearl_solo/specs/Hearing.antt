-- What the answer to an instruction's action stands on.
use Rattle.std.specs.Prelude.{◌≡◌, ℕ, ◌<◌, ◌≤◌, List, [], ◌∷◌, Option, Some, None, length, slice_get}
use Rattle.pearl_value.specs.declared.cell.Cell.{Cell}
use Rattle.pearl_format.specs.declared.item.Item.{Item}
use Rattle.pearl_format.specs.Items.{data_count}
use Rattle.pearl_rules.specs.declared.action.Answer.{Answer}
use Rattle.pearl_stack.specs.declared.stack.Frame as size
use Rattle.pearl_stack.specs.Frames.{Frame, Stack, top_operands, used}
use Rattle.pearl_instructions.specs.declared.instr.Instr.{Instr}
use Rattle.pearl_instructions.specs.declared.instr.Instr.TheVariants.{Put}
use Rattle.pearl_instructions.specs.declared.object.Parts.{Parts as Object}
use Rattle.pearl_instructions.specs.declared.object.Procedure.{Procedure}
use Rattle.pearl_instructions.specs.Flow.{called}
use Rattle.pearl_instructions.specs.Objects.{items_at}
use Rattle.pearl_instructions.specs.Offers.{with_values}
use Rattle.pearl_instructions.specs.Rows.{after}
use Rattle.pearl_instructions.specs.Stacks.{task_of}
use Rattle.pearl_instructions.specs.Steps.{next}
use Rattle.pearl_solo.specs.Answered.{CanHear}
use Rattle.pearl_silent.specs.Standing.{act_on, StandsAt}

-- the stack stands at this instruction, whose action the answer suits, and there is memory for the stack after it
pub record HearsAt (o : Object) (instr : Instr) (here : size.Frame) (s : Stack) (answer : Answer) : Type 0 where
  pub at : StandsAt o instr here s
  pub suits : CanHear o (task_of o s.frames) (act_on o instr s.frames) answer
  pub room : used (after (act_on o instr s.frames) answer) ≤ s.room
  pub small : used (after (act_on o instr s.frames) answer) ≤ 4096
  pub most : length (after (act_on o instr s.frames) answer) ≤ s.most

-- these values were read into the cells from c on, and the next instruction comes
abbrev pub read_on : ℕ → List Cell → List Frame → List Frame
read_on c xs [] = []
read_on c xs (f ∷ lower) = next (record f { cells = with_values f.cells c xs }) f.operands ∷ lower

-- procedure p is there, with its arguments on top, and there is memory for its frame
pub record Enters (o : Object) (p : ℕ) (s : Stack) : Type 0 where
  pub callee : Procedure
  pub there : slice_get o.procedures p ≡ Some callee
  pub arguments : callee.params ≤ length (top_operands s.frames)
  pub room : used (called p callee s.frames (top_operands s.frames)) ≤ s.room
  pub small : used (called p callee s.frames (top_operands s.frames)) ≤ 4096
  pub most : length s.frames < s.most

abbrev pub HasFew : Option (List Item) → Type 0
HasFew None = ⊥
HasFew (Some items) = data_count items ≤ 64

-- the format that a Put names is there, and takes at most 64 values
abbrev pub HasFormat : Object → Instr → Type 0
HasFormat o (Put d format) = HasFew (items_at o format)
HasFormat o instr = Unit {0}
