-- The stack with which a task goes on after an answer, and what a reference names.
use Rattle.std.specs.Prelude.{ℕ, List, [], ◌∷◌, Option, Some, None, length, drop}
use Rattle.pearl_value.specs.declared.cell.Cell.{Cell}
use Rattle.pearl_value.specs.declared.cell.Cell.TheVariants.{Ref}
use Rattle.pearl_value.specs.declared.cell.Place.{Place}
use Rattle.pearl_stack.specs.Frames.{Frame}
use Rattle.pearl_format.specs.declared.item.Item.{Item}
use Rattle.pearl_format.specs.Items.{data_count}
use Rattle.pearl_rules.specs.declared.action.Answer.{Answer}
use Rattle.pearl_instructions.specs.declared.instr.Instr.{Instr}
use Rattle.pearl_instructions.specs.declared.instr.Instr.TheVariants.{Write, WriteAt, WriteRef, Activate, Continue, Resume, Put, Send}
use Rattle.pearl_instructions.specs.declared.object.Parts.{Parts as Object}
use Rattle.pearl_instructions.specs.Objects.{items_at}
use Rattle.pearl_instructions.specs.Offers.{as_start, start_or_free, start_kinds, activation_count}
use Rattle.pearl_instructions.specs.Stacks.{Answers}
use Rattle.pearl_instructions.specs.Steps.{Step, Offers, next}

-- so many operands are taken off, and the next instruction comes
abbrev pub gone_on : ℕ → List Frame → List Frame
gone_on n [] = []
gone_on n (f ∷ lower) = next f (drop n f.operands) ∷ lower

-- so many operands are taken off, the value is pushed, and the next instruction comes
abbrev pub gone_on_with : ℕ → Cell → List Frame → List Frame
gone_on_with n x [] = []
gone_on_with n x (f ∷ lower) = next f (x ∷ drop n f.operands) ∷ lower

-- what a reference names
abbrev pub place_in : Cell → Option Place
place_in (Ref kind place) = Some place
place_in x = None

-- the row offers an action of the task with this number that the answer suits
abbrev pub CanHear : Object → ℕ → Step → Answer → Type 0
CanHear o own (Offers action go) answer = Answers o own action answer
CanHear o own step answer = ⊥

abbrev pub count_or_none : Option (List Item) → ℕ
count_or_none None = 0
count_or_none (Some items) = data_count items

-- how many operands an instruction's action takes off, where its answer takes no operand's place
abbrev pub taken_of : Object → Instr → ℕ
taken_of o (Write v) = 1
taken_of o (WriteAt v) = 2
taken_of o WriteRef = 2
taken_of o (Activate a) = activation_count a
taken_of o (Continue c) = length (start_kinds (start_or_free c.once))
taken_of o (Resume form) = length (start_kinds (as_start form))
taken_of o (Put d format) = count_or_none (items_at o format)
taken_of o (Send d) = 1
taken_of o instr = 0
