-- Silent rows, one after the other, and where they end.
use Rattle.std.specs.Prelude.{◌≡◌, ◌≤◌, ℕ, zero, suc, List, [], ◌∷◌, Option, Some, None, option_map, Result, Ok, Err}
use Rattle.pearl_value.specs.declared.trap.Trap.{Trap}
use Rattle.pearl_rules.specs.declared.action.Action.TheVariants as action
use Rattle.pearl_rules.specs.declared.action.Answer.{Answer}
use Rattle.pearl_stack.specs.Frames.{Frame}
use Rattle.pearl_instructions.specs.declared.instr.Instr.{Instr}
use Rattle.pearl_instructions.specs.declared.object.Parts.{Parts as Object}
use Rattle.pearl_instructions.specs.Objects.{routine_at}
use Rattle.pearl_instructions.specs.Rows.{row}
use Rattle.pearl_instructions.specs.Steps.{Silent, Offers}
use Rattle.pearl_silent.specs.Standing.{family, instr_of}

-- so many silent rows lead from one stack to another
abbrev pub Silently : Object → ℕ → List Frame → List Frame → Type 0
Silently o zero frames last = frames ≡ last
Silently o (suc n) frames last = (middle : List Frame) × Silently o n frames middle × (row o middle ≡ Silent last)

-- the row offers this trap, or the instruction is of a family that may offer another action
abbrev pub Ends : Object → List Frame → Option Trap → Type 0
Ends o last (Some trap) = (go : Answer → List Frame) × (row o last ≡ Offers (action.Trap trap) go)
Ends o last None = (instr : Instr) × (instr_of o last ≡ Some instr) × (2 ≤ family instr)

-- the trap at which instructions ended, none where it is something else
abbrev pub trap_of : {A : Type 0} → Result A Trap → Option Trap
trap_of (Ok x) = None
trap_of (Err trap) = Some trap

-- silent rows lead from one stack to another, where they end so
pub record RunsTo (o : Object) (frames last : List Frame) (end : Option Trap) : Type 0 where
  pub rows : ℕ
  pub silent : Silently o rows frames last
  pub ends : Ends o last end

-- the instructions of the top frame's routine
abbrev pub instructions_of : Object → List Frame → Option (List Instr)
instructions_of o [] = None
instructions_of o (f ∷ lower) = option_map (λ code. code.instructions) (routine_at o f.routine)
