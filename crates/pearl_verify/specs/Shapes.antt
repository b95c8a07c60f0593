-- The shape before an instruction, and what is kept where it was looked up.
use Rattle.std.specs.Prelude.{◌≡◌, ℕ, nat_lt, if◌then◌else◌, List, [], Option, Some, None, length}
use Rattle.pearl_instructions.specs.declared.object.Code.{Code}
use Rattle.pearl_instructions.specs.declared.object.Parts.{Parts as Object}
use Rattle.pearl_instructions.specs.Operands.{Shape}
use Rattle.pearl_instructions.specs.Objects.{routine_at}
use Rattle.pearl_instructions.specs.Valid.{shape_before}
use Rattle.pearl_verify.specs.declared.lookup.Walk.{Walk}
use Rattle.pearl_verify.specs.Jumps.{HoldsJumps}
use Rattle.pearl_verify.specs.Numbers.{IsNumbered}

abbrev pub shape_in : Object → (r i : ℕ) → Option Code → Option Shape
shape_in o r i None = None
shape_in o r i (Some code) = if nat_lt i (length code.instructions) then Some (shape_before o r code i) else None

-- the shape before instruction i of routine r, where there is one
abbrev pub shape_at : Object → (r i : ℕ) → Option Shape
shape_at o r i = shape_in o r i (routine_at o r)

-- an object, and the shape that was looked up in it last
pub record Sight : Type 0 where
  pub object : Object
  pub shape : Shape

abbrev pub shape_kept : Option Walk → Shape
shape_kept None = []
shape_kept (Some w) = w.running.kinds

-- what is kept is that of the instruction, in this code
pub record Keeps (o : Object) (code : Code) (w : Walk) : Type 0 where
  pub jumps : HoldsJumps code w.jumps
  pub kinds : w.running.kinds ≡ shape_before o w.routine code w.place
  pub numbered : IsNumbered w.jumps.tree.edges w.running

-- in the code of its routine
pub record IsWalk (o : Object) (w : Walk) : Type 0 where
  pub code : Code
  pub routine : routine_at o w.routine ≡ Some code
  pub keeps : Keeps o code w
