-- What is asked of what a name stands for.
use Rattle.std.specs.Prelude.{Bool, true, false, List, Option, Some, None}
use Rattle.pearl_value.specs.declared.kind.Kind.{Kind}
use Rattle.pearl_names.specs.Tables.{Parameter, Sense, Variable, Control, Semaphore, Procedure}

-- a procedure with its parameters, and its result where it has RETURNS
pub record Callee : Type 0 where
  pub parameters : List Parameter
  pub result : Option (Option Kind)

abbrev pub callee_of : Option Sense → Option Callee
callee_of (Some (Procedure parameters result)) = Some (record { parameters = parameters; result = result })
callee_of sense = None

-- INV, or a control variable
abbrev pub is_fixed : Option Sense → Bool
is_fixed (Some (Variable form inv)) = inv
is_fixed (Some (Control kind)) = true
is_fixed sense = false

abbrev pub is_semaphore : Sense → Bool
is_semaphore Semaphore = true
is_semaphore sense = false
