-- Where the code of expressions, calls and statements ends.
use Rattle.std.specs.Prelude.{◌≡◌, ℕ, ◌<◌, pos, List, [], ◌∷◌, ◌++◌, length, drop, Option, Some, None, option_to_list}
use Rattle.pearl_value.specs.declared.kind.Kind.{Kind}
use Rattle.pearl_value.specs.declared.cell.Cell.{Cell}
use Rattle.pearl_value.specs.declared.cell.Cell.TheVariants.{Fixed}
use Rattle.pearl_program.specs.declared.expression.Bound.{Bound}
use Rattle.pearl_program.specs.Typing.{elements}
use Rattle.pearl_stack.specs.Frames.{Frame}
use Rattle.pearl_meaning.specs.Frames.{Store}
use Rattle.pearl_meaning.specs.Loops.{Flow, Normal, Exit, Return}
use Rattle.pearl_gen_expr.specs.Contexts.{Context, stack, at, back, pushed}
use Rattle.pearl_gen_expr.specs.Carrying.{End}

-- a value lies on the operands
abbrev pub on_top : Context → (place : ℕ) → (operands : List Cell) → End Cell
on_top c place operands = record { stack = λ x. at c place (x ∷ operands); Of = λ x. Unit {0} }

-- so many values lie there, the first one lowest
abbrev pub all_on_top : Context → (place count : ℕ) → (operands : List Cell) → End (List Cell)
all_on_top c place count operands = record { stack = λ xs. at c place (pushed xs operands); Of = λ xs. length xs ≡ count }

-- nothing lies there
abbrev pub done : {X : Type 0} → Context → (place : ℕ) → (operands : List Cell) → End X
done c place operands = record { stack = λ x. at c place operands; Of = λ x. Unit {0} }

-- there is a result exactly where RETURNS stands
abbrev pub IsResult : Option Kind → Option Cell → Type 0
IsResult None None = Unit {0}
IsResult (Some kind) (Some x) = Unit {0}
IsResult returns result = ⊥

-- the result of a call lies there, if there is one
abbrev pub result_on_top : Context → (place : ℕ) → (operands : List Cell) → (returns : Option Kind) → End (Option Cell)
result_on_top c place operands returns =
    record { stack = λ result. at c place (option_to_list result ++ operands); Of = λ result. IsResult returns result }

-- an offset lies there where there are bounds, and it is that of an element
abbrev pub offset_operands : List Bound → Cell → List Cell
offset_operands [] x = []
offset_operands (bound ∷ bounds) x = x ∷ []

abbrev pub IsOffset : List Bound → Cell → Type 0
IsOffset bounds x = (before : ℕ) × (x ≡ Fixed 31 (pos before)) × (before < elements bounds)

abbrev pub offset_on_top : Context → (place : ℕ) → (operands : List Cell) → List Bound → End Cell
offset_on_top c place operands bounds =
    record { stack = λ x. at c place (offset_operands bounds x ++ operands); Of = λ x. IsOffset bounds x }

-- a statement ends in the ordinary way at the next one, by EXIT behind the innermost loop, and by RETURN back at the caller
abbrev pub flow_stack : Context → (next leave : ℕ) → Flow → Store → List Frame
flow_stack c next leave Normal store = at c next [] store
flow_stack c next leave Exit store = at c leave [] store
flow_stack c next leave (Return result) store = stack (back result c.callers) (drop 1 store.frames)

-- RETURN has a value exactly where RETURNS stands
abbrev pub IsFlow : (returns : Option Kind) → Flow → Type 0
IsFlow returns (Return result) = IsResult returns result
IsFlow returns flow = Unit {0}

abbrev pub ways : Context → (next leave : ℕ) → (returns : Option Kind) → End Flow
ways c next leave returns = record { stack = flow_stack c next leave; Of = λ flow. IsFlow returns flow }
