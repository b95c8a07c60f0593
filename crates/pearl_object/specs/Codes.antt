-- How the code of a routine is spelled.
use Rattle.std.specs.Prelude.{ℕ, ◌-◌, ◌^◌, Bool, true, nat_lt, List, Option, Some, None}
use Rattle.pearl_value.specs.declared.kind.CellKind.{CellKind}
use Rattle.pearl_instructions.specs.declared.instr.Instr.{Instr}
use Rattle.pearl_instructions.specs.declared.object.Shape.{Shape}
use Rattle.pearl_instructions.specs.declared.object.Code.{Code}
use Rattle.pearl_fields.specs.Codec.{Codec, number, guarded, shaped, pair, counted}
use Rattle.pearl_object.specs.declared.states.Last.{Last}
use Rattle.pearl_object.specs.Lists.{each}
use Rattle.pearl_object.specs.Kinds.{cell_kind, cell_of, after_cell}
use Rattle.pearl_object.specs.Instructions.{instr}

-- a number is above the one before, if there is one
abbrev pub above : Option ℕ → ℕ → Bool
above None n = true
above (Some m) n = nat_lt m n

-- the numbers of the instructions rise
unfoldable pub shape : Last → Codec Shape
shape last =
    shaped (λ s. (s.instruction, s.kinds)) (λ p. record { instruction = p.0; kinds = p.1 })
    (pair (guarded (above last.number) number) (λ n. each (cell_kind true)))

abbrev pub first_shape : Last
first_shape = record { number = None }

abbrev pub after_shape : Last → Shape → Last
after_shape last s = record { number = Some s.instruction }

abbrev pub code_fields : Code → List CellKind × (ℕ × (List Instr × List Shape))
code_fields c = (c.cells, (c.depth, (c.instructions, c.shapes)))

abbrev pub made_code : List CellKind × (ℕ × (List Instr × List Shape)) → Code
made_code p = record { cells = p.0; depth = p.1.0; instructions = p.1.1.0; shapes = p.1.1.1 }

-- the cells of a routine with so many parameters; there are at least as many cells
abbrev pub cells : ℕ → Codec (List CellKind)
cells params = counted params (2 ^ 64 - 1) (cell_kind true).bytes cell_of after_cell (record { left = params })

abbrev pub shapes : Codec (List Shape)
shapes = counted 0 (2 ^ 64 - 1) (shape first_shape).bytes shape after_shape first_shape

-- of a routine with so many parameters
unfoldable pub code : ℕ → Codec Code
code params =
    shaped code_fields made_code
    (pair (cells params) (λ kinds. pair number (λ depth. pair (each instr) (λ instructions. shapes))))
