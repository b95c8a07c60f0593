-- Which operands each instruction takes from the end of the shape before it. A shape has the kinds of the operands, from the top down.
use Rattle.std.specs.Prelude.{ℕ, Bool, true, false, ◌&&◌, ◌==◌, List, [], ◌∷◌, Option, Some, None, replicate, slice_get}
use Rattle.pearl_value.specs.declared.kind.Kind.{Kind}
use Rattle.pearl_value.specs.declared.kind.Kind.TheVariants as kind
use Rattle.pearl_value.specs.declared.kind.CellKind.{CellKind}
use Rattle.pearl_value.specs.declared.kind.CellKind.TheVariants.{Plain, RefTo}
use Rattle.pearl_format.specs.declared.item.Item.{Item}
use Rattle.pearl_format.specs.Items.{data_count}
use Rattle.pearl_instructions.specs.declared.instr.Instr.{Instr}
use Rattle.pearl_instructions.specs.declared.object.Procedure.{Procedure}
use Rattle.pearl_instructions.specs.declared.object.Parts.{Parts as Object}
use Rattle.pearl_instructions.specs.Objects.{items_at, result_of}
use Rattle.pearl_instructions.specs.Opcodes.{Asked, Anything, SomeFixed, SomeReference, Exactly, Takes, These, Arguments, OwnResult, Values, opcode}

abbrev pub Shape : Type 0
Shape = List CellKind

abbrev pub same_kind : Kind → Kind → Bool
same_kind (kind.Fixed a) (kind.Fixed b) = a == b
same_kind (kind.Bits a) (kind.Bits b) = a == b
same_kind (kind.Chars a) (kind.Chars b) = a == b
same_kind kind.Clock kind.Clock = true
same_kind kind.Span kind.Span = true
same_kind a b = false

abbrev pub same_cell : CellKind → CellKind → Bool
same_cell (Plain a) (Plain b) = same_kind a b
same_cell (RefTo a) (RefTo b) = same_kind a b
same_cell a b = false

abbrev pub same_shape : Shape → Shape → Bool
same_shape [] [] = true
same_shape (a ∷ xs) (b ∷ ys) = same_cell a b && same_shape xs ys
same_shape xs ys = false

abbrev pub is_fixed : CellKind → Bool
is_fixed (Plain (kind.Fixed len)) = true
is_fixed k = false

abbrev pub is_reference : CellKind → Bool
is_reference (Plain of) = false
is_reference (RefTo of) = true

abbrev pub meets : Asked → CellKind → Bool
meets Anything k = true
meets SomeFixed k = is_fixed k
meets SomeReference k = is_reference k
meets (Exactly of) k = same_cell (Plain of) k

abbrev pub arguments_asked : Option Procedure → List Asked
arguments_asked None = []
arguments_asked (Some procedure) = replicate procedure.params Anything

abbrev pub values_asked : Option (List Item) → List Asked
values_asked None = []
values_asked (Some items) = replicate (data_count items) Anything

abbrev pub result_asked : Option Kind → List Asked
result_asked None = []
result_asked (Some of) = Anything ∷ []

abbrev pub taken_by : Object → ℕ → Takes → List Asked
taken_by o r (These wants) = wants
taken_by o r (Arguments p) = arguments_asked (slice_get o.procedures p)
taken_by o r OwnResult = result_asked (result_of o r)
taken_by o r (Values format) = values_asked (items_at o format)

-- what an instruction of routine r asks of the operands, the top one first
abbrev pub asked : Object → ℕ → Instr → List Asked
asked o r instr = taken_by o r (opcode instr).takes

-- V2: the shape's end is what the table asks
abbrev pub v2 : List Asked → Shape → Bool
v2 [] s = true
v2 (want ∷ wants) [] = false
v2 (want ∷ wants) (k ∷ left) = meets want k && v2 wants left
