-- Which kinds operands and cells must have (V3 to V5), and the kinds of what an instruction pushes.
use Rattle.std.specs.Prelude.{ℕ, Bool, true, false, ◌&&◌, not, List, [], ◌∷◌, ◌++◌, Option, Some, None, is_some, option_map, option_and_then, option_to_list, length, take, drop, reverse, slice_get}
use Rattle.std.specs.List.{list_all}
use Rattle.pearl_value.specs.declared.kind.Kind.{Kind}
use Rattle.pearl_value.specs.declared.kind.CellKind.{CellKind}
use Rattle.pearl_value.specs.declared.kind.CellKind.TheVariants.{Plain, RefTo}
use Rattle.pearl_value.specs.declared.operator.Monad.{Monad}
use Rattle.pearl_value.specs.declared.operator.Dyad.{Dyad}
use Rattle.pearl_value.specs.Rows.{row1, row2}
use Rattle.pearl_value.specs.declared.device.Device.{Device}
use Rattle.pearl_value.specs.declared.device.Device.TheVariants.{Input, Output}
use Rattle.pearl_instructions.specs.declared.instr.Instr.{Instr}
use Rattle.pearl_instructions.specs.declared.object.Leaf.{Leaf}
use Rattle.pearl_instructions.specs.declared.object.Code.{Code}
use Rattle.pearl_instructions.specs.declared.object.Procedure.{Procedure}
use Rattle.pearl_instructions.specs.declared.object.Parts.{Parts as Object}
use Rattle.pearl_value.specs.Conversions.{suits_kind}
use Rattle.pearl_instructions.specs.Opcodes.{Exact, AnyKinds, KindOfCells, KindOfLeaf, KindReferred, KindSent, KindsOfParameters, CellsOf, FixedCells, Operation, NoOperation, Conversion, OnOne, OnTwo, Pushes, NoValue, Made, AValue, OfCell, OfLeaf, ToCell, ToLeaf, OfReferred, SameAgain, OfProcedure, OfInput, opcode}
use Rattle.pearl_instructions.specs.Operands.{Shape, same_cell, same_shape, is_fixed, is_reference, asked}
use Rattle.pearl_instructions.specs.Named.{get_cells, range_of}

-- the kind of an operand that is no reference
abbrev pub plain_kind : CellKind → Option Kind
plain_kind (Plain of) = Some of
plain_kind (RefTo of) = None

abbrev pub monadic_kind : Monad → Shape → Option Kind
monadic_kind op [] = None
monadic_kind op (x ∷ left) = option_and_then (row1 op) (plain_kind x)

abbrev pub dyadic_kind : Dyad → Shape → Option Kind
dyadic_kind op (y ∷ x ∷ left) = option_and_then (λ of_x. option_and_then (λ of_y. row2 op of_x of_y) (plain_kind y)) (plain_kind x)
dyadic_kind op s = None

abbrev pub converts : Kind → Shape → Bool
converts to (Plain from ∷ left) = suits_kind from to
converts to s = false

abbrev pub applies : Operation → Shape → Bool
applies NoOperation s = true
applies (Conversion to) s = converts to s
applies (OnOne op) s = is_some (monadic_kind op s)
applies (OnTwo op) s = is_some (dyadic_kind op s)

-- V3: an operator has a row for the kinds, and a conversion's kinds suit
abbrev pub v3 : Instr → Shape → Bool
v3 instr s = applies (opcode instr).operation s

abbrev pub kind_sent : Option Device → Option CellKind
kind_sent (Some (Output number of)) = Some (Plain of)
kind_sent device = None

abbrev pub kind_taken : Option Device → Option CellKind
kind_taken (Some (Input number of)) = Some (Plain of)
kind_taken device = None

abbrev pub leaf_kind : Option Leaf → Option CellKind
leaf_kind leaf = option_map (λ l. Plain l.kind) leaf

-- what a reference refers to
abbrev pub referred : CellKind → CellKind
referred (Plain of) = Plain of
referred (RefTo of) = Plain of

abbrev pub is_kind : CellKind → Option CellKind → Bool
is_kind k None = false
is_kind k (Some other) = same_cell k other

-- the value on top is exactly of this kind
abbrev pub has_on_top : Shape → Option CellKind → Bool
has_on_top [] want = false
has_on_top (x ∷ left) want = is_kind x want

-- the value on top is exactly of the kind that the reference below it refers to
abbrev pub suits_reference : Shape → Bool
suits_reference (x ∷ r ∷ left) = same_cell x (referred r)
suits_reference s = false

abbrev pub suits_parameters : Option Procedure → Shape → Bool
suits_parameters None s = false
suits_parameters (Some callee) s = same_shape (reverse (take callee.params s)) (take callee.params callee.code.cells)

-- the cells of a range are all of one kind
abbrev pub is_uniform : List CellKind → Bool
is_uniform [] = true
is_uniform (k ∷ kinds) = list_all (same_cell k) kinds

abbrev pub are_fixed : List CellKind → Bool
are_fixed kinds = list_all is_fixed kinds

abbrev pub first_kind : List CellKind → Option CellKind
first_kind kinds = slice_get kinds 0

abbrev pub is_exact : Object → List CellKind → Exact → Shape → Bool
is_exact o cells AnyKinds s = true
is_exact o cells KindOfCells s = has_on_top s (first_kind cells)
is_exact o cells (KindOfLeaf v) s = has_on_top s (leaf_kind (slice_get o.leaves v))
is_exact o cells KindReferred s = suits_reference s
is_exact o cells (KindSent d) s = has_on_top s (kind_sent (slice_get o.devices d))
is_exact o cells (KindsOfParameters p) s = suits_parameters (slice_get o.procedures p) s
is_exact o cells (CellsOf of) s = is_kind (Plain of) (first_kind cells)
is_exact o cells FixedCells s = are_fixed cells

-- a value's kind is exactly that of the cell, leaf, reference, parameter or device; the cells of a loop are FIXED
abbrev pub suits_exactly : Object → Code → Instr → Shape → Bool
suits_exactly o code instr s = is_exact o (range_of code instr) (opcode instr).exact s

-- V4: exact kinds, and ranges of one kind
abbrev pub v4 : Object → Code → Instr → Shape → Bool
v4 o code instr s = is_uniform (range_of code instr) && suits_exactly o code instr s

-- V5: no cell of a range is a reference
abbrev pub v5 : Object → Code → Instr → Bool
v5 o code instr = list_all (λ k. not (is_reference k)) (range_of code instr ++ get_cells o code instr)

abbrev pub reference_to : CellKind → CellKind
reference_to (Plain of) = RefTo of
reference_to (RefTo of) = RefTo of

abbrev pub kind_made : Operation → Shape → Option CellKind
kind_made NoOperation s = None
kind_made (Conversion to) s = Some (Plain to)
kind_made (OnOne op) s = option_map Plain (monadic_kind op s)
kind_made (OnTwo op) s = option_map Plain (dyadic_kind op s)

abbrev pub kind_pushed : Object → Code → Operation → Pushes → Shape → Option CellKind
kind_pushed o code by NoValue s = None
kind_pushed o code by Made s = kind_made by s
kind_pushed o code by (AValue k) s = Some k
kind_pushed o code by (OfCell c) s = slice_get code.cells c
kind_pushed o code by (OfLeaf v) s = leaf_kind (slice_get o.leaves v)
kind_pushed o code by (ToCell c) s = option_map reference_to (slice_get code.cells c)
kind_pushed o code by (ToLeaf v) s = option_map reference_to (leaf_kind (slice_get o.leaves v))
kind_pushed o code by OfReferred s = option_map referred (first_kind s)
kind_pushed o code by SameAgain s = first_kind s
kind_pushed o code by (OfProcedure p) s = option_map Plain (option_and_then (λ callee. callee.result) (slice_get o.procedures p))
kind_pushed o code by (OfInput d) s = kind_taken (slice_get o.devices d)

-- the kind of what an instruction pushes, where it pushes something
abbrev pub pushed_kind : Object → Code → Instr → Shape → Option CellKind
pushed_kind o code instr s = kind_pushed o code (opcode instr).operation (opcode instr).pushes s

-- the shape below an instruction's operands
abbrev pub below : Object → ℕ → Instr → Shape → Shape
below o r instr s = drop (length (asked o r instr)) s

-- the shape after an instruction
abbrev pub shape_after : Object → ℕ → Code → Instr → Shape → Shape
shape_after o r code instr s = option_to_list (pushed_kind o code instr s) ++ below o r instr s
