-- Where an expression or a statement stands: in a routine of a program, whose procedures do something when they are called.
use Rattle.std.specs.Prelude.{ℕ, List, take, Option, Some, None, option_map, option_and_then, slice_get}
use Rattle.pearl_value.specs.declared.kind.Kind.{Kind}
use Rattle.pearl_value.specs.declared.kind.CellKind.{CellKind}
use Rattle.pearl_value.specs.declared.kind.CellKind.TheVariants.{Plain, RefTo}
use Rattle.pearl_value.specs.declared.cell.Cell.{Cell}
use Rattle.pearl_format.specs.declared.item.Item.{Item}
use Rattle.pearl_rules.specs.Tables.{items_or_none, output_kind}
use Rattle.pearl_program.specs.declared.expression.Target.TheVariants.{Leaf, Own, Param}
use Rattle.pearl_program.specs.PlainExpressions.{PlainVariable, OfVariable}
use Rattle.pearl_program.specs.PlainPrograms.{PlainProcedure, PlainProg}
use Rattle.pearl_meaning.specs.Evaluation.{Does}

pub record Setting : Type 0 where
  pub program : PlainProg
  -- the kinds of the routine's cells
  pub cells : List CellKind
  -- what RETURNS says
  pub result : Option Kind
  -- what a call of a procedure with these arguments does, and its result
  pub call : (procedure : ℕ) → List Cell → Does (Option Cell)

-- the kind of the values that a cell holds, and of those to which a reference in it leads
abbrev pub plain_kind : CellKind → Option Kind
plain_kind (Plain kind) = Some kind
plain_kind (RefTo kind) = None

abbrev pub referred_kind : CellKind → Option Kind
referred_kind (Plain kind) = None
referred_kind (RefTo kind) = Some kind

abbrev pub cell_kind : Setting → ℕ → Option Kind
cell_kind setting cell = option_and_then plain_kind (slice_get setting.cells cell)

-- the kind of a variable's elements
abbrev pub variable_kind : Setting → PlainVariable → Option Kind
variable_kind setting (OfVariable (Leaf number) bounds subscripts) =
    option_map (λ leaf. leaf.values.kind) (slice_get setting.program.leaves number)
variable_kind setting (OfVariable (Own cell) bounds subscripts) = cell_kind setting cell
variable_kind setting (OfVariable (Param cell) bounds subscripts) = option_and_then referred_kind (slice_get setting.cells cell)

abbrev pub sent_kind : Setting → ℕ → Option Kind
sent_kind setting device = output_kind (slice_get setting.program.devices device)

-- the items of a format
abbrev pub items_of : Setting → ℕ → List Item
items_of setting format = items_or_none (slice_get setting.program.formats format)

-- a procedure's parameters
abbrev pub params_of : PlainProcedure → List CellKind
params_of procedure = take procedure.params procedure.routine.cells
