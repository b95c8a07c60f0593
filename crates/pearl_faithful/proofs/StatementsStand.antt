-- Where a statement stands: in a routine of a sound program's object.
use Rattle.std.specs.Prelude.{◌≡◌, ℕ, ◌<◌, false, List, [], length, Option, Some, None, IfSome, slice_get, option_map, option_and_then}
use Rattle.std.proofs.Common.{refl, sym, ap, ◌∙◌, subst}
use Rattle.std.specs.List.{AllByRecursion}
use Rattle.std.proofs.lemmas.Option.{slice_get-map}
use Rattle.pearl_value.specs.declared.kind.Kind.{Kind}
use Rattle.pearl_value.specs.declared.kind.CellKind.{CellKind}
use Rattle.pearl_value.specs.declared.kind.CellKind.TheVariants.{Plain, RefTo}
use Rattle.pearl_value.specs.Kinds.{IsKind}
use Rattle.pearl_program.specs.declared.expression.Target.TheVariants.{Leaf as LeafOf, Own, Param}
use Rattle.pearl_program.specs.declared.expression.Bound.{Bound}
use Rattle.pearl_value.specs.declared.device.Device.{Device}
use Rattle.pearl_value.specs.declared.device.Device.TheVariants.{Interrupt, Terminal, Input, Output}
use Rattle.pearl_program.specs.PlainExpressions.{PlainExpr, PlainVariable, OfVariable, PlainExprs, NoExprs}
use Rattle.pearl_program.specs.PlainStatements.{PlainCounter}
use Rattle.pearl_program.specs.PlainPrograms.{PlainLeaf}
use Rattle.pearl_program.specs.Typing.{Around, elements, IsVariable, IsLeafOf, IsParam, AreCells, HasValueFor}
use Rattle.pearl_program.specs.SoundStatements.{within, IsReturn, IsOutput}
use Rattle.pearl_value.specs.Devices.{IsDevice}
use Rattle.pearl_program.specs.Sound.{IsLeaf, IsCellKind}
use Rattle.pearl_rules.specs.Tables.{output_kind}
use Rattle.pearl_meaning.specs.Setting.{Setting, plain_kind, referred_kind, cell_kind, variable_kind, sent_kind}
use Rattle.pearl_instructions.specs.declared.object.Code.{Code}
use Rattle.pearl_instructions.specs.declared.object.Parts.{Parts as Object}
use Rattle.pearl_instructions.specs.Objects.{is_task, result_of}
use Rattle.pearl_gen_expr.specs.Shapes.{IsPlaced}
use Rattle.pearl_gen_expr.proofs.Offered.{each, first_is_plain, some_elements}

-- what RETURNS says is the same everywhere, and only a procedure has it
abbrev pub IsReturning : Object → ℕ → Setting → Option Kind → Type 0
IsReturning o r setting returns = (returns ≡ setting.result) × (result_of o r ≡ returns) × (is_task o r ≡ false)

pub record Stands (o : Object) (r : ℕ) (code : Code) (setting : Setting) (around : Around) (below : ℕ) : Type 0 where
  pub placed : IsPlaced o r code setting.program around below
  pub cells : setting.cells ≡ around.cells
  pub lawful : AllByRecursion IsCellKind around.cells
  pub devices : around.devices ≡ setting.program.devices
  pub formats : around.formats ≡ setting.program.formats
  pub tasks : around.tasks ≡ length setting.program.tasks
  pub returns : IfSome around.returns (IsReturning o r setting)
  pub result : IfSome setting.result IsKind

-- within a loop
pub within_loop : (o : Object) (r : ℕ) (code : Code) (setting : Setting) (around : Around) (below : ℕ) (counter : Option PlainCounter) → Stands o r code setting around below →
    Stands o r code setting (within around counter) below
within_loop o r code setting around below counter stands = record {
  placed = record {
    sound = stands.placed.sound;
    tables = stands.placed.tables;
    stands = record { leaves = stands.placed.stands.leaves; procedures = stands.placed.stands.procedures };
    cells = stands.placed.cells;
    semaphores = stands.placed.semaphores;
    depth = stands.placed.depth;
    smaller = stands.placed.smaller;
  };
  cells = stands.cells;
  lawful = stands.lawful;
  devices = stands.devices;
  formats = stands.formats;
  tasks = stands.tasks;
  returns = stands.returns;
  result = stands.result;
}

-- a procedure with RETURNS gives a value of its kind back
pub return_typed : (around : Around) (returns : Option (Option Kind)) (e : PlainExpr) → IsReturn around returns (Some e) →
    (to : Kind) × (returns ≡ Some (Some to)) × HasValueFor around e to
return_typed around (Some (Some to)) e is = (to, refl, is)
return_typed around (Some None) e is = absurd is
return_typed around None e is = absurd is

pub return_bare : (around : Around) (returns : Option (Option Kind)) → IsReturn around returns None → returns ≡ Some None
return_bare around (Some None) is = refl
return_bare around (Some (Some to)) is = absurd is
return_bare around None is = absurd is

pub output_is : (found : Option Device) (kind : Kind) → IsOutput found kind → (number : ℕ) × (found ≡ Some (Output number kind))
output_is (Some (Output number of)) kind is = (number, ap (λ of. Some (Output number of)) is)
output_is (Some (Interrupt number)) kind is = absurd is
output_is (Some (Terminal number direction)) kind is = absurd is
output_is (Some (Input number of)) kind is = absurd is
output_is None kind is = absurd is

leaf_known : (found : Option PlainLeaf) (bounds : List Bound) (kind : Kind) → IsLeafOf found bounds kind → (leaf : PlainLeaf) × (found ≡ Some leaf) × (leaf.values.kind ≡ kind)
leaf_known None bounds kind is = absurd is
leaf_known (Some leaf) bounds kind is = (leaf, refl, is.0)

pub param_known : (found : Option CellKind) (bounds : List Bound) (es : PlainExprs) (kind : Kind) → IsParam found bounds es kind → found ≡ Some (RefTo kind)
param_known (Some (RefTo of)) [] NoExprs kind is = ap (λ of. Some (RefTo of)) is
param_known found bounds es kind is = absurd is

module _ (o : Object) (r : ℕ) (code : Code) (setting : Setting) (around : Around) (below : ℕ) (stands : Stands o r code setting around below) where
  pub setting_cells : setting.cells ≡ code.cells
  setting_cells = stands.cells ∙ stands.placed.cells

  pub cell_is : (cell : ℕ) (k : CellKind) → slice_get code.cells cell ≡ Some k → slice_get setting.cells cell ≡ Some k
  cell_is cell k there = ap (λ cells. slice_get cells cell) setting_cells ∙ there

  pub cell_lawful : (cell : ℕ) (k : CellKind) → slice_get code.cells cell ≡ Some k → IsCellKind k
  cell_lawful cell k there = each IsCellKind around.cells cell k stands.lawful (ap (λ cells. slice_get cells cell) stands.placed.cells ∙ there)

  pub own_is : (cell : ℕ) (kind : Kind) (n : ℕ) → 0 < n → AreCells around.cells cell n (Plain kind) → slice_get code.cells cell ≡ Some (Plain kind)
  own_is cell kind n some are = first_is_plain code cell n kind some (subst (λ cells. AreCells cells cell n (Plain kind)) stands.placed.cells are)

  pub own_kind_is : (cell : ℕ) (kind : Kind) (n : ℕ) → 0 < n → AreCells around.cells cell n (Plain kind) → cell_kind setting cell ≡ Some kind
  own_kind_is cell kind n some are = ap (λ found. option_and_then plain_kind found) (cell_is cell (Plain kind) (own_is cell kind n some are))

  -- a variable's kind is what is said of it, and it is one
  pub variable_is : (target : PlainVariable) (kind : Kind) → IsVariable around target kind → (variable_kind setting target ≡ Some kind) × IsKind kind
  variable_is (OfVariable (LeafOf number) bounds es) kind is =
      let leaf = leaf_known (slice_get around.leaves number) bounds kind is.0 in
      let there : slice_get setting.program.leaves number ≡ Some leaf.0 = ap (λ leaves. slice_get leaves number) (sym stands.placed.stands.leaves) ∙ leaf.1 in (
        ap (λ found. option_map (λ (leaf : PlainLeaf). leaf.values.kind) found) there ∙ ap Some leaf.2,
        subst IsKind leaf.2 (each IsLeaf setting.program.leaves number leaf.0 stands.placed.sound.leaves there).values.kind,
      )
  variable_is (OfVariable (Own cell) bounds es) kind is =
      (own_kind_is cell kind (elements bounds) (some_elements bounds) is.0.0, cell_lawful cell (Plain kind) (own_is cell kind (elements bounds) (some_elements bounds) is.0.0))
  variable_is (OfVariable (Param cell) bounds es) kind is =
      let param = ap (λ cells. slice_get cells cell) (sym stands.placed.cells) ∙ param_known (slice_get around.cells cell) bounds es kind is in
      (ap (λ found. option_and_then referred_kind found) (cell_is cell (RefTo kind) param), cell_lawful cell (RefTo kind) param)

  -- and so is what an output takes
  pub sent_is : (device : ℕ) (kind : Kind) → IsOutput (slice_get around.devices device) kind → (sent_kind setting device ≡ Some kind) × IsKind kind
  sent_is device kind is =
      let found = output_is (slice_get around.devices device) kind is in
      let there : slice_get setting.program.devices device ≡ Some (Output found.0 kind) = ap (λ devices. slice_get devices device) (sym stands.devices) ∙ found.1 in
      (ap output_kind there, (each IsDevice setting.program.devices device (Output found.0 kind) stands.placed.sound.devices there).2)

  -- the devices of the object are those of the program
  pub devices_there : (number : ℕ) → slice_get o.devices number ≡ slice_get around.devices number
  devices_there number =
      ap (λ devices. slice_get devices number) stands.placed.tables.devices ∙ ap (λ devices. slice_get devices number) (sym stands.devices)
