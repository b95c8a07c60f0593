-- When the names of a module lead to what is there in a program, and when the literals of an expression are values.
use Rattle.std.specs.Prelude.{◌≡◌, ℕ, ◌<◌, ◌≤◌, Bool, true, false, List, [], ◌∷◌, length, Option, Some, unwrap_or, slice_get}
use Rattle.std.specs.Option.{option_and_then}
use Rattle.std.specs.List.{AllByRecursion}
use Rattle.pearl_value.specs.declared.kind.Kind.{Kind}
use Rattle.pearl_value.specs.declared.kind.Kind.TheVariants.{Fixed}
use Rattle.pearl_value.specs.declared.kind.CellKind.{CellKind}
use Rattle.pearl_value.specs.declared.kind.CellKind.TheVariants.{RefTo}
use Rattle.pearl_value.specs.WellFormed.{IsValueOf}
use Rattle.pearl_tree.specs.declared.name.Name.{Name}
use Rattle.pearl_value.specs.declared.device.Direction.{Direction}
use Rattle.pearl_value.specs.declared.device.Direction.TheVariants.{In, Out, InOut}
use Rattle.pearl_tree.specs.Names.{name_text}
use Rattle.pearl_tree.specs.ShownLiterals.{ShownLiteral}
use Rattle.pearl_tree.specs.ShownExpressions.{ShownExpr, OfOperand, OfDyadic, ShownPrimary, OfLiteral, OfRef, OfGroup, OfNow, OfTry, OfLimit, ShownSelectors, NoSelectors, MoreSelectors, ShownSelector, OfSubscripts, OfComponent, ShownExprs, NoExprs, MoreExprs}
use Rattle.pearl_names.specs.declared.length.DefaultLength.{DefaultLength}
use Rattle.pearl_names.specs.declared.scope.View.{View}
use Rattle.pearl_names.specs.Shapes.{Shape, OfKind, OfFields}
use Rattle.pearl_names.specs.Tables.{Parameter, Sense, Control, Procedure, Semaphore, Interrupt, AlphicDation, BasicDation, Task, sense_from}
use Rattle.pearl_check_expr.specs.Literals.{literal_kind}
use Rattle.pearl_check_expr.specs.Standings.{Open, variable_start}
use Rattle.pearl_program.specs.declared.expression.Target.{Target}
use Rattle.pearl_program.specs.declared.expression.Target.TheVariants.{Leaf, Own, Param}
use Rattle.pearl_program.specs.declared.expression.Bound.{Bound}
use Rattle.pearl_value.specs.declared.device.Device.{Device}
use Rattle.pearl_value.specs.declared.device.Device.TheVariants.{Terminal}
use Rattle.pearl_program.specs.PlainExpressions.{OfVariable}
use Rattle.pearl_program.specs.PlainExpressions as plain
use Rattle.pearl_program.specs.Typing.{Signature, Around, elements, IsBound, AreOwn, IsLeafOf, IsControl}
use Rattle.pearl_program.specs.SoundStatements.{IsTaskNumber, IsInterrupt, IsInput, IsOutput}
use Rattle.pearl_resolve.specs.Expressions.{Numbered, meant, number_of, literal_cell, Walk, walk_from, to_field, field_of}
use Rattle.pearl_resolve.specs.Cells.{param_cell}

-- a literal that has a kind is a value of it
abbrev pub IsLiteral : List DefaultLength → ShownLiteral → Type 0
IsLiteral lengths part = (kind : Kind) → literal_kind lengths part ≡ Some kind → IsValueOf kind (literal_cell lengths part)

-- so is each literal of an expression
abbrev mutual
  pub HasLiterals : List DefaultLength → ShownExpr → Type 0
  HasLiterals lengths (OfOperand monadics part place) = PrimaryHasLiterals lengths part
  HasLiterals lengths (OfDyadic left dyadic right place) = HasLiterals lengths left × HasLiterals lengths right

  pub PrimaryHasLiterals : List DefaultLength → ShownPrimary → Type 0
  PrimaryHasLiterals lengths (OfLiteral part) = IsLiteral lengths part
  PrimaryHasLiterals lengths (OfRef name selectors place) = SelectorsHaveLiterals lengths selectors
  PrimaryHasLiterals lengths (OfGroup inner place) = HasLiterals lengths inner
  PrimaryHasLiterals lengths (OfNow place) = Unit {0}
  PrimaryHasLiterals lengths (OfTry name place) = Unit {0}
  PrimaryHasLiterals lengths (OfLimit dimension side name selectors ref_place place) = SelectorsHaveLiterals lengths selectors

  pub SelectorsHaveLiterals : List DefaultLength → ShownSelectors → Type 0
  SelectorsHaveLiterals lengths NoSelectors = Unit {0}
  SelectorsHaveLiterals lengths (MoreSelectors selector rest) =
      SelectorHasLiterals lengths selector × SelectorsHaveLiterals lengths rest

  pub SelectorHasLiterals : List DefaultLength → ShownSelector → Type 0
  SelectorHasLiterals lengths (OfSubscripts exprs place) = HaveLiterals lengths exprs
  SelectorHasLiterals lengths (OfComponent name place) = Unit {0}

  pub HaveLiterals : List DefaultLength → ShownExprs → Type 0
  HaveLiterals lengths NoExprs = Unit {0}
  HaveLiterals lengths (MoreExprs e rest) = HasLiterals lengths e × HaveLiterals lengths rest

-- a variable of this kind begins there
abbrev pub IsVariableAt : Around → Target → List Bound → Kind → Type 0
IsVariableAt around (Leaf number) bounds kind = IsLeafOf (slice_get around.leaves number) bounds kind
IsVariableAt around (Own cell) bounds kind = AreOwn around cell (elements bounds) kind
IsVariableAt around (Param cell) bounds kind = (bounds ≡ []) × (slice_get around.cells cell ≡ Some (RefTo kind))

-- a variable, or else the control variable of a loop around
abbrev pub Points : Around → (control : Bool) → Target → List Bound → Kind → Type 0
Points around false target bounds kind = IsVariableAt around target bounds kind
Points around true target bounds kind = IsControl around (OfVariable target bounds plain.NoExprs) kind

-- what lies within three dimensions at most is there; a whole structure is nowhere by itself
abbrev pub IsEnd : Around → Bool → Shape → Target → List Bound → Type 0
IsEnd around control (OfKind kind) target bounds = (length bounds ≤ 3) × Points around control target bounds kind
IsEnd around control (OfFields fields) target bounds = Unit {0}

pub record IsThere (around : Around) (control : Bool) (walk : Walk) : Type 0 where
  pub sound : AllByRecursion IsBound walk.bounds
  pub end : IsEnd around control walk.shape walk.target walk.bounds

abbrev pub Follows : Around → Bool → Walk → List Name → Type 0
Follows around control walk [] = IsThere around control walk
Follows around control walk (name ∷ path) = Follows around control (to_field walk (field_of walk.shape name)) path

-- whatever components are selected, what is reached is there
abbrev pub Reaches : Around → Bool → Walk → Type 0
Reaches around control walk = (path : List Name) → Follows around control walk path

abbrev pub is_control : Option Sense → Bool
is_control (Some (Control kind)) = true
is_control sense = false

-- the cells of parameters
abbrev pub param_cells : List Parameter → List CellKind
param_cells [] = []
param_cells (parameter ∷ rest) = param_cell parameter.ident (unwrap_or parameter.kind (Fixed 31)) ∷ param_cells rest

pub record IsCallee (around : Around) (number : ℕ) (parameters : List Parameter) (result : Option (Option Kind)) : Type 0 where
  pub signature : Signature
  pub there : slice_get around.procedures number ≡ Some signature
  pub params : signature.params ≡ param_cells parameters
  pub gives : (kind : Kind) → option_and_then (λ known. known) result ≡ Some kind → signature.result ≡ Some kind

-- a terminal whose texts go this way
abbrev pub IsTerminal : Direction → Option Device → Type 0
IsTerminal direction (Some (Terminal number to)) = to ≡ direction
IsTerminal direction device = ⊥

-- an input or an output of this kind; none is both
abbrev pub IsChannel : Direction → Kind → Option Device → Type 0
IsChannel In kind device = IsInput device kind
IsChannel Out kind device = IsOutput device kind
IsChannel InOut kind device = ⊥

-- each name that is seen from here and may stand in an expression, a target or a call leads to what is there; which
-- procedures may be called isn't asked here
pub record LeadValues (numbered : Numbered) (view : View) (around : Around) : Type 0 where
  pub variables : (name : Name) (dimensions : ℕ) (shape : Shape) →
      (variable_start name (sense_from numbered.table view (name_text name))).standing ≡ Open dimensions shape →
      Reaches around (is_control (sense_from numbered.table view (name_text name))) (walk_from (meant numbered view name))
  pub semaphores : (name : Name) → sense_from numbered.table view (name_text name) ≡ Some Semaphore →
      number_of numbered view name < around.semaphores
  pub procedures : (name : Name) (parameters : List Parameter) (result : Option (Option Kind)) →
      sense_from numbered.table view (name_text name) ≡ Some (Procedure parameters result) →
      IsCallee around (number_of numbered view name) parameters result

-- and so does each other name
pub record LeadNames (numbered : Numbered) (view : View) (around : Around) : Type 0 where
  pub values : LeadValues numbered view around
  pub tasks : (name : Name) → sense_from numbered.table view (name_text name) ≡ Some Task →
      IsTaskNumber around (number_of numbered view name)
  pub interrupts : (name : Name) → sense_from numbered.table view (name_text name) ≡ Some Interrupt →
      IsInterrupt around (number_of numbered view name)
  pub terminals : (name : Name) (direction : Direction) →
      sense_from numbered.table view (name_text name) ≡ Some (AlphicDation direction) →
      IsTerminal direction (slice_get around.devices (number_of numbered view name))
  pub channels : (name : Name) (direction : Direction) (kind : Kind) →
      sense_from numbered.table view (name_text name) ≡ Some (BasicDation direction (Some kind)) →
      IsChannel direction kind (slice_get around.devices (number_of numbered view name))

-- two names of semaphores that have one number are the same
abbrev pub HasSemaphoresApart : Numbered → View → Type 0
HasSemaphoresApart numbered view = (one two : Name) → sense_from numbered.table view (name_text one) ≡ Some Semaphore →
    sense_from numbered.table view (name_text two) ≡ Some Semaphore → number_of numbered view one ≡ number_of numbered view two →
    name_text one ≡ name_text two
