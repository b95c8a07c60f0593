-- What an expression becomes once its names are numbers.
use Rattle.std.specs.Prelude.{ℕ, zero, suc, ◌+◌, ◌-◌, ◌*◌, ℤ, pos, Bool, true, false, List, [], ◌∷◌, ◌++◌, map, drop, Option, Some, None, option_map, unwrap_or, slice_get}
use Rattle.std.specs.Option.{option_and_then}
use Rattle.pearl_value.specs.declared.kind.Kind.{Kind}
use Rattle.pearl_value.specs.declared.kind.Kind.TheVariants as kind
use Rattle.pearl_value.specs.declared.cell.Cell.{Cell}
use Rattle.pearl_value.specs.declared.cell.Cell.TheVariants.{Fixed, Bits, Chars, Clock, Span}
use Rattle.pearl_tree.specs.declared.name.Name.{Name}
use Rattle.pearl_tree.specs.declared.name.Number.{Number}
use Rattle.pearl_tree.specs.declared.typing.Sort.TheVariants as sort
use Rattle.pearl_tree.specs.declared.expression.Monadic.{Monadic}
use Rattle.pearl_tree.specs.declared.expression.Side.{Side}
use Rattle.pearl_tree.specs.declared.expression.Side.TheVariants.{Lower, Upper}
use Rattle.pearl_tree.specs.Durations.{milliseconds_of}
use Rattle.pearl_tree.specs.Names.{name_text}
use Rattle.pearl_tree.specs.ShownLiterals.{ShownLiteral, OfNumber, OfBits, OfText, OfClock, OfDuration}
use Rattle.pearl_tree.specs.ShownExpressions.{ShownExpr, ShownPrimary, ShownSelectors, NoSelectors, MoreSelectors, ShownSelector, OfSubscripts, OfComponent, ShownExprs, ShownRef}
use Rattle.pearl_tree.specs.ShownExpressions as shown
use Rattle.pearl_names.specs.declared.length.DefaultLength.{DefaultLength}
use Rattle.pearl_names.specs.declared.scope.View.{View}
use Rattle.pearl_names.specs.declared.meaning.Found.{Found}
use Rattle.pearl_names.specs.Lengths.{length_at}
use Rattle.pearl_names.specs.Found.{found_from}
use Rattle.pearl_names.specs.Shapes.{Shape, OfKind, OfFields}
use Rattle.pearl_names.specs.Forms.{Component, component}
use Rattle.pearl_names.specs.Tables.{Form, Parameter, Sense, Variable, Control, OwnParameter, Procedure, Table, sense_at}
use Rattle.pearl_check_expr.specs.Literals.{fixed_length}
use Rattle.pearl_check_expr.specs.Judged.{dimension_of}
use Rattle.pearl_program.specs.declared.expression.Target.{Target}
use Rattle.pearl_program.specs.declared.expression.Target.TheVariants.{Leaf, Own, Param}
use Rattle.pearl_program.specs.declared.expression.Bound.{Bound}
use Rattle.pearl_program.specs.PlainExpressions.{PlainExpr, OfLiteral, OfRead, OfMonadic, OfDyadic, OfCall, OfNow, OfTry, PlainVariable, OfVariable, PlainExprs, NoExprs, MoreExprs, PlainArgument, OfValue, OfIdent, PlainArguments, NoArguments, MoreArguments}
use Rattle.pearl_program.specs.Typing.{elements}

-- what the names of a module stand for, and the number of each, scope by scope
pub record Numbered : Type 0 where
  pub table : Table
  pub numbers : List (List ℕ)

-- what a name stands for, in which scope it is declared, and its number
pub record Meant : Type 0 where
  pub sense : Sense
  pub scope : ℕ
  pub number : ℕ

abbrev pub number_at : List (List ℕ) → Found → ℕ
number_at numbers found = unwrap_or (slice_get (unwrap_or (slice_get numbers found.scope) []) found.entry) 0

abbrev pub meant_at : Numbered → Found → Option Meant
meant_at numbered found = option_map
    (λ sense. record { sense = sense; scope = found.scope; number = number_at numbered.numbers found })
    (sense_at numbered.table.senses found)

abbrev pub meant : Numbered → View → Name → Option Meant
meant numbered view name = option_and_then (meant_at numbered) (found_from numbered.table.names view (name_text name))

-- the number of a task, a semaphore, a device or a procedure
abbrev pub number_of : Numbered → View → Name → ℕ
number_of numbered view name = unwrap_or (option_map (λ (thing : Meant). thing.number) (meant numbered view name)) 0

-- what stands where a rule is broken
abbrev pub no_value : PlainExpr
no_value = OfLiteral (Fixed 31 (pos 0))

-- a number has the default length where its value fits, and else length 63
abbrev pub literal_cell : List DefaultLength → ShownLiteral → Cell
literal_cell lengths (OfNumber number) =
    Fixed (fixed_length (length_at lengths sort.Fixed number.place) number.value) (pos number.value)
literal_cell lengths (OfBits len value place) = Bits len value
literal_cell lengths (OfText text place) = Chars (record { items = text })
literal_cell lengths (OfClock milliseconds place) = Clock milliseconds
literal_cell lengths (OfDuration duration) = Span (pos (milliseconds_of duration))

-- how far a reference has come: where it leads, the shape there, and the bounds of all arrays on the way with the
-- subscripts that are given for them
pub record Walk : Type 0 where
  pub target : Target
  pub shape : Shape
  pub bounds : List Bound
  pub subscripts : PlainExprs

abbrev pub bound_of : ℤ × ℤ → Bound
bound_of pair = record { lower = pair.0; upper = pair.1 }

abbrev pub own_or_param : Bool → ℕ → Target
own_or_param true number = Param number
own_or_param false number = Own number

-- the scope of number 0 is the module's
abbrev pub target_in : (scope number : ℕ) → Target
target_in zero number = Leaf number
target_in (suc scope) number = Own number

abbrev pub begun : Target → List (ℤ × ℤ) → Shape → Walk
begun target bounds shape = record { target = target; shape = shape; bounds = map bound_of bounds; subscripts = NoExprs }

abbrev pub no_walk : Walk
no_walk = begun (Own 0) [] (OfKind (kind.Fixed 31))

abbrev pub form_walk : Target → Option Form → Walk
form_walk target None = no_walk
form_walk target (Some form) = begun target form.bounds form.shape

-- a variable by its name alone
abbrev pub walk_of : Meant → Walk
walk_of thing = by thing.sense
  where
    by : Sense → Walk
    by (Variable form inv) = form_walk (target_in thing.scope thing.number) form
    by (Control of) = begun (Own thing.number) [] (OfKind of)
    by (OwnParameter parameter) =
        begun (own_or_param parameter.ident thing.number) [] (OfKind (unwrap_or parameter.kind (kind.Fixed 31)))
    by sense = no_walk

abbrev pub walk_from : Option Meant → Walk
walk_from None = no_walk
walk_from (Some thing) = walk_of thing

-- a component's leaves stand behind those of the fields before it, and its cells behind theirs, each field having the
-- elements of all arrays on the way
abbrev pub moved : Target → (times : ℕ) → Component → Target
moved (Leaf number) times field = Leaf (number + field.leaf)
moved (Own number) times field = Own (number + times * field.slot)
moved (Param number) times field = Param number

abbrev pub to_field : Walk → Option Component → Walk
to_field walk None = walk
to_field walk (Some field) = record {
  target = moved walk.target (elements walk.bounds) field;
  shape = field.shape;
  bounds = walk.bounds ++ map bound_of field.bounds;
  subscripts = walk.subscripts;
}

abbrev pub field_of : Shape → Name → Option Component
field_of (OfKind of) name = None
field_of (OfFields fields) name = component 0 0 fields (name_text name)

abbrev pub joined_exprs : PlainExprs → PlainExprs → PlainExprs
joined_exprs NoExprs more = more
joined_exprs (MoreExprs e rest) more = MoreExprs e (joined_exprs rest more)

abbrev pub count : PlainExprs → ℕ
count NoExprs = 0
count (MoreExprs e rest) = 1 + count rest

abbrev pub variable_of : Walk → PlainVariable
variable_of walk = OfVariable walk.target walk.bounds walk.subscripts

abbrev pub kind_of_shape : Shape → Kind
kind_of_shape (OfKind of) = of
kind_of_shape (OfFields fields) = kind.Fixed 31

abbrev pub side_of : Side → Bound → ℤ
side_of Lower bound = bound.lower
side_of Upper bound = bound.upper

-- the bounds of the array that a reference names, without those that have subscripts
abbrev pub open_bounds : Walk → List Bound
open_bounds walk = drop (count walk.subscripts) walk.bounds

abbrev pub limit_value : Side → Option Bound → PlainExpr
limit_value side None = no_value
limit_value side (Some bound) = OfLiteral (Fixed 31 (side_of side bound))

-- LWB and UPB are the bound that they name
abbrev pub limit_of : Option Number → Side → Walk → PlainExpr
limit_of dimension side walk = limit_value side (slice_get (open_bounds walk) (dimension_of dimension - 1))

-- the operator that stands next to the operand is the innermost
abbrev pub monadics_over : List Monadic → PlainExpr → PlainExpr
monadics_over [] e = e
monadics_over (monadic ∷ rest) e = OfMonadic monadic.operator (monadics_over rest e)

-- the parameters of a procedure
abbrev pub params_of : Option Meant → Option (List Parameter)
params_of None = None
params_of (Some thing) = by thing.sense
  where
    by : Sense → Option (List Parameter)
    by (Procedure parameters result) = Some parameters
    by sense = None

abbrev pub called_or : Option (List Parameter) → (List Parameter → PlainExpr) → PlainExpr → PlainExpr
called_or None call read = read
called_or (Some parameters) call read = call parameters

-- an IDENT parameter takes the variable that is read
abbrev pub handed : Bool → PlainExpr → PlainArgument
handed true (OfRead variable) = OfIdent variable
handed ident e = OfValue e

abbrev mutual
  pub resolve_expr : Numbered → View → ShownExpr → PlainExpr
  resolve_expr numbered view (shown.OfOperand monadics part place) = monadics_over monadics (resolve_primary numbered view part)
  resolve_expr numbered view (shown.OfDyadic left dyadic right place) =
      OfDyadic dyadic.operator (resolve_expr numbered view left) (resolve_expr numbered view right)

  pub resolve_primary : Numbered → View → ShownPrimary → PlainExpr
  resolve_primary numbered view (shown.OfLiteral part) = OfLiteral (literal_cell numbered.table.lengths part)
  resolve_primary numbered view (shown.OfRef name selectors place) =
      called_or (params_of (meant numbered view name))
      (λ parameters. OfCall (number_of numbered view name) (resolve_call numbered view parameters selectors))
      (OfRead (variable_of (along numbered view (walk_from (meant numbered view name)) selectors)))
  resolve_primary numbered view (shown.OfGroup inner place) = resolve_expr numbered view inner
  resolve_primary numbered view (shown.OfNow place) = OfNow
  resolve_primary numbered view (shown.OfTry name place) = OfTry (number_of numbered view name)
  resolve_primary numbered view (shown.OfLimit dimension side name selectors ref_place place) =
      limit_of dimension side (along numbered view (walk_from (meant numbered view name)) selectors)

  -- the selectors of a reference, one after the other
  pub along : Numbered → View → Walk → ShownSelectors → Walk
  along numbered view walk NoSelectors = walk
  along numbered view walk (MoreSelectors selector rest) = along numbered view (step numbered view walk selector) rest

  pub step : Numbered → View → Walk → ShownSelector → Walk
  step numbered view walk (OfSubscripts exprs place) =
      record walk { subscripts = joined_exprs walk.subscripts (resolve_exprs numbered view exprs) }
  step numbered view walk (OfComponent name place) = to_field walk (field_of walk.shape name)

  pub resolve_exprs : Numbered → View → ShownExprs → PlainExprs
  resolve_exprs numbered view shown.NoExprs = NoExprs
  resolve_exprs numbered view (shown.MoreExprs e rest) = MoreExprs (resolve_expr numbered view e) (resolve_exprs numbered view rest)

  -- the brackets that come directly behind the name of a call hold its arguments
  pub resolve_call : Numbered → View → List Parameter → ShownSelectors → PlainArguments
  resolve_call numbered view parameters NoSelectors = NoArguments
  resolve_call numbered view parameters (MoreSelectors selector rest) = first_arguments numbered view parameters selector

  pub first_arguments : Numbered → View → List Parameter → ShownSelector → PlainArguments
  first_arguments numbered view parameters (OfSubscripts exprs place) = resolve_arguments numbered view parameters exprs
  first_arguments numbered view parameters (OfComponent name place) = NoArguments

  pub resolve_arguments : Numbered → View → List Parameter → ShownExprs → PlainArguments
  resolve_arguments numbered view parameters shown.NoExprs = NoArguments
  resolve_arguments numbered view [] (shown.MoreExprs e rest) =
      MoreArguments (OfValue (resolve_expr numbered view e)) (resolve_arguments numbered view [] rest)
  resolve_arguments numbered view (parameter ∷ parameters) (shown.MoreExprs e rest) =
      MoreArguments (handed parameter.ident (resolve_expr numbered view e)) (resolve_arguments numbered view parameters rest)

-- where a reference leads whose name must be that of a variable
abbrev pub walked : Numbered → View → ShownRef → Walk
walked numbered view reference = along numbered view (walk_from (meant numbered view reference.name)) reference.selectors

abbrev pub resolve_variable : Numbered → View → ShownRef → PlainVariable
resolve_variable numbered view reference = variable_of (walked numbered view reference)

abbrev pub target_kind : Numbered → View → ShownRef → Kind
target_kind numbered view reference = kind_of_shape (walked numbered view reference).shape
