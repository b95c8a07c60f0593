-- The kind of each expression, and the rules S15 to S22 that are broken in it. A part with a fault has no kind, and a rule
-- that needs its kind isn't broken there.
use Rattle.std.specs.Prelude.{ℕ, ◌==◌, Bool, true, false, ◌&&◌, ◌||◌, not, nat_le, if◌then◌else◌, List, [], ◌∷◌, ◌++◌, length, Option, Some, None, is_some, is_none}
use Rattle.std.specs.Option.{option_and_then}
use Rattle.std.specs.List.{list_all, flat_map}
use Rattle.pearl_value.specs.declared.kind.Kind.{Kind}
use Rattle.pearl_value.specs.declared.kind.Kind.TheVariants as kind
use Rattle.pearl_value.specs.Rows.{row1, row2}
use Rattle.pearl_tree.specs.declared.fault.RuleFault.{RuleFault}
use Rattle.pearl_tree.specs.declared.name.Name.{Name}
use Rattle.pearl_tree.specs.declared.name.Number.{Number}
use Rattle.pearl_tree.specs.declared.expression.Monadic.{Monadic}
use Rattle.pearl_tree.specs.declared.expression.Dyadic.{Dyadic}
use Rattle.pearl_tree.specs.declared.rule.TheConstants as rule
use Rattle.pearl_tree.specs.Faults.{fault_if}
use Rattle.pearl_tree.specs.Names.{name_text}
use Rattle.pearl_tree.specs.ShownExpressions.{ShownExpr, OfOperand, OfDyadic, ShownPrimary, OfLiteral, OfRef, OfGroup, OfNow, OfTry, OfLimit, ShownSelectors, NoSelectors, MoreSelectors, ShownSelector, OfSubscripts, OfComponent, ShownExprs, NoExprs, MoreExprs, ShownRef}
use Rattle.pearl_names.specs.declared.scope.View.{View}
use Rattle.pearl_names.specs.Tables.{Parameter, Sense, Table, sense_from}
use Rattle.pearl_check_expr.specs.Senses.{Callee, callee_of, is_fixed, is_semaphore}
use Rattle.pearl_check_expr.specs.Literals.{literal_kind}
use Rattle.pearl_value.specs.Conversions.{suits_kind}
use Rattle.pearl_check_expr.specs.Kinds.{is_kind}
use Rattle.pearl_check_expr.specs.Standings.{Judged, faulty, judged_behind, Standing, Broken, Open, Walked, behind, variable_start, subscripted, selected, as_value, faults_of}

-- the kind of a result. S15: an operator has no row for its operands
abbrev pub result_of : ℕ → Option Kind → Judged
result_of place None = faulty place rule.S15
result_of place (Some kind) = record { kind = Some kind; faults = [] }

abbrev pub monadic_result : Monadic → Option Kind → Judged
monadic_result monadic None = record { kind = None; faults = [] }
monadic_result monadic (Some kind) = result_of monadic.place (row1 monadic.operator kind)

abbrev pub with_monadic : Monadic → Judged → Judged
with_monadic monadic operand = judged_behind operand.faults (monadic_result monadic operand.kind)

-- the operator next to the operand comes first
abbrev pub with_monadics : List Monadic → Judged → Judged
with_monadics [] operand = operand
with_monadics (monadic ∷ rest) operand = with_monadic monadic (with_monadics rest operand)

abbrev pub dyadic_result : Dyadic → Option Kind → Option Kind → Judged
dyadic_result dyadic (Some left) (Some right) = result_of dyadic.place (row2 dyadic.operator left right)
dyadic_result dyadic left right = record { kind = None; faults = [] }

abbrev pub with_dyadic : Dyadic → Judged → Judged → Judged
with_dyadic dyadic left right = judged_behind (left.faults ++ right.faults) (dyadic_result dyadic left.kind right.kind)

-- TRY name. S16: it is no semaphore
abbrev pub try_judged : Name → Option Sense → Judged
try_judged name None = record { kind = None; faults = [] }
try_judged name (Some sense) =
    if is_semaphore sense then record { kind = Some (kind.Bits 1); faults = [] } else faulty name.place rule.S16

abbrev pub dimension_of : Option Number → ℕ
dimension_of None = 1
dimension_of (Some number) = number.value

-- LWB and UPB. S17: there is no array, or no such dimension
abbrev pub limit_of : Name → ℕ → Standing → Judged
limit_of name dimension Broken = record { kind = None; faults = [] }
limit_of name dimension (Open dimensions shape) =
    if nat_le 1 dimension && nat_le dimension dimensions
    then record { kind = Some (kind.Fixed 31); faults = [] }
    else faulty name.place rule.S17

abbrev pub limit_judged : Name → ℕ → Walked → Judged
limit_judged name dimension walked = judged_behind walked.faults (limit_of name dimension walked.standing)

abbrev pub expr_place : ShownExpr → ℕ
expr_place (OfOperand monadics part place) = place
expr_place (OfDyadic left dyadic right place) = place

-- both are known, and the first doesn't suit the second
abbrev pub misfits : Option Kind → Option Kind → Bool
misfits (Some from) (Some to) = not (suits_kind from to)
misfits from to = false

-- both are known, and not the same
abbrev pub differs : Option Kind → Option Kind → Bool
differs (Some from) (Some to) = not (is_kind from to)
differs from to = false

-- an argument, which is well where it has no fault, and suits
pub record Argument : Type 0 where
  pub well : Bool
  pub faults : List RuleFault

abbrev pub argument_behind : List RuleFault → Argument → Argument
argument_behind before argument = record { well = argument.well; faults = before ++ argument.faults }

-- a value for a parameter of this kind. S20: it doesn't suit
abbrev pub value_argument : ℕ → Option Kind → Option Kind → Argument
value_argument place to value = record {
  well = is_some value && is_some to && not (misfits value to);
  faults = fault_if (misfits value to) place rule.S20;
}

-- what is no variable, for an IDENT parameter
abbrev pub no_variable : ℕ → Argument
no_variable place = record { well = false; faults = record { place = place; rule = rule.S21 } ∷ [] }

-- a variable for an IDENT parameter. S21: it may not be changed, or isn't of exactly the parameter's kind
abbrev pub variable_argument : ℕ → Bool → Option Kind → Option Kind → Argument
variable_argument place fixed to variable = record {
  well = not fixed && is_some variable && is_some to && not (differs variable to);
  faults = fault_if (fixed || differs variable to) place rule.S21;
}

abbrev pub named_argument : ℕ → Option Kind → Option Kind → Option Sense → Argument
named_argument place to value sense =
    if is_some (callee_of sense) then no_variable place else variable_argument place (is_fixed sense) to value

abbrev pub name_of_primary : ShownPrimary → Option Name
name_of_primary (OfRef name way place) = Some name
name_of_primary part = None

abbrev pub name_behind : List Monadic → ShownPrimary → Option Name
name_behind [] part = name_of_primary part
name_behind (monadic ∷ rest) part = None

-- the name of a reference that stands alone, in no brackets
abbrev pub plain_name : ShownExpr → Option Name
plain_name (OfOperand monadics part place) = name_behind monadics part
plain_name (OfDyadic left dyadic right place) = None

abbrev pub ident_argument : Table → View → ℕ → Option Kind → Option Kind → Option Name → Argument
ident_argument table view place to value None = no_variable place
ident_argument table view place to value (Some name) = named_argument place to value (sense_from table view (name_text name))

-- an argument that is of this kind, for a parameter
abbrev pub fitted : Table → View → Parameter → ShownExpr → Option Kind → Argument
fitted table view parameter expr value =
    if parameter.ident then ident_argument table view (expr_place expr) parameter.kind value (plain_name expr)
    else value_argument (expr_place expr) parameter.kind value

-- an argument without a parameter is asked its own rules alone
abbrev pub argument_of : Table → View → Option Parameter → ShownExpr → Judged → Argument
argument_of table view None expr value = record { well = false; faults = value.faults }
argument_of table view (Some parameter) expr value =
    argument_behind value.faults (fitted table view parameter expr value.kind)

abbrev pub all_well : List Argument → Bool
all_well arguments = list_all (λ (argument : Argument). argument.well) arguments

abbrev pub argument_faults : List Argument → List RuleFault
argument_faults arguments = flat_map (λ (argument : Argument). argument.faults) arguments

-- the arguments of a call, which is well where each is. S20: there are not as many as parameters
abbrev pub called_with : Name → Callee → List Argument → Argument
called_with name callee arguments = record {
  well = length arguments == length callee.parameters && all_well arguments;
  faults = fault_if (not (length arguments == length callee.parameters)) name.place rule.S20 ++ argument_faults arguments;
}

-- further parts break rules
abbrev pub applied_on : Argument → Bool → List RuleFault → Argument
applied_on first last beyond = record { well = first.well && last; faults = first.faults ++ beyond }

abbrev pub component_of_call : Name → Argument → Argument
component_of_call component call =
    record { well = false; faults = call.faults ++ record { place = component.place; rule = rule.S18 } ∷ [] }

abbrev pub if_well : Bool → Option Kind → Option Kind
if_well true kind = kind
if_well false kind = None

abbrev pub result_kind : Callee → Option Kind
result_kind callee = option_and_then (λ result. result) callee.result

-- a call in an expression. S22: the procedure has no RETURNS
abbrev pub call_value : Name → Callee → Argument → Judged
call_value name callee call = record {
  kind = if_well call.well (result_kind callee);
  faults = fault_if (is_none callee.result) name.place rule.S22 ++ call.faults;
}

abbrev pub is_last : ShownSelectors → Bool
is_last NoSelectors = true
is_last (MoreSelectors selector rest) = false

abbrev pub called_or : Option Callee → (Callee → Judged) → Judged → Judged
called_or None called value = value
called_or (Some callee) called value = called callee

abbrev mutual
  pub judged : Table → View → ShownExpr → Judged
  judged table view (OfOperand monadics part place) = with_monadics monadics (judged_primary table view part)
  judged table view (OfDyadic left dyadic right place) =
      with_dyadic dyadic (judged table view left) (judged table view right)

  pub judged_primary : Table → View → ShownPrimary → Judged
  judged_primary table view (OfLiteral part) = record { kind = literal_kind table.lengths part; faults = [] }
  judged_primary table view (OfRef name selectors place) =
      called_or (callee_of (sense_from table view (name_text name))) (λ callee. call_value name callee (applied table view name callee selectors))
      (as_value name (along table view name (variable_start name (sense_from table view (name_text name))) selectors))
  judged_primary table view (OfGroup inner place) = judged table view inner
  judged_primary table view (OfNow place) = record { kind = Some kind.Clock; faults = [] }
  judged_primary table view (OfTry name place) = try_judged name (sense_from table view (name_text name))
  judged_primary table view (OfLimit dimension side name selectors ref_place place) =
      limit_judged name (dimension_of dimension) (along table view name (variable_start name (sense_from table view (name_text name))) selectors)

  -- the selectors of a reference, one after the other
  pub along : Table → View → Name → Walked → ShownSelectors → Walked
  along table view name before NoSelectors = before
  along table view name before (MoreSelectors selector rest) =
      along table view name (behind before.faults (step table view name before.standing selector)) rest

  pub step : Table → View → Name → Standing → ShownSelector → Walked
  step table view name standing (OfSubscripts subscripts place) = subscripted name standing (judged_all table view subscripts)
  step table view name standing (OfComponent component place) = selected name standing component

  pub judged_all : Table → View → ShownExprs → List Judged
  judged_all table view NoExprs = []
  judged_all table view (MoreExprs expr rest) = judged table view expr ∷ judged_all table view rest

  -- the brackets that come directly behind the name of a call hold its arguments
  pub applied : Table → View → Name → Callee → ShownSelectors → Argument
  applied table view name callee NoSelectors = called_with name callee []
  applied table view name callee (MoreSelectors selector rest) =
      applied_on (first_applied table view name callee selector) (is_last rest) (beyond table view name rest)

  -- S18: a component of a call
  pub first_applied : Table → View → Name → Callee → ShownSelector → Argument
  first_applied table view name callee (OfSubscripts subscripts place) =
      called_with name callee (arguments table view callee.parameters subscripts)
  first_applied table view name callee (OfComponent component place) = component_of_call component (called_with name callee [])

  -- what stands behind the brackets of a call. S17: further brackets; S18: a component
  pub beyond : Table → View → Name → ShownSelectors → List RuleFault
  beyond table view name NoSelectors = []
  beyond table view name (MoreSelectors selector rest) = beyond_one table view name selector ++ beyond table view name rest

  pub beyond_one : Table → View → Name → ShownSelector → List RuleFault
  beyond_one table view name (OfSubscripts subscripts place) =
      record { place = name.place; rule = rule.S17 } ∷ faults_of (judged_all table view subscripts)
  beyond_one table view name (OfComponent component place) = record { place = component.place; rule = rule.S18 } ∷ []

  pub arguments : Table → View → List Parameter → ShownExprs → List Argument
  arguments table view parameters NoExprs = []
  arguments table view [] (MoreExprs expr rest) =
      argument_of table view None expr (judged table view expr) ∷ arguments table view [] rest
  arguments table view (parameter ∷ parameters) (MoreExprs expr rest) =
      argument_of table view (Some parameter) expr (judged table view expr) ∷ arguments table view parameters rest

-- where a reference comes whose name must be that of a variable
abbrev pub walked_ref : Table → View → ShownRef → Walked
walked_ref table view reference =
    along table view reference.name (variable_start reference.name (sense_from table view (name_text reference.name))) reference.selectors

abbrev pub judged_variable : Table → View → ShownRef → Judged
judged_variable table view reference = as_value reference.name (walked_ref table view reference)

abbrev pub judged_limit : Table → View → Option Number → ShownRef → Judged
judged_limit table view dimension array = limit_judged array.name (dimension_of dimension) (walked_ref table view array)

abbrev pub judged_ref : Table → View → ShownRef → Judged
judged_ref table view reference = judged_primary table view (OfRef reference.name reference.selectors reference.place)

abbrev pub called : Table → View → Name → Callee → ShownExprs → Argument
called table view name callee exprs = called_with name callee (arguments table view callee.parameters exprs)
