-- The parts of a module in which a rule on names, types and declarations may be broken, in the order of the text. Scopes
-- are numbered as in Scopes.
use Rattle.std.specs.Prelude.{ℕ, ◌+◌, List, [], ◌∷◌, ◌++◌, map, Option, Some, None}
use Rattle.std.specs.List.{flat_map}
use Rattle.pearl_tree.specs.declared.name.Name.{Name}
use Rattle.pearl_tree.specs.declared.name.Number.{Number}
use Rattle.pearl_tree.specs.declared.literal.Duration.{Duration}
use Rattle.pearl_tree.specs.declared.typing.Sort.{Sort}
use Rattle.pearl_tree.specs.declared.typing.Bound.{Bound}
use Rattle.pearl_tree.specs.declared.typing.Basic.{Basic}
use Rattle.pearl_tree.specs.declared.typing.Basic.TheVariants as basic
use Rattle.pearl_tree.specs.declared.declaration.Class.{Class}
use Rattle.pearl_tree.specs.declared.declaration.Class.TheVariants as class
use Rattle.pearl_tree.specs.ShownLiterals.{ShownLiteral, OfDuration, ShownConst}
use Rattle.pearl_tree.specs.ShownExpressions.{ShownExpr, OfOperand, OfDyadic, ShownPrimary, OfLiteral, OfRef, OfGroup, OfNow, OfTry, OfLimit, ShownSelectors, NoSelectors, MoreSelectors, ShownSelector, OfSubscripts, OfComponent, ShownExprs, NoExprs, MoreExprs, ShownRef}
use Rattle.pearl_tree.specs.ShownDeclarations.{ShownTyping, OfBasic, OfStruct, OfNamed, ShownFields, NoFields, MoreFields, ShownItem, ShownSema, ShownDeclared, OfItem, OfSema, ShownSpec, OfInterrupt, OfDation, ShownParam}
use Rattle.pearl_tree.specs.ShownStatements.{ShownPeriodEnd, OfUntil, OfDuring, ShownPeriod, ShownStart, OfAt, OfAfter, OfWhen, OfAll, ShownOnce, OnceAt, OnceAfter, OnceWhen, ShownBodyDecl, ShownStmt, OfAssign, OfCall, OfIf, OfCase, OfRepeat, OfBegin, OfReturn, OfActivate, OfContinue, OfResume, OfOnTask, OfOnSemas, OfOnInterrupt, OfPut, OfGet, OfSend, OfTake, ShownStmts, NoStmts, MoreStmts, ShownBranches, NoBranches, MoreBranches, ShownOtherwise, NoOtherwise, OfOtherwise}
use Rattle.pearl_tree.specs.ShownModules.{ShownBody, ShownDecl, OfLength, OfType, OfDeclare, OfSpecify, OfTask, OfProc, ShownTree}
use Rattle.pearl_names.specs.Scopes.{scopes_in, scopes_in_all, scopes_in_branches, as_stmts, scopes_in_decl, types_in}
use Rattle.pearl_names.specs.declared.scope.View.{View}
use Rattle.pearl_names.specs.declared.scope.View.TheVariants.{Within, WhileOf}

pub data Part : Type 0 where
  -- a name that is used
  Used : (view : View) (name : Name) → Part
  -- a name that is used as a type, where so many TYPEs stand before it
  UsedAsType : (scope types : ℕ) (name : Name) → Part
  -- a written length
  Length : (sort : Sort) (number : Number) → Part
  -- a duration literal
  Lasts : (duration : Duration) → Part
  Bounds : (bound : Bound) → Part
  Struct : (fields : ShownFields) → Part
  Item : (scope types : ℕ) (item : ShownItem) → Part
  Sema : (sema : ShownSema) → Part

abbrev pub literal_parts : ShownLiteral → List Part
literal_parts (OfDuration duration) = Lasts duration ∷ []
literal_parts part = []

abbrev mutual
  pub expr_parts : View → ShownExpr → List Part
  expr_parts view (OfOperand monadics part place) = primary_parts view part
  expr_parts view (OfDyadic left dyadic right place) = expr_parts view left ++ expr_parts view right

  pub primary_parts : View → ShownPrimary → List Part
  primary_parts view (OfLiteral part) = literal_parts part
  primary_parts view (OfRef name selectors place) = Used view name ∷ selectors_parts view selectors
  primary_parts view (OfGroup inner place) = expr_parts view inner
  primary_parts view (OfNow place) = []
  primary_parts view (OfTry name place) = Used view name ∷ []
  primary_parts view (OfLimit dimension side name selectors ref_place place) = Used view name ∷ selectors_parts view selectors

  pub selectors_parts : View → ShownSelectors → List Part
  selectors_parts view NoSelectors = []
  selectors_parts view (MoreSelectors selector rest) = selector_parts view selector ++ selectors_parts view rest

  -- the name of a component is looked for among fields, and not in scopes
  pub selector_parts : View → ShownSelector → List Part
  selector_parts view (OfSubscripts subscripts place) = exprs_parts view subscripts
  selector_parts view (OfComponent name place) = []

  pub exprs_parts : View → ShownExprs → List Part
  exprs_parts view NoExprs = []
  exprs_parts view (MoreExprs expr rest) = expr_parts view expr ++ exprs_parts view rest

abbrev pub ref_parts : View → ShownRef → List Part
ref_parts view reference = Used view reference.name ∷ selectors_parts view reference.selectors

-- the parts of what may be missing
abbrev pub parts_if : {X : Type 0} → (X → List Part) → Option X → List Part
parts_if parts None = []
parts_if parts (Some x) = parts x

abbrev pub basic_parts : Basic → List Part
basic_parts (basic.Sized sort (Some number) place) = Length sort number ∷ []
basic_parts part = []

abbrev mutual
  pub typing_parts : (scope types : ℕ) → ShownTyping → List Part
  typing_parts scope types (OfBasic part) = basic_parts part
  typing_parts scope types (OfStruct fields place) = Struct fields ∷ fields_parts scope types fields
  typing_parts scope types (OfNamed name) = Used (Within scope) name ∷ UsedAsType scope types name ∷ []

  pub fields_parts : (scope types : ℕ) → ShownFields → List Part
  fields_parts scope types NoFields = []
  fields_parts scope types (MoreFields names bounds part place rest) =
      map Bounds bounds ++ (typing_parts scope types part ++ fields_parts scope types rest)

abbrev pub const_parts : ShownConst → List Part
const_parts constant = literal_parts constant.literal

abbrev pub item_parts : (scope types : ℕ) → ShownItem → List Part
item_parts scope types item =
    Item scope types item ∷
    map Bounds item.bounds ++ (typing_parts scope types item.part ++ flat_map const_parts item.init)

abbrev pub body_decl_parts : (scope types : ℕ) → ShownBodyDecl → List Part
body_decl_parts scope types declaration = flat_map (item_parts scope types) declaration.items

abbrev pub period_end_parts : View → ShownPeriodEnd → List Part
period_end_parts view (OfUntil time place) = expr_parts view time
period_end_parts view (OfDuring duration place) = expr_parts view duration

abbrev pub period_parts : View → ShownPeriod → List Part
period_parts view period = expr_parts view period.duration ++ parts_if (period_end_parts view) period.end

abbrev pub start_parts : View → ShownStart → List Part
start_parts view (OfAt time period place) = expr_parts view time ++ parts_if (period_parts view) period
start_parts view (OfAfter duration period place) = expr_parts view duration ++ parts_if (period_parts view) period
start_parts view (OfWhen interrupt after period place) =
    Used view interrupt ∷ parts_if (expr_parts view) after ++ parts_if (period_parts view) period
start_parts view (OfAll period) = period_parts view period

abbrev pub once_parts : View → ShownOnce → List Part
once_parts view (OnceAt time place) = expr_parts view time
once_parts view (OnceAfter duration place) = expr_parts view duration
once_parts view (OnceWhen interrupt place) = Used view interrupt ∷ []

abbrev pub name_part : View → Name → List Part
name_part view name = Used view name ∷ []

-- of a statement that has no others within it
abbrev pub simple_parts : View → ShownStmt → List Part
simple_parts view (OfAssign target value place) = ref_parts view target ++ expr_parts view value
simple_parts view (OfCall call name arguments place) = Used view name ∷ flat_map (expr_parts view) arguments
simple_parts view (OfReturn value place) = parts_if (expr_parts view) value
simple_parts view (OfActivate start task priority place) =
    parts_if (start_parts view) start ++ (Used view task ∷ parts_if (expr_parts view) priority)
simple_parts view (OfContinue once task place) = parts_if (once_parts view) once ++ Used view task ∷ []
simple_parts view (OfResume once place) = once_parts view once
simple_parts view (OfOnTask word task place) = parts_if (name_part view) task
simple_parts view (OfOnSemas word names place) = map (Used view) names
simple_parts view (OfOnInterrupt word name place) = Used view name ∷ []
simple_parts view (OfPut values dation formats place) = flat_map (expr_parts view) values ++ Used view dation ∷ []
simple_parts view (OfGet targets dation formats place) = flat_map (ref_parts view) targets ++ Used view dation ∷ []
simple_parts view (OfSend value dation place) = expr_parts view value ++ Used view dation ∷ []
simple_parts view (OfTake target dation place) = ref_parts view target ++ Used view dation ∷ []
simple_parts view statement = []

-- FROM, BY and TO see the names around the loop, and WHILE sees the control variable too
abbrev pub loop_parts : (scope next : ℕ) → (begin step end condition : Option ShownExpr) → List Part
loop_parts scope next begin step end condition =
    parts_if (expr_parts (Within scope)) begin ++
    (parts_if (expr_parts (Within scope)) step ++
    (parts_if (expr_parts (Within scope)) end ++ parts_if (expr_parts (WhileOf next)) condition))

-- of a statement in this scope, the first scope within which has the number `next`
abbrev mutual
  pub stmt_parts : (types scope next : ℕ) → ShownStmt → List Part
  stmt_parts types scope next (OfIf condition statements otherwise place) =
      expr_parts (Within scope) condition ++
      (all_parts types scope next statements ++
      otherwise_parts types scope (next + scopes_in_all statements) otherwise)
  stmt_parts types scope next (OfCase selector alternatives otherwise place) =
      expr_parts (Within scope) selector ++
      (branches_parts types scope next alternatives ++
      otherwise_parts types scope (next + scopes_in_branches alternatives) otherwise)
  stmt_parts types scope next (OfRepeat control begin step end condition declarations statements body_place place) =
      loop_parts scope next begin step end condition ++
      (flat_map (body_decl_parts next types) declarations ++ all_parts types next (next + 1) statements)
  stmt_parts types scope next (OfBegin declarations statements body_place place) =
      flat_map (body_decl_parts next types) declarations ++ all_parts types next (next + 1) statements
  stmt_parts types scope next statement = simple_parts (Within scope) statement

  pub all_parts : (types scope next : ℕ) → ShownStmts → List Part
  all_parts types scope next NoStmts = []
  all_parts types scope next (MoreStmts statement rest) =
      stmt_parts types scope next statement ++ all_parts types scope (next + scopes_in statement) rest

  pub branches_parts : (types scope next : ℕ) → ShownBranches → List Part
  branches_parts types scope next NoBranches = []
  branches_parts types scope next (MoreBranches statements place rest) =
      all_parts types scope next statements ++ branches_parts types scope (next + scopes_in_all statements) rest

  pub otherwise_parts : (types scope next : ℕ) → ShownOtherwise → List Part
  otherwise_parts types scope next NoOtherwise = []
  otherwise_parts types scope next (OfOtherwise statements place) = all_parts types scope next statements

abbrev pub body_parts : (types scope : ℕ) → ShownBody → List Part
body_parts types scope body =
    flat_map (body_decl_parts scope types) body.declarations ++ all_parts types scope (scope + 1) (as_stmts body.statements)

abbrev pub declared_parts : ℕ → ShownDeclared → List Part
declared_parts types (OfItem item) = item_parts 0 types item
declared_parts types (OfSema sema) = Sema sema ∷ []

abbrev pub class_parts : Class → List Part
class_parts (class.Alphic place) = []
class_parts (class.Basic part place) = basic_parts part

-- a specified name is looked for in the system part
abbrev pub spec_parts : ShownSpec → List Part
spec_parts (OfInterrupt names place) = []
spec_parts (OfDation names direction class control place) = class_parts class

abbrev pub param_parts : ShownParam → List Part
param_parts param = basic_parts param.basic

-- of a declaration before which so many TYPEs stand, and the first scope of which has the number `next`
abbrev pub decl_parts : (types next : ℕ) → ShownDecl → List Part
decl_parts types next (OfLength sort number place) = Length sort number ∷ []
decl_parts types next (OfType name part place) = typing_parts 0 types part
decl_parts types next (OfDeclare parts place) = flat_map (declared_parts types) parts
decl_parts types next (OfSpecify specs place) = flat_map spec_parts specs
decl_parts types next (OfTask name head body place) = body_parts types next body
decl_parts types next (OfProc name params returns body place) =
    flat_map param_parts params ++ (parts_if basic_parts returns ++ body_parts types next body)

abbrev pub decls_parts : (types next : ℕ) → List ShownDecl → List Part
decls_parts types next [] = []
decls_parts types next (decl ∷ rest) =
    decl_parts types next decl ++ decls_parts (types + types_in decl) (next + scopes_in_decl decl) rest

abbrev pub parts_of : ShownTree → List Part
parts_of tree = decls_parts 0 1 tree.declarations
