-- The scopes of a module: the module itself, and each body with what it declares. A procedure's parameters belong to its
-- body, and a control variable to the body of its loop. Scopes are numbered as they begin, an outer one before those
-- within it.
use Rattle.std.specs.Prelude.{ℕ, ◌+◌, Bool, List, [], ◌∷◌, ◌++◌, map, Option, Some, None}
use Rattle.std.specs.List.{flat_map}
use Rattle.pearl_tree.specs.declared.name.Name.{Name}
use Rattle.pearl_tree.specs.declared.typing.Basic.{Basic}
use Rattle.pearl_value.specs.declared.device.Direction.{Direction}
use Rattle.pearl_tree.specs.declared.declaration.Class.{Class}
use Rattle.pearl_tree.specs.ShownDeclarations.{ShownItem, ShownDeclared, OfItem, OfSema, ShownSpec, OfInterrupt, OfDation, ShownParam}
use Rattle.pearl_tree.specs.ShownStatements.{ShownBodyDecl, ShownStmt, OfIf, OfCase, OfRepeat, OfBegin, ShownStmts, NoStmts, MoreStmts, ShownBranches, NoBranches, MoreBranches, ShownOtherwise, NoOtherwise, OfOtherwise}
use Rattle.pearl_tree.specs.ShownModules.{ShownBody, ShownDecl, OfType, OfDeclare, OfSpecify, OfTask, OfProc, ShownTree}
use Rattle.pearl_tree.specs.Names.{names_of}

-- what declares a name. TYPEs have numbers in order, and a variable tells how many of them stand before it.
pub data Meaning : Type 0 where
  Variable : (item : ShownItem) (types : ℕ) → Meaning
  Control : (loop : ℕ) → Meaning
  Parameter : (basic : Basic) (ident : Bool) → Meaning
  NewType : (number : ℕ) → Meaning
  Semaphore : Meaning
  Interrupt : Meaning
  Dation : (direction : Direction) (class : Class) → Meaning
  Task : Meaning
  Procedure : (params : List ShownParam) (returns : Option Basic) → Meaning

pub record Entry : Type 0 where
  pub name : Name
  pub meaning : Meaning

pub record Scope : Type 0 where
  -- the number of the scope around it
  pub outer : Option ℕ
  -- its names, in order
  pub entries : List Entry

-- each of these names is declared so
abbrev pub entries_as : Meaning → List Name → List Entry
entries_as meaning names = map (λ name. record { name = name; meaning = meaning }) names

abbrev pub item_entries : ℕ → ShownItem → List Entry
item_entries types item = entries_as (Variable item types) (names_of item.names)

abbrev pub body_decl_entries : ℕ → ShownBodyDecl → List Entry
body_decl_entries types declaration = flat_map (item_entries types) declaration.items

abbrev pub body_entries : ℕ → List ShownBodyDecl → List Entry
body_entries types declarations = flat_map (body_decl_entries types) declarations

abbrev pub param_entries : ShownParam → List Entry
param_entries param = entries_as (Parameter param.basic param.ident) (names_of param.names)

-- FOR name
abbrev pub control_entries : ℕ → Option Name → List Entry
control_entries loop None = []
control_entries loop (Some name) = entries_as (Control loop) (name ∷ [])

-- how many scopes begin within a statement
abbrev mutual
  pub scopes_in : ShownStmt → ℕ
  scopes_in (OfIf condition statements otherwise place) = scopes_in_all statements + scopes_in_otherwise otherwise
  scopes_in (OfCase selector alternatives otherwise place) = scopes_in_branches alternatives + scopes_in_otherwise otherwise
  scopes_in (OfRepeat control begin step end condition declarations statements body_place place) = 1 + scopes_in_all statements
  scopes_in (OfBegin declarations statements body_place place) = 1 + scopes_in_all statements
  scopes_in statement = 0

  pub scopes_in_all : ShownStmts → ℕ
  scopes_in_all NoStmts = 0
  scopes_in_all (MoreStmts statement rest) = scopes_in statement + scopes_in_all rest

  pub scopes_in_branches : ShownBranches → ℕ
  scopes_in_branches NoBranches = 0
  scopes_in_branches (MoreBranches statements place rest) = scopes_in_all statements + scopes_in_branches rest

  pub scopes_in_otherwise : ShownOtherwise → ℕ
  scopes_in_otherwise NoOtherwise = 0
  scopes_in_otherwise (OfOtherwise statements place) = scopes_in_all statements

-- the scopes that begin within a statement of this scope, of which the first has the number `next`
abbrev mutual
  pub stmt_scopes : (types scope next : ℕ) → ShownStmt → List Scope
  stmt_scopes types scope next (OfIf condition statements otherwise place) =
      all_scopes types scope next statements ++ otherwise_scopes types scope (next + scopes_in_all statements) otherwise
  stmt_scopes types scope next (OfCase selector alternatives otherwise place) =
      branch_scopes types scope next alternatives ++
      otherwise_scopes types scope (next + scopes_in_branches alternatives) otherwise
  stmt_scopes types scope next (OfRepeat control begin step end condition declarations statements body_place place) =
      record { outer = Some scope; entries = control_entries place control ++ body_entries types declarations } ∷
      all_scopes types next (next + 1) statements
  stmt_scopes types scope next (OfBegin declarations statements body_place place) =
      record { outer = Some scope; entries = body_entries types declarations } ∷ all_scopes types next (next + 1) statements
  stmt_scopes types scope next statement = []

  pub all_scopes : (types scope next : ℕ) → ShownStmts → List Scope
  all_scopes types scope next NoStmts = []
  all_scopes types scope next (MoreStmts statement rest) =
      stmt_scopes types scope next statement ++ all_scopes types scope (next + scopes_in statement) rest

  pub branch_scopes : (types scope next : ℕ) → ShownBranches → List Scope
  branch_scopes types scope next NoBranches = []
  branch_scopes types scope next (MoreBranches statements place rest) =
      all_scopes types scope next statements ++ branch_scopes types scope (next + scopes_in_all statements) rest

  pub otherwise_scopes : (types scope next : ℕ) → ShownOtherwise → List Scope
  otherwise_scopes types scope next NoOtherwise = []
  otherwise_scopes types scope next (OfOtherwise statements place) = all_scopes types scope next statements

-- the statements of a body, as those within a statement
abbrev pub as_stmts : List ShownStmt → ShownStmts
as_stmts [] = NoStmts
as_stmts (statement ∷ rest) = MoreStmts statement (as_stmts rest)

-- the body of a task or a procedure, with the parameters
abbrev pub routine_scopes : (types next : ℕ) → List ShownParam → ShownBody → List Scope
routine_scopes types next params body =
    record { outer = Some 0; entries = flat_map param_entries params ++ body_entries types body.declarations } ∷
    all_scopes types next (next + 1) (as_stmts body.statements)

abbrev pub decl_scopes : (types next : ℕ) → ShownDecl → List Scope
decl_scopes types next (OfTask name head body place) = routine_scopes types next [] body
decl_scopes types next (OfProc name params returns body place) = routine_scopes types next params body
decl_scopes types next decl = []

abbrev pub scopes_in_decl : ShownDecl → ℕ
scopes_in_decl (OfTask name head body place) = 1 + scopes_in_all (as_stmts body.statements)
scopes_in_decl (OfProc name params returns body place) = 1 + scopes_in_all (as_stmts body.statements)
scopes_in_decl decl = 0

abbrev pub types_in : ShownDecl → ℕ
types_in (OfType name part place) = 1
types_in decl = 0

abbrev pub decls_scopes : (types next : ℕ) → List ShownDecl → List Scope
decls_scopes types next [] = []
decls_scopes types next (decl ∷ rest) =
    decl_scopes types next decl ++ decls_scopes (types + types_in decl) (next + scopes_in_decl decl) rest

abbrev pub declared_entries : ℕ → ShownDeclared → List Entry
declared_entries types (OfItem item) = item_entries types item
declared_entries types (OfSema sema) = entries_as Semaphore (names_of sema.names)

abbrev pub spec_entries : ShownSpec → List Entry
spec_entries (OfInterrupt names place) = entries_as Interrupt (names_of names)
spec_entries (OfDation names direction class control place) = entries_as (Dation direction class) (names_of names)

-- the names that a declaration of the module declares, where so many TYPEs stand before it
abbrev pub decl_entries : ℕ → ShownDecl → List Entry
decl_entries types (OfType name part place) = entries_as (NewType types) (name ∷ [])
decl_entries types (OfDeclare parts place) = flat_map (declared_entries types) parts
decl_entries types (OfSpecify specs place) = flat_map spec_entries specs
decl_entries types (OfTask name head body place) = entries_as Task (name ∷ [])
decl_entries types (OfProc name params returns body place) = entries_as (Procedure params returns) (name ∷ [])
decl_entries types decl = []

abbrev pub decls_entries : ℕ → List ShownDecl → List Entry
decls_entries types [] = []
decls_entries types (decl ∷ rest) = decl_entries types decl ++ decls_entries (types + types_in decl) rest

abbrev pub scopes_of : ShownTree → List Scope
scopes_of tree =
    record { outer = None; entries = decls_entries 0 tree.declarations } ∷ decls_scopes 0 1 tree.declarations
