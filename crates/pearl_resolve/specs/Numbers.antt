-- Which number each name of each scope has: a variable of the module that of its first leaf, one of a routine that
-- of its first cell, a device that among the specified ones, a procedure the one that it is given, and any other
-- that in order of declaration. And which scopes, cells and formats a statement goes past.
use Rattle.std.specs.Prelude.{ℕ, ◌+◌, ◌*◌, Bool, ◌||◌, if◌then◌else◌, List, [], ◌∷◌, ◌++◌, length, Option, is_some, unwrap_or, slice_get}
use Rattle.std.specs.List.{sum_by, position}
use Rattle.std.specs.Str.{bytes_eq}
use Rattle.pearl_tree.specs.Names.{name_text}
use Rattle.pearl_tree.specs.ShownStatements.{ShownStmt, OfIf, OfCase, OfRepeat, OfBegin, OfPut, OfGet, ShownStmts, NoStmts, MoreStmts, ShownBranches, NoBranches, MoreBranches, ShownOtherwise, NoOtherwise, OfOtherwise}
use Rattle.pearl_tree.specs.ShownModules.{ShownBody, ShownDecl, OfTask, OfProc, ShownTree}
use Rattle.pearl_names.specs.declared.scope.SortedName.{SortedName}
use Rattle.pearl_names.specs.Found.{names_in}
use Rattle.pearl_names.specs.Scopes.{as_stmts}
use Rattle.pearl_names.specs.Tables.{Sense, Variable, Control, Semaphore, Interrupt, AlphicDation, BasicDation, Task, Procedure, Table}
use Rattle.pearl_system.specs.declared.device.SpecifiedDevice.{SpecifiedDevice}
use Rattle.pearl_resolve.specs.Laying.{leaves_of_sense, cells_of_sense}

-- how many things of each sort there are before a name of the module
pub record Before : Type 0 where
  pub leaves : ℕ
  pub semaphores : ℕ
  pub tasks : ℕ
  pub procedures : ℕ

abbrev pub behind : Before → Sense → Before
behind before (Variable form inv) = record before { leaves = before.leaves + length (leaves_of_sense (Variable form inv)) }
behind before Semaphore = record before { semaphores = before.semaphores + 1 }
behind before Task = record before { tasks = before.tasks + 1 }
behind before (Procedure parameters result) = record before { procedures = before.procedures + 1 }
behind before sense = before

abbrev pub device_number : List SpecifiedDevice → List ℕ → ℕ
device_number devices text = unwrap_or (position (λ (device : SpecifiedDevice). bytes_eq text device.text.items) devices) 0

-- where these are the devices, and procedures have these numbers, in order of declaration
module _ (devices : List SpecifiedDevice) (numbers : List ℕ) where
  abbrev pub module_number : Before → SortedName → Sense → ℕ
  module_number before entry (Variable form inv) = before.leaves
  module_number before entry Semaphore = before.semaphores
  module_number before entry Task = before.tasks
  module_number before entry (Procedure parameters result) = unwrap_or (slice_get numbers before.procedures) 0
  module_number before entry Interrupt = device_number devices (name_text entry.name)
  module_number before entry (AlphicDation direction) = device_number devices (name_text entry.name)
  module_number before entry (BasicDation direction kind) = device_number devices (name_text entry.name)
  module_number before entry sense = 0

  abbrev pub module_numbers : Before → List SortedName → List Sense → List ℕ
  module_numbers before (entry ∷ entries) (sense ∷ senses) =
      module_number before entry sense ∷ module_numbers (behind before sense) entries senses
  module_numbers before _ _ = []

-- the first cell of a name, where the control variable has this cell
abbrev pub own_number : (control cell : ℕ) → Sense → ℕ
own_number control cell (Control kind) = control
own_number control cell sense = cell

abbrev pub own_numbers : (control cell : ℕ) → List Sense → List ℕ
own_numbers control cell [] = []
own_numbers control cell (sense ∷ rest) = own_number control cell sense ∷ own_numbers control (cell + cells_of_sense sense) rest

abbrev pub senses_at : Table → ℕ → List Sense
senses_at table scope = unwrap_or (slice_get table.senses scope) []

-- how far the text of a module has come: the number of the next scope, the next cell of the routine, and the next format
pub record At : Type 0 where
  pub next : ℕ
  pub cell : ℕ
  pub format : ℕ

abbrev pub counts : {X Y : Type 0} → Option X → (begin step end : Option Y) → Bool
counts control begin step end = is_some control || (is_some begin || (is_some step || is_some end))

-- a loop with FOR, FROM, BY or TO has three cells before those of its body
abbrev pub loop_cells : {X Y : Type 0} → Option X → (begin step end : Option Y) → ℕ
loop_cells control begin step end = if counts control begin step end then 3 else 0

-- within the scope that begins here, where so many cells stand before its own
abbrev pub entered : Table → ℕ → At → At
entered table hidden at = record {
  next = at.next + 1;
  cell = at.cell + hidden + sum_by cells_of_sense (senses_at table at.next);
  format = at.format;
}

abbrev pub scope_numbers : Table → ℕ → At → List ℕ
scope_numbers table hidden at = own_numbers at.cell (at.cell + hidden) (senses_at table at.next)

abbrev mutual
  pub after : Table → At → ShownStmt → At
  after table at (OfIf condition statements otherwise place) = after_otherwise table (after_all table at statements) otherwise
  after table at (OfCase selector alternatives otherwise place) =
      after_otherwise table (after_branches table at alternatives) otherwise
  after table at (OfRepeat control begin step end condition declarations statements body_place place) =
      after_all table (entered table (loop_cells control begin step end) at) statements
  after table at (OfBegin declarations statements body_place place) = after_all table (entered table 0 at) statements
  after table at (OfPut values dation formats place) = record at { format = at.format + 1 }
  after table at (OfGet targets dation formats place) =
      record at { cell = at.cell + 2 * length targets; format = at.format + 1 }
  after table at statement = at

  pub after_all : Table → At → ShownStmts → At
  after_all table at NoStmts = at
  after_all table at (MoreStmts statement rest) = after_all table (after table at statement) rest

  pub after_branches : Table → At → ShownBranches → At
  after_branches table at NoBranches = at
  after_branches table at (MoreBranches statements place rest) = after_branches table (after_all table at statements) rest

  pub after_otherwise : Table → At → ShownOtherwise → At
  after_otherwise table at NoOtherwise = at
  after_otherwise table at (OfOtherwise statements place) = after_all table at statements

-- the numbers of the names of the scopes within a statement, scope by scope
abbrev mutual
  pub numbers_in : Table → At → ShownStmt → List (List ℕ)
  numbers_in table at (OfIf condition statements otherwise place) =
      numbers_in_all table at statements ++ numbers_in_otherwise table (after_all table at statements) otherwise
  numbers_in table at (OfCase selector alternatives otherwise place) =
      numbers_in_branches table at alternatives ++ numbers_in_otherwise table (after_branches table at alternatives) otherwise
  numbers_in table at (OfRepeat control begin step end condition declarations statements body_place place) =
      scope_numbers table (loop_cells control begin step end) at ∷
      numbers_in_all table (entered table (loop_cells control begin step end) at) statements
  numbers_in table at (OfBegin declarations statements body_place place) =
      scope_numbers table 0 at ∷ numbers_in_all table (entered table 0 at) statements
  numbers_in table at statement = []

  pub numbers_in_all : Table → At → ShownStmts → List (List ℕ)
  numbers_in_all table at NoStmts = []
  numbers_in_all table at (MoreStmts statement rest) =
      numbers_in table at statement ++ numbers_in_all table (after table at statement) rest

  pub numbers_in_branches : Table → At → ShownBranches → List (List ℕ)
  numbers_in_branches table at NoBranches = []
  numbers_in_branches table at (MoreBranches statements place rest) =
      numbers_in_all table at statements ++ numbers_in_branches table (after_all table at statements) rest

  pub numbers_in_otherwise : Table → At → ShownOtherwise → List (List ℕ)
  numbers_in_otherwise table at NoOtherwise = []
  numbers_in_otherwise table at (OfOtherwise statements place) = numbers_in_all table at statements

-- the beginning of a routine's cells
abbrev pub routine_start : At → At
routine_start at = record at { cell = 0 }

-- a routine's statements behind its own declarations
abbrev pub in_body : Table → At → At
in_body table at = entered table 0 (routine_start at)

abbrev pub after_body : Table → At → ShownBody → At
after_body table at body = after_all table (in_body table at) (as_stmts body.statements)

abbrev pub after_decl : Table → At → ShownDecl → At
after_decl table at (OfTask name head body place) = after_body table at body
after_decl table at (OfProc name params returns body place) = after_body table at body
after_decl table at decl = at

abbrev pub body_numbers : Table → At → ShownBody → List (List ℕ)
body_numbers table at body =
    scope_numbers table 0 (routine_start at) ∷ numbers_in_all table (in_body table at) (as_stmts body.statements)

abbrev pub decl_numbers : Table → At → ShownDecl → List (List ℕ)
decl_numbers table at (OfTask name head body place) = body_numbers table at body
decl_numbers table at (OfProc name params returns body place) = body_numbers table at body
decl_numbers table at decl = []

abbrev pub decls_numbers : Table → At → List ShownDecl → List (List ℕ)
decls_numbers table at [] = []
decls_numbers table at (decl ∷ rest) = decl_numbers table at decl ++ decls_numbers table (after_decl table at decl) rest

-- the first routine
abbrev pub first : At
first = record { next = 1; cell = 0; format = 0 }

abbrev pub nothing_before : Before
nothing_before = record { leaves = 0; semaphores = 0; tasks = 0; procedures = 0 }

-- scope by scope, the module's own first
abbrev pub numbers_of : Table → List SpecifiedDevice → (procedures : List ℕ) → ShownTree → List (List ℕ)
numbers_of table devices procedures tree =
    module_numbers devices procedures nothing_before (names_in (slice_get table.names 0)) (senses_at table 0) ∷
    decls_numbers table first tree.declarations
