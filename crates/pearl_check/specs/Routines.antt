-- The tasks and procedures of a module, in the order of the text, with the scopes of their bodies and their statements.
use Rattle.std.specs.Prelude.{ℕ, ◌+◌, Bool, true, false, List, [], ◌∷◌, ◌++◌, Option}
use Rattle.pearl_tree.specs.declared.name.Name.{Name}
use Rattle.pearl_tree.specs.declared.typing.Basic.{Basic}
use Rattle.pearl_tree.specs.declared.tree.TaskHead.{TaskHead}
use Rattle.pearl_tree.specs.ShownModules.{ShownBody, ShownDecl, OfTask, OfProc, ShownTree}
use Rattle.pearl_names.specs.Scopes.{as_stmts, scopes_in_all, scopes_in_decl}
use Rattle.pearl_scope.specs.Placed.{Placed, placed_body}
use Rattle.pearl_check.specs.declared.routine.RoutineSort.{RoutineSort as CodeSort}
use Rattle.pearl_check.specs.declared.routine.RoutineSort.TheVariants as sort

pub data RoutineSort : Type 0 where
  Task : (head : TaskHead) → RoutineSort
  Procedure : (returns : Option Basic) → RoutineSort

abbrev pub shown_sort : CodeSort → RoutineSort
shown_sort (sort.Task head) = Task head.now
shown_sort (sort.Procedure returns) = Procedure returns.now

pub record Routine : Type 0 where
  pub name : Name
  pub sort : RoutineSort
  -- the number of its body's scope; those of the scopes within it follow
  pub scope : ℕ
  pub body : ShownBody

-- of a declaration, the first scope of which has the number `next`
abbrev pub decl_routines : (next : ℕ) → ShownDecl → List Routine
decl_routines next (OfTask name head body place) =
    record { name = name; sort = Task head; scope = next; body = body } ∷ []
decl_routines next (OfProc name params returns body place) =
    record { name = name; sort = Procedure returns; scope = next; body = body } ∷ []
decl_routines next decl = []

abbrev pub decls_routines : (next : ℕ) → List ShownDecl → List Routine
decls_routines next [] = []
decls_routines next (decl ∷ rest) = decl_routines next decl ++ decls_routines (next + scopes_in_decl decl) rest

abbrev pub routines_of : ShownTree → List Routine
routines_of tree = decls_routines 1 tree.declarations

-- all of its statements, each with where it stands
abbrev pub statements_of : Routine → List Placed
statements_of routine = placed_body routine.scope (as_stmts routine.body.statements)

-- how many scopes it has
abbrev pub scopes_in_routine : Routine → ℕ
scopes_in_routine routine = 1 + scopes_in_all (as_stmts routine.body.statements)

abbrev pub is_procedure : Routine → Bool
is_procedure routine = is_so routine.sort
  where
    is_so : RoutineSort → Bool
    is_so (Task head) = false
    is_so (Procedure returns) = true

abbrev pub is_task : Routine → Bool
is_task routine = is_so routine.sort
  where
    is_so : RoutineSort → Bool
    is_so (Task head) = true
    is_so (Procedure returns) = false
