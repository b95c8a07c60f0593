-- Which program a module means. Its devices and the numbers of its procedures are given: they are told by rules of
-- their own.
use Rattle.std.specs.Prelude.{ℕ, zero, suc, ◌+◌, nat_eq, Bool, true, List, [], ◌∷◌, ◌++◌, length, map, Option, Some, None, option_map, unwrap_or, slice_get}
use Rattle.std.specs.List.{flat_map, sum_by, position}
use Rattle.std.specs.Option.{option_and_then}
use Rattle.pearl_value.specs.declared.kind.Kind.{Kind}
use Rattle.pearl_tree.specs.declared.name.Name.{Name}
use Rattle.pearl_tree.specs.declared.declaration.Prio.{Prio}
use Rattle.pearl_tree.specs.declared.typing.Basic.{Basic}
use Rattle.pearl_tree.specs.declared.tree.TaskHead.{TaskHead}
use Rattle.pearl_tree.specs.declared.tree.TaskHead.TheVariants.{PrioFirst, MainFirst}
use Rattle.pearl_tree.specs.Names.{name_text, names_of}
use Rattle.pearl_tree.specs.ShownLiterals.{ShownConst}
use Rattle.pearl_tree.specs.ShownDeclarations.{ShownDeclared, OfItem, OfSema, ShownParam}
use Rattle.pearl_tree.specs.ShownModules.{ShownBody, ShownDecl, OfDeclare, OfTask, OfProc, ShownTree}
use Rattle.pearl_names.specs.declared.length.DefaultLength.{DefaultLength}
use Rattle.pearl_names.specs.declared.scope.View.TheVariants.{Within}
use Rattle.pearl_names.specs.Lengths.{kind_of_basic}
use Rattle.pearl_names.specs.Scopes.{as_stmts}
use Rattle.pearl_names.specs.Tables.{Table}
use Rattle.pearl_system.specs.declared.device.SpecifiedDevice.{SpecifiedDevice}
use Rattle.pearl_program.specs.PlainPrograms.{PlainLeaf, PlainRoutine, PlainProcedure, PlainTask, PlainProg}
pub use Rattle.pearl_resolve_tables.specs.Presets.{presets, declared_presets, decl_presets}
pub use Rattle.pearl_resolve_tables.specs.Devices.{kind_or_short, device_of}
pub use Rattle.pearl_resolve_tables.specs.Formats.{free_code, wide_code, width_of, item_of, formats_in, formats_in_all, formats_in_branches, formats_in_otherwise, decl_formats}
use Rattle.pearl_resolve.specs.Laying.{leaves_of_sense, left_behind, filled_leaves}
use Rattle.pearl_resolve.specs.Numbers.{At, in_body, after_decl, first, numbers_of}
use Rattle.pearl_resolve.specs.Expressions.{Numbered, Meant, meant}
use Rattle.pearl_resolve.specs.Statements.{joined, slots_of_meant, declared_renewals, resolve_all}
use Rattle.pearl_resolve.specs.Cells.{routine_cells}

-- leaves: those of each variable of the module in order
abbrev pub variable_leaves : Name → List ShownConst → Option Meant → List PlainLeaf
variable_leaves name constants None = []
variable_leaves name constants (Some thing) = filled_leaves (name_text name) constants (leaves_of_sense thing.sense)

abbrev pub names_leaves : Numbered → List ShownConst → List Name → List PlainLeaf
names_leaves numbered constants [] = []
names_leaves numbered constants (name ∷ rest) =
    variable_leaves name constants (meant numbered (Within 0) name) ++
    names_leaves numbered (left_behind (slots_of_meant (meant numbered (Within 0) name)) constants) rest

abbrev pub declared_leaves : Numbered → ShownDeclared → List PlainLeaf
declared_leaves numbered (OfItem item) = names_leaves numbered item.init (names_of item.names)
declared_leaves numbered (OfSema sema) = []

abbrev pub decl_leaves : Numbered → ShownDecl → List PlainLeaf
decl_leaves numbered (OfDeclare declared place) = flat_map (declared_leaves numbered) declared
decl_leaves numbered decl = []

-- routines
abbrev pub resolve_routine : Numbered → At → ShownBody → PlainRoutine
resolve_routine numbered at body = record {
  cells = routine_cells numbered at body;
  body = joined (declared_renewals numbered at.next body.declarations)
      (resolve_all numbered at.next (in_body numbered.table at) (as_stmts body.statements));
}

abbrev pub prio_value : Prio → ℕ
prio_value prio = prio.number.value

-- 255 where none is declared
abbrev pub priority_of : TaskHead → ℕ
priority_of (PrioFirst prio main) = unwrap_or (option_map prio_value prio) 255
priority_of (MainFirst prio) = prio_value prio

abbrev pub is_main : TaskHead → Bool
is_main (PrioFirst prio main) = main
is_main (MainFirst prio) = true

abbrev pub decl_tasks : Numbered → At → ShownDecl → List PlainTask
decl_tasks numbered at (OfTask name head body place) = record {
  name = name_text name;
  priority = priority_of head;
  main = is_main head;
  routine = resolve_routine numbered at body;
} ∷ []
decl_tasks numbered at decl = []

abbrev pub tasks_in : Numbered → At → List ShownDecl → List PlainTask
tasks_in numbered at [] = []
tasks_in numbered at (decl ∷ rest) = decl_tasks numbered at decl ++ tasks_in numbered (after_decl numbered.table at decl) rest

abbrev pub names_in_param : ShownParam → ℕ
names_in_param param = length (names_of param.names)

abbrev pub result_kind : List DefaultLength → Option Basic → Option Kind
result_kind lengths returns = option_map (λ basic. kind_or_short (kind_of_basic lengths basic)) returns

abbrev pub decl_procedures : Numbered → At → ShownDecl → List PlainProcedure
decl_procedures numbered at (OfProc name params returns body place) = record {
  params = sum_by names_in_param params;
  result = result_kind numbered.table.lengths returns;
  routine = resolve_routine numbered at body;
} ∷ []
decl_procedures numbered at decl = []

-- in order of declaration
abbrev pub procedures_in : Numbered → At → List ShownDecl → List PlainProcedure
procedures_in numbered at [] = []
procedures_in numbered at (decl ∷ rest) =
    decl_procedures numbered at decl ++ procedures_in numbered (after_decl numbered.table at decl) rest

abbrev pub if_there : {X : Type 0} → Option X → List X → List X
if_there None rest = rest
if_there (Some x) rest = x ∷ rest

-- by their numbers, of which there are so many from this one on
abbrev pub by_number : {X : Type 0} → List ℕ → List X → (count number : ℕ) → List X
by_number numbers things zero number = []
by_number numbers things (suc count) number =
    if_there (option_and_then (slice_get things) (position (nat_eq number) numbers)) (by_number numbers things count (number + 1))

abbrev pub numbered_of : Table → List SpecifiedDevice → List ℕ → ShownTree → Numbered
numbered_of table devices procedures tree = record { table = table; numbers = numbers_of table devices procedures tree }

abbrev pub program_of : Numbered → List SpecifiedDevice → List ℕ → ShownTree → PlainProg
program_of numbered devices procedures tree = record {
  leaves = flat_map (decl_leaves numbered) tree.declarations;
  semaphores = flat_map decl_presets tree.declarations;
  devices = map (device_of numbered.table.lengths) devices;
  formats = flat_map decl_formats tree.declarations;
  procedures = by_number procedures (procedures_in numbered first tree.declarations) (length procedures) 0;
  tasks = tasks_in numbered first tree.declarations;
}

-- with this table of names, these devices in the order of their sorts and numbers, and these numbers of the
-- procedures in
-- the order of their declarations
abbrev pub resolve : Table → List SpecifiedDevice → (procedures : List ℕ) → ShownTree → PlainProg
resolve table devices procedures tree = program_of (numbered_of table devices procedures tree) devices procedures tree
