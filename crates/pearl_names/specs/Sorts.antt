-- What sort of thing each name of a scope is.
use Rattle.std.specs.Prelude.{List, map}
use Rattle.pearl_tree.specs.declared.name.Name.{Name}
use Rattle.pearl_names.specs.declared.scope.NameSort.{NameSort}
use Rattle.pearl_names.specs.declared.scope.NameSort.TheVariants as sort
use Rattle.pearl_names.specs.declared.scope.SortedName.{SortedName}
use Rattle.pearl_names.specs.ScopeNames.{ScopeNames}
use Rattle.pearl_names.specs.Scopes.{Meaning, Variable, Control, Parameter, NewType, Semaphore, Interrupt, Dation, Task, Procedure, Entry, Scope}

abbrev pub sort_of : Meaning → NameSort
sort_of (Variable item types) = sort.Variable
sort_of (Control loop) = sort.Control
sort_of (Parameter basic ident) = sort.Parameter
sort_of (NewType number) = sort.NewType number
sort_of Semaphore = sort.Semaphore
sort_of Interrupt = sort.Interrupt
sort_of (Dation direction class) = sort.Dation
sort_of Task = sort.Task
sort_of (Procedure params returns) = sort.Procedure

-- each of these names is of this sort
abbrev pub names_as : NameSort → List Name → List SortedName
names_as sort names = map (λ name. record { name = name; sort = sort }) names

abbrev pub sorted_name : Entry → SortedName
sorted_name entry = record { name = entry.name; sort = sort_of entry.meaning }

unfoldable pub sorted_names : List Entry → List SortedName
sorted_names entries = map sorted_name entries

abbrev pub scope_names : Scope → ScopeNames
scope_names scope = record { outer = scope.outer; names = sorted_names scope.entries }

-- the names of these scopes
unfoldable pub names_of_scopes : List Scope → List ScopeNames
names_of_scopes scopes = map scope_names scopes
