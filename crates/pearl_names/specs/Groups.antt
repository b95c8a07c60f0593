-- What the scopes in memory show, whose names stand in groups that are declared together.
use Rattle.std.specs.Prelude.{ℕ, ◌+◌, List, ◌∷◌, ◌++◌, map, Some}
use Rattle.std.specs.List.{flat_map}
use Rattle.pearl_tree.specs.ShownDeclarations.{shown_item, shown_param}
use Rattle.pearl_tree.specs.ShownStatements.{ShownBodyDecl, ShownStmts}
use Rattle.pearl_names.specs.declared.group.Meaning.{Meaning as GroupMeaning}
use Rattle.pearl_names.specs.declared.group.Meaning.TheVariants as group
use Rattle.pearl_names.specs.declared.group.Group.{Group}
use Rattle.pearl_names.specs.declared.group.ScopeGroups.{ScopeGroups}
use Rattle.pearl_names.specs.Scopes.{Meaning, Variable, Control, Parameter, NewType, Semaphore, Interrupt, Dation, Task, Procedure, Entry, Scope, entries_as, body_entries, all_scopes}

abbrev pub shown_meaning : GroupMeaning → Meaning
shown_meaning (group.Variable item types) = Variable (shown_item item.now) types
shown_meaning (group.Control loop) = Control loop
shown_meaning (group.Parameter basic ident) = Parameter basic ident
shown_meaning (group.NewType number) = NewType number
shown_meaning group.Semaphore = Semaphore
shown_meaning group.Interrupt = Interrupt
shown_meaning (group.Dation direction class) = Dation direction class
shown_meaning group.Task = Task
shown_meaning (group.Procedure params returns) = Procedure (map shown_param params.now.items.items) returns

abbrev pub group_entries : Group → List Entry
group_entries group = entries_as (shown_meaning group.meaning) group.names.now

-- what a list of groups shows
unfoldable pub entries_in : List Group → List Entry
entries_in groups = flat_map group_entries groups

abbrev pub shown_scope : ScopeGroups → Scope
shown_scope scope = record { outer = scope.outer; entries = entries_in scope.groups.items }

-- what a list of scopes shows
unfoldable pub scopes_in_list : List ScopeGroups → List Scope
scopes_in_list scopes = map shown_scope scopes

-- a body within this scope that declares these names before its own, and the scopes within it
abbrev pub body_scopes : (types outer number : ℕ) → List Entry → List ShownBodyDecl → ShownStmts → List Scope
body_scopes types outer number entries declarations statements =
    record { outer = Some outer; entries = entries ++ body_entries types declarations } ∷
    all_scopes types number (number + 1) statements
