-- The names of a scope, as contracts see them.
use Rattle.std.specs.Prelude.{ℕ, List, Option}
use Rattle.pearl_names.specs.declared.scope.SortedName.{SortedName}

pub record ScopeNames : Type 0 where
  -- the number of the scope around it; the module has none around it
  pub outer : Option ℕ
  -- in order
  pub names : List SortedName
