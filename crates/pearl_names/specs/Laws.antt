-- What holds of the scopes of every module.
use Rattle.std.specs.Prelude.{ℕ, ◌+◌, ◌<◌, List, [], ◌∷◌, Option, Some, None}
use Rattle.pearl_tree.specs.ShownModules.{ShownTree}
use Rattle.pearl_names.specs.Scopes.{Scope, scopes_of}

abbrev pub IsEarlier : Option ℕ → ℕ → Type 0
IsEarlier None number = Unit {0}
IsEarlier (Some outer) number = outer < number

-- of scopes numbered from here on, each is around by an earlier one, or by none
abbrev pub AreWithinEarlier : ℕ → List Scope → Type 0
AreWithinEarlier number [] = Unit {0}
AreWithinEarlier number (scope ∷ rest) = IsEarlier scope.outer number × AreWithinEarlier (number + 1) rest

-- a scope stands within one of a smaller number, if it stands within one
abbrev pub OuterIsEarlier : Type 0
OuterIsEarlier = (tree : ShownTree) → AreWithinEarlier 0 (scopes_of tree)
