use Rattle.std.proofs.Common.{ℕ, List, Option, ◌++◌, take}
use Rattle.pearl_names.specs.declared.types.StructForm.{StructForm}
use Rattle.pearl_names.specs.Groups.{shown_meaning}
use Rattle.pearl_names.specs.Holding.{HoldsAll, HasPart}
use Rattle.pearl_names.specs.Known.{known_from}
use Rattle.pearl_names.specs.ScopeNames.{ScopeNames}
use Rattle.pearl_names.specs.Scopes.{entries_as}
use Rattle.pearl_names.specs.Shapes.{Shape}
use Rattle.pearl_names.specs.Tables.{Sense, senses_of}
use Rattle.pearl_names.proofs.senses.add_senses.Given as goal

abbrev pub invariant-loop-name : goal.invariant-loop-name
invariant-loop-name l =
    (forms : List StructForm) (names : List ScopeNames) (shapes : List (Option Shape)) (scope : ℕ) (old : List Sense) →
    HasPart forms l.part (known_from names l.lengths shapes) scope (shown_meaning l.group.meaning) →
    HoldsAll forms l.fn.into.items old → HoldsAll forms l.into.items
    (old ++ senses_of (known_from names l.lengths shapes) scope (entries_as (shown_meaning l.group.meaning) (take l._name-index l.group.names.now)))
