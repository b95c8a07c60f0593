-- That the program of a lawful module which breaks no static rule is sound.
use Rattle.std.specs.Prelude.{◌≡◌, ℕ, List, []}
use Rattle.std.specs.List.{AllByRecursion}
use Rattle.pearl_tree.specs.declared.tree.Tree.{Tree}
use Rattle.pearl_tree.specs.Lawful.{IsLawful}
use Rattle.pearl_tree.specs.ShownModules.{ShownTree, shown_tree}
use Rattle.pearl_names.specs.Tables.{table_of}
use Rattle.pearl_system.specs.declared.device.SpecifiedDevice.{SpecifiedDevice}
use Rattle.pearl_system.specs.Devices.{device_key, IsDevice}
use Rattle.pearl_system.specs.Rising.{Lists}
use Rattle.pearl_check.specs.Routines.{routines_of}
use Rattle.pearl_check.specs.Rules.{all_broken}
use Rattle.pearl_program.specs.Sound.{IsSound}
use Rattle.pearl_resolve.specs.Resolve.{numbered_of, resolve}
use Rattle.pearl_sound_data.specs.Constants.{DeclHasConstants}
use Rattle.pearl_sound_sizes.specs.ByRule.{AreByRule}
use Rattle.pearl_sound.specs.KnownParts.{NamesSemaphores}
use Rattle.pearl_sound.specs.Ready.{RoutineRenewsRight}

-- where all constants are values, what goes into the variables of tasks and procedures as first values suits them
abbrev pub BodiesRenewRight : Type 0
BodiesRenewRight = (tree : ShownTree) (devices : List SpecifiedDevice) (procedures : List ℕ) →
    AllByRecursion DeclHasConstants tree.declarations →
    AllByRecursion (RoutineRenewsRight (numbered_of (table_of tree) devices procedures tree)) (routines_of tree)

-- the program of a lawful module that breaks no static rule, and whose REQUESTs and RELEASEs each name a semaphore, is sound,
-- with its devices in order and the numbers of procedures by the rule
abbrev pub ProgramsAreSound : Type 0
ProgramsAreSound = (tree : Tree) → NamesSemaphores (shown_tree tree) → IsLawful tree → all_broken (shown_tree tree) ≡ [] →
    (devices : List SpecifiedDevice) (numbers : List ℕ) → Lists device_key (IsDevice (shown_tree tree)) devices →
    AreByRule (shown_tree tree) numbers → IsSound (resolve (table_of (shown_tree tree)) devices numbers (shown_tree tree))
