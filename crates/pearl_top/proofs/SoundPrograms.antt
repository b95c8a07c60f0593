-- The program of a lawful module that breaks no static rule is sound.
use Rattle.std.specs.Prelude.{◌≡◌, ℕ, List, [], ◌++◌}
use Rattle.pearl_tree.specs.declared.tree.Tree.{Tree}
use Rattle.pearl_tree.specs.Lawful.{IsLawful}
use Rattle.pearl_tree.specs.ShownModules.{shown_tree}
use Rattle.pearl_names.specs.Tables.{table_of}
use Rattle.pearl_scope.specs.Rules as names
use Rattle.pearl_system.specs.declared.device.SpecifiedDevice.{SpecifiedDevice}
use Rattle.pearl_system.specs.Devices.{device_key, IsDevice}
use Rattle.pearl_system.specs.Rising.{Lists}
use Rattle.pearl_system.specs.Rules as devices_rules
use Rattle.pearl_check.specs.Rules.{statements_broken, whole_broken, all_broken}
use Rattle.pearl_program.specs.Sound.{IsSound}
use Rattle.pearl_resolve.specs.Resolve.{resolve}
use Rattle.pearl_sound_data.proofs.Offered.{module_constants, module_tables}
use Rattle.pearl_sound.specs.KnownParts.{NamesSemaphores}
use Rattle.pearl_sound.proofs.Offered.{numbers_given, left_none, routines_sound}
use Rattle.pearl_sound_sizes.specs.ByRule.{AreByRule}
use Rattle.pearl_sound_sizes.proofs.Offered.{smaller_called, sizes_within, whole}
use Rattle.pearl_top.proofs.RightRenewals.{bodies_right}

pub program_sound : (tree : Tree) → NamesSemaphores (shown_tree tree) → IsLawful tree → all_broken (shown_tree tree) ≡ [] →
    (devices : List SpecifiedDevice) (numbers : List ℕ) → Lists device_key (IsDevice (shown_tree tree)) devices →
    AreByRule (shown_tree tree) numbers → IsSound (resolve (table_of (shown_tree tree)) devices numbers (shown_tree tree))
program_sound tree named lawful none devices numbers lists rule =
    let shown = shown_tree tree in
    let others = devices_rules.broken shown ++ (statements_broken (table_of shown) shown ++ whole_broken shown) in
    let constants = module_constants tree lawful (left_none (names.broken shown) others none) in
    let given = numbers_given shown devices rule.callers rule.order numbers rule.numbering rule.are (whole shown devices numbers rule) in
    let routines = routines_sound tree named lawful none devices numbers lists given (bodies_right shown devices numbers constants) in
    let tables = module_tables tree devices numbers lawful none lists in
    record {
      leaves = tables.leaves;
      semaphores = tables.semaphores;
      devices = tables.devices;
      rising = tables.rising;
      formats = tables.formats;
      procedures = routines.0;
      order = smaller_called shown devices numbers none rule;
      tasks = routines.1;
      sizes = sizes_within shown devices numbers none lists rule;
    }
