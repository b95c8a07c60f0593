-- The tables of a lawful tree's program are sound, where no rule is broken.
use Rattle.std.specs.Prelude.{◌≡◌, ℕ, List, [], ◌++◌}
use Rattle.std.specs.List.{AllByRecursion}
use Rattle.pearl_tree.specs.declared.tree.Tree.{Tree}
use Rattle.pearl_tree.specs.Lawful.{IsLawful}
use Rattle.pearl_tree.specs.ShownModules.{ShownTree, shown_tree}
use Rattle.pearl_names.specs.Tables.{table_of}
use Rattle.pearl_scope.specs.Rules as names
use Rattle.pearl_system.specs.declared.device.SpecifiedDevice.{SpecifiedDevice}
use Rattle.pearl_system.specs.Devices.{device_key, IsDevice}
use Rattle.pearl_system.specs.Rising.{Lists}
use Rattle.pearl_system.specs.Rules as devices_rules
use Rattle.pearl_check.specs.Calls.{s28}
use Rattle.pearl_check.specs.Routines.{routines_of}
use Rattle.pearl_check.specs.Rules.{statements_broken, whole_broken, all_broken}
use Rattle.pearl_check.specs.Sizes.{declared_in, weighed_procedures, weighed_tasks, counted_sizes, weights}
use Rattle.pearl_program.specs.Sound.{IsLeaf}
use Rattle.pearl_resolve.specs.Resolve.{numbered_of, resolve}
use Rattle.pearl_sound_data.specs.Laws.{HasSoundTables}
use Rattle.pearl_sound_data.proofs.Faults.{left_none, right_none}
use Rattle.pearl_sound_data.proofs.ModuleConstants.{module_constants}
use Rattle.pearl_sound_data.proofs.ModuleLeaves.{leaves_first}
use Rattle.pearl_sound_data.proofs.LeafNames.{leaves_sound}
use Rattle.pearl_sound_data.proofs.Presets.{module_presets}
use Rattle.pearl_sound_data.proofs.Devices.{program_devices}
use Rattle.pearl_sound_data.proofs.Formats.{module_formats}

module _ (tree : ShownTree) (none : all_broken tree ≡ []) where
  pub names_kept : names.broken tree ≡ []
  names_kept = left_none (names.broken tree) (devices_rules.broken tree ++ (statements_broken (table_of tree) tree ++ whole_broken tree)) none

  others : statements_broken (table_of tree) tree ++ whole_broken tree ≡ []
  others =
      right_none (devices_rules.broken tree) (statements_broken (table_of tree) tree ++ whole_broken tree)
      (right_none (names.broken tree) (devices_rules.broken tree ++ (statements_broken (table_of tree) tree ++ whole_broken tree)) none)

  pub statements_kept : statements_broken (table_of tree) tree ≡ []
  statements_kept = left_none (statements_broken (table_of tree) tree) (whole_broken tree) others

  pub sizes_kept : counted_sizes (declared_in (table_of tree)) ≡ []
  sizes_kept =
      let table = table_of tree in
      let procedures = weighed_procedures table (routines_of tree) in
      let tasks = weighed_tasks table (routines_of tree) in
      left_none (counted_sizes (declared_in table)) (s28 procedures ++ weights (s28 procedures) procedures tasks)
      (right_none (statements_broken (table_of tree) tree) (whole_broken tree) others)

pub module_leaves : (tree : Tree) (devices : List SpecifiedDevice) (procedures : List ℕ) → IsLawful tree → all_broken (shown_tree tree) ≡ [] →
    AllByRecursion IsLeaf (resolve (table_of (shown_tree tree)) devices procedures (shown_tree tree)).leaves
module_leaves tree devices procedures lawful none =
    let shown = shown_tree tree in
    let numbers = (numbered_of (table_of shown) devices procedures shown).numbers in
    leaves_sound tree numbers lawful (sizes_kept shown none)
    (leaves_first shown numbers (module_constants tree lawful (names_kept shown none)))

pub module_tables : (tree : Tree) (devices : List SpecifiedDevice) (procedures : List ℕ) → IsLawful tree → all_broken (shown_tree tree) ≡ [] →
    Lists device_key (IsDevice (shown_tree tree)) devices →
    HasSoundTables (resolve (table_of (shown_tree tree)) devices procedures (shown_tree tree))
module_tables tree devices procedures lawful none lists =
    let shown = shown_tree tree in
    let own = program_devices shown devices lists in
    record {
      leaves = module_leaves tree devices procedures lawful none;
      semaphores = module_presets shown (names_kept shown none);
      devices = own.0;
      rising = own.1;
      formats = module_formats shown (statements_kept shown none);
    }
