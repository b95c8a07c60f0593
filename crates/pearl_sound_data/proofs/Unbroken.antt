-- Parts of a module in which no rule on names and types is broken.
use Rattle.std.specs.Prelude.{◌≡◌, []}
use Rattle.std.specs.List.{flat_map}
use Rattle.pearl_tree.specs.ShownModules.{ShownTree}
use Rattle.pearl_names.specs.Known.{known_of}
use Rattle.pearl_scope.specs.Parts.{parts_of}
use Rattle.pearl_scope.specs.Rules.{s1, faults_in, broken}
use Rattle.pearl_sound_data.proofs.Faults.{right_none}
pub use Rattle.pearl_sound.proofs.Offered.{IsUnbroken, AreUnbroken, all_unbroken}

-- all parts of a module
pub module_unbroken : (tree : ShownTree) → broken tree ≡ [] → AreUnbroken (known_of tree) (parts_of tree)
module_unbroken tree none =
    let known = known_of tree in
    all_unbroken known (parts_of tree) (right_none (flat_map s1 known.scopes) (faults_in known (parts_of tree)) none)
