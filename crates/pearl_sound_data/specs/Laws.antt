-- What holds of first values, and of the leaves, devices, formats and presets of a program.
use Rattle.std.specs.Prelude.{◌≡◌, ℕ, List, [], ◌++◌, length, map, Some}
use Rattle.std.specs.List.{AllByRecursion, flat_map}
use Rattle.pearl_value.specs.declared.kind.Kind.{Kind}
use Rattle.pearl_value.specs.Kinds.{IsKind}
use Rattle.pearl_value.specs.WellFormed.{IsValueOf}
use Rattle.pearl_tree.specs.declared.name.Name.{Name}
use Rattle.pearl_tree.specs.declared.tree.Tree.{Tree}
use Rattle.pearl_tree.specs.Lawful.{IsLawful}
use Rattle.pearl_tree.specs.Names.{names_of}
use Rattle.pearl_tree.specs.ShownLiterals.{ShownConst}
use Rattle.pearl_tree.specs.ShownDeclarations.{ShownItem}
use Rattle.pearl_tree.specs.ShownModules.{ShownTree, shown_tree}
use Rattle.pearl_names.specs.declared.scope.View.TheVariants.{Within}
use Rattle.pearl_names.specs.Known.{Known, around}
use Rattle.pearl_names.specs.Layout.{Leaf, slots_of}
use Rattle.pearl_names.specs.Tables.{Form, form_of, table_of, leaves_in}
use Rattle.pearl_scope.specs.Parts.{Item}
use Rattle.pearl_scope.specs.Rules.{slots_of_names, s7}
use Rattle.pearl_scope.specs.Rules as names
use Rattle.pearl_system.specs.declared.device.SpecifiedDevice.{SpecifiedDevice}
use Rattle.pearl_system.specs.Devices.{device_key, IsDevice}
use Rattle.pearl_system.specs.Rising.{Lists}
use Rattle.pearl_check.specs.Rules.{statements_broken, all_broken}
use Rattle.pearl_program.specs.FirstCells.{first_cells}
use Rattle.pearl_program.specs.PlainPrograms.{PlainLeaf, PlainProg}
use Rattle.pearl_program.specs.SoundStatements.{AreFirst}
use Rattle.pearl_value.specs.Devices as device_list
use Rattle.pearl_value.specs.Devices.{AreRising}
use Rattle.pearl_value.specs.Counts.{IsPreset}
use Rattle.pearl_format.specs.Items.{IsFormat}
use Rattle.pearl_program.specs.Sound.{IsLeaf}
use Rattle.pearl_resolve_tables.specs.Laying.{leaves_of_sense, constant_in, left_behind, filled_leaves}
use Rattle.pearl_resolve.specs.Expressions.{Numbered, Meant, meant, number_of}
use Rattle.pearl_resolve.specs.Statements.{names_renewals, variable_renewals}
use Rattle.pearl_resolve.specs.Resolve.{names_leaves, resolve}
use Rattle.pearl_sound_data.specs.Constants.{IsConstant, DeclHasConstants}
use Rattle.pearl_sound_data.specs.Filling.{filled, cells_from, renewed, ArePut}

-- whatever a constant is put into, it becomes a value of that kind
abbrev pub ConstantsBecomeValues : Type 0
ConstantsBecomeValues = (kind : Kind) (constant : ShownConst) → IsKind kind → IsConstant constant → IsValueOf kind (constant_in kind constant)

-- in a lawful tree all constants of INIT are values, where no rule on names and types is broken
abbrev pub ModulesHaveConstants : Type 0
ModulesHaveConstants = (tree : Tree) → IsLawful tree → names.broken (shown_tree tree) ≡ [] →
    AllByRecursion DeclHasConstants (shown_tree tree).declarations

-- where all constants are values, each leaf of the program has first values of its kind
abbrev pub LeavesHaveFirstValues : Type 0
LeavesHaveFirstValues = (tree : ShownTree) (devices : List SpecifiedDevice) (procedures : List ℕ) →
    AllByRecursion DeclHasConstants tree.declarations →
    AllByRecursion (λ (leaf : PlainLeaf). AreFirst leaf.values) (resolve (table_of tree) devices procedures tree).leaves

-- the devices have numbers from 1 to 99 and kinds with lengths in their ranges, and stand in the order of sorts and numbers
abbrev pub DevicesAreSound : Type 0
DevicesAreSound = (tree : ShownTree) (devices : List SpecifiedDevice) (procedures : List ℕ) → Lists device_key (IsDevice tree) devices →
    AllByRecursion device_list.IsDevice (resolve (table_of tree) devices procedures tree).devices ×
    AreRising (resolve (table_of tree) devices procedures tree).devices

-- where S9 isn't broken, what semaphores have at first is below 2^31
abbrev pub PresetsAreSmall : Type 0
PresetsAreSmall = (tree : ShownTree) (devices : List SpecifiedDevice) (procedures : List ℕ) → names.broken tree ≡ [] →
    AllByRecursion IsPreset (resolve (table_of tree) devices procedures tree).semaphores

-- where S33 isn't broken, the items of all formats have widths that suit them
abbrev pub FormatsAreSound : Type 0
FormatsAreSound = (tree : ShownTree) (devices : List SpecifiedDevice) (procedures : List ℕ) → statements_broken (table_of tree) tree ≡ [] →
    AllByRecursion IsFormat (resolve (table_of tree) devices procedures tree).formats

-- in a lawful tree that breaks no rule all leaves are sound
abbrev pub LeavesAreSound : Type 0
LeavesAreSound = (tree : Tree) (devices : List SpecifiedDevice) (procedures : List ℕ) → IsLawful tree → all_broken (shown_tree tree) ≡ [] →
    AllByRecursion IsLeaf (resolve (table_of (shown_tree tree)) devices procedures (shown_tree tree)).leaves

-- what is asked of a program's tables apart from its tasks and procedures
pub record HasSoundTables (p : PlainProg) : Type 0 where
  pub leaves : AllByRecursion IsLeaf p.leaves
  pub semaphores : AllByRecursion IsPreset p.semaphores
  pub devices : AllByRecursion device_list.IsDevice p.devices
  pub rising : AreRising p.devices
  pub formats : AllByRecursion IsFormat p.formats

-- so are they in the program of a lawful tree that breaks no rule
abbrev pub TablesAreSound : Type 0
TablesAreSound = (tree : Tree) (devices : List SpecifiedDevice) (procedures : List ℕ) → IsLawful tree → all_broken (shown_tree tree) ≡ [] →
    Lists device_key (IsDevice (shown_tree tree)) devices →
    HasSoundTables (resolve (table_of (shown_tree tree)) devices procedures (shown_tree tree))

-- the slots of a variable hold at first what INIT puts into them
abbrev pub InitFillsSlots : Type 0
InitFillsSlots = (name : List ℕ) (constants : List ShownConst) (leaves : List Leaf) →
    flat_map (λ (leaf : PlainLeaf). first_cells leaf.values) (filled_leaves name constants leaves) ≡ filled (slots_of leaves) constants

-- within a scope a name means a variable with these leaves
abbrev pub HasLeaves : Numbered → (scope : ℕ) → List Leaf → Name → Type 0
HasLeaves numbered scope leaves name = (thing : Meant) × (meant numbered (Within scope) name ≡ Some thing) × (leaves_of_sense thing.sense ≡ leaves)

-- the slots of names that the module declares together hold what INIT puts into them one after the other
abbrev pub InitFillsNames : Type 0
InitFillsNames = (numbered : Numbered) (constants : List ShownConst) (names : List Name) (leaves : List Leaf) →
    AllByRecursion (HasLeaves numbered 0 leaves) names →
    flat_map (λ (leaf : PlainLeaf). first_cells leaf.values) (names_leaves numbered constants names) ≡
    filled (slots_of_names names leaves) constants

-- the cells of a local variable, from that of its number on, get what INIT puts into its slots
abbrev pub InitRenewsVariables : Type 0
InitRenewsVariables = (numbered : Numbered) (scope : ℕ) (constants : List ShownConst) (name : Name) (leaves : List Leaf) →
    HasLeaves numbered scope leaves name →
    renewed (variable_renewals constants (meant numbered (Within scope) name)) ≡
    cells_from (number_of numbered (Within scope) name) (filled (slots_of leaves) constants)

-- the cells of names that a scope declares together get what INIT puts into their slots one after the other
abbrev pub InitRenewsNames : Type 0
InitRenewsNames = (numbered : Numbered) (scope : ℕ) (constants : List ShownConst) (names : List Name) (leaves : List Leaf) →
    AllByRecursion (HasLeaves numbered scope leaves) names →
    map (λ put. put.1) (renewed (names_renewals numbered scope constants names)) ≡ filled (slots_of_names names leaves) constants

-- in the slots behind some INIT goes on with what these leave
abbrev pub InitGoesOn : Type 0
InitGoesOn = (slots more : List Kind) (constants : List ShownConst) →
    filled (slots ++ more) constants ≡ filled slots constants ++ filled more (left_behind (length slots) constants)

-- where S7 isn't broken in an item, each constant suits the slots that it is put into, and none is left out
abbrev pub ConstantsArePut : Type 0
ConstantsArePut = (known : Known) (scope types : ℕ) (item : ShownItem) (form : Form) → s7 known (Item scope types item) ≡ [] →
    AllByRecursion IsConstant item.init → form_of (around known scope types) item ≡ Some form →
    ArePut (slots_of_names (names_of item.names) (leaves_in (Some form))) item.init
