-- Where a module keeps its rules, its names are declared once, and all of them lead to what is there.
use Rattle.std.specs.Prelude.{◌≡◌, ℕ, ◌++◌, List, [], ◌∷◌, length}
use Rattle.std.specs.List.{AllByRecursion, flat_map}
use Rattle.std.proofs.Common.{refl, ap, arith}
use Rattle.pearl_tree.specs.declared.fault.RuleFault.{RuleFault}
use Rattle.pearl_tree.specs.ShownModules.{ShownTree}
use Rattle.pearl_names.specs.Known.{known_of}
use Rattle.pearl_names.specs.Scopes.{decls_entries, decls_scopes}
use Rattle.pearl_names.specs.Sorts.{sorted_names, names_of_scopes}
use Rattle.pearl_names.specs.FirstNames.{repeated}
use Rattle.pearl_names.specs.Tables.{table_of}
use Rattle.pearl_scope.specs.Rules as names
use Rattle.pearl_scope.specs.Rules.{s1, faults_in}
use Rattle.pearl_scope.specs.Parts.{parts_of}
use Rattle.pearl_system.specs.declared.device.SpecifiedDevice.{SpecifiedDevice}
use Rattle.pearl_system.specs.Devices.{device_key, IsDevice}
use Rattle.pearl_system.specs.Rising.{Lists}
use Rattle.pearl_system.specs.Rules as devices_rules
use Rattle.pearl_check.specs.Rules.{statements_broken, whole_broken, all_broken}
use Rattle.pearl_resolve.specs.Resolve.{numbered_of}
use Rattle.pearl_sound.specs.ModuleNames.{HasNamesOnce, AreProcedureNumbers}
use Rattle.pearl_sound.specs.Sights.{Sight, sights_of}
use Rattle.pearl_sound.specs.SoundNames.{LeadNames}
use Rattle.pearl_sound.proofs.ModuleDevices.{devices_there}
use Rattle.pearl_sound.proofs.ModuleSighted.{module_sighted}

none_left : (xs ys : List RuleFault) → xs ++ ys ≡ [] → xs ≡ []
none_left [] ys none = refl
none_left (x ∷ xs) ys none = let more = ap (λ (faults : List RuleFault). length faults) none in absurd (omega (arith, more))

none_right : (xs ys : List RuleFault) → xs ++ ys ≡ [] → ys ≡ []
none_right [] ys none = none
none_right (x ∷ xs) ys none = let more = ap (λ (faults : List RuleFault). length faults) none in absurd (omega (arith, more))

declared_once : (tree : ShownTree) → names.broken tree ≡ [] → HasNamesOnce tree
unfolding names_of_scopes
declared_once tree kept =
    let own = repeated (sorted_names (decls_entries 0 tree.declarations)) in
    let others = flat_map s1 (names_of_scopes (decls_scopes 0 1 tree.declarations)) in
    none_left own others (none_left (own ++ others) (faults_in (known_of tree) (parts_of tree)) kept)

pub all_lead : (tree : ShownTree) (devices : List SpecifiedDevice) (procedures : List ℕ) → names.broken tree ≡ [] →
    devices_rules.broken tree ≡ [] → Lists device_key (IsDevice tree) devices → AreProcedureNumbers tree devices procedures →
    AllByRecursion (λ (sight : Sight). LeadNames (numbered_of (table_of tree) devices procedures tree) sight.view sight.around)
    (sights_of tree devices procedures)
all_lead tree devices procedures kept keeps lists numbers =
    let once = declared_once tree kept in
    module_sighted tree devices procedures once numbers (devices_there tree devices procedures keeps once lists)

-- the same where no rule at all is broken
pub unbroken_lead : (tree : ShownTree) (devices : List SpecifiedDevice) (procedures : List ℕ) → all_broken tree ≡ [] →
    Lists device_key (IsDevice tree) devices → AreProcedureNumbers tree devices procedures →
    AllByRecursion (λ (sight : Sight). LeadNames (numbered_of (table_of tree) devices procedures tree) sight.view sight.around)
    (sights_of tree devices procedures)
unbroken_lead tree devices procedures none lists numbers =
    let others = devices_rules.broken tree ++ (statements_broken (table_of tree) tree ++ whole_broken tree) in
    all_lead tree devices procedures (none_left (names.broken tree) others none)
    (none_left (devices_rules.broken tree) (statements_broken (table_of tree) tree ++ whole_broken tree) (none_right (names.broken tree) others none)) lists numbers
