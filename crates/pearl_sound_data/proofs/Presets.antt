-- Where S9 isn't broken, what semaphores have at first is below 2^31.
use Rattle.std.specs.Prelude.{◌≡◌, ℕ, ◌+◌, ◌-◌, ◌^◌, ◌||◌, nat_lt, List, [], ◌∷◌, length}
use Rattle.std.specs.List.{AllByRecursion, flat_map}
use Rattle.std.proofs.Common.{arith}
use Rattle.std.proofs.lemmas.Bool.{ltb-false}
use Rattle.pearl_tree.specs.declared.rule.TheConstants as rule
use Rattle.pearl_tree.specs.declared.name.Name.{Name}
use Rattle.pearl_tree.specs.declared.name.Number.{Number}
use Rattle.pearl_tree.specs.Names.{names_of}
use Rattle.pearl_tree.specs.ShownDeclarations.{ShownDeclared, OfItem, OfSema}
use Rattle.pearl_tree.specs.ShownModules.{ShownDecl, OfDeclare, ShownTree}
use Rattle.pearl_names.specs.Known.{Known, known_of}
use Rattle.pearl_names.specs.Scopes.{scopes_in_decl, types_in}
use Rattle.pearl_scope.specs.Parts.{item_parts, declared_parts, decl_parts, decls_parts}
use Rattle.pearl_scope.specs.Rules.{unfit_presets, broken}
use Rattle.pearl_value.specs.Counts.{IsPreset}
use Rattle.pearl_resolve_tables.specs.Presets.{presets, declared_presets, decl_presets}
use Rattle.pearl_sound_data.proofs.Faults.{no_fault, neither, split_all, all_append}
use Rattle.pearl_sound_data.proofs.Unbroken.{IsUnbroken, AreUnbroken, module_unbroken}

-- where so many names are left for the numbers
presets_small : (names : List Name) (numbers : List Number) (left : ℕ) → unfit_presets left numbers ≡ [] → AllByRecursion IsPreset (presets names numbers)
presets_small [] numbers left none = tt
presets_small (name ∷ names) [] left none = (omega arith, presets_small names [] left none)
presets_small (name ∷ names) (number ∷ numbers) left none =
    let parts = no_fault (nat_lt left 1 || nat_lt (2 ^ 31 - 1) number.value) number.place rule.S9 (unfit_presets (left - 1) numbers) none in
    let small = ltb-false (2 ^ 31 - 1) number.value (neither (nat_lt left 1) (nat_lt (2 ^ 31 - 1) number.value) parts.0).1 in
    (omega (arith, small), presets_small names numbers (left - 1) parts.1)

module _ (known : Known) where
  declared_small : (types : ℕ) (parts : List ShownDeclared) → AreUnbroken known (flat_map (declared_parts types) parts) →
      AllByRecursion IsPreset (flat_map declared_presets parts)
  declared_small types [] kept = tt
  declared_small types (OfItem item ∷ rest) kept =
      declared_small types rest (split_all (IsUnbroken known) (item_parts 0 types item) (flat_map (declared_parts types) rest) kept).1
  declared_small types (OfSema sema ∷ rest) kept =
      all_append IsPreset (presets (names_of sema.names) sema.preset) (flat_map declared_presets rest)
      (presets_small (names_of sema.names) sema.preset (length (names_of sema.names)) kept.0) (declared_small types rest kept.1)

  decl_small : (types next : ℕ) (decl : ShownDecl) → AreUnbroken known (decl_parts types next decl) → AllByRecursion IsPreset (decl_presets decl)
  decl_small types next (OfDeclare parts place) kept = declared_small types parts kept
  decl_small types next decl kept = tt

  decls_small : (types next : ℕ) (decls : List ShownDecl) → AreUnbroken known (decls_parts types next decls) →
      AllByRecursion IsPreset (flat_map decl_presets decls)
  decls_small types next [] kept = tt
  decls_small types next (decl ∷ rest) kept =
      let past = next + scopes_in_decl decl in
      let more = types + types_in decl in
      let split = split_all (IsUnbroken known) (decl_parts types next decl) (decls_parts more past rest) kept in
      all_append IsPreset (decl_presets decl) (flat_map decl_presets rest) (decl_small types next decl split.0) (decls_small more past rest split.1)

pub module_presets : (tree : ShownTree) → broken tree ≡ [] → AllByRecursion IsPreset (flat_map decl_presets tree.declarations)
module_presets tree none = decls_small (known_of tree) 0 1 tree.declarations (module_unbroken tree none)
