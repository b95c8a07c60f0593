-- What a semaphore has at first: a name without a number in PRESET has 0.
use Rattle.std.specs.Prelude.{ℕ, List, [], ◌∷◌}
use Rattle.std.specs.List.{flat_map}
use Rattle.pearl_tree.specs.declared.name.Name.{Name}
use Rattle.pearl_tree.specs.declared.name.Number.{Number}
use Rattle.pearl_tree.specs.Names.{names_of}
use Rattle.pearl_tree.specs.ShownDeclarations.{ShownDeclared, OfItem, OfSema}
use Rattle.pearl_tree.specs.ShownModules.{ShownDecl, OfDeclare}

abbrev pub presets : List Name → List Number → List ℕ
presets [] numbers = []
presets (name ∷ names) [] = 0 ∷ presets names []
presets (name ∷ names) (number ∷ numbers) = number.value ∷ presets names numbers

abbrev pub declared_presets : ShownDeclared → List ℕ
declared_presets (OfItem item) = []
declared_presets (OfSema sema) = presets (names_of sema.names) sema.preset

abbrev pub decl_presets : ShownDecl → List ℕ
decl_presets (OfDeclare declared place) = flat_map declared_presets declared
decl_presets decl = []
