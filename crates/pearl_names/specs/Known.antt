-- What is known of a module before its rules are asked.
use Rattle.std.specs.Prelude.{ℕ, List, [], Option, take}
use Rattle.pearl_tree.specs.ShownModules.{ShownTree}
use Rattle.pearl_names.specs.declared.length.DefaultLength.{DefaultLength}
use Rattle.pearl_names.specs.Lengths.{lengths_set}
use Rattle.pearl_names.specs.ScopeNames.{ScopeNames}
use Rattle.pearl_names.specs.Scopes.{scopes_of}
use Rattle.pearl_names.specs.Sorts.{names_of_scopes}
use Rattle.pearl_names.specs.Shapes.{Shape, Around, shapes_after}

pub record Known : Type 0 where
  pub scopes : List ScopeNames
  pub lengths : List DefaultLength
  -- the shapes of its TYPEs, by their numbers
  pub shapes : List (Option Shape)

abbrev pub known_of : ShownTree → Known
known_of tree = record {
  scopes = names_of_scopes (scopes_of tree);
  lengths = lengths_set tree.declarations;
  shapes = shapes_after (names_of_scopes (scopes_of tree)) (lengths_set tree.declarations) [] tree.declarations;
}

-- with these names, default lengths and shapes
abbrev pub known_from : List ScopeNames → List DefaultLength → List (Option Shape) → Known
known_from scopes lengths shapes = record { scopes = scopes; lengths = lengths; shapes = shapes }

-- what is seen from a scope where so many TYPEs stand before
abbrev pub around : Known → (scope types : ℕ) → Around
around known scope types =
    record { scopes = known.scopes; lengths = known.lengths; shapes = take types known.shapes; scope = scope }
