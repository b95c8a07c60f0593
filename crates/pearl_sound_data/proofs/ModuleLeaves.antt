-- The leaves of a module's program have first values.
use Rattle.std.specs.Prelude.{ℕ, List, [], ◌∷◌, Option, Some, None}
use Rattle.std.specs.List.{AllByRecursion, flat_map}
use Rattle.pearl_tree.specs.declared.name.Name.{Name}
use Rattle.pearl_tree.specs.Names.{name_text, names_of}
use Rattle.pearl_tree.specs.ShownLiterals.{ShownConst}
use Rattle.pearl_tree.specs.ShownDeclarations.{ShownDeclared, OfItem, OfSema}
use Rattle.pearl_tree.specs.ShownModules.{ShownDecl, OfDeclare, ShownTree}
use Rattle.pearl_names.specs.declared.scope.View.TheVariants.{Within}
use Rattle.pearl_names.specs.Tables.{table_of}
use Rattle.pearl_program.specs.PlainPrograms.{PlainLeaf}
use Rattle.pearl_program.specs.SoundStatements.{AreFirst}
use Rattle.pearl_resolve.specs.Laying.{leaves_of_sense, left_behind}
use Rattle.pearl_resolve.specs.Expressions.{Numbered, Meant, meant}
use Rattle.pearl_resolve.specs.Statements.{slots_of_meant}
use Rattle.pearl_resolve.specs.Resolve.{variable_leaves, names_leaves, declared_leaves, decl_leaves}
use Rattle.pearl_sound_data.specs.Constants.{IsConstant, DeclaredHasConstants, DeclHasConstants}
use Rattle.pearl_sound_data.proofs.Faults.{all_append}
use Rattle.pearl_sound_data.proofs.FirstValues.{left_constants, filled_first}
use Rattle.pearl_sound_data.proofs.Shapes.{IfThere, SenseHasKinds, table_kinds}
use Rattle.pearl_sound_data.proofs.Meant.{ThingIs, meant_so}

-- first values of a leaf
abbrev pub HasFirst : PlainLeaf → Type 0
HasFirst leaf = AreFirst leaf.values

variable_first : (name : Name) (constants : List ShownConst) (thing : Option Meant) → AllByRecursion IsConstant constants →
    IfThere (ThingIs SenseHasKinds) thing → AllByRecursion HasFirst (variable_leaves name constants thing)
variable_first name constants None all has = tt
variable_first name constants (Some thing) all has = filled_first (name_text name) constants (leaves_of_sense thing.sense) has all

module _ (numbered : Numbered) (kinds : AllByRecursion (AllByRecursion SenseHasKinds) numbered.table.senses) where
  names_first : (constants : List ShownConst) (names : List Name) → AllByRecursion IsConstant constants →
      AllByRecursion HasFirst (names_leaves numbered constants names)
  names_first constants [] all = tt
  names_first constants (name ∷ rest) all =
      let thing = meant numbered (Within 0) name in
      let behind = left_behind (slots_of_meant thing) constants in
      all_append HasFirst (variable_leaves name constants thing) (names_leaves numbered behind rest)
      (variable_first name constants thing all (meant_so SenseHasKinds numbered kinds (Within 0) name))
      (names_first behind rest (left_constants (slots_of_meant thing) constants all))

  declared_first : (parts : List ShownDeclared) → AllByRecursion DeclaredHasConstants parts →
      AllByRecursion HasFirst (flat_map (declared_leaves numbered) parts)
  declared_first [] all = tt
  declared_first (OfItem item ∷ rest) all =
      all_append HasFirst (names_leaves numbered item.init (names_of item.names)) (flat_map (declared_leaves numbered) rest)
      (names_first item.init (names_of item.names) all.0) (declared_first rest all.1)
  declared_first (OfSema sema ∷ rest) all = declared_first rest all.1

  decl_first : (decl : ShownDecl) → DeclHasConstants decl → AllByRecursion HasFirst (decl_leaves numbered decl)
  decl_first (OfDeclare parts place) all = declared_first parts all
  decl_first decl all = tt

  decls_first : (decls : List ShownDecl) → AllByRecursion DeclHasConstants decls → AllByRecursion HasFirst (flat_map (decl_leaves numbered) decls)
  decls_first [] all = tt
  decls_first (decl ∷ rest) all =
      all_append HasFirst (decl_leaves numbered decl) (flat_map (decl_leaves numbered) rest) (decl_first decl all.0) (decls_first rest all.1)

pub leaves_first : (tree : ShownTree) (numbers : List (List ℕ)) → AllByRecursion DeclHasConstants tree.declarations →
    AllByRecursion HasFirst (flat_map (decl_leaves (record { table = table_of tree; numbers = numbers })) tree.declarations)
leaves_first tree numbers all = decls_first (record { table = table_of tree; numbers = numbers }) (table_kinds tree) tree.declarations all
