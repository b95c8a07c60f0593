-- The leaves of what names stand for have kinds with lengths in their ranges, and the fields that lead to them have names
-- that are written in their types.
use Rattle.std.specs.Prelude.{ℕ, zero, suc, ◌+◌, ℤ, Bool, true, false, if◌then◌else◌, List, [], ◌∷◌, ◌++◌, Option, Some, None, option_map, slice_get}
use Rattle.std.specs.List.{AllByRecursion, list_all}
use Rattle.pearl_value.specs.declared.kind.Kind.{Kind}
use Rattle.pearl_value.specs.Kinds.{IsKind}
use Rattle.pearl_tree.specs.declared.name.Name.{Name}
use Rattle.pearl_tree.specs.declared.typing.Basic.{Basic}
use Rattle.pearl_tree.specs.declared.declaration.Class.TheVariants as class
use Rattle.pearl_tree.specs.Names.{name_text, names_of, has_repeats}
use Rattle.pearl_tree.specs.ShownDeclarations.{ShownTyping, OfBasic, OfStruct, OfNamed, ShownFields, NoFields, MoreFields}
use Rattle.pearl_tree.specs.ShownModules.{ShownDecl, OfType, ShownTree}
use Rattle.pearl_names.specs.declared.length.DefaultLength.{DefaultLength}
use Rattle.pearl_names.specs.declared.scope.NameSort.{NameSort}
use Rattle.pearl_names.specs.declared.scope.NameSort.TheVariants.{NewType as TypeNumber}
use Rattle.pearl_names.specs.Lengths.{kind_of_basic}
use Rattle.pearl_names.specs.Found.{sort_within}
use Rattle.pearl_names.specs.ScopeNames.{ScopeNames}
use Rattle.pearl_names.specs.Scopes.{Meaning, Entry, Scope, scopes_of}
use Rattle.pearl_names.specs.Scopes as scopes
use Rattle.pearl_names.specs.Shapes.{Shape, OfKind, OfFields, Fields, NoField, MoreField, Around, sound_bounds, field_names, type_shape, meant_shape, with_fields, with_parts, shape_of, fields_of, decl_shapes, shapes_after}
use Rattle.pearl_names.specs.Layout.{Leaf, leaves_of, leaves_of_fields, is_sound_leaf}
use Rattle.pearl_names.specs.Known.{Known, known_of, around}
use Rattle.pearl_names.specs.Tables.{Sense, sound_form, sense_of, senses_of, senses_in, table_of, leaves_in}
use Rattle.pearl_resolve_tables.specs.Laying.{leaves_of_sense}
use Rattle.pearl_sound.specs.SoundForms.{IsKindIf}
use Rattle.pearl_sound.proofs.Offered.{AreSet, all_set, basic_there}
use Rattle.pearl_sound_data.proofs.Faults.{all_append, all_taken}

-- a property of what is there
abbrev pub IfThere : {X : Type 0} → (X → Type 0) → Option X → Type 0
IfThere P None = Unit {0}
IfThere P (Some x) = P x

-- kinds
pub basic_kind : (lengths : List DefaultLength) → AreSet lengths → (part : Basic) → IfThere IsKind (kind_of_basic lengths part)
basic_kind lengths set part = by (kind_of_basic lengths part) (basic_there lengths set part)
  where
    by : (kind : Option Kind) → IsKindIf kind → IfThere IsKind kind
    by None is = tt
    by (Some kind) is = is

-- where the names of fields have a property
module _ (P : List ℕ → Type 0) where
  abbrev mutual
    pub TypingHas : ShownTyping → Type 0
    TypingHas (OfBasic part) = Unit {0}
    TypingHas (OfStruct fields place) = FieldsWritten fields
    TypingHas (OfNamed name) = Unit {0}

    pub FieldsWritten : ShownFields → Type 0
    FieldsWritten NoFields = Unit {0}
    FieldsWritten (MoreFields names bounds part place rest) =
        AllByRecursion (λ name. P (name_text name)) (names_of names) × TypingHas part × FieldsWritten rest

  abbrev mutual
    pub ShapeHas : Shape → Type 0
    ShapeHas (OfKind kind) = IsKind kind
    ShapeHas (OfFields fields) = FieldsHave fields

    pub FieldsHave : Fields → Type 0
    FieldsHave NoField = Unit {0}
    FieldsHave (MoreField name bounds shape rest) = P name × ShapeHas shape × FieldsHave rest

  pub record LeafHas (leaf : Leaf) : Type 0 where
    pub kind : IsKind leaf.kind
    pub path : AllByRecursion P leaf.path

  mutual
    leaves_have : (path : List (List ℕ)) (bounds : List (ℤ × ℤ)) (shape : Shape) → AllByRecursion P path → ShapeHas shape →
        AllByRecursion LeafHas (leaves_of path bounds shape)
    leaves_have path bounds (OfKind kind) named has = (record { kind = has; path = named }, tt)
    leaves_have path bounds (OfFields fields) named has = fields_have path bounds fields named has

    fields_have : (path : List (List ℕ)) (bounds : List (ℤ × ℤ)) (fields : Fields) → AllByRecursion P path → FieldsHave fields →
        AllByRecursion LeafHas (leaves_of_fields path bounds fields)
    fields_have path bounds NoField named has = tt
    fields_have path bounds (MoreField name own shape rest) named has =
        all_append LeafHas (leaves_of (path ++ name ∷ []) (bounds ++ own) shape) (leaves_of_fields path bounds rest)
        (leaves_have (path ++ name ∷ []) (bounds ++ own) shape (all_append P path (name ∷ []) named (has.0, tt)) has.1)
        (fields_have path bounds rest named has.2)

  -- shapes
  kind_has : (kind : Option Kind) → IfThere IsKind kind → IfThere ShapeHas (option_map OfKind kind)
  kind_has None is = tt
  kind_has (Some kind) is = is

  struct_has : (twice : Bool) (fields : Option Fields) → IfThere FieldsHave fields →
      IfThere ShapeHas (if twice then None else option_map OfFields fields)
  struct_has true fields has = tt
  struct_has false None has = tt
  struct_has false (Some fields) has = has

  abbrev pub ShapesHave : List (Option Shape) → Type 0
  ShapesHave shapes = AllByRecursion (IfThere ShapeHas) shapes

  type_has : (shapes : List (Option Shape)) (number : ℕ) → ShapesHave shapes → IfThere ShapeHas (type_shape (slice_get shapes number))
  type_has [] number all = tt
  type_has (None ∷ rest) zero all = tt
  type_has (Some shape ∷ rest) zero all = all.0
  type_has (shape ∷ rest) (suc number) all = type_has rest number all.1

  meant_has : (shapes : List (Option Shape)) (sort : Option NameSort) → ShapesHave shapes → IfThere ShapeHas (meant_shape shapes sort)
  meant_has shapes (Some (TypeNumber number)) all = type_has shapes number all
  meant_has shapes sort all = tt

  with_has : (names : List Name) (bounds : List (ℤ × ℤ)) (shape : Shape) (rest : Fields) → AllByRecursion (λ name. P (name_text name)) names →
      ShapeHas shape → FieldsHave rest → FieldsHave (with_fields names bounds shape rest)
  with_has [] bounds shape rest named has more = more
  with_has (name ∷ names) bounds shape rest named has more = (named.0, has, with_has names bounds shape rest named.1 has more)

  parts_have : (names : List Name) (bounds : Option (List (ℤ × ℤ))) (shape : Option Shape) (rest : Option Fields) →
      AllByRecursion (λ name. P (name_text name)) names → IfThere ShapeHas shape → IfThere FieldsHave rest →
      IfThere FieldsHave (with_parts names bounds shape rest)
  parts_have names None shape rest named has more = tt
  parts_have names (Some bounds) None rest named has more = tt
  parts_have names (Some bounds) (Some shape) None named has more = tt
  parts_have names (Some bounds) (Some shape) (Some rest) named has more = with_has names bounds shape rest named has more

  mutual
    shape_has : (here : Around) → AreSet here.lengths → ShapesHave here.shapes → (part : ShownTyping) → TypingHas part →
        IfThere ShapeHas (shape_of here part)
    shape_has here set all (OfBasic basic) written = kind_has (kind_of_basic here.lengths basic) (basic_kind here.lengths set basic)
    shape_has here set all (OfStruct fields place) written =
        struct_has (has_repeats [] (field_names fields)) (fields_of here fields) (written_have here set all fields written)
    shape_has here set all (OfNamed name) written = meant_has here.shapes (sort_within here.scopes here.scope (name_text name)) all

    written_have : (here : Around) → AreSet here.lengths → ShapesHave here.shapes → (fields : ShownFields) → FieldsWritten fields →
        IfThere FieldsHave (fields_of here fields)
    written_have here set all NoFields written = tt
    written_have here set all (MoreFields names bounds part place rest) written =
        parts_have (names_of names) (sound_bounds bounds) (shape_of here part) (fields_of here rest) written.0
        (shape_has here set all part written.1) (written_have here set all rest written.2)

  abbrev pub TypeHas : ShownDecl → Type 0
  TypeHas (OfType name part place) = TypingHas part
  TypeHas decl = Unit {0}

  decl_has : (here : Around) → AreSet here.lengths → ShapesHave here.shapes → (decl : ShownDecl) → TypeHas decl → ShapesHave (decl_shapes here decl)
  decl_has here set all (OfType name part place) written = (shape_has here set all part written, tt)
  decl_has here set all decl written = tt

  pub shapes_have : (names : List ScopeNames) (lengths : List DefaultLength) → AreSet lengths → (shapes : List (Option Shape)) (decls : List ShownDecl) →
      ShapesHave shapes → AllByRecursion TypeHas decls → ShapesHave (shapes_after names lengths shapes decls)
  shapes_have names lengths set shapes [] all written = all
  shapes_have names lengths set shapes (decl ∷ rest) all written =
      let here : Around = record { scopes = names; lengths = lengths; shapes = shapes; scope = 0 } in
      shapes_have names lengths set (shapes ++ decl_shapes here decl) rest
      (all_append (IfThere ShapeHas) shapes (decl_shapes here decl) all (decl_has here set all decl written.0)) written.1

  -- what names stand for
  abbrev pub SenseHas : Sense → Type 0
  SenseHas sense = AllByRecursion LeafHas (leaves_of_sense sense)

  form_has : (bounds : Option (List (ℤ × ℤ))) (shape : Option Shape) → IfThere ShapeHas shape → AllByRecursion LeafHas (leaves_in (sound_form bounds shape))
  form_has None shape has = tt
  form_has (Some bounds) None has = tt
  form_has (Some bounds) (Some shape) has = by (list_all is_sound_leaf (leaves_of [] bounds shape))
    where
      by : (test : Bool) → AllByRecursion LeafHas (leaves_in (if test then Some (record { bounds = bounds; shape = shape }) else None))
      by true = leaves_have [] bounds shape tt has
      by false = tt

  abbrev pub MeaningHas : Meaning → Type 0
  MeaningHas (scopes.Variable item types) = TypingHas item.part
  MeaningHas meaning = Unit {0}

  sense_has : (known : Known) → AreSet known.lengths → ShapesHave known.shapes → (scope : ℕ) (meaning : Meaning) → MeaningHas meaning →
      SenseHas (sense_of known scope meaning)
  sense_has known set all scope (scopes.Variable item types) written =
      let here = around known scope types in
      form_has (sound_bounds item.bounds) (shape_of here item.part)
      (shape_has here set (all_taken (IfThere ShapeHas) types known.shapes all) item.part written)
  sense_has known set all scope (scopes.Dation direction (class.Alphic place)) written = tt
  sense_has known set all scope (scopes.Dation direction (class.Basic basic place)) written = tt
  sense_has known set all scope meaning written = tt

  abbrev pub EntryHas : Entry → Type 0
  EntryHas entry = MeaningHas entry.meaning

  pub scope_has : (known : Known) → AreSet known.lengths → ShapesHave known.shapes → (scope : ℕ) (entries : List Entry) →
      AllByRecursion EntryHas entries → AllByRecursion SenseHas (senses_of known scope entries)
  scope_has known set all scope [] written = tt
  scope_has known set all scope (entry ∷ rest) written =
      (sense_has known set all scope entry.meaning written.0, scope_has known set all scope rest written.1)

-- whatever the fields are called, all kinds have lengths in their ranges
abbrev Any : List ℕ → Type 0
Any text = Unit {0}

any_names : (names : List Name) → AllByRecursion (λ name. Any (name_text name)) names
any_names [] = tt
any_names (name ∷ names) = (tt, any_names names)

mutual
  any_typing : (part : ShownTyping) → TypingHas Any part
  any_typing (OfStruct fields place) = any_fields fields
  any_typing other = tt

  any_fields : (fields : ShownFields) → FieldsWritten Any fields
  any_fields NoFields = tt
  any_fields (MoreFields names bounds part place rest) = (any_names (names_of names), any_typing part, any_fields rest)

any_types : (decls : List ShownDecl) → AllByRecursion (TypeHas Any) decls
any_types [] = tt
any_types (decl ∷ rest) = (one decl, any_types rest)
  where
    one : (decl : ShownDecl) → TypeHas Any decl
    one (OfType name part place) = any_typing part
    one decl = tt

any_entries : (entries : List Entry) → AllByRecursion (EntryHas Any) entries
any_entries [] = tt
any_entries (entry ∷ rest) = (one entry.meaning, any_entries rest)
  where
    one : (meaning : Meaning) → MeaningHas Any meaning
    one (scopes.Variable item types) = any_typing item.part
    one meaning = tt

-- the leaves of what a name stands for have kinds with lengths in their ranges
abbrev pub SenseHasKinds : Sense → Type 0
SenseHasKinds sense = AllByRecursion (λ (leaf : Leaf). IsKind leaf.kind) (leaves_of_sense sense)

leaf_kinds : (leaves : List Leaf) → AllByRecursion (LeafHas Any) leaves → AllByRecursion (λ (leaf : Leaf). IsKind leaf.kind) leaves
leaf_kinds [] has = tt
leaf_kinds (leaf ∷ rest) has = (has.0.kind, leaf_kinds rest has.1)

sense_kinds : (senses : List Sense) → AllByRecursion (SenseHas Any) senses → AllByRecursion SenseHasKinds senses
sense_kinds [] has = tt
sense_kinds (sense ∷ rest) has = (leaf_kinds (leaves_of_sense sense) has.0, sense_kinds rest has.1)

scopes_kinds : (known : Known) → AreSet known.lengths → ShapesHave Any known.shapes → (number : ℕ) (list : List Scope) →
    AllByRecursion (AllByRecursion SenseHasKinds) (senses_in known number list)
scopes_kinds known set all number [] = tt
scopes_kinds known set all number (scope ∷ rest) = (
  sense_kinds (senses_of known number scope.entries) (scope_has Any known set all number scope.entries (any_entries scope.entries)),
  scopes_kinds known set all (number + 1) rest,
)

pub table_kinds : (tree : ShownTree) → AllByRecursion (AllByRecursion SenseHasKinds) (table_of tree).senses
table_kinds tree =
    scopes_kinds (known_of tree) (all_set tree.declarations)
    (shapes_have Any (known_of tree).scopes (known_of tree).lengths (all_set tree.declarations) [] tree.declarations tt (any_types tree.declarations))
    0 (scopes_of tree)
