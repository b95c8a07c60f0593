-- The names of a lawful tree's variables and fields are ids.
use Rattle.std.specs.Prelude.{ℕ, ◌+◌, List, [], ◌∷◌, map, All}
use Rattle.std.specs.List.{AllByRecursion, flat_map}
use Rattle.std.proofs.lemmas.List.Elements.{All-head, All-tail, recursion_from_All}
use Rattle.pearl_tree.specs.declared.name.Name.{Name}
use Rattle.pearl_tree.specs.declared.name.Names.{Names}
use Rattle.pearl_tree.specs.declared.name.Names.TheVariants.{One, Several}
use Rattle.pearl_tree.specs.declared.typing.Typing.{Typing, Row_of-Field, end_of-Field, more_of-Field}
use Rattle.pearl_tree.specs.declared.typing.Typing as typing
use Rattle.pearl_tree.specs.declared.declaration.Declared.{Declared}
use Rattle.pearl_tree.specs.declared.declaration.Declared.TheVariants as declared
use Rattle.pearl_tree.specs.declared.limit.TheConstants as limit
use Rattle.pearl_tree.specs.declared.tree.Decl.{Decl}
use Rattle.pearl_tree.specs.declared.tree.Decl.TheVariants as decl
use Rattle.pearl_tree.specs.Tokens.{IsId}
use Rattle.pearl_tree.specs.Lawful.{IsLawfulName, AreLawfulNames, HasLawfulTyping, AreLawfulFields, IsLawfulDeclared, IsLawfulDecl}
use Rattle.pearl_tree.specs.Names.{name_text, names_of}
use Rattle.pearl_tree.specs.ShownDeclarations.{shown_names, shown_typing, shown_fields, shown_item, ShownDeclared, OfItem, OfSema, shown_declared, ShownSpec, OfInterrupt, OfDation, shown_spec}
use Rattle.pearl_tree.specs.ShownModules.{ShownDecl, OfDeclare, shown_decl}
use Rattle.pearl_names.specs.Scopes.{Meaning, entries_as, declared_entries, spec_entries, decl_entries, decls_entries, types_in}
use Rattle.pearl_names.specs.Scopes as scopes
use Rattle.pearl_sound_data.proofs.Faults.{all_append}
use Rattle.pearl_sound_data.proofs.Shapes.{TypingHas, FieldsWritten, TypeHas, MeaningHas, EntryHas}

abbrev pub AreIds : List Name → Type 0
AreIds names = AllByRecursion (λ name. IsId (name_text name)) names

names_ids : (names : Names) → AreLawfulNames names → AreIds (names_of (shown_names names))
names_ids (One name) lawful = (lawful, tt)
names_ids (Several names place) lawful = recursion_from_All IsLawfulName names.items.items lawful

mutual
  typing_ids : (depth : ℕ) (part : Typing) → HasLawfulTyping depth part → TypingHas IsId (shown_typing part)
  typing_ids depth (typing.Struct' _ fields place) lawful = fields_ids _ fields lawful.1
  typing_ids depth other lawful = tt

  fields_ids : {n : _} (depth : ℕ) (row : Row_of-Field n) → AreLawfulFields depth row → FieldsWritten IsId (shown_fields row)
  fields_ids depth end_of-Field lawful = tt
  fields_ids depth (more_of-Field names bounds part place rest) lawful =
      (names_ids names lawful.0.0, typing_ids depth part lawful.0.2, fields_ids depth rest lawful.1)

-- what is declared as one thing
entries_are : (meaning : Meaning) → MeaningHas IsId meaning → (names : List Name) → AllByRecursion (EntryHas IsId) (entries_as meaning names)
entries_are meaning has [] = tt
entries_are meaning has (name ∷ names) = (has, entries_are meaning has names)

declared_ids : (types : ℕ) (parts : List Declared) → All IsLawfulDeclared parts →
    AllByRecursion (EntryHas IsId) (flat_map (declared_entries types) (map shown_declared parts))
declared_ids types [] lawful = tt
declared_ids types (declared.Item item ∷ rest) lawful =
    let shown = shown_item item in
    all_append (EntryHas IsId) (entries_as (scopes.Variable shown types) (names_of shown.names)) (flat_map (declared_entries types) (map shown_declared rest))
    (entries_are (scopes.Variable shown types) (typing_ids limit.STRUCTS_MAX item.typing (All-head IsLawfulDeclared (declared.Item item) rest lawful).2) (names_of shown.names))
    (declared_ids types rest (All-tail IsLawfulDeclared (declared.Item item) rest lawful))
declared_ids types (declared.Sema sema ∷ rest) lawful =
    all_append (EntryHas IsId) (entries_as scopes.Semaphore (names_of (shown_names sema.names))) (flat_map (declared_entries types) (map shown_declared rest))
    (entries_are scopes.Semaphore tt (names_of (shown_names sema.names)))
    (declared_ids types rest (All-tail IsLawfulDeclared (declared.Sema sema) rest lawful))

specs_ids : (specs : List ShownSpec) → AllByRecursion (EntryHas IsId) (flat_map spec_entries specs)
specs_ids [] = tt
specs_ids (OfInterrupt names place ∷ rest) =
    all_append (EntryHas IsId) (entries_as scopes.Interrupt (names_of names)) (flat_map spec_entries rest)
    (entries_are scopes.Interrupt tt (names_of names)) (specs_ids rest)
specs_ids (OfDation names direction class control place ∷ rest) =
    all_append (EntryHas IsId) (entries_as (scopes.Dation direction class) (names_of names)) (flat_map spec_entries rest)
    (entries_are (scopes.Dation direction class) tt (names_of names)) (specs_ids rest)

decl_ids : (types : ℕ) (part : Decl) → IsLawfulDecl part → AllByRecursion (EntryHas IsId) (decl_entries types (shown_decl part))
decl_ids types (decl.Length sort number place) lawful = tt
decl_ids types (decl.Declare parts place) lawful = declared_ids types parts.items.items lawful
decl_ids types (decl.Specify specs place) lawful = specs_ids (map shown_spec specs.items.items)
decl_ids types part lawful = (tt, tt)

pub entries_ids : (types : ℕ) (parts : List Decl) → All IsLawfulDecl parts → AllByRecursion (EntryHas IsId) (decls_entries types (map shown_decl parts))
entries_ids types [] lawful = tt
entries_ids types (part ∷ rest) lawful =
    let more = types + types_in (shown_decl part) in
    all_append (EntryHas IsId) (decl_entries types (shown_decl part)) (decls_entries more (map shown_decl rest))
    (decl_ids types part (All-head IsLawfulDecl part rest lawful)) (entries_ids more rest (All-tail IsLawfulDecl part rest lawful))

pub types_ids : (parts : List Decl) → All IsLawfulDecl parts → AllByRecursion (TypeHas IsId) (map shown_decl parts)
types_ids [] lawful = tt
types_ids (part ∷ rest) lawful = (one part (All-head IsLawfulDecl part rest lawful), types_ids rest (All-tail IsLawfulDecl part rest lawful))
  where
    one : (part : Decl) → IsLawfulDecl part → TypeHas IsId (shown_decl part)
    one (decl.Type name part place) lawful = typing_ids limit.STRUCTS_MAX part lawful.1
    one (decl.Length sort number place) lawful = tt
    one (decl.Declare parts place) lawful = tt
    one (decl.Specify specs place) lawful = tt
    one (decl.Task name head body place) lawful = tt
    one (decl.Proc name params returns body place) lawful = tt

-- the variables that a declaration names
abbrev pub DeclaredNamed : ShownDeclared → Type 0
DeclaredNamed (OfItem item) = AreIds (names_of item.names)
DeclaredNamed (OfSema sema) = Unit {0}

abbrev pub DeclNamed : ShownDecl → Type 0
DeclNamed (OfDeclare parts place) = AllByRecursion DeclaredNamed parts
DeclNamed decl = Unit {0}

declared_named : (parts : List Declared) → All IsLawfulDeclared parts → AllByRecursion DeclaredNamed (map shown_declared parts)
declared_named [] lawful = tt
declared_named (declared.Item item ∷ rest) lawful = (
  names_ids item.names (All-head IsLawfulDeclared (declared.Item item) rest lawful).0,
  declared_named rest (All-tail IsLawfulDeclared (declared.Item item) rest lawful),
)
declared_named (declared.Sema sema ∷ rest) lawful = (tt, declared_named rest (All-tail IsLawfulDeclared (declared.Sema sema) rest lawful))

pub decls_named : (parts : List Decl) → All IsLawfulDecl parts → AllByRecursion DeclNamed (map shown_decl parts)
decls_named [] lawful = tt
decls_named (part ∷ rest) lawful = (one part (All-head IsLawfulDecl part rest lawful), decls_named rest (All-tail IsLawfulDecl part rest lawful))
  where
    one : (part : Decl) → IsLawfulDecl part → DeclNamed (shown_decl part)
    one (decl.Declare parts place) lawful = declared_named parts.items.items lawful
    one (decl.Length sort number place) lawful = tt
    one (decl.Type name part place) lawful = tt
    one (decl.Specify specs place) lawful = tt
    one (decl.Task name head body place) lawful = tt
    one (decl.Proc name params returns body place) lawful = tt
