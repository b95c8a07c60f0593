-- The leaves of a program are those of the module's variables, in order.
use Rattle.std.specs.Prelude.{◌≡◌, ℕ, ◌+◌, List, [], ◌∷◌, ◌++◌, length, map}
use Rattle.std.specs.List.{flat_map}
use Rattle.std.proofs.Common.{refl, ap, ◌∙◌, sym, subst, arith}
use Rattle.std.proofs.lemmas.List.{append-nil, append_assoc, length-append}
use Rattle.pearl_tree.specs.declared.name.Name.{Name}
use Rattle.pearl_tree.specs.Names.{name_text, names_of}
use Rattle.pearl_tree.specs.ShownLiterals.{ShownConst}
use Rattle.pearl_tree.specs.ShownDeclarations.{ShownItem, ShownDeclared, OfItem, OfSema, ShownSpec, OfInterrupt, OfDation}
use Rattle.pearl_tree.specs.ShownModules.{ShownDecl, OfLength, OfType, OfDeclare, OfSpecify, OfTask, OfProc, ShownTree}
use Rattle.pearl_names.specs.declared.scope.View.TheVariants.{Within}
use Rattle.pearl_names.specs.FirstNames.{repeated}
use Rattle.pearl_names.specs.Known.{Known, known_of}
use Rattle.pearl_names.specs.Layout.{Leaf, elements}
use Rattle.pearl_names.specs.Scopes.{Meaning, Entry, entries_as, declared_entries, spec_entries, decl_entries, decls_entries, types_in}
use Rattle.pearl_names.specs.Scopes as scopes
use Rattle.pearl_names.specs.Sorts.{sorted_names}
use Rattle.pearl_names.specs.Tables.{sense_of, senses_of, table_of}
use Rattle.pearl_tree.specs.declared.declaration.Class.TheVariants as class
use Rattle.pearl_program.specs.PlainPrograms.{PlainLeaf}
use Rattle.pearl_resolve.specs.Laying.{leaves_of_sense, left_behind, filled_leaves}
use Rattle.pearl_resolve.specs.Expressions.{Numbered, meant}
use Rattle.pearl_resolve.specs.Statements.{slots_of_meant}
use Rattle.pearl_resolve.specs.Resolve.{variable_leaves, names_leaves, declared_leaves, decl_leaves}
use Rattle.pearl_sound.proofs.ModuleEntries.{module_meant}
use Rattle.pearl_sound.proofs.Reaching.{part_of, plain_part}
use Rattle.pearl_sound.proofs.Stretched.{Lies}

-- the leaves of each name in turn
abbrev pub AreFilled : Known → List Entry → List PlainLeaf → Type 0
AreFilled known [] leaves = leaves ≡ []
AreFilled known (entry ∷ rest) leaves =
    (constants : List ShownConst) × (behind : List PlainLeaf) ×
    (leaves ≡ filled_leaves (name_text entry.name) constants (leaves_of_sense (sense_of known 0 entry.meaning)) ++ behind) ×
    AreFilled known rest behind

both_filled : (known : Known) (one two : List Entry) (a b : List PlainLeaf) → AreFilled known one a → AreFilled known two b →
    AreFilled known (one ++ two) (a ++ b)
both_filled known [] two a b first second = subst (λ leaves. AreFilled known two (leaves ++ b)) (sym first) second
both_filled known (entry ∷ one) two a b first second = (
  first.0,
  first.1 ++ b,
  ap (λ leaves. leaves ++ b) first.2 ∙
      append_assoc (filled_leaves (name_text entry.name) first.0 (leaves_of_sense (sense_of known 0 entry.meaning))) first.1 b,
  both_filled known one two first.1 b first.3 second,
)

-- what is no variable
none_filled : (known : Known) (meaning : Meaning) (names : List Name) → leaves_of_sense (sense_of known 0 meaning) ≡ [] →
    AreFilled known (entries_as meaning names) []
none_filled known meaning [] none = refl
none_filled known meaning (name ∷ names) none =
    ([], [], ap (λ leaves. filled_leaves (name_text name) [] leaves ++ []) (sym none), none_filled known meaning names none)

specs_filled : (known : Known) (specs : List ShownSpec) → AreFilled known (flat_map spec_entries specs) []
specs_filled known [] = refl
specs_filled known (OfInterrupt names place ∷ rest) =
    both_filled known (entries_as scopes.Interrupt (names_of names)) (flat_map spec_entries rest) [] []
    (none_filled known scopes.Interrupt (names_of names) refl) (specs_filled known rest)
specs_filled known (OfDation names direction (class.Alphic at) control place ∷ rest) =
    both_filled known (entries_as (scopes.Dation direction (class.Alphic at)) (names_of names)) (flat_map spec_entries rest) [] []
    (none_filled known (scopes.Dation direction (class.Alphic at)) (names_of names) refl) (specs_filled known rest)
specs_filled known (OfDation names direction (class.Basic part at) control place ∷ rest) =
    both_filled known (entries_as (scopes.Dation direction (class.Basic part at)) (names_of names)) (flat_map spec_entries rest) [] []
    (none_filled known (scopes.Dation direction (class.Basic part at)) (names_of names) refl) (specs_filled known rest)

module _ (tree : ShownTree) (numbers : List (List ℕ)) (once : repeated (sorted_names (decls_entries 0 tree.declarations)) ≡ []) where
  abbrev entries : List Entry
  entries = decls_entries 0 tree.declarations

  abbrev known : Known
  known = known_of tree

  abbrev numbered : Numbered
  numbered = record { table = table_of tree; numbers = numbers }

  -- these entries stand there among all
  abbrev Stand : (before part after : List Entry) → Type 0
  Stand before part after = entries ≡ before ++ (part ++ after)

  first_stands : (before one two after : List Entry) → Stand before (one ++ two) after → Stand before one (two ++ after)
  first_stands before one two after stand = stand ∙ ap (λ xs. before ++ xs) (append_assoc one two after)

  second_stands : (before one two after : List Entry) → Stand before (one ++ two) after → Stand (before ++ one) two after
  second_stands before one two after stand =
      first_stands before one two after stand ∙ sym (append_assoc before one (two ++ after))

  item_filled : (item : ShownItem) (types : ℕ) (names : List Name) (constants : List ShownConst) (before after : List Entry) →
      Stand before (entries_as (scopes.Variable item types) names) after →
      AreFilled known (entries_as (scopes.Variable item types) names) (names_leaves numbered constants names)
  item_filled item types [] constants before after stand = refl
  item_filled item types (name ∷ names) constants before after stand =
      let entry : Entry = record { name = name; meaning = scopes.Variable item types } in
      let left = left_behind (slots_of_meant (meant numbered (Within 0) name)) constants in
      let means = module_meant tree numbers before entry (entries_as (scopes.Variable item types) names ++ after) stand once in (
        constants,
        names_leaves numbered left names,
        ap (λ thing. variable_leaves name constants thing ++ names_leaves numbered left names) means.1,
        item_filled item types names left (before ++ entry ∷ []) after
            (second_stands before (entry ∷ []) (entries_as (scopes.Variable item types) names) after stand),
      )

  declared_filled : (types : ℕ) (parts : List ShownDeclared) (before after : List Entry) → Stand before (flat_map (declared_entries types) parts) after →
      AreFilled known (flat_map (declared_entries types) parts) (flat_map (declared_leaves numbered) parts)
  declared_filled types [] before after stand = refl
  declared_filled types (OfItem item ∷ rest) before after stand =
      let own = entries_as (scopes.Variable item types) (names_of item.names) in
      let more = flat_map (declared_entries types) rest in
      both_filled known own more (names_leaves numbered item.init (names_of item.names)) (flat_map (declared_leaves numbered) rest)
      (item_filled item types (names_of item.names) item.init before (more ++ after) (first_stands before own more after stand))
      (declared_filled types rest (before ++ own) after (second_stands before own more after stand))
  declared_filled types (OfSema sema ∷ rest) before after stand =
      let own = entries_as scopes.Semaphore (names_of sema.names) in
      let more = flat_map (declared_entries types) rest in
      both_filled known own more [] (flat_map (declared_leaves numbered) rest) (none_filled known scopes.Semaphore (names_of sema.names) refl)
      (declared_filled types rest (before ++ own) after (second_stands before own more after stand))

  decl_filled : (types : ℕ) (decl : ShownDecl) (before after : List Entry) → Stand before (decl_entries types decl) after →
      AreFilled known (decl_entries types decl) (decl_leaves numbered decl)
  decl_filled types (OfLength sort number place) before after stand = refl
  decl_filled types (OfType name part place) before after stand = none_filled known (scopes.NewType types) (name ∷ []) refl
  decl_filled types (OfDeclare parts place) before after stand = declared_filled types parts before after stand
  decl_filled types (OfSpecify specs place) before after stand = specs_filled known specs
  decl_filled types (OfTask name head body place) before after stand = none_filled known scopes.Task (name ∷ []) refl
  decl_filled types (OfProc name params returns body place) before after stand =
      none_filled known (scopes.Procedure params returns) (name ∷ []) refl

  decls_filled : (types : ℕ) (decls : List ShownDecl) (before after : List Entry) → Stand before (decls_entries types decls) after →
      AreFilled known (decls_entries types decls) (flat_map (decl_leaves numbered) decls)
  decls_filled types [] before after stand = refl
  decls_filled types (decl ∷ rest) before after stand =
      let own = decl_entries types decl in
      let more = decls_entries (types + types_in decl) rest in
      both_filled known own more (decl_leaves numbered decl) (flat_map (decl_leaves numbered) rest)
      (decl_filled types decl before (more ++ after) (first_stands before own more after stand))
      (decls_filled (types + types_in decl) rest (before ++ own) after (second_stands before own more after stand))

  pub all_filled : AreFilled known entries (flat_map (decl_leaves numbered) tree.declarations)
  all_filled = decls_filled 0 tree.declarations [] [] (sym (append-nil entries))

pub filled_length : (name : List ℕ) (constants : List ShownConst) (leaves : List Leaf) → length (filled_leaves name constants leaves) ≡ length leaves
filled_length name constants [] = refl
filled_length name constants (leaf ∷ rest) =
    let more = filled_length name (left_behind (elements leaf.bounds) constants) rest in omega (arith, more)

pub filled_parts : (name : List ℕ) (constants : List ShownConst) (leaves : List Leaf) →
    map plain_part (filled_leaves name constants leaves) ≡ map part_of leaves
filled_parts name constants [] = refl
filled_parts name constants (leaf ∷ rest) =
    ap (λ parts. part_of leaf ∷ parts) (filled_parts name (left_behind (elements leaf.bounds) constants) rest)

-- those of one name lie behind those of the names before it
pub filled_lie : (known : Known) (before : List Entry) (entry : Entry) (after : List Entry) (leaves : List PlainLeaf) →
    AreFilled known (before ++ entry ∷ after) leaves → (constants : List ShownConst) ×
    Lies leaves (filled_leaves (name_text entry.name) constants (leaves_of_sense (sense_of known 0 entry.meaning)))
    (length (flat_map leaves_of_sense (senses_of known 0 before)))
filled_lie known [] entry after leaves filled = (filled.0, record { before = []; behind = filled.1; is = filled.2; begins = refl })
filled_lie known (first ∷ before) entry after leaves filled =
    let more = filled_lie known before entry after filled.1 filled.3 in
    let lies = more.1 in
    let sense = sense_of known 0 first.meaning in
    let own = filled_leaves (name_text first.name) filled.0 (leaves_of_sense sense) in (
      more.0,
      record {
        before = own ++ lies.before;
        behind = lies.behind;
        is = filled.2 ∙ ap (λ xs. own ++ xs) lies.is ∙
            sym (append_assoc own lies.before (filled_leaves (name_text entry.name) more.0 (leaves_of_sense (sense_of known 0 entry.meaning)) ++ lies.behind));
        begins = let a = length-append own lies.before in let b = filled_length (name_text first.name) filled.0 (leaves_of_sense sense) in
            let c = lies.begins in let d = length-append (leaves_of_sense sense) (flat_map leaves_of_sense (senses_of known 0 before)) in
            omega (arith, a, b, c, d);
      },
    )
