-- How many slots the names of a module have, and how many its program has; and what its names add to a size.
use Rattle.std.specs.Prelude.{◌≡◌, ℕ, ◌+◌, Bool, List, [], ◌∷◌, ◌++◌, map, Option, Some, None}
use Rattle.std.specs.List.{flat_map, sum_by}
use Rattle.std.proofs.Common.{refl, ap, ◌∙◌, sym, arith}
use Rattle.std.proofs.lemmas.List.{append-nil, append_assoc}
use Rattle.std.proofs.lemmas.List.Sums.{sum_by-append, sum_by-cons}
use Rattle.pearl_tree.specs.declared.name.Name.{Name}
use Rattle.pearl_tree.specs.Names.{name_text, names_of}
use Rattle.pearl_tree.specs.ShownLiterals.{ShownConst}
use Rattle.pearl_tree.specs.ShownDeclarations.{ShownItem, ShownDeclared, OfItem, OfSema}
use Rattle.pearl_tree.specs.ShownModules.{ShownDecl, OfLength, OfType, OfDeclare, OfSpecify, OfTask, OfProc, ShownTree}
use Rattle.pearl_names.specs.declared.scope.View.TheVariants.{Within}
use Rattle.pearl_names.specs.FirstNames.{repeated}
use Rattle.pearl_names.specs.Known.{Known, known_of, around}
use Rattle.pearl_names.specs.Layout.{Leaf, elements}
use Rattle.pearl_names.specs.Scopes.{Entry, entries_as, declared_entries, decl_entries, decls_entries, decls_scopes, types_in}
use Rattle.pearl_names.specs.Scopes as scopes
use Rattle.pearl_names.specs.Sorts.{sorted_name, sorted_names, names_of_scopes}
use Rattle.pearl_names.specs.Tables.{Form, Sense, Variable, NewType, Semaphore, form_of, sense_of, senses_of, table_of}
use Rattle.pearl_scope.specs.Parts.{parts_of}
use Rattle.pearl_scope.specs.Rules.{s1, faults_in}
use Rattle.pearl_scope.specs.Rules as names
use Rattle.pearl_check.specs.Sizes.{Declared, with_senses, declared_in, size_of, slot_count}
use Rattle.pearl_program.specs.PlainPrograms.{PlainLeaf}
use Rattle.pearl_resolve.specs.Laying.{leaves_of_sense, slots, left_behind, values_of_leaf, path_name, filled_leaves}
use Rattle.pearl_resolve.specs.Numbers.{first}
use Rattle.pearl_resolve.specs.Expressions.{Numbered, meant}
use Rattle.pearl_resolve.specs.Statements.{slots_of_meant}
use Rattle.pearl_resolve.specs.Resolve.{variable_leaves, names_leaves, declared_leaves, decl_leaves}
use Rattle.pearl_sound.proofs.Offered.{counted, both_counted, none_counted, AddsNothing, specs_counted, module_meant, slots_length}
use Rattle.pearl_sound_sizes.proofs.Basics.{left_none}

named_size : (known : Known) (count : Sense → ℕ) (entries : List Entry) →
    size_of count (with_senses (sorted_names entries) (senses_of known 0 entries)) ≡ counted known count entries
unfolding sorted_names
named_size known count [] = refl
named_size known count (entry ∷ rest) =
    let sense = sense_of known 0 entry.meaning in
    let a = sum_by-cons (λ (one : Declared). count one.sense) (record { name = entry.name; sense = sense })
    (with_senses (map sorted_name rest) (senses_of known 0 rest)) in
    let b = sum_by-cons count sense (senses_of known 0 rest) in
    let c = named_size known count rest in
    omega (arith, a, b, c)

pub module_size : (tree : ShownTree) (count : Sense → ℕ) →
    size_of count (declared_in (table_of tree)) ≡ counted (known_of tree) count (decls_entries 0 tree.declarations)
unfolding names_of_scopes
module_size tree count = named_size (known_of tree) count (decls_entries 0 tree.declarations)

-- slots
slots_nothing : AddsNothing slot_count
slots_nothing = record { interrupt = refl; alphic = λ direction. refl; basic = λ direction kind. refl; new_type = refl }

abbrev pub leaf_count : PlainLeaf → ℕ
leaf_count leaf = leaf.values.count

abbrev pub slots_among : List PlainLeaf → ℕ
slots_among leaves = sum_by leaf_count leaves

filled_slots : (name : List ℕ) (constants : List ShownConst) (leaves : List Leaf) → slots_among (filled_leaves name constants leaves) ≡ slots leaves
filled_slots name constants [] = refl
filled_slots name constants (leaf ∷ rest) =
    let left = left_behind (elements leaf.bounds) constants in
    let a = filled_slots name left rest in
    let b = sum_by-cons (λ (leaf : Leaf). elements leaf.bounds) leaf rest in
    let c = sum_by-cons leaf_count (record { name = path_name name leaf.path; values = values_of_leaf constants leaf }) (filled_leaves name left rest) in
    omega (arith, a, b, c)

variable_slots : (name : List ℕ) (constants : List ShownConst) (form : Option Form) (inv : Bool) →
    slots_among (filled_leaves name constants (leaves_of_sense (Variable form inv))) ≡ slot_count (Variable form inv)
variable_slots name constants None inv = refl
variable_slots name constants (Some form) inv =
    let leaves = leaves_of_sense (Variable (Some form) inv) in
    let a = filled_slots name constants leaves in let b = slots_length leaves in omega (arith, a, b)

slots_both : (one two : List PlainLeaf) → slots_among (one ++ two) ≡ slots_among one + slots_among two
slots_both one two = sum_by-append leaf_count one two

module _ (tree : ShownTree) (numbers : List (List ℕ)) (once : repeated (sorted_names (decls_entries 0 tree.declarations)) ≡ []) where
  abbrev entries : List Entry
  entries = decls_entries 0 tree.declarations

  abbrev known : Known
  known = known_of tree

  abbrev numbered : Numbered
  numbered = record { table = table_of tree; numbers = numbers }

  -- these entries stand there among all
  abbrev Stand : (before part after : List Entry) → Type 0
  Stand before part after = entries ≡ before ++ (part ++ after)

  first_stands : (before one two after : List Entry) → Stand before (one ++ two) after → Stand before one (two ++ after)
  first_stands before one two after stand = stand ∙ ap (λ xs. before ++ xs) (append_assoc one two after)

  second_stands : (before one two after : List Entry) → Stand before (one ++ two) after → Stand (before ++ one) two after
  second_stands before one two after stand =
      first_stands before one two after stand ∙ sym (append_assoc before one (two ++ after))

  -- these have as many slots as the names
  abbrev HasSlots : List Entry → List PlainLeaf → Type 0
  HasSlots part leaves = counted known slot_count part ≡ slots_among leaves

  both_slots : (one two : List Entry) (a b : List PlainLeaf) → HasSlots one a → HasSlots two b → HasSlots (one ++ two) (a ++ b)
  both_slots one two a b first second =
      let c = both_counted known slot_count one two in let d = slots_both a b in omega (arith, first, second, c, d)

  item_slots : (item : ShownItem) (types : ℕ) (list : List Name) (constants : List ShownConst) (before after : List Entry) →
      Stand before (entries_as (scopes.Variable item types) list) after →
      HasSlots (entries_as (scopes.Variable item types) list) (names_leaves numbered constants list)
  item_slots item types [] constants before after stand = refl
  item_slots item types (name ∷ list) constants before after stand =
      let entry : Entry = record { name = name; meaning = scopes.Variable item types } in
      let found = meant numbered (Within 0) name in
      let left = left_behind (slots_of_meant found) constants in
      let means = module_meant tree numbers before entry (entries_as (scopes.Variable item types) list ++ after) stand once in
      let more = item_slots item types list left (before ++ entry ∷ []) after
      (second_stands before (entry ∷ []) (entries_as (scopes.Variable item types) list) after stand) in
      let a = ap (λ thing. slots_among (variable_leaves name constants thing)) means.1 in
      let b = variable_slots (name_text name) constants (form_of (around known 0 types) item) item.inv in
      let c = sum_by-cons slot_count (sense_of known 0 (scopes.Variable item types)) (senses_of known 0 (entries_as (scopes.Variable item types) list)) in
      let d = slots_both (variable_leaves name constants found) (names_leaves numbered left list) in
      omega (arith, more, a, b, c, d)

  declared_slots : (types : ℕ) (parts : List ShownDeclared) (before after : List Entry) → Stand before (flat_map (declared_entries types) parts) after →
      HasSlots (flat_map (declared_entries types) parts) (flat_map (declared_leaves numbered) parts)
  declared_slots types [] before after stand = refl
  declared_slots types (OfItem item ∷ rest) before after stand =
      let own = entries_as (scopes.Variable item types) (names_of item.names) in
      let more = flat_map (declared_entries types) rest in
      both_slots own more (names_leaves numbered item.init (names_of item.names)) (flat_map (declared_leaves numbered) rest)
      (item_slots item types (names_of item.names) item.init before (more ++ after) (first_stands before own more after stand))
      (declared_slots types rest (before ++ own) after (second_stands before own more after stand))
  declared_slots types (OfSema sema ∷ rest) before after stand =
      let own = entries_as scopes.Semaphore (names_of sema.names) in
      let more = flat_map (declared_entries types) rest in
      both_slots own more [] (flat_map (declared_leaves numbered) rest) (none_counted known slot_count scopes.Semaphore (names_of sema.names) refl)
      (declared_slots types rest (before ++ own) after (second_stands before own more after stand))

  decl_slots : (types : ℕ) (decl : ShownDecl) (before after : List Entry) → Stand before (decl_entries types decl) after →
      HasSlots (decl_entries types decl) (decl_leaves numbered decl)
  decl_slots types (OfLength sort number place) before after stand = refl
  decl_slots types (OfType name part place) before after stand = none_counted known slot_count (scopes.NewType types) (name ∷ []) refl
  decl_slots types (OfDeclare parts place) before after stand = declared_slots types parts before after stand
  decl_slots types (OfSpecify specs place) before after stand = specs_counted known slot_count slots_nothing specs
  decl_slots types (OfTask name head body place) before after stand = none_counted known slot_count scopes.Task (name ∷ []) refl
  decl_slots types (OfProc name params returns body place) before after stand =
      none_counted known slot_count (scopes.Procedure params returns) (name ∷ []) refl

  decls_slots : (types : ℕ) (decls : List ShownDecl) (before after : List Entry) → Stand before (decls_entries types decls) after →
      HasSlots (decls_entries types decls) (flat_map (decl_leaves numbered) decls)
  decls_slots types [] before after stand = refl
  decls_slots types (decl ∷ rest) before after stand =
      let own = decl_entries types decl in
      let more = decls_entries (types + types_in decl) rest in
      both_slots own more (decl_leaves numbered decl) (flat_map (decl_leaves numbered) rest)
      (decl_slots types decl before (more ++ after) (first_stands before own more after stand))
      (decls_slots (types + types_in decl) rest (before ++ own) after (second_stands before own more after stand))

  pub all_slots : HasSlots entries (flat_map (decl_leaves numbered) tree.declarations)
  all_slots = decls_slots 0 tree.declarations [] [] (sym (append-nil entries))

-- S1 isn't broken in the module's own scope
pub declared_once : (tree : ShownTree) → names.broken tree ≡ [] → repeated (sorted_names (decls_entries 0 tree.declarations)) ≡ []
unfolding names_of_scopes
declared_once tree kept =
    let own = repeated (sorted_names (decls_entries 0 tree.declarations)) in
    let others = flat_map s1 (names_of_scopes (decls_scopes 0 1 tree.declarations)) in
    left_none own others (left_none (own ++ others) (faults_in (known_of tree) (parts_of tree)) kept)
