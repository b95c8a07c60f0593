-- The leaves of a program are sound: their names have from 1 to 1,024 bytes, all of them letters.
use Rattle.std.specs.Prelude.{◌≡◌, ℕ, zero, suc, ◌+◌, ◌<◌, ◌≤◌, Bool, true, false, nat_lt, if◌then◌else◌, List, [], ◌∷◌, ◌++◌, length, Option, Some, None, option_map, unwrap_or, slice_get}
use Rattle.std.specs.Option.{option_and_then}
use Rattle.std.specs.List.{AllByRecursion, flat_map, list_any}
use Rattle.std.specs.Str.{bytes_eq}
use Rattle.std.proofs.Common.{refl, sym, subst, arith, inl, inr}
use Rattle.std.proofs.lemmas.Bool.{ltb-false}
use Rattle.std.proofs.lemmas.List.{length-append}
use Rattle.std.proofs.lemmas.List.Elements.{recursion_from_All}
use Rattle.std.proofs.lemmas.List.Sums.{sum_by-cons}
use Rattle.std.proofs.lemmas.Slice.Eq.{bytes_eq-Decides}
use Rattle.pearl_value.specs.WellFormed.{IsLetter}
use Rattle.pearl_tree.specs.declared.rule.TheConstants as rule
use Rattle.pearl_tree.specs.declared.name.Name.{Name}
use Rattle.pearl_tree.specs.declared.tree.Tree.{Tree}
use Rattle.pearl_tree.specs.Tokens.{IsIdByte, BeginsWithLetter, IsId}
use Rattle.pearl_tree.specs.Lawful.{IsLawful}
use Rattle.pearl_tree.specs.Names.{name_text, names_of}
use Rattle.pearl_tree.specs.ShownLiterals.{ShownConst}
use Rattle.pearl_tree.specs.ShownDeclarations.{ShownDeclared, OfItem, OfSema}
use Rattle.pearl_tree.specs.ShownModules.{ShownDecl, OfDeclare, shown_tree}
use Rattle.pearl_names.specs.declared.scope.SortedName.{SortedName}
use Rattle.pearl_names.specs.declared.scope.View.TheVariants.{Within}
use Rattle.pearl_names.specs.FirstNames.{first_index}
use Rattle.pearl_names.specs.Found.{names_in, outer_of, found_in, found_through}
use Rattle.pearl_names.specs.Known.{known_of}
use Rattle.pearl_names.specs.Layout.{Leaf, elements}
use Rattle.pearl_names.specs.Counts.{path_bytes, bytes_behind}
use Rattle.pearl_names.specs.Scopes.{decls_entries}
use Rattle.pearl_names.specs.Tables.{Sense, Variable, senses_of, table_of, leaves_in}
use Rattle.pearl_check.specs.Sizes.{Declared, with_senses, declared_in, has_long_leaf, long_leaf_fault, passed, task_count, procedure_count, semaphore_count, slot_count, counted_sizes}
use Rattle.pearl_program.specs.PlainPrograms.{PlainLeaf}
use Rattle.pearl_program.specs.Sound.{IsLeaf}
use Rattle.pearl_resolve_tables.specs.Laying.{leaves_of_sense, left_behind, path_name, filled_leaves}
use Rattle.pearl_resolve.specs.Expressions.{Numbered, Meant, number_at, meant_at, meant}
use Rattle.pearl_resolve.specs.Statements.{slots_of_meant}
use Rattle.pearl_resolve.specs.Resolve.{variable_leaves, names_leaves, declared_leaves, decl_leaves}
use Rattle.pearl_sound_data.proofs.Faults.{right_none, no_fault, neither, all_append}
use Rattle.pearl_sound.proofs.Offered.{all_set}
use Rattle.pearl_sound_data.proofs.Shapes.{IfThere, LeafHas, SenseHas, shapes_have, scope_has}
use Rattle.pearl_sound_data.proofs.LawfulNames.{AreIds, DeclaredNamed, DeclNamed, entries_ids, types_ids, decls_named}
use Rattle.pearl_sound_data.proofs.ModuleLeaves.{HasFirst}

-- bytes
id_letter : (b : ℕ) → IsIdByte b → IsLetter b
id_letter b (inl (inl upper)) = let low = upper.0 in let high = upper.1 in (omega (arith, low), omega (arith, high))
id_letter b (inl (inr lower)) = let low = lower.0 in let high = lower.1 in (omega (arith, low), omega (arith, high))
id_letter b (inr (inl digit)) = let low = digit.0 in let high = digit.1 in (omega (arith, low), omega (arith, high))
id_letter b (inr (inr line)) = (omega (arith, line), omega (arith, line))

id_letters : (text : List ℕ) → AllByRecursion IsIdByte text → AllByRecursion IsLetter text
id_letters [] all = tt
id_letters (b ∷ text) all = (id_letter b all.0, id_letters text all.1)

text_letters : (text : List ℕ) → IsId text → AllByRecursion IsLetter text
text_letters text is = id_letters text (recursion_from_All IsIdByte text is.bytes)

some_bytes : (text : List ℕ) → BeginsWithLetter text → 0 < length text
some_bytes [] begins = absurd begins
some_bytes (b ∷ text) begins = omega arith

path_letters : (path : List (List ℕ)) → AllByRecursion IsId path → AllByRecursion IsLetter (flat_map (λ field. 46 ∷ field) path)
path_letters [] all = tt
path_letters (field ∷ path) all =
    ((omega arith, omega arith), all_append IsLetter field (flat_map (λ field. 46 ∷ field) path) (text_letters field all.0) (path_letters path all.1))

path_length : (path : List (List ℕ)) → length (flat_map (λ field. 46 ∷ field) path) ≡ path_bytes path
path_length [] = refl
path_length (field ∷ path) =
    let own = length-append field (flat_map (λ (field : List ℕ). 46 ∷ field) path) in
    let more = path_length path in
    let sum = sum_by-cons (λ (field : List ℕ). 1 + length field) field path in
    omega (arith, own, more, sum)

-- the name of a leaf of what a name stands for
abbrev Fits : List ℕ → Leaf → Type 0
Fits text leaf = length text + bytes_behind leaf ≤ 1024

record Named (leaf : PlainLeaf) : Type 0 where
  pub long : (0 < length leaf.name) × (length leaf.name ≤ 1024)
  pub spelled : AllByRecursion IsLetter leaf.name

name_long : (text : List ℕ) (leaf : Leaf) → IsId text → Fits text leaf →
    (0 < length (path_name text leaf.path)) × (length (path_name text leaf.path) ≤ 1024)
name_long text leaf is fits =
    let own = length-append text (flat_map (λ (field : List ℕ). 46 ∷ field) leaf.path) in
    let more = path_length leaf.path in
    let some = some_bytes text is.begins in
    (omega (arith, own, some), omega (arith, own, more, fits))

filled_named : (text : List ℕ) (constants : List ShownConst) (leaves : List Leaf) → IsId text → AllByRecursion (Fits text) leaves →
    AllByRecursion (LeafHas IsId) leaves → AllByRecursion Named (filled_leaves text constants leaves)
filled_named text constants [] is fit has = tt
filled_named text constants (leaf ∷ rest) is fit has = (
  record {
    long = name_long text leaf is fit.0;
    spelled = all_append IsLetter text (flat_map (λ (field : List ℕ). 46 ∷ field) leaf.path) (text_letters text is) (path_letters leaf.path has.0.path);
  },
  filled_named text (left_behind (elements leaf.bounds) constants) rest is fit.1 has.1,
)

-- no leaf has a long name
none_long : (text : List ℕ) (leaves : List Leaf) → list_any (λ leaf. nat_lt 1024 (length text + bytes_behind leaf)) leaves ≡ false →
    AllByRecursion (Fits text) leaves
none_long text [] none = tt
none_long text (leaf ∷ rest) none =
    let parts = neither (nat_lt 1024 (length text + bytes_behind leaf)) (list_any (λ leaf. nat_lt 1024 (length text + bytes_behind leaf)) rest) none in
    (ltb-false 1024 (length text + bytes_behind leaf) parts.0, none_long text rest parts.1)

sense_fits : (name : Name) (sense : Sense) → has_long_leaf name sense ≡ false → AllByRecursion (Fits (name_text name)) (leaves_of_sense sense)
sense_fits name (Variable (Some form) inv) none = none_long (name_text name) (leaves_in (Some form)) none
sense_fits name sense none = tt

abbrev FitsDeclared : Declared → Type 0
FitsDeclared declared = AllByRecursion (Fits (name_text declared.name)) (leaves_of_sense declared.sense)

declared_fit : (declared : List Declared) → flat_map long_leaf_fault declared ≡ [] → AllByRecursion FitsDeclared declared
declared_fit [] none = tt
declared_fit (declared ∷ rest) none =
    let parts = no_fault (has_long_leaf declared.name declared.sense) declared.name.place rule.S34 (flat_map long_leaf_fault rest) none in
    (sense_fits declared.name declared.sense parts.0, declared_fit rest parts.1)

sizes_fit : (declared : List Declared) → counted_sizes declared ≡ [] → AllByRecursion FitsDeclared declared
sizes_fit declared none =
    let last = flat_map long_leaf_fault declared in
    let slots = passed slot_count 65536 0 declared ++ last in
    let semaphores = passed semaphore_count 1000 0 declared ++ slots in
    let procedures = passed procedure_count 200 0 declared ++ semaphores in
    declared_fit declared
    (right_none (passed slot_count 65536 0 declared) last
    (right_none (passed semaphore_count 1000 0 declared) slots
    (right_none (passed procedure_count 200 0 declared) semaphores
    (right_none (passed task_count 200 0 declared) procedures none))))

-- a name of the module, and what it stands for
record IsFit (text : List ℕ) (sense : Sense) : Type 0 where
  pub fits : AllByRecursion (Fits text) (leaves_of_sense sense)
  pub has : SenseHas IsId sense

abbrev IsFitDeclared : Declared → Type 0
IsFitDeclared declared = IsFit (name_text declared.name) declared.sense

both_fit : (names : List SortedName) (senses : List Sense) → AllByRecursion FitsDeclared (with_senses names senses) →
    AllByRecursion (SenseHas IsId) senses → AllByRecursion IsFitDeclared (with_senses names senses)
both_fit [] senses fit has = tt
both_fit (name ∷ names) [] fit has = tt
both_fit (name ∷ names) (sense ∷ senses) fit has = (record { fits = fit.0; has = has.0 }, both_fit names senses fit.1 has.1)

no_sense : (P : Sense → Type 0) (index : Option ℕ) → IfThere (λ i. IfThere P (slice_get [] i)) index
no_sense P None = tt
no_sense P (Some i) = tt

behind_first : (P : Sense → Type 0) (sense : Sense) (senses : List Sense) (index : Option ℕ) → IfThere (λ i. IfThere P (slice_get senses i)) index →
    IfThere (λ i. IfThere P (slice_get (sense ∷ senses) i)) (option_map suc index)
behind_first P sense senses None has = tt
behind_first P sense senses (Some i) has = has

first_fits : (names : List SortedName) (senses : List Sense) (text : List ℕ) → AllByRecursion IsFitDeclared (with_senses names senses) →
    IfThere (λ i. IfThere (IsFit text) (slice_get senses i)) (first_index names text)
first_fits [] senses text all = tt
first_fits (name ∷ names) [] text all = no_sense (IsFit text) (first_index (name ∷ names) text)
first_fits (name ∷ names) (sense ∷ senses) text all = by (bytes_eq text (name_text name.name)) refl (first_fits names senses text all.1)
  where
    by : (test : Bool) → bytes_eq text (name_text name.name) ≡ test →
        IfThere (λ i. IfThere (IsFit text) (slice_get senses i)) (first_index names text) →
        IfThere (λ i. IfThere (IsFit text) (slice_get (sense ∷ senses) i)) (if test then Some 0 else option_map suc (first_index names text))
    by true e more = subst (λ t. IsFit t sense) (sym ((bytes_eq-Decides text (name_text name.name)).0 e)) all.0
    by false e more = behind_first (IsFit text) sense senses (first_index names text) more

-- what a name of the module means
abbrev ThingFits : List ℕ → Meant → Type 0
ThingFits text thing = IsFit text thing.sense

module _ (numbered : Numbered) (all : AllByRecursion IsFitDeclared (declared_in numbered.table)) where
  in_module : (text : List ℕ) (i : ℕ) (senses : Option (List Sense)) → IfThere (IsFit text) (slice_get (unwrap_or senses []) i) →
      IfThere (ThingFits text) (option_map (λ (sense : Sense). record { sense = sense; scope = 0; number = number_at numbered.numbers (record { scope = 0; entry = i }) })
      (option_and_then (λ names. slice_get names i) senses))
  in_module text i None has = tt
  in_module text i (Some senses) has = by (slice_get senses i) has
    where
      by : (sense : Option Sense) → IfThere (IsFit text) sense →
          IfThere (ThingFits text) (option_map (λ (sense : Sense). record { sense = sense; scope = 0; number = number_at numbered.numbers (record { scope = 0; entry = i }) }) sense)
      by None has = tt
      by (Some sense) has = has

  found_fits : (text : List ℕ) (index : Option ℕ) (outer : Option ℕ) →
      IfThere (λ i. IfThere (IsFit text) (slice_get (unwrap_or (slice_get numbered.table.senses 0) []) i)) index →
      IfThere (ThingFits text) (option_and_then (meant_at numbered) (found_in 0 index (found_through zero numbered.table.names text outer)))
  found_fits text None None has = tt
  found_fits text None (Some outer) has = tt
  found_fits text (Some i) outer has = in_module text i (slice_get numbered.table.senses 0) has

  meant_fits : (name : Name) → IfThere (ThingFits (name_text name)) (meant numbered (Within 0) name)
  meant_fits name =
      let names = names_in (slice_get numbered.table.names 0) in
      found_fits (name_text name) (first_index names (name_text name)) (outer_of (slice_get numbered.table.names 0))
      (first_fits names (unwrap_or (slice_get numbered.table.senses 0) []) (name_text name) all)

  variable_named : (name : Name) (constants : List ShownConst) (thing : Option Meant) → IsId (name_text name) →
      IfThere (ThingFits (name_text name)) thing → AllByRecursion Named (variable_leaves name constants thing)
  variable_named name constants None is has = tt
  variable_named name constants (Some thing) is has =
      filled_named (name_text name) constants (leaves_of_sense thing.sense) is has.fits has.has

  names_named : (constants : List ShownConst) (names : List Name) → AreIds names → AllByRecursion Named (names_leaves numbered constants names)
  names_named constants [] are = tt
  names_named constants (name ∷ rest) are =
      let thing = meant numbered (Within 0) name in
      let behind = left_behind (slots_of_meant thing) constants in
      all_append Named (variable_leaves name constants thing) (names_leaves numbered behind rest)
      (variable_named name constants thing are.0 (meant_fits name)) (names_named behind rest are.1)

  declared_named : (parts : List ShownDeclared) → AllByRecursion DeclaredNamed parts → AllByRecursion Named (flat_map (declared_leaves numbered) parts)
  declared_named [] are = tt
  declared_named (OfItem item ∷ rest) are =
      all_append Named (names_leaves numbered item.init (names_of item.names)) (flat_map (declared_leaves numbered) rest)
      (names_named item.init (names_of item.names) are.0) (declared_named rest are.1)
  declared_named (OfSema sema ∷ rest) are = declared_named rest are.1

  decl_named : (decl : ShownDecl) → DeclNamed decl → AllByRecursion Named (decl_leaves numbered decl)
  decl_named (OfDeclare parts place) are = declared_named parts are
  decl_named decl are = tt

  all_named : (decls : List ShownDecl) → AllByRecursion DeclNamed decls → AllByRecursion Named (flat_map (decl_leaves numbered) decls)
  all_named [] are = tt
  all_named (decl ∷ rest) are =
      all_append Named (decl_leaves numbered decl) (flat_map (decl_leaves numbered) rest) (decl_named decl are.0) (all_named rest are.1)

-- of a whole module
module_senses : (tree : Tree) → IsLawful tree →
    AllByRecursion (SenseHas IsId) (senses_of (known_of (shown_tree tree)) 0 (decls_entries 0 (shown_tree tree).declarations))
module_senses tree lawful =
    let shown = shown_tree tree in
    let known = known_of shown in
    let parts = tree.declarations.items.items in
    scope_has IsId known (all_set shown.declarations)
    (shapes_have IsId known.scopes known.lengths (all_set shown.declarations) [] shown.declarations tt (types_ids parts lawful.declarations)) 0
    (decls_entries 0 shown.declarations) (entries_ids 0 parts lawful.declarations)

both_sound : (leaves : List PlainLeaf) → AllByRecursion Named leaves → AllByRecursion HasFirst leaves → AllByRecursion IsLeaf leaves
both_sound [] named first = tt
both_sound (leaf ∷ rest) named first =
    (record { named = named.0.long; spelled = named.0.spelled; values = first.0 }, both_sound rest named.1 first.1)

pub leaves_sound : (tree : Tree) (numbers : List (List ℕ)) → IsLawful tree → counted_sizes (declared_in (table_of (shown_tree tree))) ≡ [] →
    AllByRecursion HasFirst (flat_map (decl_leaves (record { table = table_of (shown_tree tree); numbers = numbers })) (shown_tree tree).declarations) →
    AllByRecursion IsLeaf (flat_map (decl_leaves (record { table = table_of (shown_tree tree); numbers = numbers })) (shown_tree tree).declarations)
leaves_sound tree numbers lawful none first =
    let shown = shown_tree tree in
    let table = table_of shown in
    let numbered : Numbered = record { table = table; numbers = numbers } in
    both_sound (flat_map (decl_leaves numbered) shown.declarations)
    (all_named numbered
    (both_fit (names_in (slice_get table.names 0)) (unwrap_or (slice_get table.senses 0) []) (sizes_fit (declared_in table) none) (module_senses tree lawful))
    shown.declarations (decls_named tree.declarations.items.items lawful.declarations))
    first
