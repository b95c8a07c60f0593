-- What a name of the module means, where none is declared twice, and which number it has.
use Rattle.std.specs.Prelude.{◌≡◌, ℕ, suc, ◌+◌, Bool, true, false, ◌||◌, if◌then◌else◌, List, [], ◌∷◌, ◌++◌, length, map, Some, None, option_map, slice_get}
use Rattle.std.specs.Option.{option_and_then}
use Rattle.std.specs.List.{flat_map, sum_by}
use Rattle.std.specs.Str.{bytes_eq}
use Rattle.std.proofs.Common.{refl, ap, ◌∙◌, sym, arith, true≢false}
use Rattle.std.proofs.lemmas.List.{append-nil, append_assoc, length-append, map-append}
use Rattle.std.proofs.lemmas.List.Sums.{sum_by-cons}
use Rattle.std.proofs.lemmas.Slice.Eq.{bytes_eq-Decides}
use Rattle.pearl_tree.specs.declared.fault.RuleFault.{RuleFault}
use Rattle.pearl_tree.specs.declared.name.Name.{Name}
use Rattle.pearl_tree.specs.declared.rule.TheConstants as rule
use Rattle.pearl_tree.specs.Faults.{fault_if}
use Rattle.pearl_tree.specs.Names.{name_text, is_among, repeats}
use Rattle.pearl_tree.specs.ShownModules.{ShownTree}
use Rattle.pearl_names.specs.declared.scope.SortedName.{SortedName}
use Rattle.pearl_names.specs.declared.scope.View.TheVariants.{Within}
use Rattle.pearl_names.specs.FirstNames.{first_index, repeated}
use Rattle.pearl_names.specs.Found.{found_in}
use Rattle.pearl_names.specs.Known.{Known, known_of}
use Rattle.pearl_names.specs.Scopes.{Entry, decls_entries}
use Rattle.pearl_names.specs.Sorts.{sorted_name, sorted_names, names_of_scopes}
use Rattle.pearl_names.specs.Tables.{Sense, Variable, Semaphore, Task, Procedure, sense_of, senses_of, table_of}
use Rattle.pearl_names.proofs.Offered.{bytes_symm, sorted_names-append, sorted_names-cons}
use Rattle.pearl_system.specs.declared.device.SpecifiedDevice.{SpecifiedDevice}
use Rattle.pearl_resolve.specs.Laying.{leaves_of_sense}
use Rattle.pearl_resolve.specs.Numbers.{Before, behind, module_number, module_numbers}
use Rattle.pearl_resolve.specs.Expressions.{Numbered, meant, meant_at}
use Rattle.pearl_check.specs.Sizes.{task_count, procedure_count, semaphore_count}

-- a list without faults
pub no_fault : (broken : Bool) (place of : ℕ) (rest : List RuleFault) → fault_if broken place of ++ rest ≡ [] → (broken ≡ false) × (rest ≡ [])
no_fault true place of rest none = let more = ap (λ (faults : List RuleFault). length faults) none in absurd (omega (arith, more))
no_fault false place of rest none = (refl, none)

not_before : (of : ℕ) (seen before : List Name) (name : Name) (after : List Name) → repeats of seen (before ++ name ∷ after) ≡ [] →
    is_among (seen ++ before) (name_text name) ≡ false
not_before of seen [] name after none =
    ap (λ names. is_among names (name_text name)) (append-nil seen) ∙
    (no_fault (is_among seen (name_text name)) name.place of (repeats of (seen ++ name ∷ []) after) none).0
not_before of seen (first ∷ before) name after none =
    ap (λ names. is_among names (name_text name)) (sym (append_assoc seen (first ∷ []) before)) ∙
    not_before of (seen ++ first ∷ []) before name after
    (no_fault (is_among seen (name_text first)) first.place of (repeats of (seen ++ first ∷ []) (before ++ name ∷ after)) none).1

pub neither : (a b : Bool) → (a || b) ≡ false → (a ≡ false) × (b ≡ false)
neither true b is = absurd (true≢false is)
neither false b is = (refl, is)

index_is : (before : List SortedName) (entry : SortedName) (after : List SortedName) (text : List ℕ) → name_text entry.name ≡ text →
    is_among (map (λ entry. entry.name) before) text ≡ false → first_index (before ++ entry ∷ after) text ≡ Some (length before)
index_is [] entry after text same free =
    ap (λ b. if b then Some 0 else option_map suc (first_index after text)) ((bytes_eq-Decides text (name_text entry.name)).1 (sym same))
index_is (first ∷ before) entry after text same free =
    let parts = neither (bytes_eq (name_text first.name) text) (is_among (map (λ entry. entry.name) before) text) free in
    ap (λ b. if b then Some 0 else option_map suc (first_index (before ++ entry ∷ after) text))
    (bytes_symm (name_text first.name) text false parts.0) ∙
    ap (option_map suc) (index_is before entry after text same parts.1)

-- a name that isn't declared twice is found where it stands
pub finds_itself : (before : List SortedName) (entry : SortedName) (after : List SortedName) → repeated (before ++ entry ∷ after) ≡ [] →
    first_index (before ++ entry ∷ after) (name_text entry.name) ≡ Some (length before)
unfolding repeated
finds_itself before entry after none =
    let names = map (λ (entry : SortedName). entry.name) before in
    index_is before entry after (name_text entry.name) refl
    (not_before rule.S1 [] names entry.name (map (λ (entry : SortedName). entry.name) after)
    (ap (repeats rule.S1 []) (sym (map-append (λ (entry : SortedName). entry.name) before (entry ∷ after))) ∙ none))

pub length_sorted : (entries : List Entry) → length (sorted_names entries) ≡ length entries
unfolding sorted_names
length_sorted [] = refl
length_sorted (entry ∷ rest) = ap suc (length_sorted rest)

pub entry_found : (entries before : List Entry) (entry : Entry) (after : List Entry) → entries ≡ before ++ entry ∷ after →
    repeated (sorted_names entries) ≡ [] → first_index (sorted_names entries) (name_text entry.name) ≡ Some (length before)
entry_found entries before entry after is once =
    let split : sorted_names entries ≡ sorted_names before ++ sorted_name entry ∷ sorted_names after =
    ap sorted_names is ∙ sorted_names-append before (entry ∷ after) ∙ ap (λ xs. sorted_names before ++ xs) (sorted_names-cons entry after) in
    ap (λ names. first_index names (name_text entry.name)) split ∙
    finds_itself (sorted_names before) (sorted_name entry) (sorted_names after) (ap repeated (sym split) ∙ once) ∙
    ap Some (length_sorted before)

pub get_at : {X : Type 0} (before : List X) (x : X) (after : List X) → slice_get (before ++ x ∷ after) (length before) ≡ Some x
get_at [] x after = refl
get_at (first ∷ before) x after = get_at before x after

pub senses_append : (known : Known) (scope : ℕ) (one two : List Entry) →
    senses_of known scope (one ++ two) ≡ senses_of known scope one ++ senses_of known scope two
senses_append known scope one two = map-append (λ (entry : Entry). sense_of known scope entry.meaning) one two

length_senses : (known : Known) (scope : ℕ) (entries : List Entry) → length (senses_of known scope entries) ≡ length entries
length_senses known scope [] = refl
length_senses known scope (entry ∷ rest) = ap suc (length_senses known scope rest)

pub entry_sense : (known : Known) (scope : ℕ) (entries before : List Entry) (entry : Entry) (after : List Entry) → entries ≡ before ++ entry ∷ after →
    slice_get (senses_of known scope entries) (length before) ≡ Some (sense_of known scope entry.meaning)
entry_sense known scope entries before entry after is =
    ap (λ xs. slice_get (senses_of known scope xs) (length before)) is ∙
    ap (λ xs. slice_get xs (length before)) (senses_append known scope before (entry ∷ after)) ∙
    ap (λ n. slice_get (senses_of known scope before ++ sense_of known scope entry.meaning ∷ senses_of known scope after) n) (sym (length_senses known scope before)) ∙
    get_at (senses_of known scope before) (sense_of known scope entry.meaning) (senses_of known scope after)

-- what a name of the module means
pub module_meant : (tree : ShownTree) (numbers : List (List ℕ)) (before : List Entry) (entry : Entry) (after : List Entry) →
    decls_entries 0 tree.declarations ≡ before ++ entry ∷ after → repeated (sorted_names (decls_entries 0 tree.declarations)) ≡ [] →
    (n : ℕ) × (meant (record { table = table_of tree; numbers = numbers }) (Within 0) entry.name ≡
    Some (record { sense = sense_of (known_of tree) 0 entry.meaning; scope = 0; number = n }))
unfolding names_of_scopes
module_meant tree numbers before entry after is once =
    let index = entry_found (decls_entries 0 tree.declarations) before entry after is once in
    let numbered : Numbered = record { table = table_of tree; numbers = numbers } in (
      _,
      ap (λ found. option_and_then (meant_at numbered) (found_in 0 found None)) index ∙
          ap (option_map (λ (sense : Sense). record { sense = sense; scope = 0; number = _ }))
          (entry_sense (known_of tree) 0 (decls_entries 0 tree.declarations) before entry after is),
    )

-- what stands before a name, where these senses have gone by
abbrev pub gone : Before → List Sense → Before
gone before [] = before
gone before (sense ∷ rest) = gone (behind before sense) rest

pub entry_number : (devices : List SpecifiedDevice) (numbers : List ℕ) (known : Known) (from : Before) (before : List Entry) (entry : Entry) (after : List Entry) →
    slice_get (module_numbers devices numbers from (sorted_names (before ++ entry ∷ after)) (senses_of known 0 (before ++ entry ∷ after))) (length before) ≡
    Some (module_number devices numbers (gone from (senses_of known 0 before)) (sorted_name entry) (sense_of known 0 entry.meaning))
unfolding sorted_names
entry_number devices numbers known from [] entry after = refl
entry_number devices numbers known from (first ∷ before) entry after =
    entry_number devices numbers known (behind from (sense_of known 0 first.meaning)) before entry after

-- how many things of each sort have gone by
pub record HasGone (from : Before) (senses : List Sense) (to : Before) : Type 0 where
  pub leaves : to.leaves ≡ from.leaves + length (flat_map leaves_of_sense senses)
  pub semaphores : to.semaphores ≡ from.semaphores + sum_by semaphore_count senses
  pub tasks : to.tasks ≡ from.tasks + sum_by task_count senses
  pub procedures : to.procedures ≡ from.procedures + sum_by procedure_count senses

record Steps (from : Before) (sense : Sense) : Type 0 where
  pub leaves : (behind from sense).leaves ≡ from.leaves + length (leaves_of_sense sense)
  pub semaphores : (behind from sense).semaphores ≡ from.semaphores + semaphore_count sense
  pub tasks : (behind from sense).tasks ≡ from.tasks + task_count sense
  pub procedures : (behind from sense).procedures ≡ from.procedures + procedure_count sense

steps : (from : Before) (sense : Sense) → Steps from sense
steps from (Variable form inv) = record { leaves = refl; semaphores = omega arith; tasks = omega arith; procedures = omega arith }
steps from Semaphore = record { leaves = omega arith; semaphores = refl; tasks = omega arith; procedures = omega arith }
steps from Task = record { leaves = omega arith; semaphores = omega arith; tasks = refl; procedures = omega arith }
steps from (Procedure parameters result) = record { leaves = omega arith; semaphores = omega arith; tasks = omega arith; procedures = refl }
steps from sense = record { leaves = omega arith; semaphores = omega arith; tasks = omega arith; procedures = omega arith }

pub has_gone : (from : Before) (senses : List Sense) → HasGone from senses (gone from senses)
has_gone from [] = record { leaves = omega arith; semaphores = omega arith; tasks = omega arith; procedures = omega arith }
has_gone from (sense ∷ rest) =
    let more = has_gone (behind from sense) rest in
    let one = steps from sense in
    record {
      leaves = let a = more.leaves in let b = one.leaves in let c = length-append (leaves_of_sense sense) (flat_map leaves_of_sense rest) in omega (arith, a, b, c);
      semaphores = let a = more.semaphores in let b = one.semaphores in let c = sum_by-cons semaphore_count sense rest in omega (arith, a, b, c);
      tasks = let a = more.tasks in let b = one.tasks in let c = sum_by-cons task_count sense rest in omega (arith, a, b, c);
      procedures = let a = more.procedures in let b = one.procedures in let c = sum_by-cons procedure_count sense rest in omega (arith, a, b, c);
    }
