-- The number of a procedure that a name calls is the one that is given to it.
use Rattle.std.specs.Prelude.{◌≡◌, ℕ, suc, ◌+◌, Bool, true, false, if◌then◌else◌, List, [], ◌∷◌, ◌++◌, map, filter, Option, Some, None, option_map, unwrap_or, slice_get}
use Rattle.std.specs.Option.{option_and_then}
use Rattle.std.specs.List.{flat_map}
use Rattle.std.specs.Str.{bytes_eq}
use Rattle.std.proofs.Common.{refl, ap, ◌∙◌, sym, subst, arith, true≢false}
use Rattle.std.proofs.lemmas.List.{map-append}
use Rattle.std.proofs.lemmas.List.Concat.{flat_map-append}
use Rattle.std.proofs.lemmas.List.Elements.{filter-append}
use Rattle.std.proofs.lemmas.Option.{none-some}
use Rattle.pearl_tree.specs.declared.name.Name.{Name}
use Rattle.pearl_tree.specs.declared.declaration.Class.TheVariants as class
use Rattle.pearl_tree.specs.Names.{name_text, names_of}
use Rattle.pearl_tree.specs.ShownDeclarations.{ShownDeclared, OfItem, OfSema, ShownSpec, OfInterrupt, OfDation}
use Rattle.pearl_tree.specs.ShownModules.{ShownDecl, OfDeclare, OfSpecify, ShownTree}
use Rattle.pearl_names.specs.declared.meaning.Found.{Found}
use Rattle.pearl_names.specs.declared.scope.SortedName.{SortedName}
use Rattle.pearl_names.specs.declared.scope.View.{View}
use Rattle.pearl_names.specs.declared.scope.View.TheVariants.{Within, WhileOf}
use Rattle.pearl_names.specs.FirstNames.{first_index}
use Rattle.pearl_names.specs.Found.{names_in, outer_of, found_through, found_from, is_control_sort, is_control}
use Rattle.pearl_names.specs.Known.{Known, known_of}
use Rattle.pearl_names.specs.ScopeNames.{ScopeNames}
use Rattle.pearl_names.specs.Scopes.{Meaning, Entry, entries_as, declared_entries, spec_entries, decl_entries, decls_entries, scopes_in_decl, types_in}
use Rattle.pearl_names.specs.Scopes as scopes
use Rattle.pearl_names.specs.Sorts.{sorted_names, names_of_scopes}
use Rattle.pearl_names.specs.Tables.{Sense, sense_of, senses_of, sense_at, table_of}
use Rattle.pearl_names.proofs.Offered.{bytes_symm}
use Rattle.pearl_system.specs.declared.device.SpecifiedDevice.{SpecifiedDevice}
use Rattle.pearl_check.specs.Calls as calls
use Rattle.pearl_check.specs.Routines.{Routine, is_procedure, decl_routines, decls_routines, routines_of}
use Rattle.pearl_check.specs.Sizes.{procedure_names}
use Rattle.pearl_check.specs.Views.{seen, is_procedure_sense}
use Rattle.pearl_resolve.specs.Numbers.{Before, behind, module_numbers, nothing_before}
use Rattle.pearl_resolve.specs.Expressions.{Numbered, Meant, meant_at, number_at, number_of}
use Rattle.pearl_resolve.specs.Resolve.{numbered_of}
use Rattle.pearl_sound.proofs.Offered.{HasFound, found_text, IsInner, IsOfModule, scope_of_module}
use Rattle.pearl_sound_sizes.proofs.Basics.{some_one, both}

-- a control variable is the first name of its scope
control_first : (entries : List SortedName) (text : List ℕ) → is_control entries text ≡ true → first_index entries text ≡ Some 0
control_first [] text is = absurd (true≢false (sym is))
control_first (entry ∷ rest) text is =
    let parts = both (is_control_sort entry.sort) (bytes_eq (name_text entry.name) text) is in
    ap (λ test. if test then Some 0 else option_map suc (first_index rest text)) (bytes_symm (name_text entry.name) text true parts.1)

found_in_loop : (names : List ScopeNames) (n : ℕ) (text : List ℕ) (found : Found) (control : Bool) → is_control (names_in (slice_get names n)) text ≡ control →
    (if control then Some (record { scope = n; entry = 0 }) else found_through n names text (outer_of (slice_get names n))) ≡ Some found →
    HasFound names text found
found_in_loop names n text found true same is = subst (HasFound names text) (some_one is) (control_first (names_in (slice_get names n)) text same)
found_in_loop names n text found false same is = found_text names n text (outer_of (slice_get names n)) found is

found_first : (names : List ScopeNames) (view : View) (text : List ℕ) (found : Found) → found_from names view text ≡ Some found → HasFound names text found
found_first names (Within n) text found is = found_text names (suc n) text (Some n) found is
found_first names (WhileOf n) text found is = found_in_loop names n text found (is_control (names_in (slice_get names n)) text) refl is

-- in the module's own scope
procedures_of_module : IsOfModule is_procedure_sense
procedures_of_module = record { nothing = refl; inner = no_procedure }
  where
    no_procedure : (known : Known) (n : ℕ) (meaning : Meaning) (name : Name) → IsInner (record { name = name; meaning = meaning }) →
        is_procedure_sense (Some (sense_of known n meaning)) ≡ false
    no_procedure known n (scopes.Variable item types) name inner = refl
    no_procedure known n (scopes.Control loop) name inner = refl
    no_procedure known n (scopes.Parameter part ident) name inner = refl
    no_procedure known n meaning name inner = absurd inner

-- the procedures among some names
abbrev pub procedure_name : Entry → List Name
procedure_name entry = by entry.meaning
  where
    by : Meaning → List Name
    by (scopes.Procedure params returns) = entry.name ∷ []
    by meaning = []

abbrev pub procedures_among : List Entry → List Name
procedures_among entries = flat_map procedure_name entries

-- a procedure's place among the procedures, and the number that it has
record IsCalled (devices : List SpecifiedDevice) (numbers : List ℕ) (known : Known) (from : Before) (entries : List Entry) (name : Name) (i : ℕ) : Type 0 where
  pub place : ℕ
  pub there : calls.number_of (procedures_among entries) name ≡ Some place
  pub number : slice_get (module_numbers devices numbers from (sorted_names entries) (senses_of known 0 entries)) i ≡
      Some (unwrap_or (slice_get numbers (from.procedures + place)) 0)

abbrev IsCalledBy : (devices : List SpecifiedDevice) (numbers : List ℕ) (known : Known) (entries : List Entry) (name : Name) → Type 0
IsCalledBy devices numbers known entries name = (from : Before) (i : ℕ) → first_index (sorted_names entries) (name_text name) ≡ Some i →
    is_procedure_sense (slice_get (senses_of known 0 entries) i) ≡ true → IsCalled devices numbers known from entries name i

module _ (devices : List SpecifiedDevice) (numbers : List ℕ) (known : Known) (name : Name) where
  -- the name itself
  this_called : (from : Before) (entry : Entry) (rest : List Entry) → bytes_eq (name_text name) (name_text entry.name) ≡ true →
      is_procedure_sense (Some (sense_of known 0 entry.meaning)) ≡ true → IsCalled devices numbers known from (entry ∷ rest) name 0
  unfolding sorted_names
  this_called from entry rest same is = by entry.meaning is
    where
      entry_as : Meaning → Entry
      entry_as meaning = record { name = entry.name; meaning = meaning }

      by : (meaning : Meaning) → is_procedure_sense (Some (sense_of known 0 meaning)) ≡ true →
          IsCalled devices numbers known from (record { name = entry.name; meaning = meaning } ∷ rest) name 0
      by (scopes.Procedure params returns) is = record {
        place = 0;
        there = ap (λ test. if test then Some 0 else option_map suc (calls.number_of (procedures_among rest) name)) same;
        number = let more : from.procedures ≡ from.procedures + 0 = omega arith in
            ap (λ n. Some (unwrap_or (slice_get numbers n) 0)) more;
      }
      by (scopes.Dation direction (class.Alphic at)) is = absurd (true≢false (sym is))
      by (scopes.Dation direction (class.Basic part at)) is = absurd (true≢false (sym is))
      by meaning is = absurd (true≢false (sym is))

  -- one behind an entry of another name
  later_called : (from : Before) (entry : Entry) (rest : List Entry) (i : ℕ) → bytes_eq (name_text name) (name_text entry.name) ≡ false →
      IsCalled devices numbers known (behind from (sense_of known 0 entry.meaning)) rest name i →
      IsCalled devices numbers known from (entry ∷ rest) name (suc i)
  unfolding sorted_names
  later_called from entry rest i other more = by entry.meaning more
    where
      by : (meaning : Meaning) → IsCalled devices numbers known (behind from (sense_of known 0 meaning)) rest name i →
          IsCalled devices numbers known from (record { name = entry.name; meaning = meaning } ∷ rest) name (suc i)
      by (scopes.Procedure params returns) more = record {
        place = suc more.place;
        there = ap (λ test. if test then Some 0 else option_map suc (calls.number_of (procedures_among rest) name)) other ∙ ap (option_map suc) more.there;
        number = let same : from.procedures + 1 + more.place ≡ from.procedures + suc more.place = omega arith in
            more.number ∙ ap (λ n. Some (unwrap_or (slice_get numbers n) 0)) same;
      }
      by (scopes.Variable item types) more = record { place = more.place; there = more.there; number = more.number }
      by (scopes.Control loop) more = record { place = more.place; there = more.there; number = more.number }
      by (scopes.Parameter part ident) more = record { place = more.place; there = more.there; number = more.number }
      by (scopes.NewType number) more = record { place = more.place; there = more.there; number = more.number }
      by scopes.Semaphore more = record { place = more.place; there = more.there; number = more.number }
      by scopes.Interrupt more = record { place = more.place; there = more.there; number = more.number }
      by (scopes.Dation direction (class.Alphic at)) more = record { place = more.place; there = more.there; number = more.number }
      by (scopes.Dation direction (class.Basic part at)) more = record { place = more.place; there = more.there; number = more.number }
      by scopes.Task more = record { place = more.place; there = more.there; number = more.number }

  rest_called : (from : Before) (entry : Entry) (rest : List Entry) → IsCalledBy devices numbers known rest name → (i : ℕ) (found : Option ℕ) →
      first_index (sorted_names rest) (name_text name) ≡ found → bytes_eq (name_text name) (name_text entry.name) ≡ false →
      option_map suc found ≡ Some i → is_procedure_sense (slice_get (senses_of known 0 (entry ∷ rest)) i) ≡ true →
      IsCalled devices numbers known from (entry ∷ rest) name i
  rest_called from entry rest more i None there other at is = absurd (none-some i at)
  rest_called from entry rest more i (Some j) there other at is =
      subst (λ n. IsCalled devices numbers known from (entry ∷ rest) name n) (some_one at)
      (later_called from entry rest j other (more (behind from (sense_of known 0 entry.meaning)) j there
      (ap (λ n. is_procedure_sense (slice_get (senses_of known 0 (entry ∷ rest)) n)) (some_one at) ∙ is)))

  first_called : (from : Before) (entry : Entry) (rest : List Entry) → IsCalledBy devices numbers known rest name → (i : ℕ) (test : Bool) →
      bytes_eq (name_text name) (name_text entry.name) ≡ test →
      (if test then Some 0 else option_map suc (first_index (sorted_names rest) (name_text name))) ≡ Some i →
      is_procedure_sense (slice_get (senses_of known 0 (entry ∷ rest)) i) ≡ true → IsCalled devices numbers known from (entry ∷ rest) name i
  first_called from entry rest more i true same at is =
      subst (λ n. IsCalled devices numbers known from (entry ∷ rest) name n) (some_one at)
      (this_called from entry rest same (ap (λ n. is_procedure_sense (slice_get (senses_of known 0 (entry ∷ rest)) n)) (some_one at) ∙ is))
  first_called from entry rest more i false other at is =
      rest_called from entry rest more i (first_index (sorted_names rest) (name_text name)) refl other at is

  entry_called : (entries : List Entry) → IsCalledBy devices numbers known entries name
  unfolding sorted_names
  entry_called [] from i at is = absurd (none-some i at)
  entry_called (entry ∷ rest) from i at is =
      first_called from entry rest (λ from i at is. entry_called rest from i at is) i (bytes_eq (name_text name) (name_text entry.name)) refl at is

-- the procedures' names are those of the module's own scope, in order
no_procedures : (meaning : Meaning) → ((name : Name) → procedure_name (record { name = name; meaning = meaning }) ≡ []) → (names : List Name) →
    procedures_among (entries_as meaning names) ≡ []
no_procedures meaning none [] = refl
no_procedures meaning none (name ∷ names) =
    ap (λ first. first ++ procedures_among (entries_as meaning names)) (none name) ∙ no_procedures meaning none names

among_both : (one two : List Entry) → procedures_among (one ++ two) ≡ procedures_among one ++ procedures_among two
among_both one two = flat_map-append procedure_name one two

declared_none : (types : ℕ) (parts : List ShownDeclared) → procedures_among (flat_map (declared_entries types) parts) ≡ []
declared_none types [] = refl
declared_none types (OfItem item ∷ rest) =
    among_both (entries_as (scopes.Variable item types) (names_of item.names)) (flat_map (declared_entries types) rest) ∙
    ap (λ first. first ++ procedures_among (flat_map (declared_entries types) rest))
    (no_procedures (scopes.Variable item types) (λ name. refl) (names_of item.names)) ∙ declared_none types rest
declared_none types (OfSema sema ∷ rest) =
    among_both (entries_as scopes.Semaphore (names_of sema.names)) (flat_map (declared_entries types) rest) ∙
    ap (λ first. first ++ procedures_among (flat_map (declared_entries types) rest))
    (no_procedures scopes.Semaphore (λ name. refl) (names_of sema.names)) ∙ declared_none types rest

specs_none : (specs : List ShownSpec) → procedures_among (flat_map spec_entries specs) ≡ []
specs_none [] = refl
specs_none (OfInterrupt names place ∷ rest) =
    among_both (entries_as scopes.Interrupt (names_of names)) (flat_map spec_entries rest) ∙
    ap (λ first. first ++ procedures_among (flat_map spec_entries rest)) (no_procedures scopes.Interrupt (λ name. refl) (names_of names)) ∙ specs_none rest
specs_none (OfDation names direction sort control place ∷ rest) =
    among_both (entries_as (scopes.Dation direction sort) (names_of names)) (flat_map spec_entries rest) ∙
    ap (λ first. first ++ procedures_among (flat_map spec_entries rest)) (no_procedures (scopes.Dation direction sort) (λ name. refl) (names_of names)) ∙
    specs_none rest

names_both : (one two : List Routine) → procedure_names (one ++ two) ≡ procedure_names one ++ procedure_names two
names_both one two =
    ap (map (λ (routine : Routine). routine.name)) (filter-append is_procedure one two) ∙
    map-append (λ (routine : Routine). routine.name) (filter is_procedure one) (filter is_procedure two)

decl_names : (types next : ℕ) (decl : ShownDecl) → procedures_among (decl_entries types decl) ≡ procedure_names (decl_routines next decl)
decl_names types next (OfDeclare parts place) = declared_none types parts
decl_names types next (OfSpecify specs place) = specs_none specs
decl_names types next decl = refl

decls_names : (types next : ℕ) (decls : List ShownDecl) → procedures_among (decls_entries types decls) ≡ procedure_names (decls_routines next decls)
decls_names types next [] = refl
decls_names types next (decl ∷ rest) =
    let past = next + scopes_in_decl decl in
    let more = types + types_in decl in
    among_both (decl_entries types decl) (decls_entries more rest) ∙
    ap (λ first. first ++ procedures_among (decls_entries more rest)) (decl_names types next decl) ∙
    ap (λ behind. procedure_names (decl_routines next decl) ++ behind) (decls_names more past rest) ∙
    sym (names_both (decl_routines next decl) (decls_routines past rest))

pub module_names : (tree : ShownTree) → procedures_among (decls_entries 0 tree.declarations) ≡ procedure_names (routines_of tree)
module_names tree = decls_names 0 1 tree.declarations

-- a procedure that a name calls
pub record HasNumber (names : List Name) (procedures : List ℕ) (name : Name) (number : ℕ) : Type 0 where
  pub place : ℕ
  pub there : calls.number_of names name ≡ Some place
  pub is : number ≡ unwrap_or (slice_get procedures place) 0

meant_number : (sense : Option Sense) (scope n : ℕ) → is_procedure_sense sense ≡ true →
    unwrap_or (option_map (λ (thing : Meant). thing.number)
    (option_map (λ (sense : Sense). record { sense = sense; scope = scope; number = n }) sense)) 0 ≡ n
meant_number None scope n is = absurd (true≢false (sym is))
meant_number (Some sense) scope n is = refl

module _ (tree : ShownTree) (devices : List SpecifiedDevice) (procedures : List ℕ) where
  abbrev numbered : Numbered
  numbered = numbered_of (table_of tree) devices procedures tree

  in_module : (name : Name) (found : Found) → found.scope ≡ 0 → HasFound numbered.table.names (name_text name) found →
      first_index (sorted_names (decls_entries 0 tree.declarations)) (name_text name) ≡ Some found.entry
  unfolding names_of_scopes
  in_module name found outer at = subst (λ n. first_index (names_in (slice_get numbered.table.names n)) (name_text name) ≡ Some found.entry) outer at

  own_numbers : (found : Found) → found.scope ≡ 0 → number_at numbered.numbers found ≡
      unwrap_or (slice_get (module_numbers devices procedures nothing_before (sorted_names (decls_entries 0 tree.declarations))
      (senses_of (known_of tree) 0 (decls_entries 0 tree.declarations))) found.entry) 0
  unfolding names_of_scopes
  own_numbers found outer = ap (λ n. unwrap_or (slice_get (unwrap_or (slice_get numbered.numbers n) []) found.entry) 0) outer

  found_number : (name : Name) (found : Option Found) → ((one : Found) → found ≡ Some one → HasFound numbered.table.names (name_text name) one) →
      is_procedure_sense (option_and_then (sense_at numbered.table.senses) found) ≡ true →
      HasNumber (procedure_names (routines_of tree)) procedures name
      (unwrap_or (option_map (λ (thing : Meant). thing.number) (option_and_then (meant_at numbered) found)) 0)
  found_number name None first is = absurd (true≢false (sym is))
  found_number name (Some found) first is =
      let entries = decls_entries 0 tree.declarations in
      let known = known_of tree in
      let outer = scope_of_module is_procedure_sense procedures_of_module tree found is in
      let index = in_module name found outer (first found refl) in
      let sense = subst (λ n. is_procedure_sense (option_and_then (λ senses. slice_get senses found.entry) (slice_get numbered.table.senses n)) ≡ true) outer is in
      let called = entry_called devices procedures known name entries nothing_before found.entry index sense in
      let place : 0 + called.place ≡ called.place = omega arith in
      record {
        place = called.place;
        there = ap (λ names. calls.number_of names name) (sym (module_names tree)) ∙ called.there;
        is = meant_number (sense_at numbered.table.senses found) found.scope (number_at numbered.numbers found) is ∙ own_numbers found outer ∙
            ap (λ found. unwrap_or found 0) called.number ∙ ap (λ n. unwrap_or (slice_get procedures n) 0) place;
      }

  pub called_number : (view : View) (name : Name) → is_procedure_sense (seen numbered.table view name) ≡ true →
      HasNumber (procedure_names (routines_of tree)) procedures name (number_of numbered view name)
  called_number view name is =
      found_number name (found_from numbered.table.names view (name_text name))
      (λ one at. found_first numbered.table.names view (name_text name) one at) is
