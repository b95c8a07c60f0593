-- In a module that breaks no rule none is broken in a statement of its tasks and procedures, and the names of each are known.
use Rattle.std.specs.Prelude.{◌≡◌, ℕ, ◌+◌, false, List, [], ◌∷◌, ◌++◌}
use Rattle.std.specs.List.{AllByRecursion, flat_map}
use Rattle.std.proofs.Common.{sym, subst}
use Rattle.pearl_tree.specs.declared.fault.RuleFault.{RuleFault}
use Rattle.pearl_tree.specs.ShownModules.{ShownBody, ShownDecl, OfTask, OfProc, ShownTree}
use Rattle.pearl_names.specs.Known.{Known, known_of}
use Rattle.pearl_names.specs.Scopes.{as_stmts, scopes_in_decl, types_in}
use Rattle.pearl_names.specs.Tables.{Table, table_of}
use Rattle.pearl_scope.specs.Parts.{basic_parts, body_decl_parts, param_parts, parts_if, all_parts, body_parts, decl_parts, decls_parts, parts_of}
use Rattle.pearl_scope.specs.Placed.{Placed, placed_body, parts_at}
use Rattle.pearl_scope.specs.Rules.{s1, faults_in}
use Rattle.pearl_scope.specs.Rules as names
use Rattle.pearl_scope.proofs.Offered.{all_placed}
use Rattle.pearl_system.specs.Rules as devices
use Rattle.pearl_check.specs.Asked.{asked_at}
use Rattle.pearl_check.specs.Routines.{Routine, decl_routines, decls_routines, routines_of, statements_of}
use Rattle.pearl_check.specs.Rules.{s30, statement_faults, routine_faults, statements_broken, whole_broken, all_broken}
use Rattle.pearl_sound.specs.KnownParts.{HasItsNames}
use Rattle.pearl_sound.proofs.CompleteForms.{IsUnbroken, AreUnbroken, all_unbroken}
use Rattle.pearl_sound.proofs.NamesKnown.{asked_named}
use Rattle.pearl_sound.proofs.SimpleStatements.{left_none, right_none, split_all}
use Rattle.pearl_sound.proofs.SoundForms.{all_append}

-- none in a list of lists
pub each_none : {X : Type 0} (f : X → List RuleFault) (xs : List X) → flat_map f xs ≡ [] → AllByRecursion (λ x. f x ≡ []) xs
each_none f [] none = tt
each_none f (x ∷ xs) none = (left_none (f x) (flat_map f xs) none, each_none f xs (right_none (f x) (flat_map f xs) none))

both_all : {X : Type 0} (P Q : X → Type 0) (xs : List X) → AllByRecursion P xs → AllByRecursion Q xs → AllByRecursion (λ x. P x × Q x) xs
both_all P Q [] one two = tt
both_all P Q (x ∷ xs) one two = ((one.0, two.0), both_all P Q xs one.1 two.1)

abbrev HasNoFault : Table → Routine → Type 0
HasNoFault table routine = AllByRecursion (λ place. statement_faults table routine.sort place ≡ []) (statements_of routine)

routines_kept : (table : Table) (routines : List Routine) → flat_map (routine_faults table) routines ≡ [] → AllByRecursion (HasNoFault table) routines
routines_kept table [] none = tt
routines_kept table (routine ∷ rest) none =
    let own = left_none (routine_faults table routine) (flat_map (routine_faults table) rest) none in (
      each_none (statement_faults table routine.sort) (statements_of routine)
          (right_none (s30 routine.sort) (flat_map (statement_faults table routine.sort) (statements_of routine)) own),
      routines_kept table rest (right_none (routine_faults table routine) (flat_map (routine_faults table) rest) none),
    )

-- what holds of a statement whose parts break no rule on names holds of those of all tasks and procedures
module _ (known : Known) (P : Placed → Type 0) (each : (types : ℕ) (place : Placed) → AreUnbroken known (parts_at types place) → P place) where
  abbrev HoldsOfAll : Routine → Type 0
  HoldsOfAll routine = AllByRecursion P (statements_of routine)

  places_hold : (types : ℕ) (places : List Placed) → AreUnbroken known (flat_map (parts_at types) places) → AllByRecursion P places
  places_hold types [] kept = tt
  places_hold types (place ∷ rest) kept =
      let split = split_all (IsUnbroken known) (parts_at types place) (flat_map (parts_at types) rest) kept in
      (each types place split.0, places_hold types rest split.1)

  body_holds : (types scope : ℕ) (body : ShownBody) → AreUnbroken known (body_parts types scope body) →
      AllByRecursion P (placed_body scope (as_stmts body.statements))
  body_holds types scope body kept =
      let statements = as_stmts body.statements in
      let split = split_all (IsUnbroken known) (flat_map (body_decl_parts scope types) body.declarations) (all_parts types scope (scope + 1) statements) kept in
      places_hold types (placed_body scope statements)
      (subst (AreUnbroken known) (sym (all_placed types (record { scope = scope; in_loop = false }) (scope + 1) statements)) split.1)

  decl_holds : (types next : ℕ) (decl : ShownDecl) → AreUnbroken known (decl_parts types next decl) → AllByRecursion HoldsOfAll (decl_routines next decl)
  decl_holds types next (OfTask name head body place) kept = (body_holds types next body kept, tt)
  decl_holds types next (OfProc name params returns body place) kept =
      let outer = split_all (IsUnbroken known) (flat_map param_parts params) (parts_if basic_parts returns ++ body_parts types next body) kept in
      let inner = split_all (IsUnbroken known) (parts_if basic_parts returns) (body_parts types next body) outer.1 in
      (body_holds types next body inner.1, tt)
  decl_holds types next decl kept = tt

  pub decls_hold : (types next : ℕ) (decls : List ShownDecl) → AreUnbroken known (decls_parts types next decls) →
      AllByRecursion HoldsOfAll (decls_routines next decls)
  decls_hold types next [] kept = tt
  decls_hold types next (decl ∷ rest) kept =
      let past = next + scopes_in_decl decl in
      let more = types + types_in decl in
      let split = split_all (IsUnbroken known) (decl_parts types next decl) (decls_parts more past rest) kept in
      all_append HoldsOfAll (decl_routines next decl) (decls_routines past rest) (decl_holds types next decl split.0) (decls_hold more past rest split.1)

pub statements_kept : (tree : ShownTree) → all_broken tree ≡ [] →
    AllByRecursion (λ (routine : Routine).
    AllByRecursion (λ place. statement_faults (table_of tree) routine.sort place ≡ []) (statements_of routine) ×
    AllByRecursion (λ place. AllByRecursion (HasItsNames (table_of tree)) (asked_at place)) (statements_of routine)) (routines_of tree)
statements_kept tree none =
    let table = table_of tree in
    let others = devices.broken tree ++ (statements_broken table tree ++ whole_broken tree) in
    let first = left_none (names.broken tree) others none in
    let behind = right_none (devices.broken tree) (statements_broken table tree ++ whole_broken tree) (right_none (names.broken tree) others none) in
    let kept = all_unbroken (known_of tree) (parts_of tree) (right_none (flat_map s1 (known_of tree).scopes) (faults_in (known_of tree) (parts_of tree)) first) in
    both_all (HasNoFault table) (λ routine. AllByRecursion (λ place. AllByRecursion (HasItsNames table) (asked_at place)) (statements_of routine)) (routines_of tree)
    (routines_kept table (routines_of tree) (left_none (statements_broken table tree) (whole_broken tree) behind))
    (decls_hold (known_of tree) (λ place. AllByRecursion (HasItsNames table) (asked_at place)) (asked_named tree first) 0 1 tree.declarations kept)
