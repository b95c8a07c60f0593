-- Inner scopes declare variables and parameters alone: what else a name means stands in the module's own scope.
use Rattle.std.specs.Prelude.{◌≡◌, ℕ, zero, suc, ◌+◌, Bool, true, false, List, [], ◌∷◌, ◌++◌, Option, Some, None, slice_get}
use Rattle.std.specs.Option.{option_and_then}
use Rattle.std.specs.List.{AllByRecursion, flat_map}
use Rattle.std.proofs.Common.{refl, ◌∙◌, sym, subst, true≢false}
use Rattle.std.proofs.lemmas.Option.{none-some}
use Rattle.pearl_tree.specs.declared.name.Name.{Name}
use Rattle.pearl_tree.specs.Names.{names_of}
use Rattle.pearl_tree.specs.ShownDeclarations.{ShownItem, ShownParam}
use Rattle.pearl_tree.specs.ShownStatements.{ShownBodyDecl, ShownStmt, OfIf, OfCase, OfRepeat, OfBegin, ShownStmts}
use Rattle.pearl_tree.specs.ShownModules.{ShownBody, ShownDecl, OfTask, OfProc, ShownTree}
use Rattle.pearl_names.specs.declared.meaning.Found.{Found}
use Rattle.pearl_names.specs.FirstNames.{first_index}
use Rattle.pearl_names.specs.Found.{names_in, outer_of, found_in, found_through}
use Rattle.pearl_names.specs.Known.{Known, known_of}
use Rattle.pearl_names.specs.ScopeNames.{ScopeNames}
use Rattle.pearl_names.specs.Scopes.{Meaning, Entry, Scope, as_stmts, entries_as, item_entries, body_decl_entries, body_entries, param_entries, control_entries, scopes_in_decl, types_in, all_scopes, routine_scopes, decl_scopes, decls_scopes}
use Rattle.pearl_names.specs.Scopes as scopes
use Rattle.pearl_names.specs.Tables.{Sense, sense_of, senses_of, senses_in, sense_at, table_of}
use Rattle.pearl_resolve.specs.Expressions.{Numbered}
use Rattle.pearl_sound.proofs.SoundForms.{all_append}
use Rattle.pearl_sound.proofs.SoundParts.{some_one}
use Rattle.pearl_sound.proofs.Walk.{Passage, One, Each, Branches, Otherwise, PartsKeep, walk, Pieces, in_turn, pieces, summed}

-- what is found is the first of the name in its scope
abbrev pub HasFound : List ScopeNames → List ℕ → Found → Type 0
HasFound names text found = first_index (names_in (slice_get names found.scope)) text ≡ Some found.entry

pub found_here : (names : List ScopeNames) (text : List ℕ) (n : ℕ) (outer : Option Found) (found : Found) → (outer ≡ Some found → HasFound names text found) →
    (entry : Option ℕ) → first_index (names_in (slice_get names n)) text ≡ entry → found_in n entry outer ≡ Some found → HasFound names text found
found_here names text n outer found more None at is = more is
found_here names text n outer found more (Some entry) at is = subst (HasFound names text) (some_one is) at

pub no_way : (names : List ScopeNames) (steps : ℕ) (text : List ℕ) → found_through steps names text None ≡ None
no_way names zero text = refl
no_way names (suc steps) text = refl

pub found_text : (names : List ScopeNames) (steps : ℕ) (text : List ℕ) (from : Option ℕ) (found : Found) → found_through steps names text from ≡ Some found →
    HasFound names text found
found_text names steps text None found is = absurd (none-some found (sym (no_way names steps text) ∙ is))
found_text names zero text (Some n) found is = absurd (none-some found is)
found_text names (suc steps) text (Some n) found is =
    found_here names text n (found_through steps names text (outer_of (slice_get names n))) found
    (λ is. found_text names steps text (outer_of (slice_get names n)) found is) (first_index (names_in (slice_get names n)) text) refl is

-- inner scopes declare no other names
abbrev pub IsInner : Entry → Type 0
IsInner entry = by entry.meaning
  where
    by : Meaning → Type 0
    by (scopes.Variable item types) = Unit {0}
    by (scopes.Control loop) = Unit {0}
    by (scopes.Parameter part ident) = Unit {0}
    by meaning = ⊥

abbrev AreInner : List Entry → Type 0
AreInner entries = AllByRecursion IsInner entries

abbrev IsInnerScope : Scope → Type 0
IsInnerScope scope = AreInner scope.entries

abbrev AreInnerScopes : List Scope → Type 0
AreInnerScopes list = AllByRecursion IsInnerScope list

variables_inner : (types : ℕ) (item : ShownItem) (names : List Name) → AreInner (entries_as (scopes.Variable item types) names)
variables_inner types item [] = tt
variables_inner types item (name ∷ names) = (tt, variables_inner types item names)

items_inner : (types : ℕ) (items : List ShownItem) → AreInner (flat_map (item_entries types) items)
items_inner types [] = tt
items_inner types (item ∷ rest) =
    all_append IsInner (item_entries types item) (flat_map (item_entries types) rest) (variables_inner types item (names_of item.names)) (items_inner types rest)

body_inner : (types : ℕ) (declarations : List ShownBodyDecl) → AreInner (body_entries types declarations)
body_inner types [] = tt
body_inner types (declaration ∷ rest) =
    all_append IsInner (body_decl_entries types declaration) (body_entries types rest) (items_inner types declaration.items) (body_inner types rest)

loop_inner : (place : ℕ) (control : Option Name) (entries : List Entry) → AreInner entries → AreInner (control_entries place control ++ entries)
loop_inner place None entries inner = inner
loop_inner place (Some name) entries inner = (tt, inner)

parameters_inner : (param : ShownParam) (names : List Name) → AreInner (entries_as (scopes.Parameter param.basic param.ident) names)
parameters_inner param [] = tt
parameters_inner param (name ∷ names) = (tt, parameters_inner param names)

params_inner : (params : List ShownParam) → AreInner (flat_map param_entries params)
params_inner [] = tt
params_inner (param ∷ rest) =
    all_append IsInner (param_entries param) (flat_map param_entries rest) (parameters_inner param (names_of param.names)) (params_inner rest)

module _ (numbered : Numbered) where
  abbrev BringsInner : Pieces → Type 0
  BringsInner piece = (types scope next : ℕ) → AreInnerScopes (piece.list types scope next)

  both_inner : (one two : Passage) → BringsInner (pieces numbered one) → BringsInner (pieces numbered two) →
      BringsInner (in_turn (pieces numbered one) (pieces numbered two))
  both_inner one two first second types scope next =
      let a = pieces numbered one in
      let b = pieces numbered two in
      all_append IsInnerScope (a.list types scope next) (b.list types scope (next + a.scopes)) (first types scope next)
      (second types scope (next + a.scopes))

  stmt_inner : (s : ShownStmt) → PartsKeep (λ passage. BringsInner (pieces numbered passage)) s → BringsInner (pieces numbered (One s))
  stmt_inner (OfIf condition statements otherwise place) parts = both_inner (Each statements) (Otherwise otherwise) parts.0 parts.1
  stmt_inner (OfCase selector alternatives otherwise place) parts = both_inner (Branches alternatives) (Otherwise otherwise) parts.0 parts.1
  stmt_inner (OfRepeat control begin step last condition declarations statements body_place place) parts = λ types scope next.
      (loop_inner place control (body_entries types declarations) (body_inner types declarations), parts types next (next + 1))
  stmt_inner (OfBegin declarations statements body_place place) parts = λ types scope next.
      (body_inner types declarations, parts types next (next + 1))
  stmt_inner statement parts = λ types scope next. tt

  all_inner : (types scope next : ℕ) (statements : ShownStmts) → AreInnerScopes (all_scopes types scope next statements)
  all_inner types scope next statements =
      walk (λ passage. BringsInner (pieces numbered passage)) (summed numbered BringsInner (λ types scope next. tt) both_inner stmt_inner)
      (Each statements) types scope next

  routine_inner : (types next : ℕ) (params : List ShownParam) (body : ShownBody) → AreInnerScopes (routine_scopes types next params body)
  routine_inner types next params body = (
    all_append IsInner (flat_map param_entries params) (body_entries types body.declarations) (params_inner params) (body_inner types body.declarations),
    all_inner types next (next + 1) (as_stmts body.statements),
  )

  decl_inner : (types next : ℕ) (decl : ShownDecl) → AreInnerScopes (decl_scopes types next decl)
  decl_inner types next (OfTask name head body place) = routine_inner types next [] body
  decl_inner types next (OfProc name params returns body place) = routine_inner types next params body
  decl_inner types next decl = tt

  decls_inner : (types next : ℕ) (decls : List ShownDecl) → AreInnerScopes (decls_scopes types next decls)
  decls_inner types next [] = tt
  decls_inner types next (decl ∷ rest) =
      all_append IsInnerScope (decl_scopes types next decl) (decls_scopes (types + types_in decl) (next + scopes_in_decl decl) rest) (decl_inner types next decl)
      (decls_inner (types + types_in decl) (next + scopes_in_decl decl) rest)

-- a test that names of inner scopes don't pass, and none that means nothing
pub record IsOfModule (p : Option Sense → Bool) : Type 0 where
  pub nothing : p None ≡ false
  pub inner : (known : Known) (n : ℕ) (meaning : Meaning) (name : Name) → IsInner (record { name = name; meaning = meaning }) →
      p (Some (sense_of known n meaning)) ≡ false

module _ (p : Option Sense → Bool) (of : IsOfModule p) where
  none_among : (known : Known) (n : ℕ) (entries : List Entry) → AreInner entries → (j : ℕ) → p (slice_get (senses_of known n entries) j) ≡ false
  none_among known n [] inner j = of.nothing
  none_among known n (entry ∷ rest) inner zero = of.inner known n entry.meaning entry.name inner.0
  none_among known n (entry ∷ rest) inner (suc j) = none_among known n rest inner.1 j

  none_within : (known : Known) (n : ℕ) (list : List Scope) → AreInnerScopes list → (i j : ℕ) →
      p (option_and_then (λ senses. slice_get senses j) (slice_get (senses_in known n list) i)) ≡ false
  none_within known n [] inner i j = of.nothing
  none_within known n (scope ∷ rest) inner zero j = none_among known n scope.entries inner.0 j
  none_within known n (scope ∷ rest) inner (suc i) j = none_within known (n + 1) rest inner.1 i j

  -- what passes stands in the module's own scope
  pub scope_of_module : (tree : ShownTree) (found : Found) → p (sense_at (table_of tree).senses found) ≡ true → found.scope ≡ 0
  scope_of_module tree found is = by found.scope is
    where
      by : (scope : ℕ) → p (option_and_then (λ senses. slice_get senses found.entry) (slice_get (table_of tree).senses scope)) ≡ true → scope ≡ 0
      by zero is = refl
      by (suc i) is =
          absurd (true≢false (sym is ∙ none_within (known_of tree) 1 (decls_scopes 0 1 tree.declarations)
          (decls_inner (record { table = table_of tree; numbers = [] }) 0 1 tree.declarations) i found.entry))
