-- Where no rule on names and types is broken, the form or kinds of each name are there.
use Rattle.std.specs.Prelude.{◌≡◌, ℕ, zero, suc, ◌+◌, ◌≤◌, Bool, List, [], ◌∷◌, ◌++◌, length, take, map, Option, Some, None, option_map, unwrap_or, slice_get}
use Rattle.std.specs.List.{AllByRecursion, flat_map}
use Rattle.std.proofs.Common.{refl, ap, sym, subst, arith}
use Rattle.std.proofs.lemmas.List.{length-append}
use Rattle.pearl_tree.specs.declared.rule.TheConstants as rule
use Rattle.pearl_tree.specs.declared.name.Name.{Name}
use Rattle.pearl_tree.specs.declared.typing.Basic.{Basic}
use Rattle.pearl_value.specs.declared.device.Direction.{Direction}
use Rattle.pearl_tree.specs.declared.declaration.Class.{Class}
use Rattle.pearl_tree.specs.declared.declaration.Class.TheVariants as class
use Rattle.pearl_tree.specs.Names.{names_of}
use Rattle.pearl_tree.specs.ShownDeclarations.{ShownItem, ShownDeclared, OfItem, OfSema, ShownSpec, OfInterrupt, OfDation, ShownParam}
use Rattle.pearl_tree.specs.ShownStatements as shown
use Rattle.pearl_tree.specs.ShownStatements.{ShownBodyDecl, ShownStmt, ShownStmts, ShownBranches, ShownOtherwise}
use Rattle.pearl_tree.specs.ShownModules.{ShownBody, ShownDecl, OfLength, OfType, OfDeclare, OfSpecify, OfTask, OfProc, ShownTree}
use Rattle.pearl_names.specs.declared.length.DefaultLength.{DefaultLength}
use Rattle.pearl_names.specs.declared.scope.View.TheVariants.{Within}
use Rattle.pearl_names.specs.Lengths.{kind_of_basic}
use Rattle.pearl_names.specs.ScopeNames.{ScopeNames}
use Rattle.pearl_names.specs.Shapes.{Shape, sound_bounds, shape_of, decl_shapes, shapes_after}
use Rattle.pearl_names.specs.Layout.{item_leaves}
use Rattle.pearl_names.specs.Known.{Known, known_of, around}
use Rattle.pearl_names.specs.Scopes.{Entry, Scope, scopes_of, as_stmts, entries_as, item_entries, body_decl_entries, body_entries, param_entries, control_entries, declared_entries, spec_entries, decl_entries, decls_entries, scopes_in, scopes_in_all, scopes_in_branches, scopes_in_decl, types_in, stmt_scopes, all_scopes, branch_scopes, otherwise_scopes, decl_scopes, decls_scopes}
use Rattle.pearl_names.specs.Scopes as scopes
use Rattle.pearl_names.specs.Tables.{Parameter, parameters_of, senses_of, senses_in, table_of}
use Rattle.pearl_names.proofs.Offered.{length-stmt_scopes, length-all_scopes, length-branch_scopes, length-decl_scopes}
use Rattle.pearl_scope.specs.Parts.{Item, Bounds, expr_parts, basic_parts, typing_parts, const_parts, item_parts, body_decl_parts, loop_parts, parts_if, stmt_parts, all_parts, branches_parts, otherwise_parts, body_parts, declared_parts, class_parts, spec_parts, param_parts, decl_parts, decls_parts, parts_of}
use Rattle.pearl_scope.specs.Rules.{s1, s5, s7, s8, fault_at_names, has_unsound_leaf, faults_in, broken}
use Rattle.pearl_sound.specs.KnownNames.{IsThereIn, HasKnownResult, IsComplete}
use Rattle.pearl_sound.proofs.CompleteForms.{IsUnbroken, AreUnbroken, all_unbroken, AllThere, bounds_known, basic_known, shape_known, seen_with, form_known}
use Rattle.pearl_sound.proofs.ModuleEntries.{no_fault, senses_append}
use Rattle.pearl_sound.proofs.SimpleStatements.{left_none, right_none, split_all}
use Rattle.pearl_sound.proofs.SoundForms.{all_append}

-- what the names of a scope of this number stand for is complete
abbrev pub IsFull : Known → ℕ → List Entry → Type 0
IsFull known n entries = AllByRecursion IsComplete (senses_of known n entries)

full_append : (known : Known) (n : ℕ) (one two : List Entry) → IsFull known n one → IsFull known n two → IsFull known n (one ++ two)
full_append known n one two first second =
    subst (λ senses. AllByRecursion IsComplete senses) (sym (senses_append known n one two))
    (all_append IsComplete (senses_of known n one) (senses_of known n two) first second)

-- so are those of these scopes, the first of which has this number
abbrev pub AreFull : Known → ℕ → List Scope → Type 0
AreFull known n [] = Unit {0}
AreFull known n (scope ∷ rest) = IsFull known n scope.entries × AreFull known (n + 1) rest

fill_append : (known : Known) (n m : ℕ) (one two : List Scope) → n + length one ≡ m → AreFull known n one → AreFull known m two →
    AreFull known n (one ++ two)
fill_append known n m [] two there first second =
    let same : m ≡ n = omega (arith, there) in subst (λ k. AreFull known k two) same second
fill_append known n m (scope ∷ rest) two there first second =
    (first.0, fill_append known (n + 1) m rest two (omega (arith, there)) first.1 second)

length-taken : {X : Type 0} (n : ℕ) (xs : List X) → n ≤ length xs → n ≤ length (take n xs)
length-taken zero xs enough = omega arith
length-taken (suc n) [] enough = absurd (omega (arith, enough))
length-taken (suc n) (x ∷ xs) enough = let more = length-taken n xs (omega (arith, enough)) in omega (arith, more)

all_taken : (n : ℕ) (shapes : List (Option Shape)) → AllThere shapes → AllThere (take n shapes)
all_taken zero shapes all = tt
all_taken (suc n) [] all = tt
all_taken (suc n) (shape ∷ rest) all = (all.0, all_taken n rest all.1)

module _ (known : Known) (all : AllThere known.shapes) where
  -- variables
  variables_full : (scope types : ℕ) (item : ShownItem) (names : List Name) → IsThereIn (sound_bounds item.bounds) →
      IsThereIn (shape_of (around known scope types) item.part) →
      fault_at_names (has_unsound_leaf (item_leaves (around known scope types) item)) names rule.S5 ≡ [] →
      IsFull known scope (entries_as (scopes.Variable item types) names)
  variables_full scope types item [] bounds shape none = tt
  variables_full scope types item (name ∷ names) bounds shape none =
      let unsound = has_unsound_leaf (item_leaves (around known scope types) item) in
      let parts = no_fault unsound name.place rule.S5 (fault_at_names unsound names rule.S5) none in (
        form_known (sound_bounds item.bounds) (shape_of (around known scope types) item.part) bounds shape parts.0,
        variables_full scope types item names bounds shape parts.1,
      )

  item_full : (scope types : ℕ) → types ≤ length known.shapes → (item : ShownItem) → AreUnbroken known (item_parts scope types item) →
      IsFull known scope (item_entries types item)
  item_full scope types enough item kept =
      let own = Item scope types item in
      let outer = split_all (IsUnbroken known) (map Bounds item.bounds) (typing_parts scope types item.part ++ flat_map const_parts item.init) kept.1 in
      let inner = split_all (IsUnbroken known) (typing_parts scope types item.part) (flat_map const_parts item.init) outer.1 in
      variables_full scope types item (names_of item.names) (bounds_known known item.bounds outer.0)
      (shape_known known (take types known.shapes) scope types (all_taken types known.shapes all) (length-taken types known.shapes enough) item.part inner.0)
      (left_none (s5 known own) (s7 known own ++ (s8 own ++ [])) kept.0)

  items_full : (scope types : ℕ) → types ≤ length known.shapes → (items : List ShownItem) →
      AreUnbroken known (flat_map (item_parts scope types) items) → IsFull known scope (flat_map (item_entries types) items)
  items_full scope types enough [] kept = tt
  items_full scope types enough (item ∷ rest) kept =
      let split = split_all (IsUnbroken known) (item_parts scope types item) (flat_map (item_parts scope types) rest) kept in
      full_append known scope (item_entries types item) (flat_map (item_entries types) rest) (item_full scope types enough item split.0)
      (items_full scope types enough rest split.1)

  body_full : (scope types : ℕ) → types ≤ length known.shapes → (declarations : List ShownBodyDecl) →
      AreUnbroken known (flat_map (body_decl_parts scope types) declarations) → IsFull known scope (body_entries types declarations)
  body_full scope types enough [] kept = tt
  body_full scope types enough (declaration ∷ rest) kept =
      let split = split_all (IsUnbroken known) (body_decl_parts scope types declaration) (flat_map (body_decl_parts scope types) rest) kept in
      full_append known scope (body_decl_entries types declaration) (body_entries types rest)
      (items_full scope types enough declaration.items split.0) (body_full scope types enough rest split.1)

  loop_full : (scope place : ℕ) (control : Option Name) (entries : List Entry) → IsFull known scope entries →
      IsFull known scope (control_entries place control ++ entries)
  loop_full scope place None entries full = full
  loop_full scope place (Some name) entries full = (tt, full)

  -- statements
  module _ (types : ℕ) (enough : types ≤ length known.shapes) where
    mutual
      stmt_full : (scope next : ℕ) (s : ShownStmt) → AreUnbroken known (stmt_parts types scope next s) →
          AreFull known next (stmt_scopes types scope next s)
      stmt_full scope next (shown.OfIf condition statements otherwise place) kept =
          let n = scopes_in_all statements in
          let outer = split_all (IsUnbroken known) (expr_parts (Within scope) condition)
          (all_parts types scope next statements ++ otherwise_parts types scope (next + n) otherwise) kept in
          let inner = split_all (IsUnbroken known) (all_parts types scope next statements) (otherwise_parts types scope (next + n) otherwise) outer.1 in
          fill_append known next (next + n) (all_scopes types scope next statements) (otherwise_scopes types scope (next + n) otherwise)
          (ap (λ k. next + k) (length-all_scopes types scope next statements)) (all_full scope next statements inner.0)
          (otherwise_full scope (next + n) otherwise inner.1)
      stmt_full scope next (shown.OfCase selector alternatives otherwise place) kept =
          let n = scopes_in_branches alternatives in
          let outer = split_all (IsUnbroken known) (expr_parts (Within scope) selector)
          (branches_parts types scope next alternatives ++ otherwise_parts types scope (next + n) otherwise) kept in
          let inner = split_all (IsUnbroken known) (branches_parts types scope next alternatives) (otherwise_parts types scope (next + n) otherwise) outer.1 in
          fill_append known next (next + n) (branch_scopes types scope next alternatives) (otherwise_scopes types scope (next + n) otherwise)
          (ap (λ k. next + k) (length-branch_scopes types scope next alternatives)) (branches_full scope next alternatives inner.0)
          (otherwise_full scope (next + n) otherwise inner.1)
      stmt_full scope next (shown.OfRepeat control begin step last condition declarations statements body_place place) kept =
          let outer = split_all (IsUnbroken known) (loop_parts scope next begin step last condition)
          (flat_map (body_decl_parts next types) declarations ++ all_parts types next (next + 1) statements) kept in
          let inner = split_all (IsUnbroken known) (flat_map (body_decl_parts next types) declarations) (all_parts types next (next + 1) statements) outer.1 in (
            loop_full next place control (body_entries types declarations) (body_full next types enough declarations inner.0),
            all_full next (next + 1) statements inner.1,
          )
      stmt_full scope next (shown.OfBegin declarations statements body_place place) kept =
          let inner = split_all (IsUnbroken known) (flat_map (body_decl_parts next types) declarations) (all_parts types next (next + 1) statements) kept in
          (body_full next types enough declarations inner.0, all_full next (next + 1) statements inner.1)
      stmt_full scope next statement kept = tt

      all_full : (scope next : ℕ) (statements : ShownStmts) → AreUnbroken known (all_parts types scope next statements) →
          AreFull known next (all_scopes types scope next statements)
      all_full scope next shown.NoStmts kept = tt
      all_full scope next (shown.MoreStmts s rest) kept =
          let n = scopes_in s in
          let split = split_all (IsUnbroken known) (stmt_parts types scope next s) (all_parts types scope (next + n) rest) kept in
          fill_append known next (next + n) (stmt_scopes types scope next s) (all_scopes types scope (next + n) rest)
          (ap (λ k. next + k) (length-stmt_scopes types scope next s)) (stmt_full scope next s split.0) (all_full scope (next + n) rest split.1)

      branches_full : (scope next : ℕ) (branches : ShownBranches) → AreUnbroken known (branches_parts types scope next branches) →
          AreFull known next (branch_scopes types scope next branches)
      branches_full scope next shown.NoBranches kept = tt
      branches_full scope next (shown.MoreBranches statements place rest) kept =
          let n = scopes_in_all statements in
          let split = split_all (IsUnbroken known) (all_parts types scope next statements) (branches_parts types scope (next + n) rest) kept in
          fill_append known next (next + n) (all_scopes types scope next statements) (branch_scopes types scope (next + n) rest)
          (ap (λ k. next + k) (length-all_scopes types scope next statements)) (all_full scope next statements split.0)
          (branches_full scope (next + n) rest split.1)

      otherwise_full : (scope next : ℕ) (otherwise : ShownOtherwise) → AreUnbroken known (otherwise_parts types scope next otherwise) →
          AreFull known next (otherwise_scopes types scope next otherwise)
      otherwise_full scope next shown.NoOtherwise kept = tt
      otherwise_full scope next (shown.OfOtherwise statements place) kept = all_full scope next statements kept

  -- parameters, as names of their body and as what is known of the procedure
  own_full : (n : ℕ) (part : Basic) (ident : Bool) (names : List Name) → IsThereIn (kind_of_basic known.lengths part) →
      IsFull known n (entries_as (scopes.Parameter part ident) names)
  own_full n part ident [] there = tt
  own_full n part ident (name ∷ names) there = (there, own_full n part ident names there)

  params_full : (n : ℕ) (params : List ShownParam) → AreUnbroken known (flat_map param_parts params) →
      IsFull known n (flat_map param_entries params)
  params_full n [] kept = tt
  params_full n (param ∷ rest) kept =
      let split = split_all (IsUnbroken known) (param_parts param) (flat_map param_parts rest) kept in
      full_append known n (param_entries param) (flat_map param_entries rest)
      (own_full n param.basic param.ident (names_of param.names) (basic_known known param.basic split.0)) (params_full n rest split.1)

  abbrev AreKnown : List Parameter → Type 0
  AreKnown parameters = AllByRecursion (λ (parameter : Parameter). IsThereIn parameter.kind) parameters

  names_known : (part : Basic) (ident : Bool) (names : List Name) → IsThereIn (kind_of_basic known.lengths part) →
      AreKnown (map (λ name. record { kind = kind_of_basic known.lengths part; ident = ident }) names)
  names_known part ident [] there = tt
  names_known part ident (name ∷ names) there = (there, names_known part ident names there)

  params_known : (params : List ShownParam) → AreUnbroken known (flat_map param_parts params) → AreKnown (flat_map (parameters_of known.lengths) params)
  params_known [] kept = tt
  params_known (param ∷ rest) kept =
      let split = split_all (IsUnbroken known) (param_parts param) (flat_map param_parts rest) kept in
      all_append (λ (parameter : Parameter). IsThereIn parameter.kind) (parameters_of known.lengths param) (flat_map (parameters_of known.lengths) rest)
      (names_known param.basic param.ident (names_of param.names) (basic_known known param.basic split.0)) (params_known rest split.1)

  result_known : (returns : Option Basic) → AreUnbroken known (parts_if basic_parts returns) →
      HasKnownResult (option_map (kind_of_basic known.lengths) returns)
  result_known None kept = tt
  result_known (Some part) kept = basic_known known part kept

  -- the names of the module
  semaphores_full : (n : ℕ) (names : List Name) → IsFull known n (entries_as scopes.Semaphore names)
  semaphores_full n [] = tt
  semaphores_full n (name ∷ names) = (tt, semaphores_full n names)

  declared_full : (types : ℕ) → types ≤ length known.shapes → (parts : List ShownDeclared) → AreUnbroken known (flat_map (declared_parts types) parts) →
      IsFull known 0 (flat_map (declared_entries types) parts)
  declared_full types enough [] kept = tt
  declared_full types enough (OfItem item ∷ rest) kept =
      let split = split_all (IsUnbroken known) (item_parts 0 types item) (flat_map (declared_parts types) rest) kept in
      full_append known 0 (item_entries types item) (flat_map (declared_entries types) rest) (item_full 0 types enough item split.0)
      (declared_full types enough rest split.1)
  declared_full types enough (OfSema sema ∷ rest) kept =
      full_append known 0 (entries_as scopes.Semaphore (names_of sema.names)) (flat_map (declared_entries types) rest)
      (semaphores_full 0 (names_of sema.names)) (declared_full types enough rest kept.1)

  interrupts_full : (names : List Name) → IsFull known 0 (entries_as scopes.Interrupt names)
  interrupts_full [] = tt
  interrupts_full (name ∷ names) = (tt, interrupts_full names)

  dations_full : (direction : Direction) (of : Class) (names : List Name) → AreUnbroken known (class_parts of) →
      IsFull known 0 (entries_as (scopes.Dation direction of) names)
  dations_full direction of [] kept = tt
  dations_full direction (class.Alphic place) (name ∷ names) kept = (tt, dations_full direction (class.Alphic place) names kept)
  dations_full direction (class.Basic part place) (name ∷ names) kept =
      (basic_known known part kept, dations_full direction (class.Basic part place) names kept)

  specs_full : (specs : List ShownSpec) → AreUnbroken known (flat_map spec_parts specs) → IsFull known 0 (flat_map spec_entries specs)
  specs_full [] kept = tt
  specs_full (OfInterrupt names place ∷ rest) kept =
      full_append known 0 (entries_as scopes.Interrupt (names_of names)) (flat_map spec_entries rest) (interrupts_full (names_of names)) (specs_full rest kept)
  specs_full (OfDation names direction of control place ∷ rest) kept =
      let split = split_all (IsUnbroken known) (class_parts of) (flat_map spec_parts rest) kept in
      full_append known 0 (entries_as (scopes.Dation direction of) (names_of names)) (flat_map spec_entries rest)
      (dations_full direction of (names_of names) split.0) (specs_full rest split.1)

  -- declarations of the module
  routine_full : (types next : ℕ) → types ≤ length known.shapes → (body : ShownBody) → AreUnbroken known (body_parts types next body) →
      IsFull known next (body_entries types body.declarations) × AreFull known (next + 1) (all_scopes types next (next + 1) (as_stmts body.statements))
  routine_full types next enough body kept =
      let split = split_all (IsUnbroken known) (flat_map (body_decl_parts next types) body.declarations)
      (all_parts types next (next + 1) (as_stmts body.statements)) kept in
      (body_full next types enough body.declarations split.0, all_full types enough next (next + 1) (as_stmts body.statements) split.1)

  -- both the scopes of a declaration and the names that it declares in the module
  decl_full : (types next : ℕ) → types ≤ length known.shapes → (decl : ShownDecl) → AreUnbroken known (decl_parts types next decl) →
      AreFull known next (decl_scopes types next decl) × IsFull known 0 (decl_entries types decl)
  decl_full types next enough (OfLength of number place) kept = (tt, tt)
  decl_full types next enough (OfType name part place) kept = (tt, (tt, tt))
  decl_full types next enough (OfDeclare parts place) kept = (tt, declared_full types enough parts kept)
  decl_full types next enough (OfSpecify specs place) kept = (tt, specs_full specs kept)
  decl_full types next enough (OfTask name head body place) kept = (routine_full types next enough body kept, (tt, tt))
  decl_full types next enough (OfProc name params returns body place) kept =
      let outer = split_all (IsUnbroken known) (flat_map param_parts params) (parts_if basic_parts returns ++ body_parts types next body) kept in
      let inner = split_all (IsUnbroken known) (parts_if basic_parts returns) (body_parts types next body) outer.1 in
      let own = routine_full types next enough body inner.1 in (
        (
          full_append known next (flat_map param_entries params) (body_entries types body.declarations) (params_full next params outer.0) own.0,
          own.1,
        ),
        ((params_known params outer.0, result_known returns inner.0), tt),
      )

-- there are no fewer shapes than those so far
shapes_grow : (names : List ScopeNames) (lengths : List DefaultLength) (shapes : List (Option Shape)) (decls : List ShownDecl) →
    length shapes ≤ length (shapes_after names lengths shapes decls)
shapes_grow names lengths shapes [] = omega arith
shapes_grow names lengths shapes (decl ∷ rest) =
    let own = decl_shapes (record { scopes = names; lengths = lengths; shapes = shapes; scope = 0 }) decl in
    let more = shapes_grow names lengths (shapes ++ own) rest in
    let count = length-append shapes own in
    omega (arith, more, count)

one_shape : (known : Known) (shapes : List (Option Shape)) (decl : ShownDecl) → length (decl_shapes (seen_with known shapes 0) decl) ≡ types_in decl
one_shape known shapes (OfType name part place) = refl
one_shape known shapes decl = refl

so_many : (known : Known) (shapes : List (Option Shape)) (types : ℕ) (decl : ShownDecl) → length shapes ≡ types →
    length (shapes ++ decl_shapes (seen_with known shapes 0) decl) ≡ types + types_in decl
so_many known shapes types decl same =
    let count = length-append shapes (decl_shapes (seen_with known shapes 0) decl) in
    let one = one_shape known shapes decl in
    omega (arith, count, one, same)

-- where so many TYPEs stand before, and these are their shapes
decls_full : (known : Known) → AllThere known.shapes → (shapes : List (Option Shape)) (types next : ℕ) (decls : List ShownDecl) →
    shapes_after known.scopes known.lengths shapes decls ≡ known.shapes → length shapes ≡ types → AreUnbroken known (decls_parts types next decls) →
    AreFull known next (decls_scopes types next decls) × IsFull known 0 (decls_entries types decls)
decls_full known all shapes types next [] are same kept = (tt, tt)
decls_full known all shapes types next (decl ∷ rest) are same kept =
    let past = next + scopes_in_decl decl in
    let more = types + types_in decl in
    let split = split_all (IsUnbroken known) (decl_parts types next decl) (decls_parts more past rest) kept in
    let grow = shapes_grow known.scopes known.lengths shapes (decl ∷ rest) in
    let whole = ap (λ (shapes : List (Option Shape)). length shapes) are in
    let own = decl_full known all types next (omega (arith, grow, whole, same)) decl split.0 in
    let others = decls_full known all (shapes ++ decl_shapes (seen_with known shapes 0) decl) more past rest are (so_many known shapes types decl same) split.1 in (
      fill_append known next past (decl_scopes types next decl) (decls_scopes more past rest)
          (ap (λ k. next + k) (length-decl_scopes types next decl)) own.0 others.0,
      full_append known 0 (decl_entries types decl) (decls_entries more rest) own.1 others.1,
    )

decl_there : (known : Known) (shapes : List (Option Shape)) (types next : ℕ) (decl : ShownDecl) → AllThere shapes → length shapes ≡ types →
    AreUnbroken known (decl_parts types next decl) → AllThere (decl_shapes (seen_with known shapes 0) decl)
decl_there known shapes types next (OfType name part place) all same kept =
    (shape_known known shapes 0 types all (omega (arith, same)) part kept, tt)
decl_there known shapes types next decl all same kept = tt

shapes_there : (known : Known) (shapes : List (Option Shape)) (types next : ℕ) (decls : List ShownDecl) → AllThere shapes → length shapes ≡ types →
    AreUnbroken known (decls_parts types next decls) → AllThere (shapes_after known.scopes known.lengths shapes decls)
shapes_there known shapes types next [] all same kept = all
shapes_there known shapes types next (decl ∷ rest) all same kept =
    let past = next + scopes_in_decl decl in
    let more = types + types_in decl in
    let split = split_all (IsUnbroken known) (decl_parts types next decl) (decls_parts more past rest) kept in
    let own = decl_shapes (seen_with known shapes 0) decl in
    shapes_there known (shapes ++ own) more past rest
    (all_append IsThereIn shapes own all (decl_there known shapes types next decl all same split.0)) (so_many known shapes types decl same) split.1

at_scope : (known : Known) (n : ℕ) (list : List Scope) (scope : ℕ) → AreFull known n list →
    AllByRecursion IsComplete (unwrap_or (slice_get (senses_in known n list) scope) [])
at_scope known n [] scope full = tt
at_scope known n (first ∷ rest) zero full = full.0
at_scope known n (first ∷ rest) (suc scope) full = at_scope known (n + 1) rest scope full.1

pub senses_complete : (tree : ShownTree) → broken tree ≡ [] → (scope : ℕ) →
    AllByRecursion IsComplete (unwrap_or (slice_get (table_of tree).senses scope) [])
senses_complete tree none scope =
    let known = known_of tree in
    let kept = all_unbroken known (parts_of tree) (right_none (flat_map s1 known.scopes) (faults_in known (parts_of tree)) none) in
    let all = shapes_there known [] 0 1 tree.declarations tt refl kept in
    let full = decls_full known all [] 0 1 tree.declarations refl refl kept in
    at_scope known 0 (scopes_of tree) scope (full.1, full.0)
