-- What is known of each task and procedure of a lawful module that breaks no static rule.
use Rattle.std.specs.Prelude.{◌≡◌, ℕ, ◌+◌, ◌≤◌, ◌<◌, nat_le, not, List, [], ◌∷◌, ◌++◌, map, All, Option, Some, None}
use Rattle.std.specs.List.{AllByRecursion, flat_map}
use Rattle.std.proofs.Common.{arith}
use Rattle.std.proofs.lemmas.Bool.{leb-true}
use Rattle.std.proofs.lemmas.List.Elements.{All-head, All-tail}
use Rattle.pearl_tree.specs.declared.declaration.Prio.{Prio}
use Rattle.pearl_tree.specs.declared.rule.TheConstants as rule
use Rattle.pearl_tree.specs.declared.typing.Basic.{Basic}
use Rattle.pearl_tree.specs.declared.tree.TaskHead.{TaskHead}
use Rattle.pearl_tree.specs.declared.tree.TaskHead.TheVariants.{PrioFirst, MainFirst}
use Rattle.pearl_tree.specs.declared.tree.Decl.{Decl}
use Rattle.pearl_tree.specs.declared.tree.Decl.TheVariants as decl
use Rattle.pearl_tree.specs.declared.tree.Tree.{Tree}
use Rattle.pearl_tree.specs.Lawful.{IsLawfulDecl, IsLawful}
use Rattle.pearl_tree.specs.Names.{name_text}
use Rattle.pearl_tree.specs.Tokens.{IsId}
use Rattle.pearl_tree.specs.ShownModules.{ShownDecl, OfTask, OfProc, ShownTree, shown_decl, shown_tree}
use Rattle.pearl_names.specs.declared.length.DefaultLength.{DefaultLength}
use Rattle.pearl_names.specs.Known.{Known, known_of}
use Rattle.pearl_names.specs.Scopes.{scopes_in_decl, types_in}
use Rattle.pearl_names.specs.Tables.{Table, table_of}
use Rattle.pearl_scope.specs.Parts.{basic_parts, param_parts, parts_if, body_parts, decl_parts, decls_parts, parts_of}
use Rattle.pearl_scope.specs.Placed.{Placed}
use Rattle.pearl_scope.specs.Rules.{s1, faults_in}
use Rattle.pearl_scope.specs.Rules as names
use Rattle.pearl_system.specs.Rules as devices
use Rattle.pearl_check.specs.Asked.{asked_at}
use Rattle.pearl_check.specs.Routines.{RoutineSort, Task, Procedure, Routine, decl_routines, decls_routines, routines_of, statements_of}
use Rattle.pearl_check.specs.Rules.{is_priority, unfit_priority, head_faults, s30, statement_faults, routine_faults, statements_broken, whole_broken, all_broken}
use Rattle.pearl_resolve.specs.Expressions.{Numbered}
use Rattle.pearl_resolve.specs.Statements.{declared_renewals}
use Rattle.pearl_resolve.specs.Resolve.{priority_of}
use Rattle.pearl_sound.specs.KnownParts.{HasItsNames, AskedLiterals, NamesSome, HasResult}
use Rattle.pearl_sound.specs.Ready.{AreRightFirst, RenewsRight, RoutineRenewsRight}
use Rattle.pearl_sound.proofs.CompleteForms.{IsUnbroken, AreUnbroken, all_unbroken, basic_known}
use Rattle.pearl_sound.proofs.SimpleStatements.{left_none, right_none, not_broken, really, split_all}
use Rattle.pearl_sound.proofs.SoundForms.{all_append}
use Rattle.pearl_sound.proofs.StatementsStand.{IsWell}
use Rattle.pearl_sound.proofs.Subscripting.{both}

-- a procedure's RETURNS is a kind
abbrev pub HasItsResult : List DefaultLength → RoutineSort → Type 0
HasItsResult lengths (Task head) = Unit {0}
HasItsResult lengths (Procedure returns) = HasResult lengths returns

pub record IsWellRoutine (numbered : Numbered) (routine : Routine) : Type 0 where
  pub statements : AllByRecursion (IsWell numbered routine.sort) (statements_of routine)
  pub first : AreRightFirst (declared_renewals numbered routine.scope routine.body.declarations)
  pub result : HasItsResult numbered.table.lengths routine.sort
  pub urgent : s30 routine.sort ≡ []
  pub named : IsId (name_text routine.name)

-- what holds of each statement, put together
places_well : (numbered : Numbered) (sort : RoutineSort) (places : List Placed) →
    AllByRecursion (λ place. statement_faults numbered.table sort place ≡ []) places →
    AllByRecursion (λ place. AllByRecursion (HasItsNames numbered.table) (asked_at place)) places →
    AllByRecursion (λ place. AllByRecursion (AskedLiterals numbered.table.lengths) (asked_at place)) places →
    AllByRecursion (λ (place : Placed). NamesSome place.statement) places → AllByRecursion (RenewsRight numbered) places →
    AllByRecursion (IsWell numbered sort) places
places_well numbered sort [] none names literals some renews = tt
places_well numbered sort (place ∷ rest) none names literals some renews = (
  record { none = none.0; names = names.0; literals = literals.0; some = some.0; renews = renews.0 },
  places_well numbered sort rest none.1 names.1 literals.1 some.1 renews.1,
)

abbrev IsKeptRoutine : Table → Routine → Type 0
IsKeptRoutine table routine =
    AllByRecursion (λ place. statement_faults table routine.sort place ≡ []) (statements_of routine) ×
    AllByRecursion (λ place. AllByRecursion (HasItsNames table) (asked_at place)) (statements_of routine)

abbrev HasLiteralsIn : List DefaultLength → Routine → Type 0
HasLiteralsIn lengths routine = AllByRecursion (λ place. AllByRecursion (AskedLiterals lengths) (asked_at place)) (statements_of routine)

abbrev NamesSomeIn : Routine → Type 0
NamesSomeIn routine = AllByRecursion (λ (place : Placed). NamesSome place.statement) (statements_of routine)

abbrev HasItsKindOf : List DefaultLength → Routine → Type 0
HasItsKindOf lengths routine = HasItsResult lengths routine.sort

abbrev IsUrgent : Routine → Type 0
IsUrgent routine = s30 routine.sort ≡ []

abbrev HasItsName : Routine → Type 0
HasItsName routine = IsId (name_text routine.name)

pub routines_well : (numbered : Numbered) (routines : List Routine) → AllByRecursion (IsKeptRoutine numbered.table) routines →
    AllByRecursion (HasLiteralsIn numbered.table.lengths) routines → AllByRecursion NamesSomeIn routines →
    AllByRecursion (RoutineRenewsRight numbered) routines → AllByRecursion (HasItsKindOf numbered.table.lengths) routines →
    AllByRecursion IsUrgent routines → AllByRecursion HasItsName routines → AllByRecursion (IsWellRoutine numbered) routines
routines_well numbered [] kept literals some renews results urgent named = tt
routines_well numbered (routine ∷ rest) kept literals some renews results urgent named = (
  record {
    statements = places_well numbered routine.sort (statements_of routine) kept.0.0 kept.0.1 literals.0 some.0 renews.0.1;
    first = renews.0.0;
    result = results.0;
    urgent = urgent.0;
    named = named.0;
  },
  routines_well numbered rest kept.1 literals.1 some.1 renews.1 results.1 urgent.1 named.1,
)

-- no priority breaks a rule
heads_urgent : (table : Table) (routines : List Routine) → flat_map (routine_faults table) routines ≡ [] → AllByRecursion IsUrgent routines
heads_urgent table [] none = tt
heads_urgent table (routine ∷ rest) none =
    let own = left_none (routine_faults table routine) (flat_map (routine_faults table) rest) none in (
      left_none (s30 routine.sort) (flat_map (statement_faults table routine.sort) (statements_of routine)) own,
      heads_urgent table rest (right_none (routine_faults table routine) (flat_map (routine_faults table) rest) none),
    )

pub all_urgent : (tree : ShownTree) → all_broken tree ≡ [] → AllByRecursion IsUrgent (routines_of tree)
all_urgent tree none =
    let table = table_of tree in
    let others = devices.broken tree ++ (statements_broken table tree ++ whole_broken tree) in
    let behind = right_none (devices.broken tree) (statements_broken table tree ++ whole_broken tree) (right_none (names.broken tree) others none) in
    heads_urgent table (routines_of tree) (left_none (statements_broken table tree) (whole_broken tree) behind)

-- what RETURNS names is a kind
result_there : (known : Known) (returns : Option Basic) → AreUnbroken known (parts_if basic_parts returns) → HasResult known.lengths returns
result_there known None kept = tt
result_there known (Some part) kept = basic_known known part kept

decl_results : (known : Known) (types next : ℕ) (part : ShownDecl) → AreUnbroken known (decl_parts types next part) →
    AllByRecursion (HasItsKindOf known.lengths) (decl_routines next part)
decl_results known types next (OfTask name head body place) kept = (tt, tt)
decl_results known types next (OfProc name params returns body place) kept =
    let outer = split_all (IsUnbroken known) (flat_map param_parts params) (parts_if basic_parts returns ++ body_parts types next body) kept in
    (result_there known returns (split_all (IsUnbroken known) (parts_if basic_parts returns) (body_parts types next body) outer.1).0, tt)
decl_results known types next decl kept = tt

decls_results : (known : Known) (types next : ℕ) (parts : List ShownDecl) → AreUnbroken known (decls_parts types next parts) →
    AllByRecursion (HasItsKindOf known.lengths) (decls_routines next parts)
decls_results known types next [] kept = tt
decls_results known types next (part ∷ rest) kept =
    let past = next + scopes_in_decl part in
    let more = types + types_in part in
    let split = split_all (IsUnbroken known) (decl_parts types next part) (decls_parts more past rest) kept in
    all_append (HasItsKindOf known.lengths) (decl_routines next part) (decls_routines past rest) (decl_results known types next part split.0)
    (decls_results known more past rest split.1)

pub all_results : (tree : ShownTree) → names.broken tree ≡ [] → AllByRecursion (HasItsKindOf (table_of tree).lengths) (routines_of tree)
all_results tree none =
    let known = known_of tree in
    decls_results known 0 1 tree.declarations
    (all_unbroken known (parts_of tree) (right_none (flat_map s1 known.scopes) (faults_in known (parts_of tree)) none))

-- names of tasks and procedures are ids
decl_named : (next : ℕ) (part : Decl) → IsLawfulDecl part → AllByRecursion HasItsName (decl_routines next (shown_decl part))
decl_named next (decl.Task name head body place) h = (h.0, tt)
decl_named next (decl.Proc name params returns body place) h = (h.0, tt)
decl_named next part h = tt

decls_named : (next : ℕ) (parts : List Decl) → All IsLawfulDecl parts → AllByRecursion HasItsName (decls_routines next (map shown_decl parts))
decls_named next [] h = tt
decls_named next (part ∷ rest) h =
    let past = next + scopes_in_decl (shown_decl part) in
    all_append HasItsName (decl_routines next (shown_decl part)) (decls_routines past (map shown_decl rest))
    (decl_named next part (All-head IsLawfulDecl part rest h)) (decls_named past rest (All-tail IsLawfulDecl part rest h))

pub all_named : (tree : Tree) → IsLawful tree → AllByRecursion HasItsName (routines_of (shown_tree tree))
all_named tree lawful = decls_named 1 tree.declarations.items.items lawful.declarations

-- a priority that breaks no rule is from 1 to 255
abbrev IsPriority : ℕ → Type 0
IsPriority number = (0 < number) × (number ≤ 255)

prio_fits : (prio : Prio) → unfit_priority prio ≡ [] → IsPriority prio.number.value
prio_fits prio none =
    let n = prio.number.value in
    let tests = both (nat_le 1 n) (nat_le n 255) (really (is_priority n) (not_broken (not (is_priority n)) prio.number.place rule.S30 none)) in
    let low = leb-true 1 n tests.0 in (omega (arith, low), leb-true n 255 tests.1)

pub head_fits : (head : TaskHead) → head_faults head ≡ [] → IsPriority (priority_of head)
head_fits (PrioFirst None main) none = (omega arith, omega arith)
head_fits (PrioFirst (Some prio) main) none = prio_fits prio none
head_fits (MainFirst prio) none = prio_fits prio none
