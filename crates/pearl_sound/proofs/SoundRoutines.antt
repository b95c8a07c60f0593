-- The tasks and procedures of a module that breaks no static rule are sound in its program.
use Rattle.std.specs.Prelude.{◌≡◌, ℕ, zero, suc, ◌+◌, ◌≤◌, nat_eq, false, List, [], ◌∷◌, ◌++◌, length, Option, Some, None, slice_get}
use Rattle.std.specs.Option.{option_and_then}
use Rattle.std.specs.List.{AllByRecursion, flat_map, sum_by, position}
use Rattle.std.proofs.Common.{refl, ap, ◌∙◌, sym, subst, arith}
use Rattle.std.proofs.lemmas.List.{append-nil}
use Rattle.pearl_value.specs.declared.kind.Kind.{Kind}
use Rattle.pearl_value.specs.Kinds.{IsKind}
use Rattle.pearl_tree.specs.declared.typing.Basic.{Basic}
use Rattle.pearl_tree.specs.declared.tree.Tree.{Tree}
use Rattle.pearl_tree.specs.Lawful.{IsLawful}
use Rattle.pearl_tree.specs.ShownDeclarations.{ShownParam}
use Rattle.pearl_tree.specs.ShownModules.{ShownBody, ShownDecl, OfTask, OfProc, ShownTree, shown_tree}
use Rattle.pearl_names.specs.Found.{names_in}
use Rattle.pearl_names.specs.Scopes.{Scope, scopes_of, as_stmts, param_entries, body_entries, types_in, scopes_in_decl, all_scopes, routine_scopes, decl_scopes, decls_scopes, decls_entries}
use Rattle.pearl_names.specs.Tables.{table_of}
use Rattle.pearl_scope.specs.declared.places.Spot.{Spot}
use Rattle.pearl_scope.specs.Placed.{placed_body}
use Rattle.pearl_scope.specs.Rules as names
use Rattle.pearl_system.specs.declared.device.SpecifiedDevice.{SpecifiedDevice}
use Rattle.pearl_system.specs.Devices.{device_key, IsDevice}
use Rattle.pearl_system.specs.Rising.{Lists}
use Rattle.pearl_system.specs.Rules as devices_rules
use Rattle.pearl_check.specs.Routines.{RoutineSort, decl_routines, decls_routines, routines_of}
use Rattle.pearl_check.specs.Routines as routine
use Rattle.pearl_check.specs.Rules.{statements_broken, whole_broken, all_broken}
use Rattle.pearl_program.specs.PlainPrograms.{PlainProcedure, PlainProg, PlainTask}
use Rattle.pearl_program.specs.HiddenCells.{hidden_in_all}
use Rattle.pearl_program.specs.Sound.{around_of, IsRoutine, IsProcedure, IsTask}
use Rattle.pearl_program.specs.SoundStatements.{IsIf, AreStmts}
use Rattle.pearl_resolve.specs.Laying.{cells_of_sense}
use Rattle.pearl_resolve.specs.Numbers.{At, module_numbers, nothing_before, senses_at, routine_start, in_body, after_body, after_decl, scope_numbers, numbers_in_all, body_numbers, decl_numbers, decls_numbers, first}
use Rattle.pearl_resolve.specs.Numbers as numbering
use Rattle.pearl_resolve.specs.Expressions.{Numbered}
use Rattle.pearl_resolve.specs.Statements.{declared_renewals, resolve_all}
use Rattle.pearl_resolve.specs.Resolve.{formats_in_all, decl_formats, resolve_routine, names_in_param, result_kind, decl_tasks, tasks_in, decl_procedures, procedures_in, if_there, by_number, numbered_of, resolve}
use Rattle.pearl_sound.specs.KnownParts.{NamesSemaphores, Returns}
use Rattle.pearl_sound.specs.ModuleNames.{AreProcedureNumbers}
use Rattle.pearl_sound.specs.Ready.{AreRightFirst, AllStand, RoutineRenewsRight}
use Rattle.pearl_sound.specs.Sights.{Sight, routine_sights, decl_sights, decls_sights}
use Rattle.pearl_sound.specs.SoundNames.{LeadNames}
use Rattle.pearl_sound.specs.Stretches.{routine_stretches, scope_stretch, stretches_in_all}
use Rattle.pearl_sound.proofs.ByNumber.{all_at}
use Rattle.pearl_sound.proofs.Dividing.{routine_divides}
use Rattle.pearl_sound.proofs.Going.{all_go}
use Rattle.pearl_sound.proofs.HiddenRising.{hidden_apart}
use Rattle.pearl_sound.proofs.KeptStatements.{statements_kept}
use Rattle.pearl_sound.proofs.LawfulLiterals.{statements_literals}
use Rattle.pearl_sound.proofs.Literals.{all_set}
use Rattle.pearl_sound.proofs.ModuleRules.{unbroken_lead}
use Rattle.pearl_sound.proofs.OwnRenewals.{scope_renewed}
use Rattle.pearl_sound.proofs.PlainCells.{or_fixed, routine_sound_cells}
use Rattle.pearl_sound.proofs.ScopesThere.{head_there, left_lies, right_lies, decl_next, decl_rows, decls_lie}
use Rattle.pearl_sound.proofs.SemaphoresApart.{semaphores_apart}
use Rattle.pearl_sound.proofs.Sighted.{Surrounds}
use Rattle.pearl_sound.proofs.SimpleStatements.{left_none, split_all}
use Rattle.pearl_sound.proofs.SoundForms.{all_append, basic_there}
use Rattle.pearl_sound.proofs.StatementsStand.{IsWell, all_stand}
use Rattle.pearl_sound.proofs.Stretched.{Lies}
use Rattle.pearl_sound.proofs.WellRoutines.{IsWellRoutine, routines_well, all_urgent, all_results, all_named, head_fits}
use Rattle.pearl_sound.proofs.WholeStatements.{joined_sound, all_sound}

all_above : (low high : ℕ) (xs : List ℕ) → low ≤ high → AllByRecursion (λ x. high ≤ x) xs → AllByRecursion (λ x. low ≤ x) xs
all_above low high [] less all = tt
all_above low high (x ∷ xs) less all = (let more = all.0 in omega (arith, less, more), all_above low high xs less all.1)

-- the things of a list by their numbers are among the list
if_there_all : {X : Type 0} (P : X → Type 0) (found : Option X) (rest : List X) → IsIf P found → AllByRecursion P rest →
    AllByRecursion P (if_there found rest)
if_there_all P None rest is all = all
if_there_all P (Some x) rest is all = (is, all)

found_all : {X : Type 0} (P : X → Type 0) (things : List X) (at : Option ℕ) → AllByRecursion P things → IsIf P (option_and_then (slice_get things) at)
found_all P things None all = tt
found_all {X = X} P things (Some i) all = by (slice_get things i) refl
  where
    by : (found : Option X) → slice_get things i ≡ found → IsIf P found
    by None is = tt
    by (Some x) is = all_at P things i x all is

by_number_all : {X : Type 0} (P : X → Type 0) (numbers : List ℕ) (things : List X) (count number : ℕ) → AllByRecursion P things →
    AllByRecursion P (by_number numbers things count number)
by_number_all P numbers things zero number all = tt
by_number_all P numbers things (suc count) number all =
    if_there_all P (option_and_then (slice_get things) (position (nat_eq number) numbers)) (by_number numbers things count (number + 1))
    (found_all P things (position (nat_eq number) numbers) all) (by_number_all P numbers things count (number + 1) all)

decl_format : (numbered : Numbered) (at : At) (decl : ShownDecl) → at.format + length (decl_formats decl) ≡ (after_decl numbered.table at decl).format
decl_format numbered at (OfTask name head body place) =
    sym (all_go numbered at.next (in_body numbered.table at) (as_stmts body.statements)).format
decl_format numbered at (OfProc name params returns body place) =
    sym (all_go numbered at.next (in_body numbered.table at) (as_stmts body.statements)).format
decl_format numbered at decl = omega arith

module _ (tree : ShownTree) (devices : List SpecifiedDevice) (procedures : List ℕ) where
  abbrev rows : List (List ℕ)
  rows = numbering.numbers_of (table_of tree) devices procedures tree

  abbrev numbered : Numbered
  numbered = record { table = table_of tree; numbers = rows }

  abbrev program : PlainProg
  program = resolve (table_of tree) devices procedures tree

  abbrev IsSighted : Sight → Type 0
  IsSighted sight = LeadNames numbered sight.view sight.around

  -- the statements of a routine, behind the first values of its variables
  body_sound : (types : ℕ) (at : At) (params : List ShownParam) (body : ShownBody) (sort : RoutineSort) (returns : Option (Option Kind)) →
      Returns numbered.table.lengths sort returns → Lies rows (body_numbers numbered.table at body) at.next →
      Lies (scopes_of tree) (routine_scopes types at.next params body) at.next → Lies program.formats (formats_in_all (as_stmts body.statements)) at.format →
      AllByRecursion IsSighted (routine_sights numbered (around_of program (resolve_routine numbered at body) returns) at body) →
      AllByRecursion (IsWell numbered sort) (placed_body at.next (as_stmts body.statements)) →
      AreRightFirst (declared_renewals numbered at.next body.declarations) →
      AreStmts (around_of program (resolve_routine numbered at body) returns) (resolve_routine numbered at body).body
  body_sound types at params body sort returns gives lies scoped written sighted well right =
      let around = around_of program (resolve_routine numbered at body) returns in
      let statements = as_stmts body.statements in
      let divided = routine_divides numbered at body in
      let all = routine_stretches numbered at body in
      let last = after_body numbered.table at body in
      let inside = subst (λ part. Lies rows part at.next) (sym divided.numbered) lies in
      let fronts = flat_map param_entries params in
      let own : Scope = record { outer = Some 0; entries = fronts ++ body_entries types body.declarations } in
      let inner = in_body numbered.table at in
      let list = all_scopes types at.next (at.next + 1) statements in
      let found = head_there own list scoped in
      let surrounds : Surrounds tree rows at.next all last.next last.cell divided.row inside around =
      record { cells = sym divided.cell; hidden = sym divided.hides } in
      let row = scope_numbers numbered.table 0 (routine_start at) in
      let apart = semaphores_apart tree devices procedures in
      let spot : Spot = record { scope = at.next; in_loop = false } in
      let stands : AllStand numbered sort around spot inner statements =
      all_stand tree rows at.next all last.next last.cell divided.row inside apart program.formats sort types around spot inner statements
      (record { surrounds = surrounds; written = refl; in_loop = refl; returns = gives; lead = sighted.0 })
      (record {
        standing = record {
          place = 1;
          stretched = record {
            before = scope_stretch numbered.table 0 (routine_start at) ∷ [];
            behind = [];
            is = ap (λ more. scope_stretch numbered.table 0 (routine_start at) ∷ more) (sym (append-nil (stretches_in_all numbered at.next inner statements)));
            begins = refl;
          };
          k = 1;
          here = refl;
          lies = record {
            before = row ∷ [];
            behind = [];
            is = divided.numbered ∙ ap (λ more. row ∷ more) (sym (append-nil (numbers_in_all numbered.table inner statements)));
            begins = refl;
          };
          scoped = right_lies (own ∷ []) list (at.next + 1) refl scoped;
        };
        sighted = sighted.1;
        well = well;
        lies = written;
      }) in
      joined_sound around (declared_renewals numbered at.next body.declarations) (resolve_all numbered at.next inner statements)
      (scope_renewed tree rows at.next all last.next last.cell divided.row inside around surrounds at.next 0 (omega arith) (Some 0) fronts types
      body.declarations found 0 (0 + 0) refl right)
      (all_sound numbered sort around spot inner statements stands)

  routine_sound : (types : ℕ) (at : At) (params : List ShownParam) (body : ShownBody) (sort : RoutineSort) (returns : Option (Option Kind)) →
      Returns numbered.table.lengths sort returns → Lies rows (body_numbers numbered.table at body) at.next →
      Lies (scopes_of tree) (routine_scopes types at.next params body) at.next → Lies program.formats (formats_in_all (as_stmts body.statements)) at.format →
      AllByRecursion IsSighted (routine_sights numbered (around_of program (resolve_routine numbered at body) returns) at body) →
      AllByRecursion (IsWell numbered sort) (placed_body at.next (as_stmts body.statements)) →
      AreRightFirst (declared_renewals numbered at.next body.declarations) →
      IsRoutine program (sum_by names_in_param params) returns (resolve_routine numbered at body)
  routine_sound types at params body sort returns gives lies scoped written sighted well right =
      let cells = routine_sound_cells tree rows types at params body scoped in
      let apart = hidden_apart numbered at body in
      record {
        params = cells.first;
        others = cells.others;
        behind = all_above (sum_by names_in_param params) (sum_by cells_of_sense (senses_at numbered.table at.next))
            (hidden_in_all (resolve_routine numbered at body).body) cells.own apart.1;
        apart = apart.0;
        body = body_sound types at params body sort returns gives lies scoped written sighted well right;
      }

  abbrev AreTasks : List PlainTask → Type 0
  AreTasks tasks = AllByRecursion (IsTask program) tasks

  abbrev AreProcedures : List PlainProcedure → Type 0
  AreProcedures procedures = AllByRecursion (IsProcedure program) procedures

  result_sound : (returns : Option Basic) → IsIf IsKind (result_kind numbered.table.lengths returns)
  result_sound None = tt
  result_sound (Some basic) = or_fixed _ (basic_there numbered.table.lengths (all_set tree.declarations) basic)

  decl_sound : (types : ℕ) (at : At) (decl : ShownDecl) → Lies rows (decl_numbers numbered.table at decl) at.next →
      Lies (scopes_of tree) (decl_scopes types at.next decl) at.next → Lies program.formats (decl_formats decl) at.format →
      AllByRecursion IsSighted (decl_sights numbered program at decl) → AllByRecursion (IsWellRoutine numbered) (decl_routines at.next decl) →
      AreTasks (decl_tasks numbered at decl) × AreProcedures (decl_procedures numbered at decl)
  decl_sound types at (OfTask name head body place) lies scoped written sighted well =
      let own = well.0 in (
        (
          record {
            named = own.named;
            urgent = head_fits head own.urgent;
            routine = routine_sound types at [] body (routine.Task head) None refl lies scoped written sighted own.statements own.first;
          },
          tt,
        ),
        tt,
      )
  decl_sound types at (OfProc name params returns body place) lies scoped written sighted well =
      let own = well.0 in
      let result = result_kind numbered.table.lengths returns in (
        tt,
        (
          record {
            few = (routine_sound_cells tree rows types at params body scoped).few;
            result = result_sound returns;
            routine = routine_sound types at params body (routine.Procedure returns) (Some result) (refl, own.result) lies scoped written sighted
                own.statements own.first;
          },
          tt,
        ),
      )
  decl_sound types at decl lies scoped written sighted well = (tt, tt)

  decls_sound : (types : ℕ) (at : At) (decls : List ShownDecl) → Lies rows (decls_numbers numbered.table at decls) at.next →
      Lies (scopes_of tree) (decls_scopes types at.next decls) at.next → Lies program.formats (flat_map decl_formats decls) at.format →
      AllByRecursion IsSighted (decls_sights numbered program at decls) → AllByRecursion (IsWellRoutine numbered) (decls_routines at.next decls) →
      AreTasks (tasks_in numbered at decls) × AreProcedures (procedures_in numbered at decls)
  decls_sound types at [] lies scoped written sighted well = (tt, tt)
  decls_sound types at (decl ∷ rest) lies scoped written sighted well =
      let next = after_decl numbered.table at decl in
      let past = decl_next numbered at decl in
      let count = decl_rows numbered at decl in
      let one = decl_numbers numbered.table at decl in
      let more = decls_numbers numbered.table next rest in
      let sights = split_all IsSighted (decl_sights numbered program at decl) (decls_sights numbered program next rest) sighted in
      let wells = split_all (IsWellRoutine numbered) (decl_routines at.next decl) (decls_routines (at.next + scopes_in_decl decl) rest) well in
      let own = decl_sound types at decl (left_lies one more lies)
      (left_lies (decl_scopes types at.next decl) (decls_scopes (types + types_in decl) (at.next + scopes_in_decl decl) rest) scoped)
      (left_lies (decl_formats decl) (flat_map decl_formats rest) written) sights.0 wells.0 in
      let others = decls_sound (types + types_in decl) next rest (right_lies one more next.next (omega (arith, past, count)) lies)
      (decls_lie numbered types at decl rest scoped)
      (right_lies (decl_formats decl) (flat_map decl_formats rest) next.format (decl_format numbered at decl) written) sights.1
      (subst (λ n. AllByRecursion (IsWellRoutine numbered) (decls_routines n rest)) (sym past) wells.1) in (
        all_append (IsTask program) (decl_tasks numbered at decl) (tasks_in numbered next rest) own.0 others.0,
        all_append (IsProcedure program) (decl_procedures numbered at decl) (procedures_in numbered next rest) own.1 others.1,
      )

  -- where names lead to what is there, and all routines are well
  pub all_sound_routines : AllByRecursion IsSighted (decls_sights numbered program first tree.declarations) →
      AllByRecursion (IsWellRoutine numbered) (routines_of tree) → AreProcedures program.procedures × AreTasks program.tasks
  all_sound_routines sighted well =
      let numbers = decls_numbers numbered.table first tree.declarations in
      let own : Scope = record { outer = None; entries = decls_entries 0 tree.declarations } in
      let row = module_numbers devices procedures nothing_before (names_in (slice_get (table_of tree).names 0)) (senses_at (table_of tree) 0) in
      let both = decls_sound 0 first tree.declarations
      (record { before = row ∷ []; behind = []; is = ap (λ more. row ∷ more) (sym (append-nil numbers)); begins = refl })
      (record { before = own ∷ []; behind = []; is = ap (λ more. own ∷ more) (sym (append-nil (decls_scopes 0 1 tree.declarations))); begins = refl })
      (record { before = []; behind = []; is = sym (append-nil program.formats); begins = refl }) sighted well in
      (by_number_all (IsProcedure program) procedures (procedures_in numbered first tree.declarations) (length procedures) 0 both.1, both.0)

pub routines_sound : (tree : Tree) → NamesSemaphores (shown_tree tree) → IsLawful tree → all_broken (shown_tree tree) ≡ [] →
    (devices : List SpecifiedDevice) (procedures : List ℕ) → Lists device_key (IsDevice (shown_tree tree)) devices →
    AreProcedureNumbers (shown_tree tree) devices procedures →
    AllByRecursion (RoutineRenewsRight (numbered_of (table_of (shown_tree tree)) devices procedures (shown_tree tree))) (routines_of (shown_tree tree)) →
    AllByRecursion (IsProcedure (resolve (table_of (shown_tree tree)) devices procedures (shown_tree tree)))
    (resolve (table_of (shown_tree tree)) devices procedures (shown_tree tree)).procedures ×
    AllByRecursion (IsTask (resolve (table_of (shown_tree tree)) devices procedures (shown_tree tree)))
    (resolve (table_of (shown_tree tree)) devices procedures (shown_tree tree)).tasks
routines_sound tree named lawful none devices procedures lists numbers renews =
    let shown = shown_tree tree in
    let others = devices_rules.broken shown ++ (statements_broken (table_of shown) shown ++ whole_broken shown) in
    all_sound_routines shown devices procedures (unbroken_lead shown devices procedures none lists numbers)
    (routines_well (numbered_of (table_of shown) devices procedures shown) (routines_of shown) (statements_kept shown none) (statements_literals tree lawful)
    named renews (all_results shown (left_none (names.broken shown) others none)) (all_urgent shown none) (all_named tree lawful))
