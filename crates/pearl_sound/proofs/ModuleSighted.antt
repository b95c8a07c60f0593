-- From each view in a module names lead to what is there.
use Rattle.std.specs.Prelude.{◌≡◌, ℕ, ◌+◌, ◌<◌, List, [], ◌∷◌, ◌++◌, length, map, Option, Some, None, option_map, unwrap_or, slice_get}
use Rattle.std.specs.List.{AllByRecursion, flat_map}
use Rattle.std.proofs.Common.{refl, ap, ◌∙◌, sym, subst, arith}
use Rattle.std.proofs.lemmas.List.{append-nil, length-map, map-append}
use Rattle.std.proofs.lemmas.Option.{none-some}
use Rattle.pearl_value.specs.declared.kind.Kind.{Kind}
use Rattle.pearl_tree.specs.declared.name.Name.{Name}
use Rattle.pearl_tree.specs.declared.declaration.Class.TheVariants as class
use Rattle.pearl_tree.specs.Names.{name_text, names_of}
use Rattle.pearl_tree.specs.ShownDeclarations.{ShownDeclared, OfItem, OfSema, ShownSpec, OfInterrupt, OfDation, ShownParam}
use Rattle.pearl_tree.specs.ShownModules.{ShownBody, ShownDecl, OfLength, OfDeclare, OfSpecify, OfTask, OfProc, ShownTree}
use Rattle.pearl_names.specs.declared.scope.SortedName.{SortedName}
use Rattle.pearl_names.specs.Found.{names_in, outer_of}
use Rattle.pearl_names.specs.Known.{Known, known_of}
use Rattle.pearl_names.specs.Layout.{leaves_of}
use Rattle.pearl_names.specs.Scopes.{Meaning, Entry, Scope, scopes_of, as_stmts, entries_as, param_entries, body_entries, declared_entries, spec_entries, decl_entries, decls_entries, types_in, scopes_in_decl, all_scopes, routine_scopes, decl_scopes, decls_scopes}
use Rattle.pearl_names.specs.Scopes as scopes
use Rattle.pearl_names.specs.Sorts.{sorted_name, sorted_names, names_of_scopes}
use Rattle.pearl_names.specs.Tables.{Form, Sense, Variable, Control, OwnParameter, Semaphore, Interrupt, AlphicDation, BasicDation, Task, Procedure, sense_of, senses_of, table_of}
use Rattle.pearl_system.specs.declared.device.SpecifiedDevice.{SpecifiedDevice}
use Rattle.pearl_program.specs.declared.expression.Target.TheVariants as target
use Rattle.pearl_program.specs.PlainExpressions as plain
use Rattle.pearl_program.specs.PlainPrograms.{PlainProg}
use Rattle.pearl_program.specs.Typing.{Around}
use Rattle.pearl_program.specs.SoundStatements.{IsIf, IsInterruptDevice}
use Rattle.pearl_program.specs.Sound.{signature_of, around_of}
use Rattle.pearl_resolve.specs.Numbers.{At, module_number, module_numbers, nothing_before, senses_at, routine_start, in_body, scope_numbers, numbers_in_all, body_numbers, decl_numbers, decls_numbers, after_decl, first}
use Rattle.pearl_resolve.specs.Numbers as numbering
use Rattle.pearl_resolve.specs.Laying.{filled_leaves}
use Rattle.pearl_resolve.specs.Expressions.{Numbered, number_at}
use Rattle.pearl_resolve.specs.Resolve.{result_kind, resolve_routine, resolve}
use Rattle.pearl_sound.specs.ModuleNames.{IsModuleName, HasNamesOnce, AreProcedureNumbers, DevicesAreThere}
use Rattle.pearl_sound.specs.Sights.{Sight, routine_sights, decl_sights, decls_sights, sights_of}
use Rattle.pearl_sound.specs.SoundForms.{IsSoundSense, HasSoundForm}
use Rattle.pearl_sound.specs.SoundNames.{IsTerminal, IsChannel, LeadNames}
use Rattle.pearl_sound.specs.Stretches.{routine_stretches, scope_stretch, stretches_in_all}
use Rattle.pearl_sound.proofs.ByNumber.{all_at}
use Rattle.pearl_sound.proofs.Dividing.{routine_divides}
use Rattle.pearl_sound.proofs.Leading.{Leads, thing_of}
use Rattle.pearl_sound.proofs.LocalNames.{IsLocal}
use Rattle.pearl_sound.proofs.ModuleCounts.{parted, semaphore_there, task_there, leaves_lie}
use Rattle.pearl_sound.proofs.ModuleEntries.{senses_append, get_at, gone, entry_number}
use Rattle.pearl_sound.proofs.ModuleLeaves.{filled_parts}
use Rattle.pearl_sound.proofs.ModuleProcedures.{callee_there}
use Rattle.pearl_sound.proofs.Reaching.{part_of, plain_part, reach}
use Rattle.pearl_sound.proofs.ScopesThere.{head_there, left_lies, right_lies, scope_named, decl_next, decl_rows, decls_lie}
use Rattle.pearl_sound.proofs.Sighted.{ScopeLeads, seen_in, seen_in_module, view_within, body_local, both_local, Surrounds, scope_leads, all_sighted}
use Rattle.pearl_sound.proofs.SoundForms.{all_append, senses_sound}
use Rattle.pearl_sound.proofs.Stretched.{Lies}

-- no name of the module is a control variable or a parameter
abbrev IsOfModule : Sense → Type 0
IsOfModule (Control kind) = ⊥
IsOfModule (OwnParameter parameter) = ⊥
IsOfModule sense = Unit {0}

abbrev AreOfModule : Known → List Entry → Type 0
AreOfModule known entries = AllByRecursion IsOfModule (senses_of known 0 entries)

same_of_module : (known : Known) (meaning : Meaning) (names : List Name) → IsOfModule (sense_of known 0 meaning) → AreOfModule known (entries_as meaning names)
same_of_module known meaning [] is = tt
same_of_module known meaning (name ∷ names) is = (is, same_of_module known meaning names is)

both_of_module : (known : Known) (one two : List Entry) → AreOfModule known one → AreOfModule known two → AreOfModule known (one ++ two)
both_of_module known one two first second =
    subst (λ senses. AllByRecursion IsOfModule senses) (sym (senses_append known 0 one two))
    (all_append IsOfModule (senses_of known 0 one) (senses_of known 0 two) first second)

specs_of_module : (known : Known) (specs : List ShownSpec) → AreOfModule known (flat_map spec_entries specs)
specs_of_module known [] = tt
specs_of_module known (OfInterrupt names place ∷ rest) =
    both_of_module known (entries_as scopes.Interrupt (names_of names)) (flat_map spec_entries rest)
    (same_of_module known scopes.Interrupt (names_of names) tt) (specs_of_module known rest)
specs_of_module known (OfDation names direction (class.Alphic at) control place ∷ rest) =
    both_of_module known (entries_as (scopes.Dation direction (class.Alphic at)) (names_of names)) (flat_map spec_entries rest)
    (same_of_module known (scopes.Dation direction (class.Alphic at)) (names_of names) tt) (specs_of_module known rest)
specs_of_module known (OfDation names direction (class.Basic part at) control place ∷ rest) =
    both_of_module known (entries_as (scopes.Dation direction (class.Basic part at)) (names_of names)) (flat_map spec_entries rest)
    (same_of_module known (scopes.Dation direction (class.Basic part at)) (names_of names) tt) (specs_of_module known rest)

declared_of_module : (known : Known) (types : ℕ) (parts : List ShownDeclared) → AreOfModule known (flat_map (declared_entries types) parts)
declared_of_module known types [] = tt
declared_of_module known types (OfItem item ∷ rest) =
    both_of_module known (entries_as (scopes.Variable item types) (names_of item.names)) (flat_map (declared_entries types) rest)
    (same_of_module known (scopes.Variable item types) (names_of item.names) tt) (declared_of_module known types rest)
declared_of_module known types (OfSema sema ∷ rest) =
    both_of_module known (entries_as scopes.Semaphore (names_of sema.names)) (flat_map (declared_entries types) rest)
    (same_of_module known scopes.Semaphore (names_of sema.names) tt) (declared_of_module known types rest)

decl_of_module : (known : Known) (types : ℕ) (decl : ShownDecl) → AreOfModule known (decl_entries types decl)
decl_of_module known types (OfLength sort number place) = tt
decl_of_module known types (OfDeclare parts place) = declared_of_module known types parts
decl_of_module known types (OfSpecify specs place) = specs_of_module known specs
decl_of_module known types decl = (tt, tt)

decls_of_module : (known : Known) (types : ℕ) (decls : List ShownDecl) → AreOfModule known (decls_entries types decls)
decls_of_module known types [] = tt
decls_of_module known types (decl ∷ rest) =
    both_of_module known (decl_entries types decl) (decls_entries (types + types_in decl) rest) (decl_of_module known types decl)
    (decls_of_module known (types + types_in decl) rest)

map_lies : {X Y : Type 0} (f : X → Y) (whole part : List X) (at : ℕ) → Lies whole part at → Lies (map f whole) (map f part) at
map_lies f whole part at lies = record {
  before = map f lies.before;
  behind = map f lies.behind;
  is = ap (map f) lies.is ∙ map-append f lies.before (part ++ lies.behind) ∙ ap (λ xs. map f lies.before ++ xs) (map-append f part lies.behind);
  begins = length-map lies.before f ∙ lies.begins;
}

params_local : (known : Known) (n : ℕ) (params : List ShownParam) → AllByRecursion (IsLocal None) (senses_of known n (flat_map param_entries params))
params_local known n [] = tt
params_local known n (param ∷ rest) =
    both_local known n None (param_entries param) (flat_map param_entries rest) (names_local (names_of param.names)) (params_local known n rest)
  where
    names_local : (names : List Name) → AllByRecursion (IsLocal None) (senses_of known n (entries_as (scopes.Parameter param.basic param.ident) names))
    names_local [] = tt
    names_local (name ∷ names) = (tt, names_local names)

module _ (tree : ShownTree) (devices : List SpecifiedDevice) (procedures : List ℕ) (once : HasNamesOnce tree)
    (given : AreProcedureNumbers tree devices procedures) (there : DevicesAreThere tree devices procedures) where
  abbrev rows : List (List ℕ)
  rows = numbering.numbers_of (table_of tree) devices procedures tree

  abbrev numbered : Numbered
  numbered = record { table = table_of tree; numbers = rows }

  abbrev program : PlainProg
  program = resolve (table_of tree) devices procedures tree

  abbrev entries : List Entry
  entries = decls_entries 0 tree.declarations

  -- what stands around is the program's
  record IsOfProgram (around : Around) : Type 0 where
    pub leaves : around.leaves ≡ program.leaves
    pub semaphores : around.semaphores ≡ length program.semaphores
    pub peripherals : around.devices ≡ program.devices
    pub tasks : around.tasks ≡ length program.tasks
    pub callees : around.procedures ≡ map signature_of program.procedures

  form_leads : (around : Around) → IsOfProgram around → (name : SortedName) (form : Form) (inv : _) (number : ℕ) →
      IsModuleName tree devices procedures name (Variable (Some form) inv) number → HasSoundForm (Some form) →
      Leads around (thing_of (Variable (Some form) inv) 0 number)
  form_leads around of name form inv number is sound path =
      let lies = leaves_lie tree devices procedures once name (Variable (Some form) inv) number is (λ from. refl) in
      let leaves = leaves_of [] form.bounds form.shape in
      let filled = filled_leaves (name_text name.name) lies.0 leaves in
      let parts = map_lies plain_part program.leaves filled number lies.1 in
      reach around plain.NoExprs path (target.Leaf number) [] form.bounds form.shape
      (subst (λ given. Lies (map plain_part given) (map part_of leaves) number) (sym of.leaves)
      (subst (λ part. Lies (map plain_part program.leaves) part number) (filled_parts (name_text name.name) lies.0 leaves) parts))
      sound.bounds sound.shape sound.leaves

  sense_leads : (around : Around) → IsOfProgram around → (name : SortedName) (sense : Sense) (number : ℕ) →
      IsModuleName tree devices procedures name sense number → IsOfModule sense → IsSoundSense sense → Leads around (thing_of sense 0 number)
  sense_leads around of name (Variable (Some form) inv) number is own sound = form_leads around of name form inv number is sound
  sense_leads around of name (Control kind) number is own sound = absurd own
  sense_leads around of name (OwnParameter parameter) number is own sound = absurd own
  sense_leads around of name Semaphore number is own sound =
      let less = semaphore_there tree devices procedures name number is in let same = of.semaphores in omega (arith, less, same)
  sense_leads around of name Interrupt number is own sound =
      subst (λ all. IsInterruptDevice (slice_get all number)) (sym of.peripherals) (there.interrupts name number is)
  sense_leads around of name (AlphicDation direction) number is own sound =
      subst (λ all. IsTerminal direction (slice_get all number)) (sym of.peripherals) (there.terminals name direction number is)
  sense_leads around of name (BasicDation direction (Some kind)) number is own sound =
      subst (λ all. IsChannel direction kind (slice_get all number)) (sym of.peripherals) (there.channels name direction kind number is)
  sense_leads around of name Task number is own sound =
      let less = task_there tree devices procedures name number is in let same = of.tasks in omega (arith, less, same)
  sense_leads around of name (Procedure parameters result) number is own sound =
      callee_there tree devices procedures given around of.callees name parameters result number is
  sense_leads around of name sense number is own sound = tt

  module_leads : (around : Around) → IsOfProgram around → ScopeLeads tree rows around 0
  unfolding names_of_scopes sorted_names
  module_leads around of j = by (slice_get (senses_of (known_of tree) 0 entries) j) refl
    where
      by : (found : Option Sense) → slice_get (senses_of (known_of tree) 0 entries) j ≡ found →
          IsIf (Leads around) (option_map (λ sense. thing_of sense 0 (number_at rows (record { scope = 0; entry = j }))) found)
      by None is = tt
      by (Some sense) is =
          let known = known_of tree in
          let part = parted (λ (entry : Entry). sense_of known 0 entry.meaning) entries j sense is in
          let number = module_number devices procedures (gone nothing_before (senses_of known 0 part.before)) (sorted_name part.x) (sense_of known 0 part.x.meaning) in
          let all = module_numbers devices procedures nothing_before (sorted_names entries) (senses_of known 0 entries) in
          let has : slice_get all j ≡ Some number =
          ap (λ n. slice_get all n) (sym part.count) ∙
          ap (λ es. slice_get (module_numbers devices procedures nothing_before (sorted_names es) (senses_of known 0 es)) (length part.before)) part.is ∙
          entry_number devices procedures known nothing_before part.before part.x part.after in
          let named : slice_get (sorted_names entries) j ≡ Some (sorted_name part.x) =
          ap (λ n. slice_get (sorted_names entries) n) (sym part.count ∙ sym (length-map part.before sorted_name)) ∙
          ap (λ es. slice_get (sorted_names es) (length (sorted_names part.before))) part.is ∙
          ap (λ names. slice_get names (length (sorted_names part.before))) (map-append sorted_name part.before (part.x ∷ part.after)) ∙
          get_at (sorted_names part.before) (sorted_name part.x) (sorted_names part.after) in
          subst (λ n. Leads around (thing_of sense 0 n)) (sym (ap (λ found. unwrap_or found 0) has))
          (sense_leads around of (sorted_name part.x) sense number (record { index = j; named = named; means = is; numbered = has })
          (all_at IsOfModule (senses_of known 0 entries) j sense (decls_of_module known 0 tree.declarations) is)
          (all_at IsSoundSense (senses_at (table_of tree) 0) j sense (senses_sound tree 0) is))

  module_outer : outer_of (slice_get (table_of tree).names 0) ≡ None
  unfolding names_of_scopes
  module_outer = refl

  abbrev IsSighted : Sight → Type 0
  IsSighted sight = LeadNames numbered sight.view sight.around

  routine_sighted : (types : ℕ) (at : At) (params : List ShownParam) (body : ShownBody) (returns : Option (Option Kind)) → 0 < at.next →
      Lies rows (body_numbers numbered.table at body) at.next → Lies (scopes_of tree) (routine_scopes types at.next params body) at.next →
      AllByRecursion IsSighted (routine_sights numbered (around_of program (resolve_routine numbered at body) returns) at body)
  routine_sighted types at params body returns some lies scoped =
      let around = around_of program (resolve_routine numbered at body) returns in
      let divided = routine_divides numbered at body in
      let all = routine_stretches numbered at body in
      let last = numbering.after_body numbered.table at body in
      let inside = subst (λ part. Lies rows part at.next) (sym divided.numbered) lies in
      let own : Scope = record { outer = Some 0; entries = flat_map param_entries params ++ body_entries types body.declarations } in
      let inner = in_body numbered.table at in
      let list = all_scopes types at.next (at.next + 1) (as_stmts body.statements) in
      let found = head_there own list scoped in
      let surrounds : Surrounds tree rows at.next all last.next last.cell divided.row inside around =
      record { cells = sym divided.cell; hidden = sym divided.hides } in
      let row = scope_numbers numbered.table 0 (routine_start at) in
      let of : IsOfProgram around = record { leaves = refl; semaphores = refl; peripherals = refl; tasks = refl; callees = refl } in
      let leads = scope_leads tree rows at.next all last.next last.cell divided.row inside around surrounds at.next 0 (omega arith) some own found 0 (0 + 0) refl None
      (both_local (known_of tree) at.next None (flat_map param_entries params) (body_entries types body.declarations)
      (params_local (known_of tree) at.next params) (body_local (known_of tree) at.next types None body.declarations))
      (λ kind is. absurd (none-some kind is)) in
      let seen = seen_in tree rows around at.next 0 (ap outer_of (scope_named tree at.next own found)) leads
      (seen_in_module tree rows around module_outer (module_leads around of)) in (
        view_within tree rows around at.next seen,
        all_sighted tree rows at.next all last.next last.cell divided.row inside some types around surrounds at.next inner (as_stmts body.statements) (record {
          place = 1;
          stretched = record {
            before = scope_stretch numbered.table 0 (routine_start at) ∷ [];
            behind = [];
            is = ap (λ more. scope_stretch numbered.table 0 (routine_start at) ∷ more)
                (sym (append-nil (stretches_in_all numbered at.next inner (as_stmts body.statements))));
            begins = refl;
          };
          k = 1;
          here = refl;
          lies = record {
            before = row ∷ [];
            behind = [];
            is = divided.numbered ∙ ap (λ more. row ∷ more) (sym (append-nil (numbers_in_all numbered.table inner (as_stmts body.statements))));
            begins = refl;
          };
          scoped = right_lies (own ∷ []) list (at.next + 1) refl scoped;
        }) seen,
      )

  decl_sighted : (types : ℕ) (at : At) (decl : ShownDecl) → 0 < at.next → Lies rows (decl_numbers numbered.table at decl) at.next →
      Lies (scopes_of tree) (decl_scopes types at.next decl) at.next → AllByRecursion IsSighted (decl_sights numbered program at decl)
  decl_sighted types at (OfTask name head body place) some lies scoped = routine_sighted types at [] body None some lies scoped
  decl_sighted types at (OfProc name params returns body place) some lies scoped =
      routine_sighted types at params body (Some (result_kind numbered.table.lengths returns)) some lies scoped
  decl_sighted types at decl some lies scoped = tt

  decls_sighted : (types : ℕ) (at : At) (decls : List ShownDecl) → 0 < at.next → Lies rows (decls_numbers numbered.table at decls) at.next →
      Lies (scopes_of tree) (decls_scopes types at.next decls) at.next → AllByRecursion IsSighted (decls_sights numbered program at decls)
  decls_sighted types at [] some lies scoped = tt
  decls_sighted types at (decl ∷ rest) some lies scoped =
      let next = after_decl numbered.table at decl in
      let past = decl_next numbered at decl in
      let count = decl_rows numbered at decl in
      all_append IsSighted (decl_sights numbered program at decl) (decls_sights numbered program next rest)
      (decl_sighted types at decl some (left_lies (decl_numbers numbered.table at decl) (decls_numbers numbered.table next rest) lies)
      (left_lies (decl_scopes types at.next decl) (decls_scopes (types + types_in decl) (at.next + scopes_in_decl decl) rest) scoped))
      (decls_sighted (types + types_in decl) next rest (omega (arith, some, past))
      (right_lies (decl_numbers numbered.table at decl) (decls_numbers numbered.table next rest) next.next (omega (arith, past, count)) lies)
      (decls_lie numbered types at decl rest scoped))

  pub module_sighted : AllByRecursion IsSighted (sights_of tree devices procedures)
  module_sighted =
      let numbers = decls_numbers numbered.table first tree.declarations in
      let own : Scope = record { outer = None; entries = entries } in
      let row = module_numbers devices procedures nothing_before (names_in (slice_get (table_of tree).names 0)) (senses_at (table_of tree) 0) in
      decls_sighted 0 first tree.declarations (omega arith)
      (record { before = row ∷ []; behind = []; is = ap (λ more. row ∷ more) (sym (append-nil numbers)); begins = refl })
      (record { before = own ∷ []; behind = []; is = ap (λ more. own ∷ more) (sym (append-nil (decls_scopes 0 1 tree.declarations))); begins = refl })
