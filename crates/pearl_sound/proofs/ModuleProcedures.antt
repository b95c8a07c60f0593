-- At a procedure's number stands the procedure with its parameters and its result.
use Rattle.std.specs.Prelude.{◌≡◌, ℕ, suc, ◌+◌, Bool, List, [], ◌∷◌, ◌++◌, length, map, take, Option, Some, None, option_map, unwrap_or, slice_get}
use Rattle.std.specs.Option.{option_and_then}
use Rattle.std.specs.List.{flat_map, sum_by}
use Rattle.std.proofs.Common.{refl, ap, ◌∙◌, sym, subst, arith}
use Rattle.std.proofs.lemmas.List.{append-nil, append_assoc, take_at}
use Rattle.std.proofs.lemmas.List.Concat.{flat_map-append}
use Rattle.std.proofs.lemmas.List.Sums.{sum_by-cons}
use Rattle.std.proofs.lemmas.Option.{none-some, slice_get-map, slice_get_within}
use Rattle.pearl_value.specs.declared.kind.Kind.{Kind}
use Rattle.pearl_value.specs.declared.kind.Kind.TheVariants as kind
use Rattle.pearl_value.specs.declared.kind.CellKind.{CellKind}
use Rattle.pearl_tree.specs.declared.name.Name.{Name}
use Rattle.pearl_tree.specs.declared.typing.Basic.{Basic}
use Rattle.pearl_tree.specs.declared.declaration.Class.TheVariants as class
use Rattle.pearl_tree.specs.Names.{names_of}
use Rattle.pearl_tree.specs.ShownDeclarations.{ShownDeclared, OfItem, OfSema, ShownSpec, OfInterrupt, OfDation, ShownParam}
use Rattle.pearl_tree.specs.ShownModules.{ShownBody, ShownDecl, OfLength, OfType, OfDeclare, OfSpecify, OfTask, OfProc, ShownTree}
use Rattle.pearl_names.specs.declared.length.DefaultLength.{DefaultLength}
use Rattle.pearl_names.specs.declared.scope.SortedName.{SortedName}
use Rattle.pearl_names.specs.Lengths.{kind_of_basic}
use Rattle.pearl_names.specs.Known.{Known, known_of}
use Rattle.pearl_names.specs.Scopes.{Meaning, Entry, Scope, scopes_of, as_stmts, entries_as, param_entries, body_entries, declared_entries, spec_entries, decl_entries, decls_entries, types_in, all_scopes, decl_scopes, decls_scopes, scopes_in_decl}
use Rattle.pearl_names.specs.Scopes as scopes
use Rattle.pearl_names.specs.Tables.{Parameter, Sense, Procedure, parameters_of, sense_of, senses_of, table_of}
use Rattle.pearl_system.specs.declared.device.SpecifiedDevice.{SpecifiedDevice}
use Rattle.pearl_program.specs.PlainPrograms.{PlainProcedure}
use Rattle.pearl_program.specs.Typing.{Around}
use Rattle.pearl_program.specs.Sound.{signature_of}
use Rattle.pearl_resolve.specs.Numbers.{At, after_decl, in_body, first, nothing_before}
use Rattle.pearl_resolve.specs.Numbers as numbering
use Rattle.pearl_resolve.specs.Expressions.{Numbered}
use Rattle.pearl_resolve.specs.Cells.{param_cell, sense_cells, cells_in_all, routine_cells}
use Rattle.pearl_resolve.specs.Resolve.{kind_or_short, names_in_param, result_kind, decl_procedures, procedures_in, resolve}
use Rattle.pearl_check.specs.Sizes.{procedure_count}
use Rattle.pearl_sound.specs.ModuleNames.{IsModuleName, AreProcedureNumbers}
use Rattle.pearl_sound.specs.SoundNames.{param_cells, IsCallee}
use Rattle.pearl_sound.proofs.ByNumber.{something, stands_at}
use Rattle.pearl_sound.proofs.ModuleEntries.{senses_append, gone, has_gone}
use Rattle.pearl_sound.proofs.Counting.{counted}
use Rattle.pearl_sound.proofs.ModuleCounts.{entered_at}
use Rattle.pearl_sound.proofs.ScopesThere.{head_there, left_lies, scope_senses, decls_lie}
use Rattle.pearl_sound.proofs.Stretched.{Lies}

-- a procedure as its callers are told
pub record IsProcedureOf (procedure : PlainProcedure) (parameters : List Parameter) (result : Option (Option Kind)) : Type 0 where
  pub params : (signature_of procedure).params ≡ param_cells parameters
  pub gives : (kind : Kind) → option_and_then (λ known. known) result ≡ Some kind → procedure.result ≡ Some kind

abbrev Takes : Sense → List PlainProcedure → (List PlainProcedure → Type 0) → Type 0
Takes (Procedure parameters result) procedures more =
    (procedure : PlainProcedure) × (behind : List PlainProcedure) × (procedures ≡ procedure ∷ behind) ×
    IsProcedureOf procedure parameters result × more behind
Takes sense procedures more = more procedures

-- the procedures of each name in turn
abbrev AreCallees : Known → List Entry → List PlainProcedure → Type 0
AreCallees known [] procedures = procedures ≡ []
AreCallees known (entry ∷ rest) procedures = Takes (sense_of known 0 entry.meaning) procedures (λ behind. AreCallees known rest behind)

take_both : (sense : Sense) (one two : List PlainProcedure) (P Q : List PlainProcedure → Type 0) →
    ((behind : List PlainProcedure) → P behind → Q (behind ++ two)) → Takes sense one P → Takes sense (one ++ two) Q
take_both (Procedure parameters result) one two P Q more takes =
    (takes.0, takes.1 ++ two, ap (λ procedures. procedures ++ two) takes.2, takes.3, more takes.1 takes.4)
take_both sense one two P Q more takes = more one takes

both_callees : (known : Known) (one two : List Entry) (a b : List PlainProcedure) → AreCallees known one a → AreCallees known two b →
    AreCallees known (one ++ two) (a ++ b)
both_callees known [] two a b first second = subst (λ procedures. AreCallees known two (procedures ++ b)) (sym first) second
both_callees known (entry ∷ one) two a b first second =
    take_both (sense_of known 0 entry.meaning) a b (λ behind. AreCallees known one behind) (λ behind. AreCallees known (one ++ two) behind)
    (λ behind are. both_callees known one two behind b are second) first

abbrev IsOther : Known → Meaning → Type 1
IsOther known meaning = (procedures : List PlainProcedure) (more : List PlainProcedure → Type 0) → more procedures →
    Takes (sense_of known 0 meaning) procedures more

no_callees : (known : Known) (meaning : Meaning) (names : List Name) → IsOther known meaning → AreCallees known (entries_as meaning names) []
no_callees known meaning [] other = refl
no_callees known meaning (name ∷ names) other =
    other [] (λ behind. AreCallees known (entries_as meaning names) behind) (no_callees known meaning names other)

specs_callees : (known : Known) (specs : List ShownSpec) → AreCallees known (flat_map spec_entries specs) []
specs_callees known [] = refl
specs_callees known (OfInterrupt names place ∷ rest) =
    both_callees known (entries_as scopes.Interrupt (names_of names)) (flat_map spec_entries rest) [] []
    (no_callees known scopes.Interrupt (names_of names) (λ procedures more is. is)) (specs_callees known rest)
specs_callees known (OfDation names direction (class.Alphic at) control place ∷ rest) =
    both_callees known (entries_as (scopes.Dation direction (class.Alphic at)) (names_of names)) (flat_map spec_entries rest) [] []
    (no_callees known (scopes.Dation direction (class.Alphic at)) (names_of names) (λ procedures more is. is)) (specs_callees known rest)
specs_callees known (OfDation names direction (class.Basic part at) control place ∷ rest) =
    both_callees known (entries_as (scopes.Dation direction (class.Basic part at)) (names_of names)) (flat_map spec_entries rest) [] []
    (no_callees known (scopes.Dation direction (class.Basic part at)) (names_of names) (λ procedures more is. is)) (specs_callees known rest)

declared_callees : (known : Known) (types : ℕ) (parts : List ShownDeclared) → AreCallees known (flat_map (declared_entries types) parts) []
declared_callees known types [] = refl
declared_callees known types (OfItem item ∷ rest) =
    both_callees known (entries_as (scopes.Variable item types) (names_of item.names)) (flat_map (declared_entries types) rest) [] []
    (no_callees known (scopes.Variable item types) (names_of item.names) (λ procedures more is. is)) (declared_callees known types rest)
declared_callees known types (OfSema sema ∷ rest) =
    both_callees known (entries_as scopes.Semaphore (names_of sema.names)) (flat_map (declared_entries types) rest) [] []
    (no_callees known scopes.Semaphore (names_of sema.names) (λ procedures more is. is)) (declared_callees known types rest)

-- the parameters' cells come first
name_cells : (known : Known) (scope : ℕ) (basic : Basic) (ident : Bool) (names : List Name) (more : List CellKind) (rest : List Parameter) →
    more ≡ param_cells rest →
    flat_map sense_cells (senses_of known scope (entries_as (scopes.Parameter basic ident) names)) ++ more ≡
    param_cells (map (λ name. record { kind = kind_of_basic known.lengths basic; ident = ident }) names ++ rest)
name_cells known scope basic ident [] more rest same = same
name_cells known scope basic ident (name ∷ names) more rest same =
    ap (λ cells. param_cell ident (unwrap_or (kind_of_basic known.lengths basic) (kind.Fixed 31)) ∷ cells)
    (name_cells known scope basic ident names more rest same)

params_cells : (known : Known) (scope : ℕ) (params : List ShownParam) →
    flat_map sense_cells (senses_of known scope (flat_map param_entries params)) ≡ param_cells (flat_map (parameters_of known.lengths) params)
params_cells known scope [] = refl
params_cells known scope (param ∷ rest) =
    ap (λ senses. flat_map sense_cells senses) (senses_append known scope (param_entries param) (flat_map param_entries rest)) ∙
    flat_map-append sense_cells (senses_of known scope (param_entries param)) (senses_of known scope (flat_map param_entries rest)) ∙
    name_cells known scope param.basic param.ident (names_of param.names) (flat_map sense_cells (senses_of known scope (flat_map param_entries rest)))
    (flat_map (parameters_of known.lengths) rest) (params_cells known scope rest)

name_count : (lengths : List DefaultLength) (basic : Basic) (ident : Bool) (names : List Name) (rest : List Parameter) →
    length (param_cells (map (λ name. record { kind = kind_of_basic lengths basic; ident = ident }) names ++ rest)) ≡
    length names + length (param_cells rest)
name_count lengths basic ident [] rest = omega arith
name_count lengths basic ident (name ∷ names) rest = let more = name_count lengths basic ident names rest in omega (arith, more)

params_count : (lengths : List DefaultLength) (params : List ShownParam) →
    length (param_cells (flat_map (parameters_of lengths) params)) ≡ sum_by names_in_param params
params_count lengths [] = refl
params_count lengths (param ∷ rest) =
    let own = name_count lengths param.basic param.ident (names_of param.names) (flat_map (parameters_of lengths) rest) in
    let more = params_count lengths rest in
    let sum = sum_by-cons names_in_param param rest in
    omega (arith, own, more, sum)

front : (n : ℕ) (one two three : List CellKind) → length one ≡ n → take n ((one ++ two) ++ three) ≡ one
front n one two three is = ap (λ cells. take n cells) (append_assoc one two three) ∙ take_at one (two ++ three) n is

result_is : (lengths : List DefaultLength) (returns : Option Basic) (kind : Kind) →
    option_and_then (λ known. known) (option_map (kind_of_basic lengths) returns) ≡ Some kind → result_kind lengths returns ≡ Some kind
result_is lengths None kind is = absurd (none-some kind is)
result_is lengths (Some basic) kind is = ap (λ known. Some (kind_or_short known)) is

module _ (tree : ShownTree) (numbers : List (List ℕ)) where
  abbrev known : Known
  known = known_of tree

  abbrev numbered : Numbered
  numbered = record { table = table_of tree; numbers = numbers }

  params_first : (types : ℕ) (at : At) (params : List ShownParam) (body : ShownBody) (rest : List Scope) →
      Lies (scopes_of tree) (record { outer = Some 0; entries = flat_map param_entries params ++ body_entries types body.declarations } ∷ rest) at.next →
      take (sum_by names_in_param params) (routine_cells numbered at body) ≡ param_cells (flat_map (parameters_of known.lengths) params)
  params_first types at params body rest lies =
      let own = flat_map param_entries params in
      let others = body_entries types body.declarations in
      let scope : Scope = record { outer = Some 0; entries = own ++ others } in
      let count = params_count known.lengths params in
      let cells = param_cells (flat_map (parameters_of known.lengths) params) in
      let inner = cells_in_all numbered at.next (in_body numbered.table at) (as_stmts body.statements) in
      ap (λ senses. take (sum_by names_in_param params) (flat_map sense_cells senses ++ inner)) (scope_senses tree at.next scope (head_there scope rest lies) ∙ senses_append known at.next own others) ∙
      ap (λ cells. take (sum_by names_in_param params) (cells ++ inner)) (flat_map-append sense_cells (senses_of known at.next own) (senses_of known at.next others)) ∙
      ap (λ first. take (sum_by names_in_param params) ((first ++ flat_map sense_cells (senses_of known at.next others)) ++ inner)) (params_cells known at.next params) ∙
      front (sum_by names_in_param params) cells (flat_map sense_cells (senses_of known at.next others)) inner count

  decl_callees : (types : ℕ) (at : At) (decl : ShownDecl) → Lies (scopes_of tree) (decl_scopes types at.next decl) at.next →
      AreCallees known (decl_entries types decl) (decl_procedures numbered at decl)
  decl_callees types at (OfLength sort number place) lies = refl
  decl_callees types at (OfType name part place) lies = no_callees known (scopes.NewType types) (name ∷ []) (λ procedures more is. is)
  decl_callees types at (OfDeclare parts place) lies = declared_callees known types parts
  decl_callees types at (OfSpecify specs place) lies = specs_callees known specs
  decl_callees types at (OfTask name head body place) lies = no_callees known scopes.Task (name ∷ []) (λ procedures more is. is)
  decl_callees types at (OfProc name params returns body place) lies = (
    _,
    [],
    refl,
    record {
      params = params_first types at params body (all_scopes types at.next (at.next + 1) (as_stmts body.statements)) lies;
      gives = λ kind is. result_is known.lengths returns kind is;
    },
    refl,
  )

  decls_callees : (types : ℕ) (at : At) (decls : List ShownDecl) → Lies (scopes_of tree) (decls_scopes types at.next decls) at.next →
      AreCallees known (decls_entries types decls) (procedures_in numbered at decls)
  decls_callees types at [] lies = refl
  decls_callees types at (decl ∷ rest) lies =
      both_callees known (decl_entries types decl) (decls_entries (types + types_in decl) rest) (decl_procedures numbered at decl)
      (procedures_in numbered (after_decl numbered.table at decl) rest)
      (decl_callees types at decl
      (left_lies (decl_scopes types at.next decl) (decls_scopes (types + types_in decl) (at.next + scopes_in_decl decl) rest) lies))
      (decls_callees (types + types_in decl) (after_decl numbered.table at decl) rest (decls_lie numbered types at decl rest lies))

  pub all_callees : AreCallees known (decls_entries 0 tree.declarations) (procedures_in numbered first tree.declarations)
  all_callees = decls_callees 0 first tree.declarations (record {
    before = record { outer = None; entries = decls_entries 0 tree.declarations } ∷ [];
    behind = [];
    is = ap (λ scopes. record { outer = None; entries = decls_entries 0 tree.declarations } ∷ scopes) (sym (append-nil (decls_scopes 0 1 tree.declarations)));
    begins = refl;
  })

-- the procedure of a name
record HasProcedure (procedures : List PlainProcedure) (index : ℕ) (parameters : List Parameter) (result : Option (Option Kind)) : Type 0 where
  pub procedure : PlainProcedure
  pub there : slice_get procedures index ≡ Some procedure
  pub is : IsProcedureOf procedure parameters result

same_place : (n : ℕ) (procedures : List PlainProcedure) (parameters : List Parameter) (result : Option (Option Kind)) →
    HasProcedure procedures n parameters result → HasProcedure procedures (0 + n) parameters result
same_place n procedures parameters result has =
    let same : n ≡ 0 + n = omega arith in subst (λ i. HasProcedure procedures i parameters result) same has

take_first : (sense : Sense) (procedures : List PlainProcedure) (P : List PlainProcedure → Type 0) (n : ℕ) (parameters : List Parameter) (result : Option (Option Kind)) →
    ((behind : List PlainProcedure) → P behind → HasProcedure behind n parameters result) → Takes sense procedures P →
    HasProcedure procedures (procedure_count sense + n) parameters result
take_first (Procedure others gives) procedures P n parameters result more takes =
    let found = more takes.1 takes.4 in
    let next : suc n ≡ 1 + n = omega arith in
    record {
      procedure = found.procedure;
      there = ap (λ i. slice_get procedures i) (sym next) ∙ ap (λ all. slice_get all (suc n)) takes.2 ∙ found.there;
      is = found.is;
    }
take_first sense procedures P n parameters result more takes = same_place n procedures parameters result (more procedures takes)

find_procedure : (known : Known) (before : List Entry) (entry : Entry) (after : List Entry) (procedures : List PlainProcedure)
    (parameters : List Parameter) (result : Option (Option Kind)) → AreCallees known (before ++ entry ∷ after) procedures →
    sense_of known 0 entry.meaning ≡ Procedure parameters result → HasProcedure procedures (counted known procedure_count before) parameters result
find_procedure known [] entry after procedures parameters result are is =
    let takes = subst (λ sense. Takes sense procedures (λ behind. AreCallees known after behind)) is are in
    record { procedure = takes.0; there = ap (λ all. slice_get all 0) takes.2; is = takes.3 }
find_procedure known (first ∷ before) entry after procedures parameters result are is =
    let sense = sense_of known 0 first.meaning in
    subst (λ i. HasProcedure procedures i parameters result) (sym (sum_by-cons procedure_count sense (senses_of known 0 before)))
    (take_first sense procedures (λ behind. AreCallees known (before ++ entry ∷ after) behind) (counted known procedure_count before) parameters result
    (λ behind more. find_procedure known before entry after behind parameters result more is) are)

module _ (tree : ShownTree) (devices : List SpecifiedDevice) (procedures : List ℕ) where
  pub callee_there : AreProcedureNumbers tree devices procedures → (around : Around) →
      around.procedures ≡ map signature_of (resolve (table_of tree) devices procedures tree).procedures →
      (name : SortedName) (parameters : List Parameter) (result : Option (Option Kind)) (number : ℕ) →
      IsModuleName tree devices procedures name (Procedure parameters result) number → IsCallee around number parameters result
  callee_there numbers around same name parameters result number is =
      let at = entered_at tree devices procedures name (Procedure parameters result) number is in
      let known = known_of tree in
      let rows = numbering.numbers_of (table_of tree) devices procedures tree in
      let things = procedures_in (record { table = table_of tree; numbers = rows }) first tree.declarations in
      let found = find_procedure known at.before at.entry at.after things parameters result
      (subst (λ entries. AreCallees known entries things) at.is (all_callees tree rows)) at.means in
      let place = counted known procedure_count at.before in
      let within = slice_get_within things place found.procedure found.there in
      let each = numbers.each in
      let own = something procedures place (omega (arith, within, each)) in
      let gone_by = (has_gone nothing_before (senses_of known 0 at.before)).procedures in
      let before : (gone nothing_before (senses_of known 0 at.before)).procedures ≡ place = omega (arith, gone_by) in
      let given : own.thing ≡ number =
      ap (λ found. unwrap_or found 0) (sym own.is) ∙ ap (λ n. unwrap_or (slice_get procedures n) 0) (sym before) ∙ at.numbered in
      let stands = stands_at procedures things place number found.procedure each numbers.below numbers.distinct
      (own.is ∙ ap Some given) found.there in
      record {
        signature = signature_of found.procedure;
        there = ap (λ all. slice_get all number) same ∙
            slice_get-map signature_of (resolve (table_of tree) devices procedures tree).procedures number ∙ ap (option_map signature_of) stands;
        params = found.is.params;
        gives = found.is.gives;
      }
