-- Where S33 isn't broken, the items of all formats have widths that suit them.
use Rattle.std.specs.Prelude.{◌≡◌, ℕ, ◌+◌, ◌≤◌, true, false, not, ◌||◌, ◌&&◌, nat_le, List, [], ◌∷◌, ◌++◌, map, Option, Some, None}
use Rattle.std.specs.List.{AllByRecursion, flat_map}
use Rattle.std.proofs.Common.{arith}
use Rattle.std.proofs.lemmas.Bool.{leb-true}
use Rattle.pearl_value.specs.declared.kind.Kind.{Kind}
use Rattle.pearl_format.specs.Items.{HasWidth, IsItem, IsFormat}
use Rattle.pearl_tree.specs.declared.rule.TheConstants as rule
use Rattle.pearl_tree.specs.declared.format.Fmt.{Fmt}
use Rattle.pearl_tree.specs.declared.format.Fmt.TheVariants.{Free, Wide}
use Rattle.pearl_tree.specs.declared.format.FreeCode.{FreeCode}
use Rattle.pearl_tree.specs.declared.format.FreeCode.TheVariants.{A}
use Rattle.pearl_tree.specs.declared.format.WideCode.TheVariants.{F, T, D}
use Rattle.pearl_tree.specs.Faults.{fault_if}
use Rattle.pearl_tree.specs.ShownStatements as shown
use Rattle.pearl_tree.specs.ShownStatements.{ShownStmt, ShownStmts}
use Rattle.pearl_tree.specs.ShownModules.{ShownDecl, OfTask, OfProc, ShownTree}
use Rattle.pearl_names.specs.Scopes.{scopes_in_decl, as_stmts}
use Rattle.pearl_names.specs.Tables.{Table, table_of}
use Rattle.pearl_scope.specs.declared.places.Spot.{Spot}
use Rattle.pearl_scope.specs.Placed.{Placed, placed_all}
use Rattle.pearl_check.specs.Asked.{asked_at}
use Rattle.pearl_check.specs.Dations.{s32}
use Rattle.pearl_check.specs.Formats.{place_of_item, has_width, kind_for, left_by, is_for_other, item_faults, is_ill_sized, format_faults, s33}
use Rattle.pearl_check.specs.Roles.{asked_faults}
use Rattle.pearl_check.specs.Routines.{RoutineSort, Routine, decl_routines, decls_routines, routines_of, statements_of}
use Rattle.pearl_check.specs.Rules.{s30, own_faults, statement_faults, routine_faults, statements_broken}
use Rattle.pearl_check.specs.Statements.{s24, s26, s27, s31}
use Rattle.pearl_check.specs.Views.{value_kind, target_kind}
use Rattle.pearl_resolve_tables.specs.Formats.{free_code, item_of, formats_in_all, decl_formats}
use Rattle.pearl_resolve.specs.Expressions.{Numbered}
use Rattle.pearl_sound.proofs.Offered.{Passage, One, Each, Branches, Otherwise, PartsKeep, walk, Pieces, in_turn, pieces, summed}
use Rattle.pearl_sound_data.proofs.Faults.{left_none, right_none, no_fault, really, neither, both, split_all, all_append}

free_width : (word : FreeCode) (width : ℕ) → HasWidth (free_code word) width
free_width A width = tt
free_width other width = tt

at_least : (least width : ℕ) → (nat_le least width && nat_le width 255) ≡ true → (least ≤ width) × (width ≤ 255)
at_least least width is =
    let tests = both (nat_le least width) (nat_le width 255) is in (leb-true least width tests.0, leb-true width 255 tests.1)

item_sound : (item : Fmt) → has_width item ≡ true → IsItem (item_of item)
item_sound (Free word None place) is = (free_width word 0, omega arith)
item_sound (Free word (Some width) place) is = (free_width word width.value, (at_least 1 width.value is).1)
item_sound (Wide F width place) is = let fits = at_least 1 width.value is in let low = fits.0 in (omega (arith, low), fits.1)
item_sound (Wide T width place) is = at_least 8 width.value is
item_sound (Wide D width place) is = let fits = at_least 1 width.value is in let low = fits.0 in (omega (arith, low), fits.1)

items_sound : (items : List Fmt) (kinds : List (Option Kind)) → item_faults items kinds ≡ [] → IsFormat (map item_of items)
items_sound [] kinds none = tt
items_sound (item ∷ items) kinds none =
    let other = is_for_other item (kind_for item kinds) in
    let parts = no_fault (other || not (has_width item)) (place_of_item item) rule.S33 (item_faults items (left_by item kinds)) none in
    (item_sound item (really (has_width item) (neither other (not (has_width item)) parts.0).1), items_sound items (left_by item kinds) parts.1)

format_sound : (place : ℕ) (items : List Fmt) (kinds : List (Option Kind)) → format_faults place items kinds ≡ [] → IsFormat (map item_of items)
format_sound place items kinds none =
    items_sound items kinds (left_none (item_faults items kinds) (fault_if (is_ill_sized items kinds) place rule.S33) none)

module _ (table : Table) where
  -- S33 isn't broken in a statement
  abbrev Keeps : Placed → Type 0
  Keeps place = s33 table place.spot.scope place.statement ≡ []

  abbrev numbered : Numbered
  numbered = record { table = table; numbers = [] }

  abbrev KeepsFormats : Pieces → Type 0
  KeepsFormats piece = (spot : Spot) (next : ℕ) → AllByRecursion Keeps (piece.places spot next) → AllByRecursion IsFormat piece.formats

  both_formats : (one two : Passage) → KeepsFormats (pieces numbered one) → KeepsFormats (pieces numbered two) →
      KeepsFormats (in_turn (pieces numbered one) (pieces numbered two))
  both_formats one two first second spot next keep =
      let a = pieces numbered one in
      let b = pieces numbered two in
      let split = split_all Keeps (a.places spot next) (b.places spot (next + a.scopes)) keep in
      all_append IsFormat a.formats b.formats (first spot next split.0) (second spot (next + a.scopes) split.1)

  stmt_formats : (s : ShownStmt) → PartsKeep (λ passage. KeepsFormats (pieces numbered passage)) s → KeepsFormats (pieces numbered (One s))
  stmt_formats (shown.OfIf condition statements otherwise place) parts = λ spot next keep.
      both_formats (Each statements) (Otherwise otherwise) parts.0 parts.1 spot next keep.1
  stmt_formats (shown.OfCase selector alternatives otherwise place) parts = λ spot next keep.
      both_formats (Branches alternatives) (Otherwise otherwise) parts.0 parts.1 spot next keep.1
  stmt_formats (shown.OfRepeat control begin step end condition declarations statements body_place place) parts = λ spot next keep.
      parts (record { scope = next; in_loop = true }) (next + 1) keep.1
  stmt_formats (shown.OfBegin declarations statements body_place place) parts = λ spot next keep.
      parts (record { scope = next; in_loop = spot.in_loop }) (next + 1) keep.1
  stmt_formats (shown.OfPut values dation formats place) parts = λ spot next keep.
      (format_sound place formats (map (value_kind table spot.scope) values) keep.0, tt)
  stmt_formats (shown.OfGet targets dation formats place) parts = λ spot next keep.
      (format_sound place formats (map (target_kind table spot.scope) targets) keep.0, tt)
  stmt_formats statement parts = λ spot next keep. tt

  all_formats : (spot : Spot) (next : ℕ) (statements : ShownStmts) → AllByRecursion Keeps (placed_all spot next statements) →
      AllByRecursion IsFormat (formats_in_all statements)
  all_formats spot next statements =
      walk (λ passage. KeepsFormats (pieces numbered passage)) (summed numbered KeepsFormats (λ spot next keep. tt) both_formats stmt_formats)
      (Each statements) spot next

  -- of all rules on a statement, S33
  s33_kept : (sort : RoutineSort) (place : Placed) → statement_faults table sort place ≡ [] → Keeps place
  s33_kept sort place none =
      let scope = place.spot.scope in
      let statement = place.statement in
      let last = s33 table scope statement in
      let dations = s32 table scope statement ++ last in
      let sends = s31 table scope statement ++ dations in
      let returns = s27 table scope sort statement ++ sends in
      let exits = s26 place.spot.in_loop statement ++ returns in
      let own = right_none (flat_map (asked_faults table) (asked_at place)) (own_faults table sort place) none in
      right_none (s32 table scope statement) last
      (right_none (s31 table scope statement) dations
      (right_none (s27 table scope sort statement) sends
      (right_none (s26 place.spot.in_loop statement) returns (right_none (s24 table scope statement) exits own))))

  all_kept : (sort : RoutineSort) (places : List Placed) → flat_map (statement_faults table sort) places ≡ [] → AllByRecursion Keeps places
  all_kept sort [] none = tt
  all_kept sort (place ∷ rest) none = (
    s33_kept sort place (left_none (statement_faults table sort place) (flat_map (statement_faults table sort) rest) none),
    all_kept sort rest (right_none (statement_faults table sort place) (flat_map (statement_faults table sort) rest) none),
  )

  abbrev RoutineKeeps : Routine → Type 0
  RoutineKeeps routine = AllByRecursion Keeps (statements_of routine)

  routines_kept : (routines : List Routine) → flat_map (routine_faults table) routines ≡ [] → AllByRecursion RoutineKeeps routines
  routines_kept [] none = tt
  routines_kept (routine ∷ rest) none =
      let own = left_none (routine_faults table routine) (flat_map (routine_faults table) rest) none in (
        all_kept routine.sort (statements_of routine)
            (right_none (s30 routine.sort) (flat_map (statement_faults table routine.sort) (statements_of routine)) own),
        routines_kept rest (right_none (routine_faults table routine) (flat_map (routine_faults table) rest) none),
      )

  decl_kept : (next : ℕ) (decl : ShownDecl) → AllByRecursion RoutineKeeps (decl_routines next decl) → AllByRecursion IsFormat (decl_formats decl)
  decl_kept next (OfTask name head body place) keep =
      all_formats (record { scope = next; in_loop = false }) (next + 1) (as_stmts body.statements) keep.0
  decl_kept next (OfProc name params returns body place) keep =
      all_formats (record { scope = next; in_loop = false }) (next + 1) (as_stmts body.statements) keep.0
  decl_kept next decl keep = tt

  decls_kept : (next : ℕ) (decls : List ShownDecl) → AllByRecursion RoutineKeeps (decls_routines next decls) →
      AllByRecursion IsFormat (flat_map decl_formats decls)
  decls_kept next [] keep = tt
  decls_kept next (decl ∷ rest) keep =
      let past = next + scopes_in_decl decl in
      let split = split_all RoutineKeeps (decl_routines next decl) (decls_routines past rest) keep in
      all_append IsFormat (decl_formats decl) (flat_map decl_formats rest) (decl_kept next decl split.0) (decls_kept past rest split.1)

pub module_formats : (tree : ShownTree) → statements_broken (table_of tree) tree ≡ [] → AllByRecursion IsFormat (flat_map decl_formats tree.declarations)
module_formats tree none = decls_kept (table_of tree) 1 tree.declarations (routines_kept (table_of tree) (routines_of tree) none)
