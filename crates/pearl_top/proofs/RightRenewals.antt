-- Where all constants are values, what goes into the variables of tasks and procedures as first values suits them.
use Rattle.std.specs.Prelude.{ℕ, ◌+◌, true, false, List, [], ◌∷◌, Option, Some, None}
use Rattle.std.specs.List.{AllByRecursion}
use Rattle.pearl_tree.specs.declared.name.Name.{Name}
use Rattle.pearl_tree.specs.Names.{names_of}
use Rattle.pearl_tree.specs.ShownLiterals.{ShownConst}
use Rattle.pearl_tree.specs.ShownDeclarations.{ShownItem}
use Rattle.pearl_tree.specs.ShownStatements as shown
use Rattle.pearl_tree.specs.ShownStatements.{ShownBodyDecl, ShownStmt, ShownStmts, ShownBranches, ShownOtherwise}
use Rattle.pearl_tree.specs.ShownModules.{ShownDecl, OfLength, OfType, OfDeclare, OfSpecify, OfTask, OfProc, ShownTree}
use Rattle.pearl_names.specs.declared.scope.View.TheVariants.{Within}
use Rattle.pearl_names.specs.Scopes.{as_stmts, scopes_in, scopes_in_all, scopes_in_branches, scopes_in_decl}
use Rattle.pearl_names.specs.Tables.{table_of}
use Rattle.pearl_scope.specs.declared.places.Spot.{Spot}
use Rattle.pearl_scope.specs.Placed.{Placed, placed_stmt, placed_all, placed_branches, placed_otherwise}
use Rattle.pearl_check.specs.Routines.{Routine, decl_routines, decls_routines, routines_of}
use Rattle.pearl_program.specs.PlainPrograms.{PlainLeaf}
use Rattle.pearl_program.specs.PlainStatements.{PlainStmts, NoStmts, MoreStmts}
use Rattle.pearl_program.specs.SoundStatements.{AreFirst}
use Rattle.pearl_system.specs.declared.device.SpecifiedDevice.{SpecifiedDevice}
use Rattle.pearl_resolve.specs.Expressions.{Numbered, Meant, meant}
use Rattle.pearl_resolve.specs.Laying.{leaves_of_sense, left_behind, filled_leaves, merged}
use Rattle.pearl_resolve.specs.Resolve.{numbered_of}
use Rattle.pearl_resolve.specs.Statements.{joined, renewals, variable_renewals, slots_of_meant, names_renewals, items_renewals, declared_renewals}
use Rattle.pearl_sound_data.specs.Constants.{IsConstant, ItemHasConstants, BodyDeclHasConstants, HasConstants, AllHaveConstants, BranchesHaveConstants, OtherwiseHasConstants, DeclHasConstants}
use Rattle.pearl_sound_data.proofs.Offered.{merged_first, left_constants, ThingIs, meant_so, IfThere, SenseHasKinds}
use Rattle.pearl_sound_data.proofs.Offered.{table_kinds}
use Rattle.pearl_sound.specs.Ready.{AreRightFirst, RenewsRight, RoutineRenewsRight}
use Rattle.pearl_sound.proofs.Offered.{all_append}

both_right : (one two : PlainStmts) → AreRightFirst one → AreRightFirst two → AreRightFirst (joined one two)
both_right NoStmts two first second = second
both_right (MoreStmts statement rest) two first second = (first.0, both_right rest two first.1 second)

leaves_right : (cell : ℕ) (leaves : List PlainLeaf) → AllByRecursion (λ (leaf : PlainLeaf). AreFirst leaf.values) leaves → AreRightFirst (renewals cell leaves)
leaves_right cell [] all = tt
leaves_right cell (leaf ∷ rest) all = (all.0, leaves_right (cell + leaf.values.count) rest all.1)

thing_right : (constants : List ShownConst) → AllByRecursion IsConstant constants → (found : Option Meant) → IfThere (ThingIs SenseHasKinds) found →
    AreRightFirst (variable_renewals constants found)
thing_right constants all None kinds = tt
thing_right constants all (Some thing) kinds =
    let leaves = leaves_of_sense thing.sense in
    leaves_right thing.number (filled_leaves [] constants (merged leaves)) (merged_first constants leaves kinds all)

module _ (tree : ShownTree) (numbers : List (List ℕ)) where
  abbrev numbered : Numbered
  numbered = record { table = table_of tree; numbers = numbers }

  names_right : (scope : ℕ) (constants : List ShownConst) (names : List Name) → AllByRecursion IsConstant constants →
      AreRightFirst (names_renewals numbered scope constants names)
  names_right scope constants [] all = tt
  names_right scope constants (name ∷ rest) all =
      let found = meant numbered (Within scope) name in
      let behind = left_behind (slots_of_meant found) constants in
      both_right (variable_renewals constants found) (names_renewals numbered scope behind rest)
      (thing_right constants all found (meant_so SenseHasKinds numbered (table_kinds tree) (Within scope) name))
      (names_right scope behind rest (left_constants (slots_of_meant found) constants all))

  items_right : (scope : ℕ) (items : List ShownItem) → AllByRecursion ItemHasConstants items → AreRightFirst (items_renewals numbered scope items)
  items_right scope [] all = tt
  items_right scope (item ∷ rest) all =
      both_right (names_renewals numbered scope item.init (names_of item.names)) (items_renewals numbered scope rest)
      (names_right scope item.init (names_of item.names) all.0) (items_right scope rest all.1)

  declared_right : (scope : ℕ) (declarations : List ShownBodyDecl) → AllByRecursion BodyDeclHasConstants declarations →
      AreRightFirst (declared_renewals numbered scope declarations)
  declared_right scope [] all = tt
  declared_right scope (declaration ∷ rest) all =
      both_right (items_renewals numbered scope declaration.items) (declared_renewals numbered scope rest)
      (items_right scope declaration.items all.0) (declared_right scope rest all.1)

  abbrev AreRight : List Placed → Type 0
  AreRight places = AllByRecursion (RenewsRight numbered) places

  mutual
    stmt_right : (spot : Spot) (next : ℕ) (s : ShownStmt) → HasConstants s → AreRight (placed_stmt spot next s)
    stmt_right spot next (shown.OfIf condition statements otherwise place) all =
        let past = next + scopes_in_all statements in (
          tt,
          all_append (RenewsRight numbered) (placed_all spot next statements) (placed_otherwise spot past otherwise)
              (all_right spot next statements all.0) (otherwise_right spot past otherwise all.1),
        )
    stmt_right spot next (shown.OfCase selector alternatives otherwise place) all =
        let past = next + scopes_in_branches alternatives in (
          tt,
          all_append (RenewsRight numbered) (placed_branches spot next alternatives) (placed_otherwise spot past otherwise)
              (branches_right spot next alternatives all.0) (otherwise_right spot past otherwise all.1),
        )
    stmt_right spot next (shown.OfRepeat control begin step end condition declarations statements body_place place) all =
        (declared_right next declarations all.0, all_right (record { scope = next; in_loop = true }) (next + 1) statements all.1)
    stmt_right spot next (shown.OfBegin declarations statements body_place place) all =
        (declared_right next declarations all.0, all_right (record { scope = next; in_loop = spot.in_loop }) (next + 1) statements all.1)
    stmt_right spot next (shown.OfEmpty place) all = (tt, tt)
    stmt_right spot next (shown.OfAssign target value place) all = (tt, tt)
    stmt_right spot next (shown.OfCall call name arguments place) all = (tt, tt)
    stmt_right spot next (shown.OfExit place) all = (tt, tt)
    stmt_right spot next (shown.OfReturn value place) all = (tt, tt)
    stmt_right spot next (shown.OfActivate begin task priority place) all = (tt, tt)
    stmt_right spot next (shown.OfContinue once task place) all = (tt, tt)
    stmt_right spot next (shown.OfResume once place) all = (tt, tt)
    stmt_right spot next (shown.OfOnTask word task place) all = (tt, tt)
    stmt_right spot next (shown.OfOnSemas word names place) all = (tt, tt)
    stmt_right spot next (shown.OfOnInterrupt word name place) all = (tt, tt)
    stmt_right spot next (shown.OfPut values dation formats place) all = (tt, tt)
    stmt_right spot next (shown.OfGet targets dation formats place) all = (tt, tt)
    stmt_right spot next (shown.OfSend value dation place) all = (tt, tt)
    stmt_right spot next (shown.OfTake target dation place) all = (tt, tt)

    all_right : (spot : Spot) (next : ℕ) (statements : ShownStmts) → AllHaveConstants statements → AreRight (placed_all spot next statements)
    all_right spot next shown.NoStmts all = tt
    all_right spot next (shown.MoreStmts s rest) all =
        let past = next + scopes_in s in
        all_append (RenewsRight numbered) (placed_stmt spot next s) (placed_all spot past rest) (stmt_right spot next s all.0)
        (all_right spot past rest all.1)

    branches_right : (spot : Spot) (next : ℕ) (branches : ShownBranches) → BranchesHaveConstants branches →
        AreRight (placed_branches spot next branches)
    branches_right spot next shown.NoBranches all = tt
    branches_right spot next (shown.MoreBranches statements place rest) all =
        let past = next + scopes_in_all statements in
        all_append (RenewsRight numbered) (placed_all spot next statements) (placed_branches spot past rest) (all_right spot next statements all.0)
        (branches_right spot past rest all.1)

    otherwise_right : (spot : Spot) (next : ℕ) (otherwise : ShownOtherwise) → OtherwiseHasConstants otherwise →
        AreRight (placed_otherwise spot next otherwise)
    otherwise_right spot next shown.NoOtherwise all = tt
    otherwise_right spot next (shown.OfOtherwise statements place) all = all_right spot next statements all

  abbrev RoutineRight : Routine → Type 0
  RoutineRight routine = RoutineRenewsRight numbered routine

  decl_right : (next : ℕ) (decl : ShownDecl) → DeclHasConstants decl → AllByRecursion RoutineRight (decl_routines next decl)
  decl_right next (OfTask name head body place) all = (
    (declared_right next body.declarations all.0, all_right (record { scope = next; in_loop = false }) (next + 1) (as_stmts body.statements) all.1),
    tt,
  )
  decl_right next (OfProc name params returns body place) all = (
    (declared_right next body.declarations all.0, all_right (record { scope = next; in_loop = false }) (next + 1) (as_stmts body.statements) all.1),
    tt,
  )
  decl_right next (OfLength of number place) all = tt
  decl_right next (OfType name part place) all = tt
  decl_right next (OfDeclare parts place) all = tt
  decl_right next (OfSpecify specs place) all = tt

  decls_right : (next : ℕ) (decls : List ShownDecl) → AllByRecursion DeclHasConstants decls → AllByRecursion RoutineRight (decls_routines next decls)
  decls_right next [] all = tt
  decls_right next (decl ∷ rest) all =
      let past = next + scopes_in_decl decl in
      all_append RoutineRight (decl_routines next decl) (decls_routines past rest) (decl_right next decl all.0) (decls_right past rest all.1)

pub bodies_right : (tree : ShownTree) (devices : List SpecifiedDevice) (procedures : List ℕ) → AllByRecursion DeclHasConstants tree.declarations →
    AllByRecursion (RoutineRenewsRight (numbered_of (table_of tree) devices procedures tree)) (routines_of tree)
bodies_right tree devices procedures all = decls_right tree (numbered_of (table_of tree) devices procedures tree).numbers 1 tree.declarations all
