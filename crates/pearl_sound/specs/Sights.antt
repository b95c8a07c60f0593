-- From where the names of a module's routines are seen, each view with what stands around it in the program.
use Rattle.std.specs.Prelude.{ℕ, List, [], ◌∷◌, ◌++◌, Some, None}
use Rattle.pearl_tree.specs.ShownStatements.{ShownStmt, OfIf, OfCase, OfRepeat, OfBegin, ShownStmts, NoStmts, MoreStmts, ShownBranches, NoBranches, MoreBranches, ShownOtherwise, NoOtherwise, OfOtherwise}
use Rattle.pearl_tree.specs.ShownModules.{ShownBody, ShownDecl, OfTask, OfProc, ShownTree}
use Rattle.pearl_names.specs.declared.scope.View.{View}
use Rattle.pearl_names.specs.declared.scope.View.TheVariants.{Within, WhileOf}
use Rattle.pearl_names.specs.Scopes.{as_stmts}
use Rattle.pearl_names.specs.Tables.{table_of}
use Rattle.pearl_system.specs.declared.device.SpecifiedDevice.{SpecifiedDevice}
use Rattle.pearl_program.specs.PlainPrograms.{PlainProg}
use Rattle.pearl_program.specs.Typing.{Around}
use Rattle.pearl_program.specs.SoundStatements.{within}
use Rattle.pearl_program.specs.Sound.{around_of}
use Rattle.pearl_resolve.specs.Numbers.{At, loop_cells, entered, after, after_all, after_branches, in_body, after_decl, first}
use Rattle.pearl_resolve.specs.Expressions.{Numbered}
use Rattle.pearl_resolve.specs.Statements.{counter_in}
use Rattle.pearl_resolve.specs.Resolve.{result_kind, resolve_routine, numbered_of, resolve}

pub record Sight : Type 0 where
  pub view : View
  pub around : Around

-- within each scope, and for each loop from its WHILE
abbrev mutual
  pub sights_in : Numbered → Around → ℕ → At → ShownStmt → List Sight
  sights_in numbered around scope at (OfIf condition statements otherwise place) =
      sights_in_all numbered around scope at statements ++
      sights_in_otherwise numbered around scope (after_all numbered.table at statements) otherwise
  sights_in numbered around scope at (OfCase selector alternatives otherwise place) =
      sights_in_branches numbered around scope at alternatives ++
      sights_in_otherwise numbered around scope (after_branches numbered.table at alternatives) otherwise
  sights_in numbered around scope at (OfRepeat control begin step end condition declarations statements body_place place) =
      record { view = WhileOf at.next; around = within around (counter_in numbered scope at control begin step end) } ∷
      record { view = Within at.next; around = within around (counter_in numbered scope at control begin step end) } ∷
      sights_in_all numbered (within around (counter_in numbered scope at control begin step end)) at.next
      (entered numbered.table (loop_cells control begin step end) at) statements
  sights_in numbered around scope at (OfBegin declarations statements body_place place) =
      record { view = Within at.next; around = around } ∷
      sights_in_all numbered around at.next (entered numbered.table 0 at) statements
  sights_in numbered around scope at statement = []

  pub sights_in_all : Numbered → Around → ℕ → At → ShownStmts → List Sight
  sights_in_all numbered around scope at NoStmts = []
  sights_in_all numbered around scope at (MoreStmts statement rest) =
      sights_in numbered around scope at statement ++ sights_in_all numbered around scope (after numbered.table at statement) rest

  pub sights_in_branches : Numbered → Around → ℕ → At → ShownBranches → List Sight
  sights_in_branches numbered around scope at NoBranches = []
  sights_in_branches numbered around scope at (MoreBranches statements place rest) =
      sights_in_all numbered around scope at statements ++
      sights_in_branches numbered around scope (after_all numbered.table at statements) rest

  pub sights_in_otherwise : Numbered → Around → ℕ → At → ShownOtherwise → List Sight
  sights_in_otherwise numbered around scope at NoOtherwise = []
  sights_in_otherwise numbered around scope at (OfOtherwise statements place) = sights_in_all numbered around scope at statements

-- of a routine with this body, whose scope comes next
abbrev pub routine_sights : Numbered → Around → At → ShownBody → List Sight
routine_sights numbered around at body =
    record { view = Within at.next; around = around } ∷
    sights_in_all numbered around at.next (in_body numbered.table at) (as_stmts body.statements)

abbrev pub decl_sights : Numbered → PlainProg → At → ShownDecl → List Sight
decl_sights numbered program at (OfTask name head body place) =
    routine_sights numbered (around_of program (resolve_routine numbered at body) None) at body
decl_sights numbered program at (OfProc name params returns body place) =
    routine_sights numbered
    (around_of program (resolve_routine numbered at body) (Some (result_kind numbered.table.lengths returns))) at body
decl_sights numbered program at decl = []

abbrev pub decls_sights : Numbered → PlainProg → At → List ShownDecl → List Sight
decls_sights numbered program at [] = []
decls_sights numbered program at (decl ∷ rest) =
    decl_sights numbered program at decl ++ decls_sights numbered program (after_decl numbered.table at decl) rest

-- of the program that a module means, where these are its devices, and its procedures have these numbers
abbrev pub sights_of : ShownTree → List SpecifiedDevice → (procedures : List ℕ) → List Sight
sights_of tree devices procedures =
    decls_sights (numbered_of (table_of tree) devices procedures tree) (resolve (table_of tree) devices procedures tree) first
    tree.declarations
