-- The cells of a routine in which kinds and lengths differ.
use Rattle.std.specs.Prelude.{◌≡◌, false, List, [], ◌∷◌, ◌++◌, Some, None}
use Rattle.std.proofs.Common.{refl}
use Rattle.pearl_value.specs.declared.kind.Kind.TheVariants.{Fixed, Bits}
use Rattle.pearl_value.specs.declared.kind.CellKind.{CellKind}
use Rattle.pearl_value.specs.declared.kind.CellKind.TheVariants.{Plain}
use Rattle.pearl_tree.specs.declared.format.Fmt.TheVariants.{Free}
use Rattle.pearl_tree.specs.declared.format.FreeCode.TheVariants.{B}
use Rattle.pearl_tree.specs.declared.typing.Basic.TheVariants.{Sized}
use Rattle.pearl_tree.specs.declared.typing.Sort.TheVariants as sort
use Rattle.pearl_value.specs.declared.device.Direction.TheVariants.{InOut}
use Rattle.pearl_tree.specs.declared.declaration.Class.TheVariants.{Alphic}
use Rattle.pearl_tree.specs.declared.tree.TaskHead.TheVariants.{PrioFirst}
use Rattle.pearl_tree.specs.ShownExpressions.{NoSelectors}
use Rattle.pearl_tree.specs.ShownDeclarations.{OfOne, OfBasic, OfDation}
use Rattle.pearl_tree.specs.ShownStatements.{OfRepeat, OfGet, NoStmts, MoreStmts}
use Rattle.pearl_tree.specs.ShownModules.{ShownDecl, OfLength, OfSpecify, OfTask, ShownTree}
use Rattle.pearl_names.specs.Sorts.{sorted_names, names_of_scopes}
use Rattle.pearl_names.specs.Tables.{table_of}
use Rattle.pearl_program.specs.PlainPrograms.{PlainTask}
use Rattle.pearl_resolve.specs.Resolve.{resolve}
use Rattle.pearl_resolve.proofs.Offered.{source, item}
use Rattle.pearl_sound.proofs.WholeModule.{name, number, literal, to, terminal}

-- t:TASK;FOR i TO 2 REPEAT DCL b BIT;GET b FROM tty BY B;END;END;
abbrev task : ShownDecl
task = OfTask (name "t") (PrioFirst None false) (record {
  declarations = [];
  statements = OfRepeat (Some (name "i")) None None (Some (literal 2)) None
      (record { items = item "b" [] (OfBasic (Sized sort.Bit None 0)) [] ∷ []; place = 0 } ∷ [])
      (MoreStmts (OfGet (to "b" NoSelectors ∷ []) (name "tty") (Free B None 0 ∷ []) 0) NoStmts) 0 0 ∷ [];
  place = 0;
}) 0

-- SPC tty DATION INOUT ALPHIC; and the task, behind these
abbrev module_with : List ShownDecl → ShownTree
module_with before = source (before ++ OfSpecify (OfDation (OfOne (name "tty")) InOut (Alphic 0) false 0 ∷ []) 0 ∷ task ∷ [])

abbrev first_cells : List PlainTask → List CellKind
first_cells [] = []
first_cells (task ∷ rest) = task.routine.cells

-- the loop's three, then b, then the value that comes in and where it goes
cells_differ : first_cells (resolve (table_of (module_with [])) (terminal ∷ []) [] (module_with [])).tasks ≡
    Plain (Fixed 31) ∷ Plain (Fixed 31) ∷ Plain (Fixed 31) ∷ Plain (Bits 1) ∷ Plain (Bits 1) ∷ Plain (Fixed 31) ∷ []
unfolding names_of_scopes sorted_names
cells_differ = refl

-- LENGTH FIXED(15); is for the loop's cells, and not for where a value goes
abbrev shorter : ShownTree
shorter = module_with (OfLength sort.Fixed (number 15) 0 ∷ [])

lengths_differ : first_cells (resolve (table_of shorter) (terminal ∷ []) [] shorter).tasks ≡
    Plain (Fixed 15) ∷ Plain (Fixed 15) ∷ Plain (Fixed 15) ∷ Plain (Bits 1) ∷ Plain (Bits 1) ∷ Plain (Fixed 31) ∷ []
unfolding names_of_scopes sorted_names
lengths_differ = refl
