-- A module whose program is the whole program that is shown to be sound.
use Prim.Native.String.{String}
use Rattle.std.specs.Prelude.{◌≡◌, ℕ, false, true, List, [], ◌∷◌, ◌++◌, Some, None, codes}
use Rattle.std.proofs.Common.{refl, sym, subst}
use Rattle.pearl_value.specs.declared.operator.Dyad.TheVariants.{Add}
use Rattle.pearl_tree.specs.declared.name.Name.{Name}
use Rattle.pearl_tree.specs.declared.name.Number.{Number}
use Rattle.pearl_tree.specs.declared.format.Fmt.TheVariants.{Wide}
use Rattle.pearl_tree.specs.declared.format.WideCode.TheVariants.{F}
use Rattle.pearl_tree.specs.declared.typing.Bound.{Bound}
use Rattle.pearl_value.specs.declared.device.Direction.TheVariants.{InOut}
use Rattle.pearl_tree.specs.declared.declaration.Class.TheVariants.{Alphic}
use Rattle.pearl_tree.specs.declared.tree.TaskHead.TheVariants.{PrioFirst}
use Rattle.pearl_tree.specs.ShownLiterals.{OfNumber}
use Rattle.pearl_tree.specs.ShownExpressions.{ShownExpr, OfOperand, OfDyadic, OfLiteral, OfRef, ShownSelectors, NoSelectors, MoreSelectors, OfSubscripts, NoExprs, MoreExprs, ShownRef}
use Rattle.pearl_tree.specs.ShownDeclarations.{OfOne, OfBasic, OfDation}
use Rattle.pearl_tree.specs.ShownStatements.{ShownStmt, OfAssign, OfCall, OfRepeat, OfGet, NoStmts, MoreStmts}
use Rattle.pearl_tree.specs.ShownModules.{ShownDecl, OfSpecify, OfTask, OfProc, ShownTree}
use Rattle.pearl_names.specs.Sorts.{sorted_names, names_of_scopes}
use Rattle.pearl_names.specs.Tables.{table_of}
use Rattle.pearl_system.specs.declared.device.SpecifiedDevice.{SpecifiedDevice}
use Rattle.pearl_system.specs.declared.device.Role.TheVariants.{Terminal}
use Rattle.pearl_program.specs.Sound.{IsSound}
use Rattle.pearl_program.proofs.Offered.{program, program_sound}
use Rattle.pearl_resolve.specs.Resolve.{resolve}
use Rattle.pearl_resolve.proofs.Offered.{source, variable, item, fixed}

abbrev pub name : String → Name
name text = record { text = record { items = codes text }; place = 0 }

abbrev pub number : ℕ → Number
number value = record { value = value; place = 0 }

abbrev upto : ℕ → Bound
upto value = record { first = record { minus = false; number = number value; place = 0 }; second = None; place = 0 }

abbrev pub literal : ℕ → ShownExpr
literal value = OfOperand [] (OfLiteral (OfNumber (number value))) 0

abbrev pub read : String → ShownSelectors → ShownExpr
read text selectors = OfOperand [] (OfRef (name text) selectors 0) 0

abbrev at : ShownExpr → ShownSelectors
at subscript = MoreSelectors (OfSubscripts (MoreExprs subscript NoExprs) 0) NoSelectors

abbrev pub to : String → ShownSelectors → ShownRef
to text selectors = record { name = name text; selectors = selectors; place = 0 }

-- SPC tty DATION INOUT ALPHIC; DCL a(3) FIXED INIT(1);
abbrev declared : List ShownDecl
declared =
    OfSpecify (OfDation (OfOne (name "tty")) InOut (Alphic 0) false 0 ∷ []) 0 ∷
    variable (item "a" (upto 3 ∷ []) (OfBasic fixed) (record { sign = None; literal = OfNumber (number 1); place = 0 } ∷ [])) ∷ []

-- p:PROC(x FIXED IDENT);x:=x+a(1);END;
abbrev procedure : ShownDecl
procedure = OfProc (name "p") (record { names = OfOne (name "x"); basic = fixed; ident = true; place = 0 } ∷ []) None (record {
  declarations = [];
  statements = OfAssign (to "x" NoSelectors)
      (OfDyadic (read "x" NoSelectors) (record { operator = Add; place = 0 }) (read "a" (at (literal 1))) 0) 0 ∷ [];
  place = 0;
}) 0

-- FOR i TO 3 REPEAT a(i):=i;CALL p(n);GET n FROM tty BY F(3);END;
abbrev loop : ShownStmt
loop = OfRepeat (Some (name "i")) None None (Some (literal 3)) None []
    (MoreStmts (OfAssign (to "a" (at (read "i" NoSelectors))) (read "i" NoSelectors) 0)
    (MoreStmts (OfCall true (name "p") (read "n" NoSelectors ∷ []) 0)
    (MoreStmts (OfGet (to "n" NoSelectors ∷ []) (name "tty") (Wide F (number 3) 0 ∷ []) 0) NoStmts))) 0 0

-- t:TASK MAIN;DCL n FIXED; and the loop
abbrev task : ShownDecl
task = OfTask (name "t") (PrioFirst None true) (record {
  declarations = record { items = item "n" [] (OfBasic fixed) [] ∷ []; place = 0 } ∷ [];
  statements = loop ∷ [];
  place = 0;
}) 0

abbrev pub whole : ShownTree
whole = source (declared ++ procedure ∷ task ∷ [])

abbrev pub terminal : SpecifiedDevice
terminal = record { text = record { items = codes "tty" }; place = 0; number = 1; role = Terminal InOut }

whole_is : resolve (table_of whole) (terminal ∷ []) (0 ∷ []) whole ≡ program
unfolding names_of_scopes sorted_names
whole_is = refl

whole_sound : IsSound (resolve (table_of whole) (terminal ∷ []) (0 ∷ []) whole)
whole_sound = subst IsSound (sym whole_is) program_sound
