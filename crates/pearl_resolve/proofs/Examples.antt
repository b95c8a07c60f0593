-- Small modules and the programs that they mean. Places are those that the parts would have in a source, as far as
-- they matter.
use Prim.Native.String.{String}
use Rattle.std.specs.Prelude.{◌≡◌, ℕ, pos, Bool, false, true, List, [], ◌∷◌, Some, None, codes}
use Rattle.std.proofs.Common.{refl}
use Rattle.pearl_value.specs.declared.kind.Kind.{Kind}
use Rattle.pearl_value.specs.declared.kind.Kind.TheVariants as kind
use Rattle.pearl_value.specs.declared.kind.CellKind.TheVariants.{Plain, RefTo}
use Rattle.pearl_value.specs.declared.cell.Cell.TheVariants as cell
use Rattle.pearl_value.specs.declared.operator.Dyad.TheVariants.{Add}
use Rattle.pearl_format.specs.declared.item.ItemCode.TheVariants as code
use Rattle.pearl_tree.specs.declared.name.Name.{Name}
use Rattle.pearl_tree.specs.declared.name.Number.{Number}
use Rattle.pearl_tree.specs.declared.format.Fmt.TheVariants.{Wide}
use Rattle.pearl_tree.specs.declared.format.WideCode.TheVariants.{F}
use Rattle.pearl_tree.specs.declared.typing.Bound.{Bound}
use Rattle.pearl_tree.specs.declared.typing.Basic.{Basic}
use Rattle.pearl_tree.specs.declared.typing.Basic.TheVariants.{Sized}
use Rattle.pearl_tree.specs.declared.typing.Sort.TheVariants.{Fixed}
use Rattle.pearl_value.specs.declared.device.Direction.TheVariants as direction
use Rattle.pearl_tree.specs.declared.declaration.Class.TheVariants.{Alphic}
use Rattle.pearl_tree.specs.declared.expression.Side.TheVariants.{Upper}
use Rattle.pearl_tree.specs.declared.tree.TaskHead.TheVariants.{PrioFirst}
use Rattle.pearl_tree.specs.ShownLiterals.{OfNumber, ShownConst}
use Rattle.pearl_tree.specs.ShownExpressions.{ShownExpr, OfOperand, OfDyadic, OfLiteral, OfRef, OfLimit, ShownSelectors, NoSelectors, MoreSelectors, OfSubscripts, OfComponent, NoExprs, MoreExprs, ShownRef}
use Rattle.pearl_tree.specs.ShownDeclarations.{OfOne, ShownTyping, OfBasic, OfStruct, NoFields, MoreFields, ShownItem, OfItem, OfDation, ShownParam}
use Rattle.pearl_tree.specs.ShownStatements.{ShownBodyDecl, ShownStmt, OfAssign, OfCall, OfRepeat, OfBegin, OfGet, OfReturn, NoStmts, MoreStmts}
use Rattle.pearl_tree.specs.ShownModules.{ShownBody, ShownDecl, OfDeclare, OfSpecify, OfTask, OfProc, ShownTree}
use Rattle.pearl_names.specs.Sorts.{sorted_names, names_of_scopes}
use Rattle.pearl_names.specs.Tables.{table_of}
use Rattle.pearl_system.specs.declared.device.SpecifiedDevice.{SpecifiedDevice}
use Rattle.pearl_system.specs.declared.device.Role.TheVariants.{Terminal}
use Rattle.pearl_program.specs.declared.expression.Target.TheVariants.{Leaf, Own}
use Rattle.pearl_program.specs.declared.expression.Bound.{Bound as Bounds}
use Rattle.pearl_value.specs.declared.device.Device.TheVariants as device
use Rattle.pearl_value.specs.declared.device.Direction.TheVariants.{InOut}
use Rattle.pearl_program.specs.PlainExpressions as plain
use Rattle.pearl_program.specs.PlainExpressions.{PlainExpr, PlainVariable}
use Rattle.pearl_program.specs.PlainStatements as plain_stmt
use Rattle.pearl_program.specs.PlainStatements.{PlainStmt, PlainStmts, PlainValues}
use Rattle.pearl_program.specs.PlainPrograms.{PlainTask, PlainProg}
use Rattle.pearl_resolve.specs.Resolve.{resolve}

abbrev name : String → ℕ → Name
name text place = record { text = record { items = codes text }; place = place }

abbrev number : ℕ → ℕ → Number
number value place = record { value = value; place = place }

abbrev pub source : List ShownDecl → ShownTree
source declarations =
    record { name = None; system = None; declarations = declarations; modend = 0; semicolon = true; place = 0 }

abbrev pub fixed : Basic
fixed = Sized Fixed None 0

abbrev upto : ℕ → Bound
upto value =
    record { first = record { minus = false; number = number value 0; place = 0 }; second = None; place = 0 }

abbrev constant : ℕ → ShownConst
constant value = record { sign = None; literal = OfNumber (number value 0); place = 0 }

abbrev pub item : String → List Bound → ShownTyping → List ShownConst → ShownItem
item text bounds part init =
    record { names = OfOne (name text 0); bounds = bounds; inv = false; part = part; init = init; place = 0 }

abbrev pub variable : ShownItem → ShownDecl
variable declared = OfDeclare (OfItem declared ∷ []) 0

abbrev local : ShownItem → ShownBodyDecl
local declared = record { items = declared ∷ []; place = 0 }

abbrev task : List ShownBodyDecl → List ShownStmt → ShownDecl
task declarations statements =
    OfTask (name "t" 0) (PrioFirst None true) (record { declarations = declarations; statements = statements; place = 0 }) 0

abbrev literal : ℕ → ShownExpr
literal value = OfOperand [] (OfLiteral (OfNumber (number value 0))) 0

abbrev reference : String → ShownSelectors → ShownRef
reference text selectors = record { name = name text 0; selectors = selectors; place = 0 }

abbrev read : String → ShownExpr
read text = OfOperand [] (OfRef (name text 0) NoSelectors 0) 0

abbrev at : ShownExpr → ShownSelectors → ShownSelectors
at subscript rest = MoreSelectors (OfSubscripts (MoreExprs subscript NoExprs) 0) rest

abbrev dot : String → ShownSelectors → ShownSelectors
dot text rest = MoreSelectors (OfComponent (name text 0) 0) rest

-- the same in programs
abbrev short : Kind
short = kind.Fixed 31

abbrev value : ℕ → PlainExpr
value n = plain.OfLiteral (cell.Fixed 31 (pos n))

abbrev own : ℕ → PlainVariable
own cell = plain.OfVariable (Own cell) [] plain.NoExprs

abbrev bounds : ℕ → Bounds
bounds upper = record { lower = pos 1; upper = pos upper }

abbrev values : ℕ → List ℕ → PlainValues
values count [] = record { kind = short; count = count; constants = [] }
values count (n ∷ _) = record { kind = short; count = count; constants = cell.Fixed 31 (pos n) ∷ [] }

abbrev then_ : PlainStmt → PlainStmts → PlainStmts
then_ statement rest = plain_stmt.MoreStmts statement rest

abbrev terminal : SpecifiedDevice
terminal = record { text = record { items = codes "tty" }; place = 0; number = 1; role = Terminal direction.InOut }

-- DCL m(2) STRUCT[a FIXED,b(3) FIXED] INIT(1,2,3);
abbrev structure : ShownDecl
structure = variable (item "m" (upto 2 ∷ [])
    (OfStruct (MoreFields (OfOne (name "a" 0)) [] (OfBasic fixed) 0
    (MoreFields (OfOne (name "b" 0)) (upto 3 ∷ []) (OfBasic fixed) 0 NoFields)) 0)
    (constant 1 ∷ constant 2 ∷ constant 3 ∷ []))

-- t:TASK MAIN;FOR i TO 2 REPEAT DCL n FIXED INIT(5);m(i).b(2):=n+UPB m(1).b;GET n FROM tty BY F(3);END;END;
abbrev looping : ShownTree
looping = source (OfSpecify (OfDation (OfOne (name "tty" 0)) direction.InOut (Alphic 0) false 0 ∷ []) 0 ∷ structure ∷
    task [] (OfRepeat (Some (name "i" 0)) None None (Some (literal 2)) None (local (item "n" [] (OfBasic fixed) (constant 5 ∷ [])) ∷ [])
    (MoreStmts (OfAssign (reference "m" (at (read "i") (dot "b" (at (literal 2) NoSelectors))))
    (OfDyadic (read "n") (record { operator = Add; place = 0 })
    (OfOperand [] (OfLimit None Upper (name "m" 0) (at (literal 1) (dot "b" NoSelectors)) 0 0) 0) 0) 0)
    (MoreStmts (OfGet (reference "n" NoSelectors ∷ []) (name "tty" 0) (Wide F (number 3 0) 0 ∷ []) 0) NoStmts)) 0 0 ∷ []) ∷ [])

-- control, step and limit, then n, then the value that comes in and where it goes
looped : resolve (table_of looping) (terminal ∷ []) [] looping ≡ record {
  leaves = record { name = codes "m.a"; values = record { kind = short; count = 2; constants = cell.Fixed 31 (pos 1) ∷ cell.Fixed 31 (pos 2) ∷ [] } } ∷
      record { name = codes "m.b"; values = values 6 (3 ∷ []) } ∷ [];
  semaphores = [];
  devices = device.Terminal 1 InOut ∷ [];
  formats = (record { code = code.F; width = 3 } ∷ []) ∷ [];
  procedures = [];
  tasks = record {
    name = codes "t";
    priority = 255;
    main = true;
    routine = record {
      cells = Plain short ∷ Plain short ∷ Plain short ∷ Plain short ∷ Plain short ∷ Plain short ∷ [];
      body = then_ (plain_stmt.OfRepeat (Some (record { cell = 0; begin = None; step = None; end = Some (value 2) })) None
          (then_ (plain_stmt.OfRenew 3 (values 1 (5 ∷ [])))
          (then_ (plain_stmt.OfAssign
          (plain.OfVariable (Leaf 1) (bounds 2 ∷ bounds 3 ∷ []) (plain.MoreExprs (plain.OfRead (own 0)) (plain.MoreExprs (value 2) plain.NoExprs)))
          (plain.OfDyadic Add (plain.OfRead (own 3)) (value 3)))
          (then_ (plain_stmt.OfGet (own 3 ∷ []) 0 0 4) plain_stmt.NoStmts)))) plain_stmt.NoStmts;
    };
  } ∷ [];
}
unfolding names_of_scopes sorted_names
looped = refl

abbrev no_tables : List PlainTask → PlainProg
no_tables tasks = record { leaves = []; semaphores = []; devices = []; formats = []; procedures = []; tasks = tasks }

-- t:TASK MAIN;BEGIN DCL m(2) STRUCT[a FIXED,b(3) FIXED];m(1).b(2):=1;END;END;
abbrev nesting : ShownTree
nesting = source (task [] (OfBegin (local (item "m" (upto 2 ∷ [])
    (OfStruct (MoreFields (OfOne (name "a" 0)) [] (OfBasic fixed) 0
    (MoreFields (OfOne (name "b" 0)) (upto 3 ∷ []) (OfBasic fixed) 0 NoFields)) 0) []) ∷ [])
    (MoreStmts (OfAssign (reference "m" (at (literal 1) (dot "b" (at (literal 2) NoSelectors)))) (literal 1) 0) NoStmts) 0 0 ∷ []) ∷ [])

-- two cells of m.a, and behind them the six of m.b: all eight have one kind
nested : resolve (table_of nesting) [] [] nesting ≡ no_tables (record {
  name = codes "t";
  priority = 255;
  main = true;
  routine = record {
    cells = Plain short ∷ Plain short ∷ Plain short ∷ Plain short ∷ Plain short ∷ Plain short ∷ Plain short ∷ Plain short ∷ [];
    body = then_ (plain_stmt.OfRenew 0 (values 8 []))
        (then_ (plain_stmt.OfAssign (plain.OfVariable (Own 2) (bounds 2 ∷ bounds 3 ∷ [])
        (plain.MoreExprs (value 1) (plain.MoreExprs (value 2) plain.NoExprs))) (value 1)) plain_stmt.NoStmts);
  };
} ∷ [])
unfolding names_of_scopes sorted_names
nested = refl

abbrev param : String → Bool → ShownParam
param text ident = record { names = OfOne (name text 0); basic = fixed; ident = ident; place = 0 }

abbrev body : List ShownStmt → ShownBody
body statements = record { declarations = []; statements = statements; place = 0 }

-- a:PROC(x FIXED IDENT,y FIXED);CALL b;END;b:PROC RETURNS(FIXED);RETURN(7);END;t:TASK MAIN;DCL n FIXED;CALL
-- a(n,b+1);END;
abbrev calling : ShownTree
calling = source (
    OfProc (name "a" 0) (param "x" true ∷ param "y" false ∷ []) None (body (OfCall true (name "b" 0) [] 0 ∷ [])) 0 ∷
    OfProc (name "b" 0) [] (Some fixed) (body (OfReturn (Some (literal 7)) 0 ∷ [])) 0 ∷
    task (local (item "n" [] (OfBasic fixed) []) ∷ [])
    (OfCall true (name "a" 0) (read "n" ∷ OfDyadic (read "b") (record { operator = Add; place = 0 }) (literal 1) 0 ∷ []) 0 ∷ []) ∷ [])

-- b has the number 0, since a calls it
called : resolve (table_of calling) [] (1 ∷ 0 ∷ []) calling ≡ record (no_tables (record {
  name = codes "t";
  priority = 255;
  main = true;
  routine = record {
    cells = Plain short ∷ [];
    body = then_ (plain_stmt.OfRenew 0 (values 1 []))
        (then_ (plain_stmt.OfCallOf 1 (plain.MoreArguments (plain.OfIdent (own 0))
        (plain.MoreArguments (plain.OfValue (plain.OfDyadic Add (plain.OfCall 0 plain.NoArguments) (value 1))) plain.NoArguments)))
        plain_stmt.NoStmts);
  };
} ∷ [])) {
  procedures = record {
    params = 0;
    result = Some short;
    routine = record { cells = []; body = then_ (plain_stmt.OfReturn (Some (value 7))) plain_stmt.NoStmts };
  } ∷ record {
    params = 2;
    result = None;
    routine = record { cells = RefTo short ∷ Plain short ∷ []; body = then_ (plain_stmt.OfCallOf 0 plain.NoArguments) plain_stmt.NoStmts };
  } ∷ [];
}
unfolding names_of_scopes sorted_names
called = refl
