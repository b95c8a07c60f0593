-- A module that declares a name of each sort, and what is broken by a statement in it.
use Prim.Native.String.{String}
use Rattle.std.specs.Prelude.{ℕ, Bool, true, false, if◌then◌else◌, List, [], ◌∷◌, map, Option, Some, None, codes}
use Rattle.pearl_tree.specs.declared.declaration.Class.TheVariants.{Alphic, Basic}
use Rattle.pearl_value.specs.declared.device.Direction.TheVariants.{InOut}
use Rattle.pearl_tree.specs.declared.fault.RuleFault.{RuleFault}
use Rattle.pearl_tree.specs.declared.name.Name.{Name}
use Rattle.pearl_tree.specs.declared.name.Number.{Number}
use Rattle.pearl_tree.specs.declared.tree.TaskHead.TheVariants.{PrioFirst}
use Rattle.pearl_tree.specs.declared.typing.Basic.{Basic as BasicType}
use Rattle.pearl_tree.specs.declared.typing.Basic.TheVariants.{Sized, Clock, Duration}
use Rattle.pearl_tree.specs.declared.typing.Bound.{Bound}
use Rattle.pearl_tree.specs.declared.typing.Sort.TheVariants.{Fixed, Bit, Char}
use Rattle.pearl_tree.specs.ShownLiterals.{OfNumber}
use Rattle.pearl_tree.specs.ShownExpressions.{ShownExpr, OfOperand, OfLiteral, OfRef, NoSelectors, ShownRef}
use Rattle.pearl_tree.specs.ShownDeclarations.{ShownNames, OfOne, OfBasic, ShownItem, ShownDeclared, OfItem, OfSema, ShownSpec, OfInterrupt, OfDation, ShownParam}
use Rattle.pearl_tree.specs.ShownStatements.{ShownBodyDecl, ShownStmt, OfRepeat, NoStmts, MoreStmts}
use Rattle.pearl_tree.specs.ShownModules.{ShownBody, ShownDecl, OfType, OfDeclare, OfSpecify, OfTask, OfProc, ShownTree}
use Rattle.pearl_check.proofs.Broken.{broken, broken_in_parts}

abbrev pub name : String → ℕ → Name
name text place = record { text = record { items = codes text }; place = place }

abbrev pub number : ℕ → ℕ → Number
number value place = record { value = value; place = place }

abbrev pub fault : ℕ → ℕ → RuleFault
fault place rule = record { place = place; rule = rule }

abbrev pub reference : String → ℕ → ShownRef
reference text place = record { name = name text place; selectors = NoSelectors; place = place }

abbrev pub variable : String → ℕ → ShownExpr
variable text place = OfOperand [] (OfRef (name text place) NoSelectors place) place

abbrev pub literal : ℕ → ℕ → ShownExpr
literal value place = OfOperand [] (OfLiteral (OfNumber (number value place))) place

-- What follows is declared at the place 0.
abbrev pub one : String → ShownNames
one text = OfOne (name text 0)

abbrev pub item : ShownNames → List Bound → BasicType → ShownItem
item names bounds part =
    record { names = names; bounds = bounds; inv = false; part = OfBasic part; init = []; place = 0 }

abbrev pub fixed : BasicType
fixed = Sized Fixed None 0

abbrev pub body : List ShownItem → List ShownStmt → ShownBody
body items statements =
    record { declarations = record { items = items; place = 0 } ∷ []; statements = statements; place = 0 }

-- a loop without a declaration or a statement in it
abbrev pub loop : (control : Option Name) (begin step end condition : Option ShownExpr) → ShownStmt
loop control begin step end condition = OfRepeat control begin step end condition [] NoStmts 0 0

-- DCL names bounds FIXED; in the body of a loop or a BEGIN
abbrev pub locals : ShownNames → List Bound → List ShownBodyDecl
locals names bounds = record { items = item names bounds fixed ∷ []; place = 0 } ∷ []

abbrev pub task : Name → List ShownItem → List ShownStmt → ShownDecl
task name items statements = OfTask name (PrioFirst None false) (body items statements) name.place

abbrev pub procedure : Name → List ShownParam → List ShownItem → List ShownStmt → ShownDecl
procedure name params items statements = OfProc name params None (body items statements) name.place

abbrev pub parameter : String → ShownParam
parameter text = record { names = one text; basic = fixed; ident = false; place = 0 }

abbrev pub source : List ShownDecl → ShownTree
source declarations =
    record { name = None; system = None; declarations = declarations; modend = 0; semicolon = true; place = 0 }

abbrev constant : ShownItem
constant = record {
  names = one "k";
  bounds = [];
  inv = true;
  part = OfBasic fixed;
  init = record { sign = None; literal = OfNumber (number 1 0); place = 0 } ∷ [];
  place = 0;
}

-- DCL f FIXED,b BIT(1),w BIT(2),x CHAR(3),c CLOCK,d DURATION,k INV FIXED INIT(1),s SEMA;
abbrev variables : List ShownDeclared
variables =
    OfItem (item (one "f") [] fixed) ∷ OfItem (item (one "b") [] (Sized Bit (Some (number 1 0)) 0)) ∷
    OfItem (item (one "w") [] (Sized Bit (Some (number 2 0)) 0)) ∷
    OfItem (item (one "x") [] (Sized Char (Some (number 3 0)) 0)) ∷ OfItem (item (one "c") [] (Clock 0)) ∷
    OfItem (item (one "d") [] (Duration 0)) ∷ OfItem constant ∷
    OfSema (record { names = one "s"; preset = []; place = 0 }) ∷ []

-- SPC i INTERRUPT,a DATION INOUT ALPHIC,e DATION INOUT BASIC FIXED;
abbrev specified : List ShownSpec
specified =
    OfInterrupt (one "i") 0 ∷ OfDation (one "a") InOut (Alphic 0) false 0 ∷ OfDation (one "e") InOut (Basic fixed 0) false 0 ∷ []

-- These, TYPE y FIXED;t:TASK;END;p:PROC(q FIXED);FOR n REPEAT statement END;END;
abbrev pub doing : ShownStmt → ShownTree
doing statement = source
    (OfDeclare variables 0 ∷ OfSpecify specified 0 ∷ OfType (name "y" 0) (OfBasic fixed) 0 ∷
    task (name "t" 0) [] [] ∷
    procedure (name "p" 0) (parameter "q" ∷ []) []
    (OfRepeat (Some (name "n" 0)) None None None None [] (MoreStmts statement NoStmts) 0 0 ∷ []) ∷ [])

-- with a variable of each kind
abbrev pub with_each_kind : (String → ShownStmt) → List (List RuleFault)
with_each_kind statement = map (λ text. broken (doing (statement text))) ("f" ∷ "b" ∷ "w" ∷ "x" ∷ "c" ∷ "d" ∷ [])

-- with a name of each sort: a variable, a control variable, a parameter, a type, a semaphore, an interrupt, dations of
-- both classes, a task, a procedure, and none
abbrev names : List String
names = "f" ∷ "n" ∷ "q" ∷ "y" ∷ "s" ∷ "i" ∷ "a" ∷ "e" ∷ "t" ∷ "p" ∷ "z" ∷ []

abbrev pub with_each_name : (String → ShownStmt) → List (List RuleFault)
with_each_name statement = map (λ text. broken (doing (statement text))) names

-- the same for the rules S15 to S22
abbrev pub parts_with_each_name : (String → ShownStmt) → List (List RuleFault)
parts_with_each_name statement = map (λ text. broken_in_parts (doing (statement text))) names

-- for each of these nothing where it is well, and else this fault
abbrev pub told : RuleFault → (well : List Bool) → List (List RuleFault)
told fault well = map (λ is_well. if is_well then [] else fault ∷ []) well
