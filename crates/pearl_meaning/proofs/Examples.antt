-- Small programs whose tasks are looked at: DCL (a, b) FIXED, m(2, 3) FIXED, t CHAR(3), s FIXED(3), one terminal, one input and
-- one output.
use Rattle.std.specs.Prelude.{ℕ, pos, List, [], ◌∷◌, ◌++◌, codes, true}
use Rattle.pearl_value.specs.declared.kind.Kind.{Kind}
use Rattle.pearl_value.specs.declared.kind.Kind.TheVariants as kind
use Rattle.pearl_value.specs.declared.kind.CellKind.{CellKind}
use Rattle.pearl_value.specs.declared.kind.CellKind.TheVariants.{Plain}
use Rattle.pearl_value.specs.declared.cell.Cell.{Cell}
use Rattle.pearl_value.specs.declared.cell.Cell.TheVariants.{Fixed, Chars}
use Rattle.pearl_format.specs.declared.item.Item.{Item}
use Rattle.pearl_format.specs.declared.item.ItemCode.{ItemCode}
use Rattle.pearl_format.specs.declared.item.ItemCode.TheVariants.{A, F, Skip}
use Rattle.pearl_rules.specs.declared.action.Action.{Action}
use Rattle.pearl_rules.specs.declared.action.Answer.{Answer}
use Rattle.pearl_rules.specs.declared.action.Answer.TheVariants.{One}
use Rattle.pearl_value.specs.declared.device.Direction.TheVariants.{InOut}
use Rattle.pearl_value.specs.declared.device.Device.TheVariants.{Interrupt, Terminal, Input, Output}
use Rattle.pearl_program.specs.declared.expression.Target.TheVariants.{Leaf, Own, Param}
use Rattle.pearl_program.specs.declared.expression.Bound.{Bound}
use Rattle.pearl_program.specs.PlainExpressions.{PlainExpr, OfLiteral, PlainVariable, OfVariable, PlainExprs, NoExprs, MoreExprs}
use Rattle.pearl_program.specs.PlainStatements.{PlainStmt, PlainStmts, NoStmts, MoreStmts}
use Rattle.pearl_program.specs.PlainPrograms.{PlainLeaf, PlainProcedure, PlainProg}

abbrev pub fixed : CellKind
fixed = Plain (kind.Fixed 31)

abbrev pub number : ℕ → Cell
number n = Fixed 31 (pos n)

-- what comes as one value
abbrev pub hears : ℕ → Answer
hears n = One (number n)

abbrev pub text : List ℕ → Cell
text letters = Chars (record { items = letters })

abbrev pub literal : ℕ → PlainExpr
literal n = OfLiteral (number n)

abbrev pub alone : PlainExpr → PlainExprs
alone e = MoreExprs e NoExprs

abbrev pub both : PlainExpr → PlainExpr → PlainExprs
both e f = MoreExprs e (alone f)

-- a variable without subscripts
abbrev pub whole : ℕ → PlainVariable
whole leaf = OfVariable (Leaf leaf) [] NoExprs

abbrev pub own : ℕ → PlainVariable
own cell = OfVariable (Own cell) [] NoExprs

abbrev pub param : ℕ → PlainVariable
param cell = OfVariable (Param cell) [] NoExprs

-- the variables a, b, t and s, in the slots 0, 1, 8 and 9
abbrev pub a : PlainVariable
a = whole 0

abbrev pub b : PlainVariable
b = whole 1

abbrev pub t : PlainVariable
t = whole 3

abbrev pub s : PlainVariable
s = whole 4

abbrev pub bound : ℕ → ℕ → Bound
bound lower upper = record { lower = pos lower; upper = pos upper }

-- m(e, f), in the slots 2 to 7
abbrev pub m : PlainExpr → PlainExpr → PlainVariable
m e f = OfVariable (Leaf 2) (bound 1 2 ∷ bound 1 3 ∷ []) (both e f)

abbrev leaf : List ℕ → Kind → ℕ → PlainLeaf
leaf name kind count = record { name = name; values = record { kind = kind; count = count; constants = [] } }

abbrev item : ItemCode → ℕ → Item
item code width = record { code = code; width = width }

-- the formats are F(5), SKIP; F(3); F(3), F(3); F(10) and A
abbrev pub program : List PlainProcedure → List CellKind → PlainStmts → PlainProg
program procedures cells body = record {
  leaves = leaf (codes "a") (kind.Fixed 31) 1 ∷ leaf (codes "b") (kind.Fixed 31) 1 ∷ leaf (codes "m") (kind.Fixed 31) 6
      ∷ leaf (codes "t") (kind.Chars 3) 1 ∷ leaf (codes "s") (kind.Fixed 3) 1 ∷ [];
  semaphores = 1 ∷ 0 ∷ [];
  devices = Interrupt 3 ∷ Terminal 1 InOut ∷ Input 2 (kind.Fixed 31) ∷ Output 7 (kind.Bits 4) ∷ [];
  formats = (item F 5 ∷ item Skip 0 ∷ []) ∷ (item F 3 ∷ []) ∷ (item F 3 ∷ item F 3 ∷ []) ∷ (item F 10 ∷ []) ∷ (item A 0 ∷ []) ∷ [];
  procedures = procedures;
  tasks = record { name = codes "x"; priority = 255; main = true; routine = record { cells = cells; body = body } } ∷ [];
}

abbrev pub only : PlainStmt → PlainStmts
only statement = MoreStmts statement NoStmts

abbrev pub two : PlainStmt → PlainStmt → PlainStmts
two statement other = MoreStmts statement (only other)

-- a task of one statement, without own variables
abbrev pub doing : PlainStmt → PlainProg
doing statement = program [] [] (only statement)

-- what is offered at first, and after each of these answers
abbrev offers_after : (List Answer → Action) → List Answer → List Answer → List Action
offers_after offer before [] = offer before ∷ []
offers_after offer before (answer ∷ answers) = offer before ∷ offers_after offer (before ++ answer ∷ []) answers

abbrev pub offers : (List Answer → Action) → List Answer → List Action
offers offer answers = offers_after offer [] answers
