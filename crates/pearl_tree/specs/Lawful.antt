-- A lawful tree of a source: its names are ids.
use Rattle.std.specs.Prelude.{ℕ}
use Rattle.pearl_tree.specs.declared.name.Name.{Name}
use Rattle.pearl_tree.specs.declared.name.Names.{Names}
use Rattle.pearl_tree.specs.declared.expression.Expr.{Expr}
use Rattle.pearl_tree.specs.declared.expression.Primary.{Primary}
use Rattle.pearl_tree.specs.declared.expression.Selector.{Selector, Row_of-Expr}
use Rattle.pearl_tree.specs.declared.expression.Ref.{Ref, Row_of-Selector}
use Rattle.pearl_tree.specs.declared.typing.Typing.{Typing, Row_of-Field}
use Rattle.pearl_tree.specs.declared.declaration.DeviceWord.{DeviceWord}
use Rattle.pearl_tree.specs.declared.declaration.Device.{Device}
use Rattle.pearl_tree.specs.declared.declaration.Item.{Item}
use Rattle.pearl_tree.specs.declared.declaration.Sema.{Sema}
use Rattle.pearl_tree.specs.declared.declaration.Declared.{Declared}
use Rattle.pearl_tree.specs.declared.declaration.Class.{Class}
use Rattle.pearl_tree.specs.declared.declaration.Spec.{Spec}
use Rattle.pearl_tree.specs.declared.declaration.Param.{Param}
use Rattle.pearl_tree.specs.declared.statement.PeriodEnd.{PeriodEnd}
use Rattle.pearl_tree.specs.declared.statement.Period.{Period}
use Rattle.pearl_tree.specs.declared.statement.Start.{Start}
use Rattle.pearl_tree.specs.declared.statement.Once.{Once}
use Rattle.pearl_tree.specs.declared.statement.BodyDecl.{BodyDecl}
use Rattle.pearl_tree.specs.declared.statement.Stmt.{Stmt, Row_of-Stmt}
use Rattle.pearl_tree.specs.declared.statement.If.{Held-Case-otherwise}
use Rattle.pearl_tree.specs.declared.statement.Case.{Row_of-Branch}
use Rattle.pearl_tree.specs.declared.statement.Body.{Body}
use Rattle.pearl_tree.specs.declared.tree.TaskHead.{TaskHead}
use Rattle.pearl_tree.specs.declared.tree.Decl.{Decl}
use Rattle.pearl_tree.specs.declared.tree.ModuleName.{ModuleName}
use Rattle.pearl_tree.specs.declared.tree.Tree.{Tree}
use Rattle.pearl_tree.specs.Tokens.{IsId}
use Rattle.pearl_tree.specs.Lawfulness as of
pub use Rattle.pearl_tree.specs.Lawfulness.{IsLawfulNumber, IsLawfulSecs, IsLawfulDuration, IsLawfulLiteral, IsLawfulConst, IsLawfulFmt, IsLawfulBound, IsLawfulBasic}

abbrev pub IsLawfulName : Name → Type 0
IsLawfulName = of.IsLawfulName IsId

abbrev pub AreLawfulNames : Names → Type 0
AreLawfulNames = of.AreLawfulNames IsId

abbrev pub HasLawfulTerms : ℕ → Expr → Type 0
HasLawfulTerms = of.HasLawfulTerms IsId

abbrev pub IsLawfulPrimary : ℕ → Primary → Type 0
IsLawfulPrimary = of.IsLawfulPrimary IsId

abbrev pub AreLawfulSelectors : {n : _} → ℕ → Row_of-Selector n → Type 0
AreLawfulSelectors depth row = of.AreLawfulSelectors IsId depth row

abbrev pub IsLawfulSelector : ℕ → Selector → Type 0
IsLawfulSelector = of.IsLawfulSelector IsId

abbrev pub AreLawfulSubscripts : {n : _} → ℕ → Row_of-Expr n → Type 0
AreLawfulSubscripts depth row = of.AreLawfulSubscripts IsId depth row

-- an expression that stands in no other
abbrev pub IsLawfulExpr : Expr → Type 0
IsLawfulExpr = of.IsLawfulExpr IsId

-- a ref of a statement's own
abbrev pub IsLawfulRef : Ref → Type 0
IsLawfulRef = of.IsLawfulRef IsId

abbrev pub HasLawfulTyping : ℕ → Typing → Type 0
HasLawfulTyping = of.HasLawfulTyping IsId

abbrev pub AreLawfulFields : {n : _} → ℕ → Row_of-Field n → Type 0
AreLawfulFields depth row = of.AreLawfulFields IsId depth row

abbrev pub IsLawfulTyping : Typing → Type 0
IsLawfulTyping = of.IsLawfulTyping IsId

abbrev pub IsLawfulDeviceWord : DeviceWord → Type 0
IsLawfulDeviceWord = of.IsLawfulDeviceWord IsId

abbrev pub IsLawfulDevice : Device → Type 0
IsLawfulDevice = of.IsLawfulDevice IsId

abbrev pub IsLawfulItem : Item → Type 0
IsLawfulItem = of.IsLawfulItem IsId

abbrev pub IsLawfulSema : Sema → Type 0
IsLawfulSema = of.IsLawfulSema IsId

abbrev pub IsLawfulDeclared : Declared → Type 0
IsLawfulDeclared = of.IsLawfulDeclared IsId

abbrev pub IsLawfulClass : Class → Type 0
IsLawfulClass = of.IsLawfulClass IsId

abbrev pub IsLawfulSpec : Spec → Type 0
IsLawfulSpec = of.IsLawfulSpec IsId

abbrev pub IsLawfulParam : Param → Type 0
IsLawfulParam = of.IsLawfulParam IsId

abbrev pub IsLawfulPeriodEnd : PeriodEnd → Type 0
IsLawfulPeriodEnd = of.IsLawfulPeriodEnd IsId

abbrev pub IsLawfulPeriod : Period → Type 0
IsLawfulPeriod = of.IsLawfulPeriod IsId

abbrev pub IsLawfulStart : Start → Type 0
IsLawfulStart = of.IsLawfulStart IsId

abbrev pub IsLawfulOnce : Once → Type 0
IsLawfulOnce = of.IsLawfulOnce IsId

abbrev pub IsLawfulBodyDecl : BodyDecl → Type 0
IsLawfulBodyDecl = of.IsLawfulBodyDecl IsId

abbrev pub IsLawfulStmt : ℕ → Stmt → Type 0
IsLawfulStmt = of.IsLawfulStmt IsId

abbrev pub AreLawfulStmts : {n : _} → ℕ → Row_of-Stmt n → Type 0
AreLawfulStmts depth row = of.AreLawfulStmts IsId depth row

abbrev pub AreLawfulBranches : {n : _} → ℕ → Row_of-Branch n → Type 0
AreLawfulBranches depth row = of.AreLawfulBranches IsId depth row

abbrev pub IsLawfulOtherwise : ℕ → Held-Case-otherwise → Type 0
IsLawfulOtherwise = of.IsLawfulOtherwise IsId

-- the body of a task or procedure
abbrev pub IsLawfulBody : Body → Type 0
IsLawfulBody = of.IsLawfulBody IsId

abbrev pub IsLawfulTaskHead : TaskHead → Type 0
IsLawfulTaskHead = of.IsLawfulTaskHead IsId

abbrev pub IsLawfulDecl : Decl → Type 0
IsLawfulDecl = of.IsLawfulDecl IsId

abbrev pub IsLawfulModuleName : ModuleName → Type 0
IsLawfulModuleName = of.IsLawfulModuleName IsId

abbrev pub IsLawful : Tree → Type 0
IsLawful = of.IsLawful IsId
