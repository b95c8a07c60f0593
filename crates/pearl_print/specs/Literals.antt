-- What holds of each literal of a tree, or of a part of one.
use Rattle.std.specs.Prelude.{All, IfSome}
use Rattle.pearl_tree.specs.declared.literal.Literal.{Literal}
use Rattle.pearl_tree.specs.declared.expression.Expr.{Expr, Operand', Dyadic'}
use Rattle.pearl_tree.specs.declared.expression.Primary.{Primary}
use Rattle.pearl_tree.specs.declared.expression.Primary as primary
use Rattle.pearl_tree.specs.declared.expression.Selector.{Selector, Subscripts', Component, Row_of-Expr, end_of-Expr, more_of-Expr}
use Rattle.pearl_tree.specs.declared.expression.Ref.{Ref, Row_of-Selector, end_of-Selector, more_of-Selector}
use Rattle.pearl_tree.specs.declared.declaration.Item.{Item}
use Rattle.pearl_tree.specs.declared.declaration.Declared.{Declared}
use Rattle.pearl_tree.specs.declared.declaration.Declared.TheVariants as declared
use Rattle.pearl_tree.specs.declared.statement.PeriodEnd.{PeriodEnd}
use Rattle.pearl_tree.specs.declared.statement.PeriodEnd.TheVariants.{Until, During}
use Rattle.pearl_tree.specs.declared.statement.Period.{Period}
use Rattle.pearl_tree.specs.declared.statement.Start.{Start}
use Rattle.pearl_tree.specs.declared.statement.Start.TheVariants as start
use Rattle.pearl_tree.specs.declared.statement.Once.{Once}
use Rattle.pearl_tree.specs.declared.statement.Once.TheVariants as once
use Rattle.pearl_tree.specs.declared.statement.BodyDecl.{BodyDecl}
use Rattle.pearl_tree.specs.declared.statement.Stmt.{Stmt, Empty, Assign, Call, If', Case', Repeat', Exit, Begin', Return, Activate, Continue, Resume, OnTask, OnSemas, OnInterrupt, Put, Get, Send, Take, Row_of-Stmt, end_of-Stmt, more_of-Stmt}
use Rattle.pearl_tree.specs.declared.statement.If as if_
use Rattle.pearl_tree.specs.declared.statement.If.{Held-Case-otherwise, None', Some'}
use Rattle.pearl_tree.specs.declared.statement.Case as case_
use Rattle.pearl_tree.specs.declared.statement.Case.{Row_of-Branch, end_of-Branch, more_of-Branch}
use Rattle.pearl_tree.specs.declared.statement.Body.{Body}
use Rattle.pearl_tree.specs.declared.tree.Decl.{Decl}
use Rattle.pearl_tree.specs.declared.tree.Decl.TheVariants as decl
use Rattle.pearl_tree.specs.declared.tree.Tree.{Tree}

-- something that is to hold of each literal
module _ (P : Literal → Type 0) where
  abbrev mutual
    pub InExpr : Expr → Type 0
    InExpr (Operand' monadics part place) = InPrimary part
    InExpr (Dyadic' _ left dyadic _ right place) = InExpr left × InExpr right

    pub InPrimary : Primary → Type 0
    InPrimary (primary.Literal part) = P part
    InPrimary (primary.Ref' name _ selectors place) = InSelectors selectors
    InPrimary (primary.Group' _ inner place) = InExpr inner
    InPrimary (primary.Now place) = Unit {0}
    InPrimary (primary.Try name place) = Unit {0}
    InPrimary (primary.Limit' dimension side _ name _ selectors ref_place place) = InSelectors selectors

    pub InSelectors : {n : _} → Row_of-Selector n → Type 0
    InSelectors end_of-Selector = Unit {0}
    InSelectors (more_of-Selector selector rest) = InSelector selector × InSelectors rest

    pub InSelector : Selector → Type 0
    InSelector (Subscripts' _ subscripts place) = InSubscripts subscripts
    InSelector (Component name place) = Unit {0}

    pub InSubscripts : {n : _} → Row_of-Expr n → Type 0
    InSubscripts end_of-Expr = Unit {0}
    InSubscripts (more_of-Expr expr rest) = InExpr expr × InSubscripts rest

  abbrev pub InRef : Ref → Type 0
  InRef reference = All InSelector reference.selectors.items.items

  abbrev pub InItem : Item → Type 0
  InItem item = All (λ constant. P constant.literal) item.init.items.items

  abbrev pub InDeclared : Declared → Type 0
  InDeclared (declared.Item item) = InItem item
  InDeclared (declared.Sema sema) = Unit {0}

  abbrev pub InPeriodEnd : PeriodEnd → Type 0
  InPeriodEnd (Until time place) = InExpr time
  InPeriodEnd (During duration place) = InExpr duration

  abbrev pub InPeriod : Period → Type 0
  InPeriod period = InExpr period.duration × IfSome period.end InPeriodEnd

  abbrev pub InStart : Start → Type 0
  InStart (start.At time period place) = InExpr time × IfSome period InPeriod
  InStart (start.After duration period place) = InExpr duration × IfSome period InPeriod
  InStart (start.When interrupt after period place) = IfSome after InExpr × IfSome period InPeriod
  InStart (start.All period) = InPeriod period

  abbrev pub InOnce : Once → Type 0
  InOnce (once.At time place) = InExpr time
  InOnce (once.After duration place) = InExpr duration
  InOnce (once.When interrupt place) = Unit {0}

  abbrev pub InBodyDecl : BodyDecl → Type 0
  InBodyDecl declaration = All InItem declaration.items.items.items

  abbrev mutual
    pub InStmt : Stmt → Type 0
    InStmt (Empty place) = Unit {0}
    InStmt (Assign part) = InRef part.value.target × InExpr part.value.value
    InStmt (Call part) = All InExpr part.value.arguments.items.items
    InStmt (If' _ (if_.If' condition _ statements otherwise place)) = InExpr condition × InStmts statements × InOtherwise otherwise
    InStmt (Case' _ (case_.Case' selector _ alternatives otherwise place)) = InExpr selector × InBranches alternatives × InOtherwise otherwise
    InStmt (Repeat' _ control begin step end condition declarations _ statements body_place place) =
        IfSome begin InExpr × IfSome step InExpr × IfSome end InExpr × IfSome condition InExpr ×
        (All InBodyDecl declarations.items.items × InStmts statements)
    InStmt (Exit place) = Unit {0}
    InStmt (Begin' _ declarations _ statements body_place place) = All InBodyDecl declarations.items.items × InStmts statements
    InStmt (Return part) = IfSome part.value.value InExpr
    InStmt (Activate part) = IfSome part.value.start InStart × IfSome part.value.priority InExpr
    InStmt (Continue part) = IfSome part.value.once InOnce
    InStmt (Resume part) = InOnce part.value.once
    InStmt (OnTask part) = Unit {0}
    InStmt (OnSemas part) = Unit {0}
    InStmt (OnInterrupt part) = Unit {0}
    InStmt (Put part) = All InExpr part.value.values.items.items
    InStmt (Get part) = All InRef part.value.targets.items.items
    InStmt (Send part) = InExpr part.value.value
    InStmt (Take part) = InRef part.value.target

    pub InStmts : {n : _} → Row_of-Stmt n → Type 0
    InStmts end_of-Stmt = Unit {0}
    InStmts (more_of-Stmt statement rest) = InStmt statement × InStmts rest

    pub InBranches : {n : _} → Row_of-Branch n → Type 0
    InBranches end_of-Branch = Unit {0}
    InBranches (more_of-Branch _ statements place rest) = InStmts statements × InBranches rest

    pub InOtherwise : Held-Case-otherwise → Type 0
    InOtherwise None' = Unit {0}
    InOtherwise (Some' _ statements place) = InStmts statements

  abbrev pub InBody : Body → Type 0
  InBody body = All InBodyDecl body.declarations.items.items × All InStmt body.statements.items.items

  abbrev pub InDecl : Decl → Type 0
  InDecl (decl.Length sort number place) = Unit {0}
  InDecl (decl.Type name part place) = Unit {0}
  InDecl (decl.Declare parts place) = All InDeclared parts.items.items
  InDecl (decl.Specify specs place) = Unit {0}
  InDecl (decl.Task name head body place) = InBody body
  InDecl (decl.Proc name params returns body place) = InBody body

  -- it holds of each literal of a tree
  abbrev pub EachLiteral : Tree → Type 0
  EachLiteral tree = All InDecl tree.declarations.items.items
