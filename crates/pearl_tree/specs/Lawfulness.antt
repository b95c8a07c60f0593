-- What makes a tree or a part of one lawful, where it is told which texts may be names: its numbers, decimals, clocks,
-- bits and texts are those of lawful tokens, and the limits hold on what stands within one another and on the number of
-- operators.
use Rattle.std.specs.Prelude.{ℕ, List, ◌-◌, ◌<◌, ◌≤◌, length, All, IfSome}
use Rattle.pearl_tree.specs.declared.name.Name.{Name}
use Rattle.pearl_tree.specs.declared.name.Number.{Number}
use Rattle.pearl_tree.specs.declared.name.Names.{Names}
use Rattle.pearl_tree.specs.declared.name.Names.TheVariants.{One, Several}
use Rattle.pearl_tree.specs.declared.literal.Secs.{Secs}
use Rattle.pearl_tree.specs.declared.literal.Secs.TheVariants as secs
use Rattle.pearl_tree.specs.declared.literal.Duration.{Duration}
use Rattle.pearl_tree.specs.declared.literal.Duration.TheVariants.{Hours, Minutes, Seconds}
use Rattle.pearl_tree.specs.declared.literal.Literal.{Literal}
use Rattle.pearl_tree.specs.declared.literal.Literal.TheVariants as literal
use Rattle.pearl_tree.specs.declared.literal.Const.{Const}
use Rattle.pearl_tree.specs.declared.expression.Expr.{Expr, Operand', Dyadic'}
use Rattle.pearl_tree.specs.declared.expression.Primary.{Primary}
use Rattle.pearl_tree.specs.declared.expression.Primary as primary
use Rattle.pearl_tree.specs.declared.expression.Selector.{Selector, Subscripts', Component, Row_of-Expr, end_of-Expr, more_of-Expr}
use Rattle.pearl_tree.specs.declared.expression.Ref.{Ref, Row_of-Selector, end_of-Selector, more_of-Selector}
use Rattle.pearl_tree.specs.declared.limit.TheConstants as limit
use Rattle.pearl_tree.specs.declared.format.Fmt.{Fmt}
use Rattle.pearl_tree.specs.declared.format.Fmt.TheVariants.{Free, Wide}
use Rattle.pearl_tree.specs.declared.typing.Bound.{Bound}
use Rattle.pearl_tree.specs.declared.typing.Basic.{Basic}
use Rattle.pearl_tree.specs.declared.typing.Basic.TheVariants as basic
use Rattle.pearl_tree.specs.declared.typing.Typing.{Typing, Row_of-Field, end_of-Field, more_of-Field}
use Rattle.pearl_tree.specs.declared.typing.Typing as typing
use Rattle.pearl_tree.specs.declared.declaration.DeviceWord.{DeviceWord}
use Rattle.pearl_tree.specs.declared.declaration.DeviceWord.TheVariants as device
use Rattle.pearl_tree.specs.declared.declaration.Device.{Device}
use Rattle.pearl_tree.specs.declared.declaration.Item.{Item}
use Rattle.pearl_tree.specs.declared.declaration.Sema.{Sema}
use Rattle.pearl_tree.specs.declared.declaration.Declared.{Declared}
use Rattle.pearl_tree.specs.declared.declaration.Declared.TheVariants as declared
use Rattle.pearl_tree.specs.declared.declaration.Class.{Class}
use Rattle.pearl_tree.specs.declared.declaration.Class.TheVariants as class
use Rattle.pearl_tree.specs.declared.declaration.Spec.{Spec}
use Rattle.pearl_tree.specs.declared.declaration.Spec.TheVariants as spec
use Rattle.pearl_tree.specs.declared.declaration.Param.{Param}
use Rattle.pearl_tree.specs.declared.statement.PeriodEnd.{PeriodEnd}
use Rattle.pearl_tree.specs.declared.statement.PeriodEnd.TheVariants.{Until, During}
use Rattle.pearl_tree.specs.declared.statement.Period.{Period}
use Rattle.pearl_tree.specs.declared.statement.Start.{Start}
use Rattle.pearl_tree.specs.declared.statement.Start.TheVariants as start
use Rattle.pearl_tree.specs.declared.statement.Once.{Once}
use Rattle.pearl_tree.specs.declared.statement.Once.TheVariants as once
use Rattle.pearl_tree.specs.declared.statement.BodyDecl.{BodyDecl}
use Rattle.pearl_tree.specs.declared.statement.Stmt.{Stmt, Empty, Assign, Call, If', Case', Repeat', Exit, Begin', Return, Activate, Continue, Resume, OnTask, OnSemas, OnInterrupt, Put, Get, Send, Take, Row_of-Stmt, end_of-Stmt, more_of-Stmt}
use Rattle.pearl_tree.specs.declared.statement.If as if_
use Rattle.pearl_tree.specs.declared.statement.If.{Held-Case-otherwise, None', Some'}
use Rattle.pearl_tree.specs.declared.statement.Case as case_
use Rattle.pearl_tree.specs.declared.statement.Case.{Row_of-Branch, end_of-Branch, more_of-Branch}
use Rattle.pearl_tree.specs.declared.statement.Body.{Body}
use Rattle.pearl_tree.specs.declared.tree.TaskHead.{TaskHead}
use Rattle.pearl_tree.specs.declared.tree.TaskHead.TheVariants.{PrioFirst, MainFirst}
use Rattle.pearl_tree.specs.declared.tree.Decl.{Decl}
use Rattle.pearl_tree.specs.declared.tree.Decl.TheVariants as decl
use Rattle.pearl_tree.specs.declared.tree.ModuleName.{ModuleName}
use Rattle.pearl_tree.specs.declared.tree.ModuleName.TheVariants.{Bracketed, Bare}
use Rattle.pearl_tree.specs.declared.tree.Tree.{Tree}
use Rattle.pearl_tree.specs.Tokens.{IsNumberValue, IsClock, IsBits, IsText}
use Rattle.pearl_tree.specs.Expressions.{dyad_count}

abbrev pub IsLawfulNumber : Number → Type 0
IsLawfulNumber number = IsNumberValue number.value

abbrev pub IsLawfulSecs : Secs → Type 0
IsLawfulSecs (secs.Number number) = IsLawfulNumber number
IsLawfulSecs (secs.Decimal whole thousandths place) = IsNumberValue whole × (thousandths < 1000)

abbrev pub IsLawfulDuration : Duration → Type 0
IsLawfulDuration (Hours hours minutes seconds place) =
    IsLawfulNumber hours × IfSome minutes IsLawfulNumber × IfSome seconds IsLawfulSecs
IsLawfulDuration (Minutes minutes seconds place) = IsLawfulNumber minutes × IfSome seconds IsLawfulSecs
IsLawfulDuration (Seconds seconds place) = IsLawfulSecs seconds

abbrev pub IsLawfulLiteral : Literal → Type 0
IsLawfulLiteral (literal.Number number) = IsLawfulNumber number
IsLawfulLiteral (literal.Bits len value place) = IsBits len value
IsLawfulLiteral (literal.Text text place) = IsText text.value.items
IsLawfulLiteral (literal.Clock milliseconds place) = IsClock milliseconds
IsLawfulLiteral (literal.Duration duration) = IsLawfulDuration duration.value

abbrev pub IsLawfulConst : Const → Type 0
IsLawfulConst constant = IsLawfulLiteral constant.literal

abbrev pub IsLawfulFmt : Fmt → Type 0
IsLawfulFmt (Free code width place) = IfSome width IsLawfulNumber
IsLawfulFmt (Wide code width place) = IsLawfulNumber width

abbrev pub IsLawfulBound : Bound → Type 0
IsLawfulBound bound = IsLawfulNumber bound.first.number × IfSome bound.second (λ int. IsLawfulNumber int.number)

abbrev pub IsLawfulBasic : Basic → Type 0
IsLawfulBasic (basic.Sized sort number place) = IfSome number IsLawfulNumber
IsLawfulBasic (basic.Clock place) = Unit {0}
IsLawfulBasic (basic.Duration place) = Unit {0}

module _ (MayName : List ℕ → Type 0) where
  abbrev pub IsLawfulName : Name → Type 0
  IsLawfulName name = MayName name.text.items

  abbrev pub AreLawfulNames : Names → Type 0
  AreLawfulNames (One name) = IsLawfulName name
  AreLawfulNames (Several names place) = All IsLawfulName names.items.items

  -- `depth` is the number of brackets that may still stand within one another
  abbrev mutual
    pub HasLawfulTerms : ℕ → Expr → Type 0
    HasLawfulTerms depth (Operand' monadics part place) =
        (length monadics.items.items ≤ limit.MONADS_MAX) × IsLawfulPrimary depth part
    HasLawfulTerms depth (Dyadic' _ left dyadic _ right place) = HasLawfulTerms depth left × HasLawfulTerms depth right

    pub IsLawfulPrimary : ℕ → Primary → Type 0
    IsLawfulPrimary depth (primary.Literal part) = IsLawfulLiteral part
    IsLawfulPrimary depth (primary.Ref' name _ selectors place) = IsLawfulName name × AreLawfulSelectors depth selectors
    IsLawfulPrimary depth (primary.Group' _ inner place) =
        (0 < depth) × (HasLawfulTerms (depth - 1) inner × (dyad_count inner ≤ limit.DYADS_MAX))
    IsLawfulPrimary depth (primary.Now place) = Unit {0}
    IsLawfulPrimary depth (primary.Try name place) = IsLawfulName name
    IsLawfulPrimary depth (primary.Limit' dimension side _ name _ selectors ref_place place) =
        IfSome dimension IsLawfulNumber × (IsLawfulName name × AreLawfulSelectors depth selectors)

    pub AreLawfulSelectors : {n : _} → ℕ → Row_of-Selector n → Type 0
    AreLawfulSelectors depth end_of-Selector = Unit {0}
    AreLawfulSelectors depth (more_of-Selector selector rest) =
        IsLawfulSelector depth selector × AreLawfulSelectors depth rest

    pub IsLawfulSelector : ℕ → Selector → Type 0
    IsLawfulSelector depth (Subscripts' _ subscripts place) = (0 < depth) × AreLawfulSubscripts (depth - 1) subscripts
    IsLawfulSelector depth (Component name place) = IsLawfulName name

    pub AreLawfulSubscripts : {n : _} → ℕ → Row_of-Expr n → Type 0
    AreLawfulSubscripts depth end_of-Expr = Unit {0}
    AreLawfulSubscripts depth (more_of-Expr expr rest) =
        (HasLawfulTerms depth expr × (dyad_count expr ≤ limit.DYADS_MAX)) × AreLawfulSubscripts depth rest

  -- an expression that stands in no other
  abbrev pub IsLawfulExpr : Expr → Type 0
  IsLawfulExpr expr = HasLawfulTerms limit.BRACKETS_MAX expr × (dyad_count expr ≤ limit.DYADS_MAX)

  -- a ref of a statement's own
  abbrev pub IsLawfulRef : Ref → Type 0
  IsLawfulRef reference = IsLawfulName reference.name × All (IsLawfulSelector limit.OWN_BRACKETS_MAX) reference.selectors.items.items

  -- `depth` is the number of STRUCTs that may still stand within one another
  abbrev mutual
    pub HasLawfulTyping : ℕ → Typing → Type 0
    HasLawfulTyping depth (typing.Basic part) = IsLawfulBasic part
    HasLawfulTyping depth (typing.Struct' _ fields place) = (0 < depth) × AreLawfulFields (depth - 1) fields
    HasLawfulTyping depth (typing.Named name) = IsLawfulName name

    pub AreLawfulFields : {n : _} → ℕ → Row_of-Field n → Type 0
    AreLawfulFields depth end_of-Field = Unit {0}
    AreLawfulFields depth (more_of-Field names bounds part place rest) =
        (AreLawfulNames names × All IsLawfulBound bounds.items.items × HasLawfulTyping depth part) ×
        AreLawfulFields depth rest

  abbrev pub IsLawfulTyping : Typing → Type 0
  IsLawfulTyping part = HasLawfulTyping limit.STRUCTS_MAX part

  abbrev pub IsLawfulDeviceWord : DeviceWord → Type 0
  IsLawfulDeviceWord (device.Id name) = IsLawfulName name
  IsLawfulDeviceWord (device.Interrupt place) = Unit {0}

  abbrev pub IsLawfulDevice : Device → Type 0
  IsLawfulDevice part = IsLawfulName part.name × IsLawfulDeviceWord part.word × IsLawfulNumber part.number

  abbrev pub IsLawfulItem : Item → Type 0
  IsLawfulItem item =
      AreLawfulNames item.names × All IsLawfulBound item.bounds.items.items × IsLawfulTyping item.typing ×
      All IsLawfulConst item.init.items.items

  abbrev pub IsLawfulSema : Sema → Type 0
  IsLawfulSema sema = AreLawfulNames sema.names × All IsLawfulNumber sema.preset.items.items

  abbrev pub IsLawfulDeclared : Declared → Type 0
  IsLawfulDeclared (declared.Item item) = IsLawfulItem item
  IsLawfulDeclared (declared.Sema sema) = IsLawfulSema sema

  abbrev pub IsLawfulClass : Class → Type 0
  IsLawfulClass (class.Alphic place) = Unit {0}
  IsLawfulClass (class.Basic part place) = IsLawfulBasic part

  abbrev pub IsLawfulSpec : Spec → Type 0
  IsLawfulSpec (spec.Interrupt names place) = AreLawfulNames names
  IsLawfulSpec (spec.Dation names direction class control place) = AreLawfulNames names × IsLawfulClass class

  abbrev pub IsLawfulParam : Param → Type 0
  IsLawfulParam param = AreLawfulNames param.names × IsLawfulBasic param.basic

  abbrev pub IsLawfulPeriodEnd : PeriodEnd → Type 0
  IsLawfulPeriodEnd (Until time place) = IsLawfulExpr time
  IsLawfulPeriodEnd (During duration place) = IsLawfulExpr duration

  abbrev pub IsLawfulPeriod : Period → Type 0
  IsLawfulPeriod period = IsLawfulExpr period.duration × IfSome period.end IsLawfulPeriodEnd

  abbrev pub IsLawfulStart : Start → Type 0
  IsLawfulStart (start.At time period place) = IsLawfulExpr time × IfSome period IsLawfulPeriod
  IsLawfulStart (start.After duration period place) = IsLawfulExpr duration × IfSome period IsLawfulPeriod
  IsLawfulStart (start.When interrupt after period place) =
      IsLawfulName interrupt × IfSome after IsLawfulExpr × IfSome period IsLawfulPeriod
  IsLawfulStart (start.All period) = IsLawfulPeriod period

  abbrev pub IsLawfulOnce : Once → Type 0
  IsLawfulOnce (once.At time place) = IsLawfulExpr time
  IsLawfulOnce (once.After duration place) = IsLawfulExpr duration
  IsLawfulOnce (once.When interrupt place) = IsLawfulName interrupt

  abbrev pub IsLawfulBodyDecl : BodyDecl → Type 0
  IsLawfulBodyDecl declaration = All IsLawfulItem declaration.items.items.items

  -- `depth` is the number of IF, CASE, REPEAT and BEGIN that may still stand within one another
  abbrev mutual
    pub IsLawfulStmt : ℕ → Stmt → Type 0
    IsLawfulStmt depth (Empty place) = Unit {0}
    IsLawfulStmt depth (Assign part) = IsLawfulRef part.value.target × IsLawfulExpr part.value.value
    IsLawfulStmt depth (Call part) = IsLawfulName part.value.name × All IsLawfulExpr part.value.arguments.items.items
    IsLawfulStmt depth (If' _ (if_.If' condition _ statements otherwise place)) =
        (0 < depth) × IsLawfulExpr condition × AreLawfulStmts (depth - 1) statements ×
        IsLawfulOtherwise (depth - 1) otherwise
    IsLawfulStmt depth (Case' _ (case_.Case' selector _ alternatives otherwise place)) =
        (0 < depth) × IsLawfulExpr selector × AreLawfulBranches (depth - 1) alternatives ×
        IsLawfulOtherwise (depth - 1) otherwise
    IsLawfulStmt depth (Repeat' _ control begin step end condition declarations _ statements body_place place) =
        (0 < depth) × IfSome control IsLawfulName × IfSome begin IsLawfulExpr × IfSome step IsLawfulExpr ×
        IfSome end IsLawfulExpr × IfSome condition IsLawfulExpr ×
        (All IsLawfulBodyDecl declarations.items.items × AreLawfulStmts (depth - 1) statements)
    IsLawfulStmt depth (Exit place) = Unit {0}
    IsLawfulStmt depth (Begin' _ declarations _ statements body_place place) =
        (0 < depth) × (All IsLawfulBodyDecl declarations.items.items × AreLawfulStmts (depth - 1) statements)
    IsLawfulStmt depth (Return part) = IfSome part.value.value IsLawfulExpr
    IsLawfulStmt depth (Activate part) =
        IfSome part.value.start IsLawfulStart × IsLawfulName part.value.task × IfSome part.value.priority IsLawfulExpr
    IsLawfulStmt depth (Continue part) = IfSome part.value.once IsLawfulOnce × IsLawfulName part.value.task
    IsLawfulStmt depth (Resume part) = IsLawfulOnce part.value.once
    IsLawfulStmt depth (OnTask part) = IfSome part.value.task IsLawfulName
    IsLawfulStmt depth (OnSemas part) = All IsLawfulName part.value.names.items.items
    IsLawfulStmt depth (OnInterrupt part) = IsLawfulName part.value.name
    IsLawfulStmt depth (Put part) =
        All IsLawfulExpr part.value.values.items.items × IsLawfulName part.value.dation × All IsLawfulFmt part.value.formats.items.items
    IsLawfulStmt depth (Get part) =
        All IsLawfulRef part.value.targets.items.items × IsLawfulName part.value.dation × All IsLawfulFmt part.value.formats.items.items
    IsLawfulStmt depth (Send part) = IsLawfulExpr part.value.value × IsLawfulName part.value.dation
    IsLawfulStmt depth (Take part) = IsLawfulRef part.value.target × IsLawfulName part.value.dation

    pub AreLawfulStmts : {n : _} → ℕ → Row_of-Stmt n → Type 0
    AreLawfulStmts depth end_of-Stmt = Unit {0}
    AreLawfulStmts depth (more_of-Stmt statement rest) = IsLawfulStmt depth statement × AreLawfulStmts depth rest

    pub AreLawfulBranches : {n : _} → ℕ → Row_of-Branch n → Type 0
    AreLawfulBranches depth end_of-Branch = Unit {0}
    AreLawfulBranches depth (more_of-Branch _ statements place rest) =
        AreLawfulStmts depth statements × AreLawfulBranches depth rest

    pub IsLawfulOtherwise : ℕ → Held-Case-otherwise → Type 0
    IsLawfulOtherwise depth None' = Unit {0}
    IsLawfulOtherwise depth (Some' _ statements place) = AreLawfulStmts depth statements

  -- the body of a task or procedure
  abbrev pub IsLawfulBody : Body → Type 0
  IsLawfulBody body =
      All IsLawfulBodyDecl body.declarations.items.items × All (IsLawfulStmt limit.NESTED_MAX) body.statements.items.items

  abbrev pub IsLawfulTaskHead : TaskHead → Type 0
  IsLawfulTaskHead (PrioFirst prio main) = IfSome prio (λ prio. IsLawfulNumber prio.number)
  IsLawfulTaskHead (MainFirst prio) = IsLawfulNumber prio.number

  abbrev pub IsLawfulDecl : Decl → Type 0
  IsLawfulDecl (decl.Length sort number place) = IsLawfulNumber number
  IsLawfulDecl (decl.Type name part place) = IsLawfulName name × IsLawfulTyping part
  IsLawfulDecl (decl.Declare parts place) = All IsLawfulDeclared parts.items.items
  IsLawfulDecl (decl.Specify specs place) = All IsLawfulSpec specs.items.items
  IsLawfulDecl (decl.Task name head body place) = IsLawfulName name × IsLawfulTaskHead head × IsLawfulBody body
  IsLawfulDecl (decl.Proc name params returns body place) =
      IsLawfulName name × All IsLawfulParam params.items.items × IfSome returns IsLawfulBasic × IsLawfulBody body

  abbrev pub IsLawfulModuleName : ModuleName → Type 0
  IsLawfulModuleName (Bracketed name) = IsLawfulName name
  IsLawfulModuleName (Bare name) = IsLawfulName name

  pub record IsLawful (tree : Tree) : Type 0 where
    pub name : IfSome tree.name IsLawfulModuleName
    pub system : IfSome tree.system (λ devices. All IsLawfulDevice devices.items.items)
    pub declarations : All IsLawfulDecl tree.declarations.items.items
