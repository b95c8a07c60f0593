-- A tree that spells lawful tokens is lawful, and so is each part of one.
use Rattle.std.proofs.Common.{ℕ, ◌+◌, ◌-◌, List, [], ◌∷◌, All, Option, IfSome, length}
use Rattle.std.proofs.lemmas.List.Elements.{All-nil}
use Rattle.pearl_tree.specs.declared.parts.Parts.{Parts}
use Rattle.pearl_tree.specs.declared.name.Name.{Name}
use Rattle.pearl_tree.specs.declared.name.Number.{Number}
use Rattle.pearl_tree.specs.declared.name.Names.{Names}
use Rattle.pearl_tree.specs.declared.name.Names.TheVariants.{One, Several}
use Rattle.pearl_tree.specs.declared.literal.Secs.{Secs}
use Rattle.pearl_tree.specs.declared.literal.Secs.TheVariants as secs
use Rattle.pearl_tree.specs.declared.literal.Duration.{Duration}
use Rattle.pearl_tree.specs.declared.literal.Duration.TheVariants.{Hours, Minutes, Seconds}
use Rattle.pearl_tree.specs.declared.literal.Literal.{Literal}
use Rattle.pearl_tree.specs.declared.literal.Literal.TheVariants as literal
use Rattle.pearl_tree.specs.declared.literal.Const.{Const}
use Rattle.pearl_tree.specs.declared.expression.Expr.{Expr, Operand', Dyadic'}
use Rattle.pearl_tree.specs.declared.expression.Primary.{Primary}
use Rattle.pearl_tree.specs.declared.expression.Primary as primary
use Rattle.pearl_tree.specs.declared.expression.Selector.{Selector, Subscripts', Component, Row_of-Expr, end_of-Expr, more_of-Expr}
use Rattle.pearl_tree.specs.declared.expression.Ref.{Ref, Row_of-Selector, end_of-Selector, more_of-Selector}
use Rattle.pearl_tree.specs.declared.format.Fmt.{Fmt}
use Rattle.pearl_tree.specs.declared.format.Fmt.TheVariants.{Free, Wide}
use Rattle.pearl_tree.specs.declared.typing.Bound.{Bound}
use Rattle.pearl_tree.specs.declared.typing.Basic.{Basic}
use Rattle.pearl_tree.specs.declared.typing.Basic.TheVariants as basic
use Rattle.pearl_tree.specs.declared.typing.Typing.{Typing, Row_of-Field, end_of-Field, more_of-Field}
use Rattle.pearl_tree.specs.declared.typing.Typing as typing
use Rattle.pearl_tree.specs.declared.declaration.DeviceWord.{DeviceWord}
use Rattle.pearl_tree.specs.declared.declaration.DeviceWord.TheVariants as device
use Rattle.pearl_tree.specs.declared.declaration.Device.{Device}
use Rattle.pearl_tree.specs.declared.declaration.Item.{Item}
use Rattle.pearl_tree.specs.declared.declaration.Sema.{Sema}
use Rattle.pearl_tree.specs.declared.declaration.Declared.{Declared}
use Rattle.pearl_tree.specs.declared.declaration.Declared.TheVariants as declared
use Rattle.pearl_tree.specs.declared.declaration.Class.{Class}
use Rattle.pearl_tree.specs.declared.declaration.Class.TheVariants as class
use Rattle.pearl_tree.specs.declared.declaration.Spec.{Spec}
use Rattle.pearl_tree.specs.declared.declaration.Spec.TheVariants as spec
use Rattle.pearl_tree.specs.declared.declaration.Param.{Param}
use Rattle.pearl_tree.specs.declared.statement.PeriodEnd.{PeriodEnd}
use Rattle.pearl_tree.specs.declared.statement.PeriodEnd.TheVariants.{Until, During}
use Rattle.pearl_tree.specs.declared.statement.Period.{Period}
use Rattle.pearl_tree.specs.declared.statement.Start.{Start}
use Rattle.pearl_tree.specs.declared.statement.Start.TheVariants as start
use Rattle.pearl_tree.specs.declared.statement.Once.{Once}
use Rattle.pearl_tree.specs.declared.statement.Once.TheVariants as once
use Rattle.pearl_tree.specs.declared.statement.BodyDecl.{BodyDecl}
use Rattle.pearl_tree.specs.declared.statement.Stmt.{Stmt, Empty, Assign, Call, If', Case', Repeat', Exit, Begin', Return, Activate, Continue, Resume, OnTask, OnSemas, OnInterrupt, Put, Get, Send, Take, Row_of-Stmt, end_of-Stmt, more_of-Stmt}
use Rattle.pearl_tree.specs.declared.statement.If as if_
use Rattle.pearl_tree.specs.declared.statement.If.{Held-Case-otherwise, None', Some'}
use Rattle.pearl_tree.specs.declared.statement.Case as case_
use Rattle.pearl_tree.specs.declared.statement.Case.{Row_of-Branch, end_of-Branch, more_of-Branch}
use Rattle.pearl_tree.specs.declared.statement.Body.{Body}
use Rattle.pearl_tree.specs.declared.tree.TaskHead.{TaskHead}
use Rattle.pearl_tree.specs.declared.tree.TaskHead.TheVariants.{PrioFirst, MainFirst}
use Rattle.pearl_tree.specs.declared.tree.Decl.{Decl}
use Rattle.pearl_tree.specs.declared.tree.Decl.TheVariants as decl
use Rattle.pearl_tree.specs.declared.tree.ModuleName.{ModuleName}
use Rattle.pearl_tree.specs.declared.tree.ModuleName.TheVariants.{Bracketed, Bare}
use Rattle.pearl_tree.specs.declared.tree.Tree.{Tree}
use Rattle.pearl_tree.specs.declared.typing.Int.{Int}
use Rattle.pearl_tree.specs.declared.declaration.Prio.{Prio}
use Rattle.pearl_tree.specs.declared.token.Token.{Token}
use Rattle.pearl_tree.specs.declared.token.What.TheVariants as what
use Rattle.pearl_tree.specs.Tokens.{IsLawfulWhat, AreLawful}
use Rattle.pearl_tree.specs.Standing.{IsName, IsNumber, SpellsList, SpellsName, SpellsNumber, SpellsEach, SpellsMaybe, SpellsBracketedNumber}
use Rattle.pearl_tree.specs.Expressions.{SpellsSecs, SpellsSeconds, SpellsMinutes, SpellsDuration, SpellsLiteral, SpellsConst, SpellsTerms, SpellsPrimary, SpellsSelectors, SpellsSelector, SpellsSubscripts, SpellsMoreSubscripts, SpellsWhole, SpellsOwnRef}
use Rattle.pearl_tree.specs.Types.{SpellsNames, SpellsInt, SpellsUpper, SpellsBound, SpellsBounds, SpellsBasic, SpellsTyping, SpellsFields, SpellsMoreFields}
use Rattle.pearl_tree.specs.Formats.{SpellsFmt}
use Rattle.pearl_tree.specs.Declarations.{IsDeviceWord, SpellsDevice, SpellsPrio, SpellsItem, SpellsSema, SpellsDeclared, SpellsClass, SpellsSpec, SpellsParam}
use Rattle.pearl_tree.specs.Statements.{SpellsAfter, SpellsValue, SpellsFor, SpellsMaybeList, SpellsPeriodEnd, SpellsPeriod, SpellsStart, SpellsOnce, SpellsBodyDecl, SpellsStmt, SpellsStmts, SpellsAlternatives, SpellsMoreAlternatives, SpellsOtherwise, SpellsWholeBody}
use Rattle.pearl_tree.specs.Modules.{SpellsTaskHead, SpellsReturns, SpellsBlock, SpellsDecl, SpellsModuleName, SpellsSystem, SpellsTree, Spells}
use Rattle.pearl_tree.specs.Lawful.{IsLawfulName, IsLawfulNumber, AreLawfulNames, IsLawfulSecs, IsLawfulDuration, IsLawfulLiteral, IsLawfulConst, HasLawfulTerms, IsLawfulPrimary, AreLawfulSelectors, IsLawfulSelector, AreLawfulSubscripts, IsLawfulExpr, IsLawfulRef, IsLawfulFmt, IsLawfulBound, IsLawfulBasic, HasLawfulTyping, AreLawfulFields, IsLawfulDeviceWord, IsLawfulDevice, IsLawfulItem, IsLawfulSema, IsLawfulDeclared, IsLawfulClass, IsLawfulSpec, IsLawfulParam, IsLawfulPeriodEnd, IsLawfulPeriod, IsLawfulStart, IsLawfulOnce, IsLawfulBodyDecl, IsLawfulStmt, AreLawfulStmts, AreLawfulBranches, IsLawfulOtherwise, IsLawfulBody, IsLawfulTaskHead, IsLawfulDecl, IsLawfulModuleName, IsLawful}
use Rattle.pearl_tree.proofs.SpelledLists.{what_lawful, each_sure, list_sure, bracketed_sure, maybe_bracketed_sure, maybe_headed_sure, maybe_sure}

module _ (tokens : List Token) (all : All (λ token. IsLawfulWhat token.what) tokens) where
  pub name_lawful : (k : ℕ) (name : Name) → IsName tokens k name → IsLawfulName name
  name_lawful k name h = what_lawful tokens all k (what.Id name.text) h.0

  pub number_lawful : (k : ℕ) (number : Number) → IsNumber tokens k number → IsLawfulNumber number
  number_lawful k number h = what_lawful tokens all k (what.Number number.value) h.0

  one_name : (from : ℕ) (name : Name) (to : ℕ) → SpellsName tokens from name to → IsLawfulName name
  one_name from name to h = name_lawful from name h.0

  one_number : (from : ℕ) (number : Number) (to : ℕ) → SpellsNumber tokens from number to → IsLawfulNumber number
  one_number from number to h = number_lawful from number h.0

  bracketed_number : (from : ℕ) (number : Number) (to : ℕ) → SpellsBracketedNumber tokens from number to → IsLawfulNumber number
  bracketed_number from number to h = number_lawful (from + 1) number h.1

  pub names_lawful : (from : ℕ) (names : Names) (to : ℕ) → SpellsNames tokens from names to → AreLawfulNames names
  names_lawful from (One name) to h = one_name from name to h
  names_lawful from (Several names place) to h =
      bracketed_sure IsLawfulName (SpellsName tokens) one_name tokens names.items.items from to h.1

  pub secs_lawful : (from : ℕ) (part : Secs) (to : ℕ) → SpellsSecs tokens from part to → IsLawfulSecs part
  secs_lawful from (secs.Number number) to h = one_number from number to h
  secs_lawful from (secs.Decimal whole thousandths place) to h =
      what_lawful tokens all from (what.Decimal whole thousandths) h.0

  seconds_lawful : (from : ℕ) (part : Secs) (to : ℕ) → SpellsSeconds tokens from part to → IsLawfulSecs part
  seconds_lawful from part to h = secs_lawful from part h.0 h.1

  minutes_lawful : (from : ℕ) (number : Number) (to : ℕ) → SpellsMinutes tokens from number to → IsLawfulNumber number
  minutes_lawful from number to h = number_lawful from number h.0

  pub duration_lawful : (from : ℕ) (part : Duration) (to : ℕ) → SpellsDuration tokens from part to → IsLawfulDuration part
  duration_lawful from (Hours hours minutes seconds place) to h = (
    number_lawful from hours h.2,
    maybe_sure IsLawfulNumber (SpellsMinutes tokens) minutes_lawful minutes (from + 2) h.0 h.4,
    maybe_sure IsLawfulSecs (SpellsSeconds tokens) seconds_lawful seconds h.0 to h.5,
  )
  duration_lawful from (Minutes minutes seconds place) to h = (
    number_lawful from minutes h.1,
    maybe_sure IsLawfulSecs (SpellsSeconds tokens) seconds_lawful seconds (from + 2) to h.3,
  )
  duration_lawful from (Seconds seconds place) to h = seconds_lawful from seconds to h.1

  pub literal_lawful : (from : ℕ) (part : Literal) (to : ℕ) → SpellsLiteral tokens from part to → IsLawfulLiteral part
  literal_lawful from (literal.Number number) to h = one_number from number to h
  literal_lawful from (literal.Bits len value place) to h = what_lawful tokens all from (what.Bits len value) h.0
  literal_lawful from (literal.Text text place) to h = what_lawful tokens all from (what.Text text.value) h.0
  literal_lawful from (literal.Clock milliseconds place) to h = what_lawful tokens all from (what.Clock milliseconds) h.0
  literal_lawful from (literal.Duration duration) to h = duration_lawful from duration.value to h

  pub const_lawful : (from : ℕ) (constant : Const) (to : ℕ) → SpellsConst tokens from constant to → IsLawfulConst constant
  const_lawful from constant to h = literal_lawful h.0 constant.literal to h.3

  mutual
    pub terms_lawful : (depth from : ℕ) (expr : Expr) (to : ℕ) → SpellsTerms tokens depth from expr to → HasLawfulTerms depth expr
    terms_lawful depth from (Operand' monadics part place) to h = (h.2, primary_lawful depth h.0 part to h.4)
    terms_lawful depth from (Dyadic' _ left dyadic _ right place) to h =
        (terms_lawful depth from left h.0 h.2, terms_lawful depth (h.0 + 1) right to h.5)

    pub primary_lawful : (depth from : ℕ) (part : Primary) (to : ℕ) → SpellsPrimary tokens depth from part to → IsLawfulPrimary depth part
    primary_lawful depth from (primary.Literal part) to h = literal_lawful from part to h
    primary_lawful depth from (primary.Ref' name _ selectors place) to h =
        (name_lawful from name h.1, selectors_lawful depth (from + 1) _ selectors to h.2)
    primary_lawful depth from (primary.Group' _ inner place) to h =
        (h.3, (terms_lawful (depth - 1) (from + 1) inner h.0 h.4.0, h.4.1))
    primary_lawful depth from (primary.Now place) to h = tt
    primary_lawful depth from (primary.Try name place) to h = name_lawful (from + 1) name h.2
    primary_lawful depth from (primary.Limit' dimension side _ name _ selectors ref_place place) to h = (
      maybe_sure IsLawfulNumber (SpellsNumber tokens) one_number dimension from h.0 h.2,
      (name_lawful (h.0 + 1) name h.4.1, selectors_lawful depth (h.0 + 1 + 1) _ selectors to h.4.2),
    )

    selectors_lawful : (depth from : ℕ) (n : _) (row : Row_of-Selector n) (to : ℕ) → SpellsSelectors tokens depth from row to →
        AreLawfulSelectors depth row
    selectors_lawful depth from _ end_of-Selector to h = tt
    selectors_lawful depth from _ (more_of-Selector selector rest) to h =
        (selector_lawful depth from selector h.0 h.1, selectors_lawful depth h.0 _ rest to h.2)

    pub selector_lawful : (depth from : ℕ) (selector : Selector) (to : ℕ) → SpellsSelector tokens depth from selector to →
        IsLawfulSelector depth selector
    selector_lawful depth from (Subscripts' _ subscripts place) to h =
        (h.3, subscripts_lawful (depth - 1) (from + 1) _ subscripts h.0 h.4)
    selector_lawful depth from (Component name place) to h = name_lawful (from + 1) name h.2

    subscripts_lawful : (depth from : ℕ) (n : _) (row : Row_of-Expr n) (to : ℕ) → SpellsSubscripts tokens depth from row to →
        AreLawfulSubscripts depth row
    subscripts_lawful depth from _ end_of-Expr to h = absurd h
    subscripts_lawful depth from _ (more_of-Expr expr rest) to h =
        ((terms_lawful depth from expr h.0 h.1.0, h.1.1), more_subscripts_lawful depth h.0 _ rest to h.2)

    more_subscripts_lawful : (depth from : ℕ) (n : _) (row : Row_of-Expr n) (to : ℕ) → SpellsMoreSubscripts tokens depth from row to →
        AreLawfulSubscripts depth row
    more_subscripts_lawful depth from _ end_of-Expr to h = tt
    more_subscripts_lawful depth from _ (more_of-Expr expr rest) to h =
        ((terms_lawful depth (from + 1) expr h.0 h.2.0, h.2.1), more_subscripts_lawful depth h.0 _ rest to h.3)

  pub expr_lawful : (from : ℕ) (expr : Expr) (to : ℕ) → SpellsWhole tokens from expr to → IsLawfulExpr expr
  expr_lawful from expr to h = (terms_lawful 32 from expr to h.0, h.1)

  pub ref_lawful : (from : ℕ) (reference : Ref) (to : ℕ) → SpellsOwnRef tokens from reference to → IsLawfulRef reference
  ref_lawful from reference to h = (
    name_lawful from reference.name h.1,
    each_sure (IsLawfulSelector 33) (SpellsSelector tokens 33) (selector_lawful 33) reference.selectors.items.items (from + 1) to h.2,
  )

  pub fmt_lawful : (from : ℕ) (fmt : Fmt) (to : ℕ) → SpellsFmt tokens from fmt to → IsLawfulFmt fmt
  fmt_lawful from (Free code width place) to h =
      maybe_sure IsLawfulNumber (SpellsBracketedNumber tokens) bracketed_number width (from + 1) to h.2
  fmt_lawful from (Wide code width place) to h = bracketed_number (from + 1) width to h.2

  int_lawful : (from : ℕ) (int : Int) (to : ℕ) → SpellsInt tokens from int to → IsLawfulNumber int.number
  int_lawful from int to h = number_lawful h.0 int.number h.3

  upper_lawful : (from : ℕ) (int : Int) (to : ℕ) → SpellsUpper tokens from int to → IsLawfulNumber int.number
  upper_lawful from int to h = int_lawful (from + 1) int to h.1

  pub bound_lawful : (from : ℕ) (bound : Bound) (to : ℕ) → SpellsBound tokens from bound to → IsLawfulBound bound
  bound_lawful from bound to h = (
    int_lawful from bound.first h.0 h.2,
    maybe_sure (λ (int : Int). IsLawfulNumber int.number) (SpellsUpper tokens) upper_lawful bound.second h.0 to h.3,
  )

  pub bounds_lawful : (from : ℕ) (bounds : Parts Bound) (to : ℕ) → SpellsBounds tokens from bounds to → All IsLawfulBound bounds.items.items
  bounds_lawful from bounds to h = maybe_bracketed_sure IsLawfulBound (SpellsBound tokens) bound_lawful tokens bounds.items.items from to h

  pub basic_lawful : (from : ℕ) (part : Basic) (to : ℕ) → SpellsBasic tokens from part to → IsLawfulBasic part
  basic_lawful from (basic.Sized sort number place) to h =
      maybe_sure IsLawfulNumber (SpellsBracketedNumber tokens) bracketed_number number (from + 1) to h.2
  basic_lawful from (basic.Clock place) to h = tt
  basic_lawful from (basic.Duration place) to h = tt

  mutual
    pub typing_lawful : (depth from : ℕ) (part : Typing) (to : ℕ) → SpellsTyping tokens depth from part to → HasLawfulTyping depth part
    typing_lawful depth from (typing.Basic part) to h = basic_lawful from part to h
    typing_lawful depth from (typing.Struct' _ fields place) to h = (h.3, fields_lawful (depth - 1) (from + 2) _ fields h.0 h.5)
    typing_lawful depth from (typing.Named name) to h = one_name from name to h

    fields_lawful : (depth from : ℕ) (n : _) (row : Row_of-Field n) (to : ℕ) → SpellsFields tokens depth from row to → AreLawfulFields depth row
    fields_lawful depth from _ end_of-Field to h = absurd h
    fields_lawful depth from _ (more_of-Field names bounds part place rest) to h = (
      (names_lawful from names h.1.0 h.1.3, bounds_lawful h.1.0 bounds h.1.1 h.1.4, typing_lawful depth h.1.1 part h.0 h.1.5),
      more_fields_lawful depth h.0 _ rest to h.2,
    )

    more_fields_lawful : (depth from : ℕ) (n : _) (row : Row_of-Field n) (to : ℕ) → SpellsMoreFields tokens depth from row to → AreLawfulFields depth row
    more_fields_lawful depth from _ end_of-Field to h = tt
    more_fields_lawful depth from _ (more_of-Field names bounds part place rest) to h = (
      (names_lawful (from + 1) names h.2.0 h.2.3, bounds_lawful h.2.0 bounds h.2.1 h.2.4, typing_lawful depth h.2.1 part h.0 h.2.5),
      more_fields_lawful depth h.0 _ rest to h.3,
    )

  device_word_lawful : (k : ℕ) (word : DeviceWord) → IsDeviceWord tokens k word → IsLawfulDeviceWord word
  device_word_lawful k (device.Id name) h = name_lawful k name h
  device_word_lawful k (device.Interrupt place) h = tt

  pub device_lawful : (from : ℕ) (part : Device) (to : ℕ) → SpellsDevice tokens from part to → IsLawfulDevice part
  device_lawful from part to h =
      (name_lawful from part.name h.1, device_word_lawful (from + 2) part.word h.3, number_lawful (from + 4) part.number h.5)

  pub item_lawful : (from : ℕ) (item : Item) (to : ℕ) → SpellsItem tokens from item to → IsLawfulItem item
  item_lawful from item to h = (
    names_lawful from item.names h.0 h.5,
    bounds_lawful h.0 item.bounds h.1 h.6,
    typing_lawful 8 h.2 item.typing h.3 h.8,
    maybe_headed_sure IsLawfulConst (SpellsConst tokens) const_lawful tokens _ item.init.items.items h.3 to h.9,
  )

  pub sema_lawful : (from : ℕ) (sema : Sema) (to : ℕ) → SpellsSema tokens from sema to → IsLawfulSema sema
  sema_lawful from sema to h = (
    names_lawful from sema.names h.0 h.2,
    maybe_headed_sure IsLawfulNumber (SpellsNumber tokens) one_number tokens _ sema.preset.items.items (h.0 + 1) to h.4,
  )

  pub declared_lawful : (from : ℕ) (part : Declared) (to : ℕ) → SpellsDeclared tokens from part to → IsLawfulDeclared part
  declared_lawful from (declared.Item item) to h = item_lawful from item to h
  declared_lawful from (declared.Sema sema) to h = sema_lawful from sema to h

  class_lawful : (from : ℕ) (part : Class) (to : ℕ) → SpellsClass tokens from part to → IsLawfulClass part
  class_lawful from (class.Alphic place) to h = tt
  class_lawful from (class.Basic part place) to h = basic_lawful (from + 1) part to h.2

  pub spec_lawful : (from : ℕ) (part : Spec) (to : ℕ) → SpellsSpec tokens from part to → IsLawfulSpec part
  spec_lawful from (spec.Interrupt names place) to h = names_lawful from names h.0 h.2
  spec_lawful from (spec.Dation names direction class control place) to h =
      (names_lawful from names h.0 h.3, class_lawful (h.0 + 2) class h.1 h.6)

  pub param_lawful : (from : ℕ) (param : Param) (to : ℕ) → SpellsParam tokens from param to → IsLawfulParam param
  param_lawful from param to h = (names_lawful from param.names h.0 h.3, basic_lawful h.0 param.basic h.1 h.4)

  after_lawful : (word from : ℕ) (expr : Expr) (to : ℕ) → SpellsAfter tokens word from expr to → IsLawfulExpr expr
  after_lawful word from expr to h = expr_lawful (from + 1) expr to h.1

  maybe_after : (word from : ℕ) (o : Option Expr) (to : ℕ) → SpellsMaybe (SpellsAfter tokens word) from o to → IfSome o IsLawfulExpr
  maybe_after word from o to h = maybe_sure IsLawfulExpr (SpellsAfter tokens word) (after_lawful word) o from to h

  value_lawful : (from : ℕ) (expr : Expr) (to : ℕ) → SpellsValue tokens from expr to → IsLawfulExpr expr
  value_lawful from expr to h = expr_lawful (from + 1) expr h.0 h.2

  for_lawful : (from : ℕ) (name : Name) (to : ℕ) → SpellsFor tokens from name to → IsLawfulName name
  for_lawful from name to h = name_lawful (from + 1) name h.1

  period_end_lawful : (from : ℕ) (part : PeriodEnd) (to : ℕ) → SpellsPeriodEnd tokens from part to → IsLawfulPeriodEnd part
  period_end_lawful from (Until time place) to h = after_lawful _ from time to h.1
  period_end_lawful from (During duration place) to h = after_lawful _ from duration to h.1

  pub period_lawful : (from : ℕ) (part : Period) (to : ℕ) → SpellsPeriod tokens from part to → IsLawfulPeriod part
  period_lawful from part to h = (
    after_lawful _ from part.duration h.0 h.2,
    maybe_sure IsLawfulPeriodEnd (SpellsPeriodEnd tokens) period_end_lawful part.end h.0 to h.3,
  )

  maybe_period : (from : ℕ) (o : Option Period) (to : ℕ) → SpellsMaybe (SpellsPeriod tokens) from o to → IfSome o IsLawfulPeriod
  maybe_period from o to h = maybe_sure IsLawfulPeriod (SpellsPeriod tokens) period_lawful o from to h

  pub start_lawful : (from : ℕ) (part : Start) (to : ℕ) → SpellsStart tokens from part to → IsLawfulStart part
  start_lawful from (start.At time period place) to h = (after_lawful _ from time h.0 h.2, maybe_period h.0 period to h.3)
  start_lawful from (start.After duration period place) to h =
      (after_lawful _ from duration h.0 h.2, maybe_period h.0 period to h.3)
  start_lawful from (start.When interrupt after period place) to h =
      (name_lawful (from + 1) interrupt h.3, maybe_after _ (from + 2) after h.0 h.4, maybe_period h.0 period to h.5)
  start_lawful from (start.All period) to h = period_lawful from period to h

  pub once_lawful : (from : ℕ) (part : Once) (to : ℕ) → SpellsOnce tokens from part to → IsLawfulOnce part
  once_lawful from (once.At time place) to h = after_lawful _ from time to h.1
  once_lawful from (once.After duration place) to h = after_lawful _ from duration to h.1
  once_lawful from (once.When interrupt place) to h = name_lawful (from + 1) interrupt h.2

  body_decl_lawful : (from : ℕ) (part : BodyDecl) (to : ℕ) → SpellsBodyDecl tokens from part to → IsLawfulBodyDecl part
  body_decl_lawful from part to h = list_sure IsLawfulItem (SpellsItem tokens) item_lawful tokens part.items.items.items (from + 1) h.0 h.3

  decls_lawful : (from : ℕ) (parts : List BodyDecl) (to : ℕ) → SpellsEach (SpellsBodyDecl tokens) from parts to → All IsLawfulBodyDecl parts
  decls_lawful from parts to h = each_sure IsLawfulBodyDecl (SpellsBodyDecl tokens) body_decl_lawful parts from to h

  fmts_lawful : (from : ℕ) (parts : List Fmt) (to : ℕ) → SpellsList tokens (SpellsFmt tokens) from parts to → All IsLawfulFmt parts
  fmts_lawful from parts to h = list_sure IsLawfulFmt (SpellsFmt tokens) fmt_lawful tokens parts from to h

  exprs_lawful : (from : ℕ) (parts : List Expr) (to : ℕ) → SpellsMaybeList tokens (SpellsWhole tokens) from parts to → All IsLawfulExpr parts
  exprs_lawful from [] to h = All-nil IsLawfulExpr
  exprs_lawful from (x ∷ xs) to h = list_sure IsLawfulExpr (SpellsWhole tokens) expr_lawful tokens (x ∷ xs) from to h

  refs_lawful : (from : ℕ) (parts : List Ref) (to : ℕ) → SpellsMaybeList tokens (SpellsOwnRef tokens) from parts to → All IsLawfulRef parts
  refs_lawful from [] to h = All-nil IsLawfulRef
  refs_lawful from (x ∷ xs) to h = list_sure IsLawfulRef (SpellsOwnRef tokens) ref_lawful tokens (x ∷ xs) from to h

  mutual
    pub stmt_lawful : (depth from : ℕ) (statement : Stmt) (to : ℕ) → SpellsStmt tokens depth from statement to → IsLawfulStmt depth statement
    stmt_lawful depth from (Empty place) to h = tt
    stmt_lawful depth from (Assign part) to h =
        (ref_lawful from part.value.target h.0 h.3, expr_lawful (h.0 + 1) part.value.value h.1 h.5)
    stmt_lawful depth from (Call part) to h = (
      name_lawful h.0 part.value.name h.4,
      maybe_bracketed_sure IsLawfulExpr (SpellsWhole tokens) expr_lawful tokens part.value.arguments.items.items (h.0 + 1) h.1 h.5,
    )
    stmt_lawful depth from (If' _ (if_.If' condition _ statements otherwise place)) to h = (
      h.4,
      after_lawful _ from condition h.0 h.5,
      stmts_lawful (depth - 1) (h.0 + 1) _ statements h.1 h.7,
      otherwise_lawful (depth - 1) _ h.1 otherwise h.2 h.8,
    )
    stmt_lawful depth from (Case' _ (case_.Case' selector _ alternatives otherwise place)) to h = (
      h.4,
      after_lawful _ from selector h.0 h.5,
      alternatives_lawful (depth - 1) h.0 _ alternatives h.1 h.6,
      otherwise_lawful (depth - 1) _ h.1 otherwise h.2 h.7,
    )
    stmt_lawful depth from (Repeat' _ control begin step end condition declarations _ statements body_place place) to h = (
      h.7,
      maybe_sure IsLawfulName (SpellsFor tokens) for_lawful control from h.0 h.8,
      maybe_after _ h.0 begin h.1 h.9,
      maybe_after _ h.1 step h.2 h.10,
      maybe_after _ h.2 end h.3 h.11,
      maybe_after _ h.3 condition h.4 h.12,
      (
        decls_lawful (h.4 + 1) declarations.items.items h.14.0 h.14.2,
        stmts_lawful (depth - 1) h.14.0 _ statements h.5 h.14.3,
      ),
    )
    stmt_lawful depth from (Exit place) to h = tt
    stmt_lawful depth from (Begin' _ declarations _ statements body_place place) to h = (
      h.2,
      (
        decls_lawful (from + 1) declarations.items.items h.4.0 h.4.2,
        stmts_lawful (depth - 1) h.4.0 _ statements h.0 h.4.3,
      ),
    )
    stmt_lawful depth from (Return part) to h =
        maybe_sure IsLawfulExpr (SpellsValue tokens) value_lawful part.value.value (from + 1) h.0 h.3
    stmt_lawful depth from (Activate part) to h = (
      maybe_sure IsLawfulStart (SpellsStart tokens) start_lawful part.value.start from h.0 h.3,
      name_lawful (h.0 + 1) part.value.task h.5,
      maybe_after _ (h.0 + 2) part.value.priority h.1 h.6,
    )
    stmt_lawful depth from (Continue part) to h =
        (maybe_sure IsLawfulOnce (SpellsOnce tokens) once_lawful part.value.once from h.0 h.2, name_lawful (h.0 + 1) part.value.task h.4)
    stmt_lawful depth from (Resume part) to h = once_lawful from part.value.once h.0 h.2
    stmt_lawful depth from (OnTask part) to h =
        maybe_sure IsLawfulName (SpellsName tokens) one_name part.value.task (from + 1) h.0 h.3
    stmt_lawful depth from (OnSemas part) to h =
        list_sure IsLawfulName (SpellsName tokens) one_name tokens part.value.names.items.items (from + 1) h.0 h.3
    stmt_lawful depth from (OnInterrupt part) to h = name_lawful (from + 1) part.value.name h.2
    stmt_lawful depth from (Put part) to h = (
      exprs_lawful (from + 1) part.value.values.items.items h.0 h.4,
      name_lawful (h.0 + 1) part.value.dation h.6,
      fmts_lawful (h.0 + 3) part.value.formats.items.items h.1 h.8,
    )
    stmt_lawful depth from (Get part) to h = (
      refs_lawful (from + 1) part.value.targets.items.items h.0 h.4,
      name_lawful (h.0 + 1) part.value.dation h.6,
      fmts_lawful (h.0 + 3) part.value.formats.items.items h.1 h.8,
    )
    stmt_lawful depth from (Send part) to h =
        (after_lawful _ from part.value.value h.0 h.2, name_lawful (h.0 + 1) part.value.dation h.4)
    stmt_lawful depth from (Take part) to h =
        (ref_lawful (from + 1) part.value.target h.0 h.3, name_lawful (h.0 + 1) part.value.dation h.5)

    stmts_lawful : (depth from : ℕ) (n : _) (row : Row_of-Stmt n) (to : ℕ) → SpellsStmts tokens depth from row to → AreLawfulStmts depth row
    stmts_lawful depth from _ end_of-Stmt to h = tt
    stmts_lawful depth from _ (more_of-Stmt statement rest) to h =
        (stmt_lawful depth from statement h.0 h.1, stmts_lawful depth h.0 _ rest to h.2)

    alternatives_lawful : (depth from : ℕ) (n : _) (row : Row_of-Branch n) (to : ℕ) → SpellsAlternatives tokens depth from row to →
        AreLawfulBranches depth row
    alternatives_lawful depth from _ end_of-Branch to h = absurd h
    alternatives_lawful depth from _ (more_of-Branch _ statements place rest) to h =
        (stmts_lawful depth (from + 1) _ statements h.0 h.1.2, more_alternatives_lawful depth h.0 _ rest to h.2)

    more_alternatives_lawful : (depth from : ℕ) (n : _) (row : Row_of-Branch n) (to : ℕ) → SpellsMoreAlternatives tokens depth from row to →
        AreLawfulBranches depth row
    more_alternatives_lawful depth from _ end_of-Branch to h = tt
    more_alternatives_lawful depth from _ (more_of-Branch _ statements place rest) to h =
        (stmts_lawful depth (from + 1) _ statements h.0 h.1.2, more_alternatives_lawful depth h.0 _ rest to h.2)

    otherwise_lawful : (depth word from : ℕ) (otherwise : Held-Case-otherwise) (to : ℕ) → SpellsOtherwise tokens depth word from otherwise to →
        IsLawfulOtherwise depth otherwise
    otherwise_lawful depth word from None' to h = tt
    otherwise_lawful depth word from (Some' _ statements place) to h = stmts_lawful depth (from + 1) _ statements to h.2

  pub body_lawful : (from : ℕ) (body : Body) (to : ℕ) → SpellsWholeBody tokens from body to → IsLawfulBody body
  body_lawful from body to h = (
    decls_lawful from body.declarations.items.items h.0 h.2,
    each_sure (IsLawfulStmt 32) (SpellsStmt tokens 32) (stmt_lawful 32) body.statements.items.items h.0 to h.3,
  )

  block_lawful : (from : ℕ) (body : Body) (to : ℕ) → SpellsBlock tokens from body to → IsLawfulBody body
  block_lawful from body to h = body_lawful (from + 1) body h.0 h.2

  prio_lawful : (from : ℕ) (prio : Prio) (to : ℕ) → SpellsPrio tokens from prio to → IsLawfulNumber prio.number
  prio_lawful from prio to h = number_lawful (from + 1) prio.number h.2

  head_lawful : (from : ℕ) (head : TaskHead) (to : ℕ) → SpellsTaskHead tokens from head to → IsLawfulTaskHead head
  head_lawful from (PrioFirst prio main) to h =
      maybe_sure (λ (prio : Prio). IsLawfulNumber prio.number) (SpellsPrio tokens) prio_lawful prio from h.0 h.1
  head_lawful from (MainFirst prio) to h = prio_lawful (from + 1) prio to h.1

  returns_lawful : (from : ℕ) (part : Basic) (to : ℕ) → SpellsReturns tokens from part to → IsLawfulBasic part
  returns_lawful from part to h = basic_lawful (from + 2) part h.0 h.3

  pub decl_lawful : (from : ℕ) (part : Decl) (to : ℕ) → SpellsDecl tokens from part to → IsLawfulDecl part
  decl_lawful from (decl.Length sort number place) to h = number_lawful (from + 3) number h.4
  decl_lawful from (decl.Type name part place) to h =
      (name_lawful (from + 1) name h.3, typing_lawful 8 (from + 2) part h.0 h.4)
  decl_lawful from (decl.Declare parts place) to h =
      list_sure IsLawfulDeclared (SpellsDeclared tokens) declared_lawful tokens parts.items.items (from + 1) h.0 h.3
  decl_lawful from (decl.Specify specs place) to h =
      list_sure IsLawfulSpec (SpellsSpec tokens) spec_lawful tokens specs.items.items (from + 1) h.0 h.3
  decl_lawful from (decl.Task name head body place) to h =
      (name_lawful from name h.2, head_lawful (from + 3) head h.0 h.5, block_lawful h.0 body to h.6)
  decl_lawful from (decl.Proc name params returns body place) to h = (
    name_lawful from name h.3,
    maybe_bracketed_sure IsLawfulParam (SpellsParam tokens) param_lawful tokens params.items.items (from + 3) h.0 h.6,
    maybe_sure IsLawfulBasic (SpellsReturns tokens) returns_lawful returns h.0 h.1 h.7,
    block_lawful h.1 body to h.8,
  )

  module_name_lawful : (from : ℕ) (name : ModuleName) (to : ℕ) → SpellsModuleName tokens from name to → IsLawfulModuleName name
  module_name_lawful from (Bracketed name) to h = name_lawful (from + 1) name h.1
  module_name_lawful from (Bare name) to h = one_name from name to h

  system_lawful : (from : ℕ) (devices : Parts Device) (to : ℕ) → SpellsSystem tokens from devices to → All IsLawfulDevice devices.items.items
  system_lawful from devices to h =
      each_sure IsLawfulDevice (SpellsDevice tokens) device_lawful devices.items.items (from + 2) to h.2

  tree_lawful : (from : ℕ) (tree : Tree) (to : ℕ) → SpellsTree tokens from tree to → IsLawful tree
  tree_lawful from tree to h = record {
    name = maybe_sure IsLawfulModuleName (SpellsModuleName tokens) module_name_lawful tree.name (from + 1) h.0 h.5;
    system = maybe_sure (λ (devices : Parts Device). All IsLawfulDevice devices.items.items) (SpellsSystem tokens) system_lawful tree.system (h.0 + 1) h.1 h.7;
    declarations = each_sure IsLawfulDecl (SpellsDecl tokens) decl_lawful tree.declarations.items.items (h.1 + 2) h.2 h.10;
  }

-- the whole tree
pub spelled_lawful : (tree : Tree) (tokens : List Token) → AreLawful tokens → Spells tree tokens → IsLawful tree
spelled_lawful tree tokens lawful h = tree_lawful tokens lawful.spelled 0 tree (length tokens) h.spells
