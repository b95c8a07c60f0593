-- The tokens of a lawful tree are lawful where its hours fit, and so are those of each part of one.
use Rattle.std.proofs.Common.{◌≡◌, sym, subst, ℕ, ◌-◌, ◌<◌, ◌/◌, ◌%◌, List, ◌∷◌, All, Bool, true, false, [], Option, Some, None, IfSome, arith}
use Rattle.std.specs.List.{flat_map}
use Rattle.pearl_tree.specs.declared.parts.Parts.{Parts}
use Rattle.pearl_tree.specs.declared.name.Name.{Name}
use Rattle.pearl_tree.specs.declared.name.Names.{Names}
use Rattle.pearl_tree.specs.declared.name.Names.TheVariants.{One, Several}
use Rattle.pearl_tree.specs.declared.literal.Literal.{Literal}
use Rattle.pearl_tree.specs.declared.literal.Literal.TheVariants as literal
use Rattle.pearl_tree.specs.declared.literal.Const.{Const}
use Rattle.pearl_tree.specs.declared.expression.Expr.{Expr, Operand', Dyadic'}
use Rattle.pearl_tree.specs.declared.expression.Primary.{Primary}
use Rattle.pearl_tree.specs.declared.expression.Primary as primary
use Rattle.pearl_tree.specs.declared.expression.Selector.{Selector, Subscripts', Component, Row_of-Expr, end_of-Expr, more_of-Expr}
use Rattle.pearl_tree.specs.declared.expression.Ref.{Ref, Row_of-Selector, end_of-Selector, more_of-Selector}
use Rattle.pearl_tree.specs.declared.format.Fmt.{Fmt}
use Rattle.pearl_tree.specs.declared.format.Fmt.TheVariants.{Free, Wide}
use Rattle.pearl_tree.specs.declared.typing.Bound.{Bound}
use Rattle.pearl_tree.specs.declared.typing.Basic.{Basic}
use Rattle.pearl_tree.specs.declared.typing.Basic.TheVariants as basic
use Rattle.pearl_tree.specs.declared.typing.Typing.{Typing, Row_of-Field, end_of-Field, more_of-Field}
use Rattle.pearl_tree.specs.declared.typing.Typing as typing
use Rattle.pearl_tree.specs.declared.declaration.DeviceWord.{DeviceWord}
use Rattle.pearl_tree.specs.declared.declaration.DeviceWord.TheVariants as device
use Rattle.pearl_tree.specs.declared.declaration.Device.{Device}
use Rattle.pearl_tree.specs.declared.declaration.Item.{Item}
use Rattle.pearl_tree.specs.declared.declaration.Sema.{Sema}
use Rattle.pearl_tree.specs.declared.declaration.Declared.{Declared}
use Rattle.pearl_tree.specs.declared.declaration.Declared.TheVariants as declared
use Rattle.pearl_tree.specs.declared.declaration.Class.{Class}
use Rattle.pearl_tree.specs.declared.declaration.Class.TheVariants as class
use Rattle.pearl_tree.specs.declared.declaration.Spec.{Spec}
use Rattle.pearl_tree.specs.declared.declaration.Spec.TheVariants as spec
use Rattle.pearl_tree.specs.declared.declaration.Param.{Param}
use Rattle.pearl_tree.specs.declared.statement.PeriodEnd.{PeriodEnd}
use Rattle.pearl_tree.specs.declared.statement.PeriodEnd.TheVariants.{Until, During}
use Rattle.pearl_tree.specs.declared.statement.Period.{Period}
use Rattle.pearl_tree.specs.declared.statement.Start.{Start}
use Rattle.pearl_tree.specs.declared.statement.Start.TheVariants as start
use Rattle.pearl_tree.specs.declared.statement.Once.{Once}
use Rattle.pearl_tree.specs.declared.statement.Once.TheVariants as once
use Rattle.pearl_tree.specs.declared.statement.BodyDecl.{BodyDecl}
use Rattle.pearl_tree.specs.declared.statement.Stmt.{Stmt, Empty, Assign, Call, If', Case', Repeat', Exit, Begin', Return, Activate, Continue, Resume, OnTask, OnSemas, OnInterrupt, Put, Get, Send, Take, Row_of-Stmt, end_of-Stmt, more_of-Stmt}
use Rattle.pearl_tree.specs.declared.statement.If as if_
use Rattle.pearl_tree.specs.declared.statement.If.{Held-Case-otherwise, None', Some'}
use Rattle.pearl_tree.specs.declared.statement.Case as case_
use Rattle.pearl_tree.specs.declared.statement.Case.{Row_of-Branch, end_of-Branch, more_of-Branch}
use Rattle.pearl_tree.specs.declared.statement.Body.{Body}
use Rattle.pearl_tree.specs.declared.tree.TaskHead.{TaskHead}
use Rattle.pearl_tree.specs.declared.tree.TaskHead.TheVariants.{PrioFirst, MainFirst}
use Rattle.pearl_tree.specs.declared.tree.Decl.{Decl}
use Rattle.pearl_tree.specs.declared.tree.Decl.TheVariants as decl
use Rattle.pearl_tree.specs.declared.tree.ModuleName.{ModuleName}
use Rattle.pearl_tree.specs.declared.tree.ModuleName.TheVariants.{Bracketed, Bare}
use Rattle.pearl_tree.specs.declared.tree.Tree.{Tree}
use Rattle.pearl_tree.specs.declared.typing.Int.{Int}
use Rattle.pearl_tree.specs.declared.declaration.Prio.{Prio}
use Rattle.pearl_tree.specs.declared.token.What.TheVariants as what
use Rattle.pearl_tree.specs.declared.literal.Sign.{Sign}
use Rattle.pearl_tree.specs.declared.literal.Sign.TheVariants as sign
use Rattle.pearl_value.specs.declared.operator.Monad.{Monad}
use Rattle.pearl_value.specs.declared.operator.Monad.TheVariants as monad
use Rattle.pearl_tree.specs.declared.expression.Monadic.{Monadic}
use Rattle.pearl_value.specs.declared.operator.Dyad.{Dyad}
use Rattle.pearl_value.specs.declared.operator.Dyad.TheVariants as dyad
use Rattle.pearl_tree.specs.declared.expression.Side.{Side}
use Rattle.pearl_tree.specs.declared.expression.Side.TheVariants.{Lower, Upper}
use Rattle.pearl_tree.specs.declared.typing.Sort.{Sort}
use Rattle.pearl_tree.specs.declared.typing.Sort.TheVariants.{Fixed, Bit, Char}
use Rattle.pearl_value.specs.declared.device.Direction.{Direction}
use Rattle.pearl_value.specs.declared.device.Direction.TheVariants.{In, Out, InOut}
use Rattle.pearl_tree.specs.declared.statement.TaskWord.{TaskWord}
use Rattle.pearl_tree.specs.declared.statement.TaskWord.TheVariants.{Suspend, Terminate, Prevent}
use Rattle.pearl_tree.specs.declared.statement.SemaWord.{SemaWord}
use Rattle.pearl_tree.specs.declared.statement.SemaWord.TheVariants.{Request, Release}
use Rattle.pearl_tree.specs.declared.statement.InterruptWord.{InterruptWord}
use Rattle.pearl_tree.specs.declared.statement.InterruptWord.TheVariants.{Enable, Disable, Trigger}
use Rattle.pearl_tree.specs.declared.symbol.TheConstants as s
use Rattle.pearl_tree.specs.declared.word_code.TheConstants as w
use Rattle.pearl_tree.specs.Words.{code_count}
use Rattle.pearl_tree.specs.Durations.{milliseconds_of}
use Rattle.pearl_tree.specs.Tokens.{IsNumberValue}
use Rattle.pearl_tree.specs.Expressions.{monad_what, side_word}
use Rattle.pearl_tree.specs.ShownLiterals.{shown_literal}
use Rattle.pearl_tree.specs.Types.{sort_word}
use Rattle.pearl_tree.specs.Declarations.{direction_word}
use Rattle.pearl_tree.specs.Statements.{task_word, sema_word, interrupt_word}
use Rattle.pearl_tree.specs.Lawful.{IsLawfulName, IsLawfulNumber, AreLawfulNames, IsLawfulLiteral, IsLawfulConst, HasLawfulTerms, IsLawfulPrimary, AreLawfulSelectors, IsLawfulSelector, AreLawfulSubscripts, IsLawfulExpr, IsLawfulRef, IsLawfulFmt, IsLawfulBound, IsLawfulBasic, HasLawfulTyping, AreLawfulFields, IsLawfulDeviceWord, IsLawfulDevice, IsLawfulItem, IsLawfulSema, IsLawfulDeclared, IsLawfulClass, IsLawfulSpec, IsLawfulParam, IsLawfulPeriodEnd, IsLawfulPeriod, IsLawfulStart, IsLawfulOnce, IsLawfulBodyDecl, IsLawfulStmt, AreLawfulStmts, AreLawfulBranches, IsLawfulOtherwise, IsLawfulBody, IsLawfulTaskHead, IsLawfulDecl, IsLawfulModuleName, IsLawful}
use Rattle.pearl_print.specs.Lists.{word, symbol, name_tokens, number_tokens, maybe, bracketed_number}
use Rattle.pearl_print.specs.Expressions.{carried, literal_tokens, sign_tokens, const_tokens, monadic_tokens, dyad_what, expr_tokens, primary_tokens, selectors_tokens, selector_tokens, subscripts_tokens, more_subscripts_tokens, ref_tokens}
use Rattle.pearl_print.specs.Literals.{InExpr, InPrimary, InSelectors, InSelector, InSubscripts, InRef, InItem, InDeclared, InPeriodEnd, InPeriod, InStart, InOnce, InBodyDecl, InStmt, InStmts, InBranches, InOtherwise, InBody, InDecl}
use Rattle.pearl_print.specs.Types.{names_tokens, minus_tokens, int_tokens, upper_tokens, bound_tokens, bounds_tokens, basic_tokens, typing_tokens, fields_tokens, more_fields_tokens}
use Rattle.pearl_print.specs.Formats.{fmt_tokens, by_tokens}
use Rattle.pearl_print.specs.Declarations.{device_word_tokens, device_tokens, prio_tokens, item_tokens, sema_tokens, declared_tokens, class_tokens, spec_tokens, param_tokens}
use Rattle.pearl_print.specs.Schedules.{after_tokens, period_end_tokens, period_tokens, start_tokens, once_tokens}
use Rattle.pearl_print.specs.Statements.{for_tokens, value_tokens, body_decl_tokens, stmt_tokens, stmts_tokens, alternatives_tokens, otherwise_tokens, body_tokens}
use Rattle.pearl_print.specs.Modules.{head_tokens, returns_tokens, task_body_tokens, decl_tokens, module_name_tokens, system_tokens, front_tokens, tokens_of}
use Rattle.pearl_print.specs.Spelled.{text_of_tokens}
use Rattle.pearl_print.specs.Reading.{HasFittingHours, FitsHours, Reads, LawfulTokens}
use Rattle.pearl_print.proofs.LawfulRead.{lawful_text_reads}
use Rattle.pearl_print.proofs.LawfulLists.{AllLawful, none, one, ◌&◌, word_lawful, symbol_lawful, name_lawful, number_lawful, flag_lawful, bracketed_number_lawful, each_lawful, listed_lawful, bracketed_lawful, maybe_bracketed_lawful, maybe_headed_lawful, maybe_lawful, each_lawful_from_two, listed_lawful_from_two, maybe_bracketed_lawful_from_two, maybe_headed_lawful_from_two, maybe_lawful_from_two, any_lawful, free_lawful, wide_lawful}

end_lawful : AllLawful (symbol s.SEMICOLON)
end_lawful = symbol_lawful s.SEMICOLON (omega arith)

names_lawful : (names : Names) → AreLawfulNames names → AllLawful (names_tokens names)
names_lawful (One name) is = name_lawful name is
names_lawful (Several names place) is = bracketed_lawful IsLawfulName name_tokens name_lawful names.items.items is

carried_lawful : (ms : ℕ) → IsNumberValue (ms / 3600000) → AllLawful (carried ms)
carried_lawful ms fits =
    one (what.Number (ms / 3600000)) fits & word_lawful w.HRS (omega arith) & one (what.Number (ms / 60000 % 60)) (omega arith) &
    word_lawful w.MIN (omega arith) & one (what.Decimal (ms / 1000 % 60) (ms % 1000)) (omega arith, omega arith) &
    word_lawful w.SEC (omega arith)

literal_lawful : (part : Literal) → IsLawfulLiteral part → HasFittingHours part → AllLawful (literal_tokens (shown_literal part))
literal_lawful (literal.Number number) is fits = number_lawful number is
literal_lawful (literal.Bits len value place) is fits = one (what.Bits len value) is
literal_lawful (literal.Text text place) is fits = one (what.Text text.value) is
literal_lawful (literal.Clock milliseconds place) is fits = one (what.Clock milliseconds) is
literal_lawful (literal.Duration duration) is fits = carried_lawful (milliseconds_of duration.value) fits

sign_lawful : (part : Sign) → AllLawful (sign_tokens part)
sign_lawful sign.Plus = symbol_lawful s.PLUS (omega arith)
sign_lawful sign.Minus = symbol_lawful s.MINUS (omega arith)

maybe_sign : (part : Option Sign) → AllLawful (maybe sign_tokens part)
maybe_sign None = none
maybe_sign (Some part) = sign_lawful part

const_lawful : (constant : Const) → IsLawfulConst constant → HasFittingHours constant.literal → AllLawful (const_tokens constant)
const_lawful constant is fits = maybe_sign constant.sign & literal_lawful constant.literal is fits

monad_lawful : (part : Monad) → AllLawful (monad_what part ∷ [])
monad_lawful monad.Plus = symbol_lawful s.PLUS (omega arith)
monad_lawful monad.Minus = symbol_lawful s.MINUS (omega arith)
monad_lawful monad.Abs = word_lawful w.ABS (omega arith)
monad_lawful monad.Sign = word_lawful w.SIGN (omega arith)
monad_lawful monad.Not = word_lawful w.NOT (omega arith)

monadic_lawful : (part : Monadic) → AllLawful (monadic_tokens part)
monadic_lawful part = monad_lawful part.operator

dyad_lawful : (part : Dyad) → AllLawful (dyad_what part ∷ [])
dyad_lawful dyad.Pow = symbol_lawful s.POWER (omega arith)
dyad_lawful dyad.Mul = symbol_lawful s.TIMES (omega arith)
dyad_lawful dyad.Div = symbol_lawful s.DIVIDE (omega arith)
dyad_lawful dyad.Rem = word_lawful w.REM (omega arith)
dyad_lawful dyad.Cat = symbol_lawful s.CONCATENATE (omega arith)
dyad_lawful dyad.Add = symbol_lawful s.PLUS (omega arith)
dyad_lawful dyad.Sub = symbol_lawful s.MINUS (omega arith)
dyad_lawful dyad.Cshift = symbol_lawful s.ROTATE (omega arith)
dyad_lawful dyad.Shift = word_lawful w.SHIFT (omega arith)
dyad_lawful dyad.Lt = symbol_lawful s.LESS (omega arith)
dyad_lawful dyad.Gt = symbol_lawful s.GREATER (omega arith)
dyad_lawful dyad.Le = symbol_lawful s.AT_MOST (omega arith)
dyad_lawful dyad.Ge = symbol_lawful s.AT_LEAST (omega arith)
dyad_lawful dyad.Eq = symbol_lawful s.EQUAL (omega arith)
dyad_lawful dyad.Ne = symbol_lawful s.UNEQUAL (omega arith)
dyad_lawful dyad.And = word_lawful w.AND (omega arith)
dyad_lawful dyad.Or = word_lawful w.OR (omega arith)
dyad_lawful dyad.Exor = word_lawful w.EXOR (omega arith)

side_lawful : (side : Side) → AllLawful (word (side_word side))
side_lawful Lower = word_lawful w.LWB (omega arith)
side_lawful Upper = word_lawful w.UPB (omega arith)

mutual
  expr_lawful : (depth : ℕ) (expr : Expr) → HasLawfulTerms depth expr → InExpr HasFittingHours expr → AllLawful (expr_tokens expr)
  expr_lawful depth (Operand' monadics part place) is fits =
      any_lawful monadic_tokens monadic_lawful monadics.items.items & primary_lawful depth part is.1 fits
  expr_lawful depth (Dyadic' _ left dyadic _ right place) is fits =
      expr_lawful depth left is.0 fits.0 & dyad_lawful dyadic.operator & expr_lawful depth right is.1 fits.1

  primary_lawful : (depth : ℕ) (part : Primary) → IsLawfulPrimary depth part → InPrimary HasFittingHours part → AllLawful (primary_tokens part)
  primary_lawful depth (primary.Literal part) is fits = literal_lawful part is fits
  primary_lawful depth (primary.Ref' name _ selectors place) is fits = name_lawful name is.0 & selectors_lawful depth _ selectors is.1 fits
  primary_lawful depth (primary.Group' _ inner place) is fits =
      symbol_lawful s.LEFT_ROUND (omega arith) & expr_lawful (depth - 1) inner is.1.0 fits & symbol_lawful s.RIGHT_ROUND (omega arith)
  primary_lawful depth (primary.Now place) is fits = word_lawful w.NOW (omega arith)
  primary_lawful depth (primary.Try name place) is fits = word_lawful w.TRY (omega arith) & name_lawful name is
  primary_lawful depth (primary.Limit' dimension side _ name _ selectors ref_place place) is fits =
      maybe_lawful IsLawfulNumber number_tokens number_lawful dimension is.0 & side_lawful side & (name_lawful name is.1.0 &
      selectors_lawful depth _ selectors is.1.1 fits)

  selectors_lawful : (depth : ℕ) (n : _) (row : Row_of-Selector n) → AreLawfulSelectors depth row → InSelectors HasFittingHours row → AllLawful (selectors_tokens row)
  selectors_lawful depth _ end_of-Selector is fits = none
  selectors_lawful depth _ (more_of-Selector selector rest) is fits =
      selector_lawful depth selector is.0 fits.0 & selectors_lawful depth _ rest is.1 fits.1

  selector_lawful : (depth : ℕ) (selector : Selector) → IsLawfulSelector depth selector → InSelector HasFittingHours selector → AllLawful (selector_tokens selector)
  selector_lawful depth (Subscripts' _ subscripts place) is fits =
      symbol_lawful s.LEFT_ROUND (omega arith) & subscripts_lawful (depth - 1) _ subscripts is.1 fits & symbol_lawful s.RIGHT_ROUND (omega arith)
  selector_lawful depth (Component name place) is fits = symbol_lawful s.PERIOD (omega arith) & name_lawful name is

  subscripts_lawful : (depth : ℕ) (n : _) (row : Row_of-Expr n) → AreLawfulSubscripts depth row → InSubscripts HasFittingHours row → AllLawful (subscripts_tokens row)
  subscripts_lawful depth _ end_of-Expr is fits = none
  subscripts_lawful depth _ (more_of-Expr expr rest) is fits =
      expr_lawful depth expr is.0.0 fits.0 & more_subscripts_lawful depth _ rest is.1 fits.1

  more_subscripts_lawful : (depth : ℕ) (n : _) (row : Row_of-Expr n) → AreLawfulSubscripts depth row → InSubscripts HasFittingHours row → AllLawful (more_subscripts_tokens row)
  more_subscripts_lawful depth _ end_of-Expr is fits = none
  more_subscripts_lawful depth _ (more_of-Expr expr rest) is fits =
      (symbol_lawful s.COMMA (omega arith) & expr_lawful depth expr is.0.0 fits.0) & more_subscripts_lawful depth _ rest is.1 fits.1

whole_lawful : (expr : Expr) → IsLawfulExpr expr → InExpr HasFittingHours expr → AllLawful (expr_tokens expr)
whole_lawful expr is fits = expr_lawful 32 expr is.0 fits

ref_lawful : (reference : Ref) → IsLawfulRef reference → InRef HasFittingHours reference → AllLawful (ref_tokens reference)
ref_lawful reference is fits =
    name_lawful reference.name is.0 &
    each_lawful_from_two (IsLawfulSelector 33) (InSelector HasFittingHours) selector_tokens (selector_lawful 33) reference.selectors.items.items is.1 fits

fmt_lawful : (fmt : Fmt) → IsLawfulFmt fmt → AllLawful (fmt_tokens fmt)
fmt_lawful (Free code width place) is =
    free_lawful code & maybe_lawful IsLawfulNumber bracketed_number bracketed_number_lawful width is
fmt_lawful (Wide code width place) is = wide_lawful code & bracketed_number_lawful width is

by_lawful : (name : Name) (formats : Parts Fmt) → IsLawfulName name → All IsLawfulFmt formats.items.items → AllLawful (by_tokens name formats)
by_lawful name formats is all =
    name_lawful name is & word_lawful w.BY (omega arith) & listed_lawful IsLawfulFmt fmt_tokens fmt_lawful formats.items.items all & end_lawful

minus_lawful : (minus : Bool) → AllLawful (minus_tokens minus)
minus_lawful false = none
minus_lawful true = symbol_lawful s.MINUS (omega arith)

int_lawful : (int : Int) → IsLawfulNumber int.number → AllLawful (int_tokens int)
int_lawful int is = minus_lawful int.minus & number_lawful int.number is

upper_lawful : (int : Int) → IsLawfulNumber int.number → AllLawful (upper_tokens int)
upper_lawful int is = symbol_lawful s.COLON (omega arith) & int_lawful int is

bound_lawful : (bound : Bound) → IsLawfulBound bound → AllLawful (bound_tokens bound)
bound_lawful bound is =
    int_lawful bound.first is.0 & maybe_lawful (λ (int : Int). IsLawfulNumber int.number) upper_tokens upper_lawful bound.second is.1

bounds_lawful : (bounds : List Bound) → All IsLawfulBound bounds → AllLawful (bounds_tokens bounds)
bounds_lawful bounds all = maybe_bracketed_lawful IsLawfulBound bound_tokens bound_lawful bounds all

sort_lawful : (sort : Sort) → AllLawful (word (sort_word sort))
sort_lawful Fixed = word_lawful w.FIXED (omega arith)
sort_lawful Bit = word_lawful w.BIT (omega arith)
sort_lawful Char = word_lawful w.CHAR (omega arith)

basic_lawful : (part : Basic) → IsLawfulBasic part → AllLawful (basic_tokens part)
basic_lawful (basic.Sized sort number place) is =
    sort_lawful sort & maybe_lawful IsLawfulNumber bracketed_number bracketed_number_lawful number is
basic_lawful (basic.Clock place) is = word_lawful w.CLOCK (omega arith)
basic_lawful (basic.Duration place) is = word_lawful w.DURATION (omega arith)

mutual
  typing_lawful : (depth : ℕ) (part : Typing) → HasLawfulTyping depth part → AllLawful (typing_tokens part)
  typing_lawful depth (typing.Basic part) is = basic_lawful part is
  typing_lawful depth (typing.Struct' _ fields place) is =
      word_lawful w.STRUCT (omega arith) & symbol_lawful s.LEFT_SQUARE (omega arith) & fields_lawful (depth - 1) _ fields is.1 &
      symbol_lawful s.RIGHT_SQUARE (omega arith)
  typing_lawful depth (typing.Named name) is = name_lawful name is

  fields_lawful : (depth : ℕ) (n : _) (row : Row_of-Field n) → AreLawfulFields depth row → AllLawful (fields_tokens row)
  fields_lawful depth _ end_of-Field is = none
  fields_lawful depth _ (more_of-Field names bounds part place rest) is =
      (names_lawful names is.0.0 & bounds_lawful bounds.items.items is.0.1 & typing_lawful depth part is.0.2) & more_fields_lawful depth _ rest is.1

  more_fields_lawful : (depth : ℕ) (n : _) (row : Row_of-Field n) → AreLawfulFields depth row → AllLawful (more_fields_tokens row)
  more_fields_lawful depth _ end_of-Field is = none
  more_fields_lawful depth _ (more_of-Field names bounds part place rest) is =
      (symbol_lawful s.COMMA (omega arith) & names_lawful names is.0.0 & bounds_lawful bounds.items.items is.0.1 &
      typing_lawful depth part is.0.2) & more_fields_lawful depth _ rest is.1

device_word_lawful : (part : DeviceWord) → IsLawfulDeviceWord part → AllLawful (device_word_tokens part)
device_word_lawful (device.Id name) is = name_lawful name is
device_word_lawful (device.Interrupt place) is = word_lawful w.INTERRUPT (omega arith)

device_lawful : (part : Device) → IsLawfulDevice part → AllLawful (device_tokens part)
device_lawful part is =
    name_lawful part.name is.0 & symbol_lawful s.COLON (omega arith) & device_word_lawful part.word is.1 &
    bracketed_number_lawful part.number is.2 & end_lawful

prio_lawful : (prio : Prio) → IsLawfulNumber prio.number → AllLawful (prio_tokens prio)
prio_lawful prio is = word_lawful w.PRIO (omega arith) & number_lawful prio.number is

item_lawful : (item : Item) → IsLawfulItem item → InItem HasFittingHours item → AllLawful (item_tokens item)
item_lawful item is fits =
    names_lawful item.names is.0 & bounds_lawful item.bounds.items.items is.1 & flag_lawful w.INV item.inv (omega arith) &
    typing_lawful 8 item.typing is.2 &
    maybe_headed_lawful_from_two IsLawfulConst (λ (constant : Const). HasFittingHours constant.literal) const_tokens const_lawful w.INIT item.init.items.items (omega arith) is.3 fits

sema_lawful : (sema : Sema) → IsLawfulSema sema → AllLawful (sema_tokens sema)
sema_lawful sema is =
    names_lawful sema.names is.0 & word_lawful w.SEMA (omega arith) &
    maybe_headed_lawful IsLawfulNumber number_tokens number_lawful w.PRESET sema.preset.items.items (omega arith) is.1

declared_lawful : (part : Declared) → IsLawfulDeclared part → InDeclared HasFittingHours part → AllLawful (declared_tokens part)
declared_lawful (declared.Item item) is fits = item_lawful item is fits
declared_lawful (declared.Sema sema) is fits = sema_lawful sema is

class_lawful : (part : Class) → IsLawfulClass part → AllLawful (class_tokens part)
class_lawful (class.Alphic place) is = word_lawful w.ALPHIC (omega arith)
class_lawful (class.Basic part place) is = word_lawful w.BASIC (omega arith) & basic_lawful part is

direction_lawful : (direction : Direction) → AllLawful (word (direction_word direction))
direction_lawful In = word_lawful w.IN (omega arith)
direction_lawful Out = word_lawful w.OUT (omega arith)
direction_lawful InOut = word_lawful w.INOUT (omega arith)

spec_lawful : (part : Spec) → IsLawfulSpec part → AllLawful (spec_tokens part)
spec_lawful (spec.Interrupt names place) is = names_lawful names is & word_lawful w.INTERRUPT (omega arith)
spec_lawful (spec.Dation names direction class control place) is =
    names_lawful names is.0 & word_lawful w.DATION (omega arith) & direction_lawful direction & class_lawful class is.1

param_lawful : (param : Param) → IsLawfulParam param → AllLawful (param_tokens param)
param_lawful param is =
    names_lawful param.names is.0 & basic_lawful param.basic is.1 & flag_lawful w.IDENT param.ident (omega arith)

after_lawful : (code : ℕ) → code < code_count → (expr : Expr) → IsLawfulExpr expr → InExpr HasFittingHours expr → AllLawful (after_tokens code expr)
after_lawful code low expr is fits = word_lawful code low & whole_lawful expr is fits

maybe_after : (code : ℕ) → code < code_count → (part : Option Expr) → IfSome part IsLawfulExpr → IfSome part (InExpr HasFittingHours) → AllLawful (maybe (after_tokens code) part)
maybe_after code low part is fits = maybe_lawful_from_two IsLawfulExpr (InExpr HasFittingHours) (after_tokens code) (after_lawful code low) part is fits

period_end_lawful : (part : PeriodEnd) → IsLawfulPeriodEnd part → InPeriodEnd HasFittingHours part → AllLawful (period_end_tokens part)
period_end_lawful (Until time place) is fits = after_lawful w.UNTIL (omega arith) time is fits
period_end_lawful (During duration place) is fits = after_lawful w.DURING (omega arith) duration is fits

period_lawful : (part : Period) → IsLawfulPeriod part → InPeriod HasFittingHours part → AllLawful (period_tokens part)
period_lawful part is fits =
    after_lawful w.ALL (omega arith) part.duration is.0 fits.0 &
    maybe_lawful_from_two IsLawfulPeriodEnd (InPeriodEnd HasFittingHours) period_end_tokens period_end_lawful part.end is.1 fits.1

maybe_period : (part : Option Period) → IfSome part IsLawfulPeriod → IfSome part (InPeriod HasFittingHours) → AllLawful (maybe period_tokens part)
maybe_period part is fits = maybe_lawful_from_two IsLawfulPeriod (InPeriod HasFittingHours) period_tokens period_lawful part is fits

start_lawful : (part : Start) → IsLawfulStart part → InStart HasFittingHours part → AllLawful (start_tokens part)
start_lawful (start.At time period place) is fits = after_lawful w.AT (omega arith) time is.0 fits.0 & maybe_period period is.1 fits.1
start_lawful (start.After duration period place) is fits =
    after_lawful w.AFTER (omega arith) duration is.0 fits.0 & maybe_period period is.1 fits.1
start_lawful (start.When interrupt after period place) is fits =
    word_lawful w.WHEN (omega arith) & name_lawful interrupt is.0 & maybe_after w.AFTER (omega arith) after is.1 fits.0 &
    maybe_period period is.2 fits.1
start_lawful (start.All period) is fits = period_lawful period is fits

once_lawful : (part : Once) → IsLawfulOnce part → InOnce HasFittingHours part → AllLawful (once_tokens part)
once_lawful (once.At time place) is fits = after_lawful w.AT (omega arith) time is fits
once_lawful (once.After duration place) is fits = after_lawful w.AFTER (omega arith) duration is fits
once_lawful (once.When interrupt place) is fits = word_lawful w.WHEN (omega arith) & name_lawful interrupt is

for_lawful : (name : Name) → IsLawfulName name → AllLawful (for_tokens name)
for_lawful name is = word_lawful w.FOR (omega arith) & name_lawful name is

value_lawful : (expr : Expr) → IsLawfulExpr expr → InExpr HasFittingHours expr → AllLawful (value_tokens expr)
value_lawful expr is fits =
    symbol_lawful s.LEFT_ROUND (omega arith) & whole_lawful expr is fits & symbol_lawful s.RIGHT_ROUND (omega arith)

body_decl_lawful : (part : BodyDecl) → IsLawfulBodyDecl part → InBodyDecl HasFittingHours part → AllLawful (body_decl_tokens part)
body_decl_lawful part is fits =
    word_lawful w.DCL (omega arith) &
    listed_lawful_from_two IsLawfulItem (InItem HasFittingHours) item_tokens item_lawful part.items.items.items is fits & end_lawful

decls_lawful : (parts : List BodyDecl) → All IsLawfulBodyDecl parts → All (InBodyDecl HasFittingHours) parts → AllLawful (flat_map body_decl_tokens parts)
decls_lawful parts all fits = each_lawful_from_two IsLawfulBodyDecl (InBodyDecl HasFittingHours) body_decl_tokens body_decl_lawful parts all fits

task_word_lawful : (code : TaskWord) → AllLawful (word (task_word code))
task_word_lawful Suspend = word_lawful w.SUSPEND (omega arith)
task_word_lawful Terminate = word_lawful w.TERMINATE (omega arith)
task_word_lawful Prevent = word_lawful w.PREVENT (omega arith)

sema_word_lawful : (code : SemaWord) → AllLawful (word (sema_word code))
sema_word_lawful Request = word_lawful w.REQUEST (omega arith)
sema_word_lawful Release = word_lawful w.RELEASE (omega arith)

interrupt_word_lawful : (code : InterruptWord) → AllLawful (word (interrupt_word code))
interrupt_word_lawful Enable = word_lawful w.ENABLE (omega arith)
interrupt_word_lawful Disable = word_lawful w.DISABLE (omega arith)
interrupt_word_lawful Trigger = word_lawful w.TRIGGER (omega arith)

mutual
  stmt_lawful : (depth : ℕ) (statement : Stmt) → IsLawfulStmt depth statement → InStmt HasFittingHours statement → AllLawful (stmt_tokens statement)
  stmt_lawful depth (Empty place) is fits = end_lawful
  stmt_lawful depth (Assign part) is fits =
      ref_lawful part.value.target is.0 fits.0 & symbol_lawful s.BECOMES (omega arith) & whole_lawful part.value.value is.1 fits.1 & end_lawful
  stmt_lawful depth (Call part) is fits =
      word_lawful w.CALL (omega arith) & name_lawful part.value.name is.0 &
      maybe_bracketed_lawful_from_two IsLawfulExpr (InExpr HasFittingHours) expr_tokens whole_lawful part.value.arguments.items.items is.1 fits & end_lawful
  stmt_lawful depth (If' _ (if_.If' condition _ statements otherwise place)) is fits =
      after_lawful w.IF (omega arith) condition is.1 fits.0 & word_lawful w.THEN (omega arith) &
      stmts_lawful (depth - 1) _ statements is.2 fits.1 & otherwise_lawful (depth - 1) w.ELSE (omega arith) otherwise is.3 fits.2 &
      (word_lawful w.FIN (omega arith) & end_lawful)
  stmt_lawful depth (Case' _ (case_.Case' selector _ alternatives otherwise place)) is fits =
      after_lawful w.CASE (omega arith) selector is.1 fits.0 & alternatives_lawful (depth - 1) _ alternatives is.2 fits.1 &
      otherwise_lawful (depth - 1) w.OUT (omega arith) otherwise is.3 fits.2 & (word_lawful w.FIN (omega arith) & end_lawful)
  stmt_lawful depth (Repeat' _ control begin step end condition declarations _ statements body_place place) is fits =
      (maybe_lawful IsLawfulName for_tokens for_lawful control is.1 & maybe_after w.FROM (omega arith) begin is.2 fits.0 &
      maybe_after w.BY (omega arith) step is.3 fits.1 & maybe_after w.TO (omega arith) end is.4 fits.2 &
      maybe_after w.WHILE (omega arith) condition is.5 fits.3) &
      (word_lawful w.REPEAT (omega arith) & (decls_lawful declarations.items.items is.6.0 fits.4.0 &
      stmts_lawful (depth - 1) _ statements is.6.1 fits.4.1) &
      (word_lawful w.END (omega arith) & end_lawful))
  stmt_lawful depth (Exit place) is fits = word_lawful w.EXIT (omega arith) & end_lawful
  stmt_lawful depth (Begin' _ declarations _ statements body_place place) is fits =
      word_lawful w.BEGIN (omega arith) & (decls_lawful declarations.items.items is.1.0 fits.0 &
      stmts_lawful (depth - 1) _ statements is.1.1 fits.1) &
      (word_lawful w.END (omega arith) & end_lawful)
  stmt_lawful depth (Return part) is fits =
      word_lawful w.RETURN (omega arith) & maybe_lawful_from_two IsLawfulExpr (InExpr HasFittingHours) value_tokens value_lawful part.value.value is fits & end_lawful
  stmt_lawful depth (Activate part) is fits =
      maybe_lawful_from_two IsLawfulStart (InStart HasFittingHours) start_tokens start_lawful part.value.start is.0 fits.0 & word_lawful w.ACTIVATE (omega arith) &
      name_lawful part.value.task is.1 & maybe_after w.PRIO (omega arith) part.value.priority is.2 fits.1 & end_lawful
  stmt_lawful depth (Continue part) is fits =
      maybe_lawful_from_two IsLawfulOnce (InOnce HasFittingHours) once_tokens once_lawful part.value.once is.0 fits & word_lawful w.CONTINUE (omega arith) &
      name_lawful part.value.task is.1 & end_lawful
  stmt_lawful depth (Resume part) is fits = once_lawful part.value.once is fits & word_lawful w.RESUME (omega arith) & end_lawful
  stmt_lawful depth (OnTask part) is fits =
      task_word_lawful part.value.word & maybe_lawful IsLawfulName name_tokens name_lawful part.value.task is & end_lawful
  stmt_lawful depth (OnSemas part) is fits =
      sema_word_lawful part.value.word & listed_lawful IsLawfulName name_tokens name_lawful part.value.names.items.items is & end_lawful
  stmt_lawful depth (OnInterrupt part) is fits = interrupt_word_lawful part.value.word & name_lawful part.value.name is & end_lawful
  stmt_lawful depth (Put part) is fits =
      word_lawful w.PUT (omega arith) &
      listed_lawful_from_two IsLawfulExpr (InExpr HasFittingHours) expr_tokens whole_lawful part.value.values.items.items is.0 fits &
      word_lawful w.TO (omega arith) & by_lawful part.value.dation part.value.formats is.1 is.2
  stmt_lawful depth (Get part) is fits =
      word_lawful w.GET (omega arith) & listed_lawful_from_two IsLawfulRef (InRef HasFittingHours) ref_tokens ref_lawful part.value.targets.items.items is.0 fits &
      word_lawful w.FROM (omega arith) & by_lawful part.value.dation part.value.formats is.1 is.2
  stmt_lawful depth (Send part) is fits =
      after_lawful w.SEND (omega arith) part.value.value is.0 fits & word_lawful w.TO (omega arith) & name_lawful part.value.dation is.1 & end_lawful
  stmt_lawful depth (Take part) is fits =
      word_lawful w.TAKE (omega arith) & ref_lawful part.value.target is.0 fits & word_lawful w.FROM (omega arith) & name_lawful part.value.dation is.1 & end_lawful

  stmts_lawful : (depth : ℕ) (n : _) (row : Row_of-Stmt n) → AreLawfulStmts depth row → InStmts HasFittingHours row → AllLawful (stmts_tokens row)
  stmts_lawful depth _ end_of-Stmt is fits = none
  stmts_lawful depth _ (more_of-Stmt statement rest) is fits = stmt_lawful depth statement is.0 fits.0 & stmts_lawful depth _ rest is.1 fits.1

  alternatives_lawful : (depth : ℕ) (n : _) (row : Row_of-Branch n) → AreLawfulBranches depth row → InBranches HasFittingHours row → AllLawful (alternatives_tokens row)
  alternatives_lawful depth _ end_of-Branch is fits = none
  alternatives_lawful depth _ (more_of-Branch _ statements place rest) is fits =
      (word_lawful w.ALT (omega arith) & stmts_lawful depth _ statements is.0 fits.0) & alternatives_lawful depth _ rest is.1 fits.1

  otherwise_lawful : (depth code : ℕ) → code < code_count → (otherwise : Held-Case-otherwise) → IsLawfulOtherwise depth otherwise → InOtherwise HasFittingHours otherwise →
      AllLawful (otherwise_tokens code otherwise)
  otherwise_lawful depth code low None' is fits = none
  otherwise_lawful depth code low (Some' _ statements place) is fits = word_lawful code low & stmts_lawful depth _ statements is fits

body_lawful : (body : Body) → IsLawfulBody body → InBody HasFittingHours body → AllLawful (body_tokens body)
body_lawful body is fits =
    decls_lawful body.declarations.items.items is.0 fits.0 &
    each_lawful_from_two (IsLawfulStmt 32) (InStmt HasFittingHours) stmt_tokens (stmt_lawful 32) body.statements.items.items is.1 fits.1

task_body_lawful : (body : Body) → IsLawfulBody body → InBody HasFittingHours body → AllLawful (task_body_tokens body)
task_body_lawful body is fits = end_lawful & body_lawful body is fits & word_lawful w.END (omega arith) & end_lawful

head_lawful : (head : TaskHead) → IsLawfulTaskHead head → AllLawful (head_tokens head)
head_lawful (PrioFirst prio main) is =
    maybe_lawful (λ (prio : Prio). IsLawfulNumber prio.number) prio_tokens prio_lawful prio is & flag_lawful w.MAIN main (omega arith)
head_lawful (MainFirst prio) is = prio_lawful prio is & word_lawful w.MAIN (omega arith)

returns_lawful : (part : Basic) → IsLawfulBasic part → AllLawful (returns_tokens part)
returns_lawful part is =
    word_lawful w.RETURNS (omega arith) & symbol_lawful s.LEFT_ROUND (omega arith) & basic_lawful part is &
    symbol_lawful s.RIGHT_ROUND (omega arith)

decl_lawful : (part : Decl) → IsLawfulDecl part → InDecl HasFittingHours part → AllLawful (decl_tokens part)
decl_lawful (decl.Length sort number place) is fits =
    word_lawful w.LENGTH (omega arith) & sort_lawful sort & bracketed_number_lawful number is & end_lawful
decl_lawful (decl.Type name part place) is fits =
    word_lawful w.TYPE (omega arith) & name_lawful name is.0 & typing_lawful 8 part is.1 & end_lawful
decl_lawful (decl.Declare parts place) is fits =
    word_lawful w.DCL (omega arith) &
    listed_lawful_from_two IsLawfulDeclared (InDeclared HasFittingHours) declared_tokens declared_lawful parts.items.items is fits & end_lawful
decl_lawful (decl.Specify specs place) is fits =
    word_lawful w.SPC (omega arith) & listed_lawful IsLawfulSpec spec_tokens spec_lawful specs.items.items is & end_lawful
decl_lawful (decl.Task name head body place) is fits =
    name_lawful name is.0 & symbol_lawful s.COLON (omega arith) & word_lawful w.TASK (omega arith) & head_lawful head is.1 &
    task_body_lawful body is.2 fits
decl_lawful (decl.Proc name params returns body place) is fits =
    name_lawful name is.0 & symbol_lawful s.COLON (omega arith) & word_lawful w.PROC (omega arith) &
    maybe_bracketed_lawful IsLawfulParam param_tokens param_lawful params.items.items is.1 &
    maybe_lawful IsLawfulBasic returns_tokens returns_lawful returns is.2 & task_body_lawful body is.3 fits

bracketed_name_lawful : (name : Name) → IsLawfulName name → AllLawful (module_name_tokens (Bracketed name))
bracketed_name_lawful name is =
    symbol_lawful s.LEFT_ROUND (omega arith) & name_lawful name is & symbol_lawful s.RIGHT_ROUND (omega arith)

module_name_lawful : (name : ModuleName) → IsLawfulModuleName name → AllLawful (module_name_tokens name)
module_name_lawful (Bracketed name) is = bracketed_name_lawful name is
module_name_lawful (Bare name) is = bracketed_name_lawful name is

system_lawful : (devices : Parts Device) → All IsLawfulDevice devices.items.items → AllLawful (system_tokens devices)
system_lawful devices all =
    word_lawful w.SYSTEM (omega arith) & end_lawful & each_lawful IsLawfulDevice device_tokens device_lawful devices.items.items all

front_lawful : (tree : Tree) → IsLawful tree → AllLawful (front_tokens tree)
front_lawful tree is =
    word_lawful w.MODULE (omega arith) & maybe_lawful IsLawfulModuleName module_name_tokens module_name_lawful tree.name is.name & end_lawful &
    maybe_lawful (λ (devices : Parts Device). All IsLawfulDevice devices.items.items) system_tokens system_lawful tree.system is.system &
    word_lawful w.PROBLEM (omega arith) & end_lawful

tree_lawful : (tree : Tree) → IsLawful tree → FitsHours tree → AllLawful (tokens_of tree)
unfolding tokens_of
tree_lawful tree is fits =
    front_lawful tree is &
    each_lawful_from_two IsLawfulDecl (InDecl HasFittingHours) decl_tokens decl_lawful tree.declarations.items.items is.declarations fits &
    word_lawful w.MODEND (omega arith) & end_lawful

-- the whole tree
pub lawful_tokens : LawfulTokens
lawful_tokens tree is fits = (tree_lawful tree is fits).each

-- a text that has the tokens of a lawful tree
pub printed_reads : (tree : Tree) (text : List ℕ) → text ≡ text_of_tokens (tokens_of tree) → IsLawful tree → FitsHours tree → Reads text (tokens_of tree)
printed_reads tree text spelled is fits =
    subst (λ t. Reads t (tokens_of tree)) (sym spelled) (lawful_text_reads (tokens_of tree) (lawful_tokens tree is fits))
