-- What is said plainly has the same tokens, so these depend on nothing that is dropped there.
use Rattle.std.proofs.Common.{◌≡◌, ℕ, List, ◌++◌, map, Option, option_map, refl, sym, ap, ◌∙◌}
use Rattle.std.specs.List.{flat_map}
use Rattle.pearl_tree.specs.declared.name.Name.{Name}
use Rattle.pearl_tree.specs.declared.format.Fmt.{Fmt}
use Rattle.pearl_tree.specs.declared.format.Fmt.TheVariants.{Free, Wide}
use Rattle.pearl_tree.specs.declared.typing.Bound.{Bound}
use Rattle.pearl_tree.specs.declared.typing.Basic.{Basic}
use Rattle.pearl_tree.specs.declared.typing.Basic.TheVariants as basic
use Rattle.pearl_tree.specs.declared.declaration.DeviceWord.{DeviceWord}
use Rattle.pearl_tree.specs.declared.declaration.DeviceWord.TheVariants as device
use Rattle.pearl_tree.specs.declared.declaration.Device.{Device}
use Rattle.pearl_tree.specs.declared.declaration.Class.{Class}
use Rattle.pearl_tree.specs.declared.declaration.Class.TheVariants as class
use Rattle.pearl_tree.specs.declared.tree.TaskHead.{TaskHead}
use Rattle.pearl_tree.specs.declared.tree.TaskHead.TheVariants.{PrioFirst, MainFirst}
use Rattle.pearl_tree.specs.declared.tree.ModuleName.{ModuleName}
use Rattle.pearl_tree.specs.declared.tree.ModuleName.TheVariants.{Bracketed, Bare}
use Rattle.pearl_tree.specs.declared.tree.Tree.{Tree}
use Rattle.pearl_tree.specs.Durations.{milliseconds_of}
use Rattle.pearl_tree.specs.Types.{sort_word}
use Rattle.pearl_tree.specs.Expressions.{side_word}
use Rattle.pearl_tree.specs.Formats.{free_text}
use Rattle.pearl_tree.specs.Declarations.{direction_word}
use Rattle.pearl_tree.specs.Statements.{task_word, sema_word}
use Rattle.pearl_tree.specs.ShownLiterals.{ShownLiteral, OfNumber, OfBits, OfText, OfClock, OfDuration, ShownConst}
use Rattle.pearl_tree.specs.ShownExpressions.{ShownExpr, OfOperand, OfDyadic, ShownPrimary, OfLiteral, OfRef, OfGroup, OfNow, OfTry, OfLimit, ShownSelectors, NoSelectors, MoreSelectors, ShownSelector, OfSubscripts, OfComponent, ShownExprs, NoExprs, MoreExprs, ShownRef}
use Rattle.pearl_tree.specs.ShownDeclarations.{ShownNames, OfOne, OfSeveral, ShownTyping, OfBasic, OfStruct, OfNamed, ShownFields, NoFields, MoreFields, ShownItem, ShownSema, ShownDeclared, OfItem, OfSema, ShownSpec, OfInterrupt, OfDation, ShownParam}
use Rattle.pearl_tree.specs.ShownStatements.{ShownPeriodEnd, OfUntil, OfDuring, ShownPeriod, ShownStart, OfAt, OfAfter, OfWhen, OfAll, ShownOnce, OnceAt, OnceAfter, OnceWhen, ShownBodyDecl, ShownStmt, OfEmpty, OfAssign, OfCall, OfIf, OfCase, OfRepeat, OfExit, OfBegin, OfReturn, OfActivate, OfContinue, OfResume, OfOnTask, OfOnSemas, OfOnInterrupt, OfPut, OfGet, OfSend, OfTake, ShownStmts, NoStmts, MoreStmts, ShownBranches, NoBranches, MoreBranches, ShownOtherwise, NoOtherwise, OfOtherwise}
use Rattle.pearl_tree.specs.ShownModules.{ShownBody, ShownDecl, OfLength, OfType, OfDeclare, OfSpecify, OfTask, OfProc, ShownTree, shown_tree}
use Rattle.pearl_tree.specs.declared.symbol.TheConstants as s
use Rattle.pearl_tree.specs.declared.word_code.TheConstants as w
use Rattle.pearl_print.specs.Lists.{word, symbol, id, name_tokens, number_tokens, maybe, flag, bracketed_number}
use Rattle.pearl_print.specs.Expressions.{carried, literal_tokens, sign_tokens, monadic_tokens, dyadic_tokens}
use Rattle.pearl_print.specs.Types.{int_tokens, upper_tokens, bound_tokens, bounds_tokens, basic_tokens}
use Rattle.pearl_print.specs.Formats.{fmt_tokens}
use Rattle.pearl_print.specs.Declarations.{device_word_tokens, device_tokens, prio_tokens, class_tokens}
use Rattle.pearl_print.specs.Statements.{for_tokens}
use Rattle.pearl_print.specs.Modules.{head_tokens, returns_tokens, module_name_tokens, tokens_of}
use Rattle.pearl_print.specs.Plain.{plain_name, plain_number, plain_literal, plain_const, plain_monadic, plain_expr, plain_primary, plain_selectors, plain_selector, plain_exprs, plain_ref, plain_fmt, plain_names, plain_int, plain_bound, plain_basic, plain_typing, plain_fields, plain_device_word, plain_device, plain_prio, plain_item, plain_sema, plain_declared, plain_class, plain_spec, plain_param, plain_period_end, plain_period, plain_start, plain_once, plain_body_decl, plain_stmt, plain_stmts, plain_branches, plain_otherwise, plain_body, plain_task_head, plain_decl, plain_module_name, plain}
use Rattle.pearl_print.specs.ShownText.{PlainHasOneText}
use Rattle.pearl_print.proofs.ShownLists.{each_same, listed_same, bracketed_same, maybe_bracketed_same, maybe_headed_same, maybe_same}
use Rattle.pearl_print.proofs.ShownExpressions.{said_expr, said_primary, said_selectors, said_selector, said_subscripts, more_said_subscripts, said_ref}
use Rattle.pearl_print.proofs.ShownDeclarations.{said_names, said_const, said_typing, said_fields, more_said_fields, said_item, said_sema, said_declared, said_spec, said_param}
use Rattle.pearl_print.proofs.ShownSchedules.{said_after, said_period_end, said_period, said_start, said_once}
use Rattle.pearl_print.proofs.ShownStatements.{said_value, said_body_decl, said_loop, said_by, said_stmt, said_stmts, said_alternatives, said_otherwise}
use Rattle.pearl_print.proofs.ShownModules.{said_task_body, said_decl, said_system, said_front, said_tree, tree_same}
use Rattle.pearl_print.proofs.PlainLiterals.{carried_back}

-- so many milliseconds are carried into the hours, minutes and seconds that make so many
literal_kept : (part : ShownLiteral) → literal_tokens (plain_literal part) ≡ literal_tokens part
literal_kept (OfNumber number) = refl
literal_kept (OfBits len value place) = refl
literal_kept (OfText text place) = refl
literal_kept (OfClock milliseconds place) = refl
literal_kept (OfDuration duration) = ap carried (carried_back (milliseconds_of duration))

const_kept : (constant : ShownConst) → said_const (plain_const constant) ≡ said_const constant
const_kept constant = λ i. maybe sign_tokens constant.sign ++ literal_kept constant.literal i

mutual
  expr_kept : (expr : ShownExpr) → said_expr (plain_expr expr) ≡ said_expr expr
  expr_kept (OfOperand monadics part place) =
      λ i. each_same plain_monadic monadic_tokens monadic_tokens (λ _. refl) monadics i ++ primary_kept part i
  expr_kept (OfDyadic left dyadic right place) = λ i. expr_kept left i ++ dyadic_tokens dyadic ++ expr_kept right i

  primary_kept : (part : ShownPrimary) → said_primary (plain_primary part) ≡ said_primary part
  primary_kept (OfLiteral part) = literal_kept part
  primary_kept (OfRef name selectors place) = λ i. name_tokens name ++ selectors_kept selectors i
  primary_kept (OfGroup inner place) = λ i. symbol s.LEFT_ROUND ++ expr_kept inner i ++ symbol s.RIGHT_ROUND
  primary_kept (OfNow place) = refl
  primary_kept (OfTry name place) = refl
  primary_kept (OfLimit dimension side name selectors ref_place place) =
      λ i. maybe_same plain_number number_tokens number_tokens (λ _. refl) dimension i ++ word (side_word side) ++
      (name_tokens name ++ selectors_kept selectors i)

  selectors_kept : (selectors : ShownSelectors) → said_selectors (plain_selectors selectors) ≡ said_selectors selectors
  selectors_kept NoSelectors = refl
  selectors_kept (MoreSelectors selector rest) = λ i. selector_kept selector i ++ selectors_kept rest i

  selector_kept : (selector : ShownSelector) → said_selector (plain_selector selector) ≡ said_selector selector
  selector_kept (OfSubscripts subscripts place) =
      λ i. symbol s.LEFT_ROUND ++ subscripts_kept subscripts i ++ symbol s.RIGHT_ROUND
  selector_kept (OfComponent name place) = refl

  subscripts_kept : (subscripts : ShownExprs) → said_subscripts (plain_exprs subscripts) ≡ said_subscripts subscripts
  subscripts_kept NoExprs = refl
  subscripts_kept (MoreExprs expr rest) = λ i. expr_kept expr i ++ more_subscripts_kept rest i

  more_subscripts_kept : (subscripts : ShownExprs) → more_said_subscripts (plain_exprs subscripts) ≡ more_said_subscripts subscripts
  more_subscripts_kept NoExprs = refl
  more_subscripts_kept (MoreExprs expr rest) = λ i. (symbol s.COMMA ++ expr_kept expr i) ++ more_subscripts_kept rest i

ref_kept : (reference : ShownRef) → said_ref (plain_ref reference) ≡ said_ref reference
ref_kept reference = λ i. name_tokens reference.name ++ selectors_kept reference.selectors i

fmt_kept : (part : Fmt) → fmt_tokens (plain_fmt part) ≡ fmt_tokens part
fmt_kept (Free code width place) =
    λ i. id (free_text code) ++ maybe_same plain_number bracketed_number bracketed_number (λ _. refl) width i
fmt_kept (Wide code width place) = refl

names_kept : (names : ShownNames) → said_names (plain_names names) ≡ said_names names
names_kept (OfOne name) = refl
names_kept (OfSeveral names place) = bracketed_same plain_name name_tokens name_tokens (λ _. refl) names

bound_kept : (bound : Bound) → bound_tokens (plain_bound bound) ≡ bound_tokens bound
bound_kept bound =
    λ i. int_tokens bound.first ++ maybe_same plain_int upper_tokens upper_tokens (λ _. refl) bound.second i

bounds_kept : (bounds : List Bound) → bounds_tokens (map plain_bound bounds) ≡ bounds_tokens bounds
bounds_kept bounds = maybe_bracketed_same plain_bound bound_tokens bound_tokens bound_kept bounds

basic_kept : (part : Basic) → basic_tokens (plain_basic part) ≡ basic_tokens part
basic_kept (basic.Sized sort number place) =
    λ i. word (sort_word sort) ++ maybe_same plain_number bracketed_number bracketed_number (λ _. refl) number i
basic_kept (basic.Clock place) = refl
basic_kept (basic.Duration place) = refl

mutual
  typing_kept : (part : ShownTyping) → said_typing (plain_typing part) ≡ said_typing part
  typing_kept (OfBasic part) = basic_kept part
  typing_kept (OfStruct fields place) =
      λ i. word w.STRUCT ++ symbol s.LEFT_SQUARE ++ fields_kept fields i ++ symbol s.RIGHT_SQUARE
  typing_kept (OfNamed name) = refl

  fields_kept : (fields : ShownFields) → said_fields (plain_fields fields) ≡ said_fields fields
  fields_kept NoFields = refl
  fields_kept (MoreFields names bounds part place rest) =
      λ i. (names_kept names i ++ bounds_kept bounds i ++ typing_kept part i) ++ more_fields_kept rest i

  more_fields_kept : (fields : ShownFields) → more_said_fields (plain_fields fields) ≡ more_said_fields fields
  more_fields_kept NoFields = refl
  more_fields_kept (MoreFields names bounds part place rest) =
      λ i. (symbol s.COMMA ++ names_kept names i ++ bounds_kept bounds i ++ typing_kept part i) ++ more_fields_kept rest i

device_word_kept : (part : DeviceWord) → device_word_tokens (plain_device_word part) ≡ device_word_tokens part
device_word_kept (device.Id name) = refl
device_word_kept (device.Interrupt place) = refl

device_kept : (part : Device) → device_tokens (plain_device part) ≡ device_tokens part
device_kept part =
    λ i. name_tokens part.name ++ symbol s.COLON ++ device_word_kept part.word i ++ bracketed_number part.number ++
    symbol s.SEMICOLON

item_kept : (item : ShownItem) → said_item (plain_item item) ≡ said_item item
item_kept item =
    λ i. names_kept item.names i ++ bounds_kept item.bounds i ++ flag w.INV item.inv ++ typing_kept item.part i ++
    maybe_headed_same plain_const said_const said_const const_kept w.INIT item.init i

sema_kept : (sema : ShownSema) → said_sema (plain_sema sema) ≡ said_sema sema
sema_kept sema =
    λ i. names_kept sema.names i ++ word w.SEMA ++
    maybe_headed_same plain_number number_tokens number_tokens (λ _. refl) w.PRESET sema.preset i

declared_kept : (part : ShownDeclared) → said_declared (plain_declared part) ≡ said_declared part
declared_kept (OfItem item) = item_kept item
declared_kept (OfSema sema) = sema_kept sema

class_kept : (part : Class) → class_tokens (plain_class part) ≡ class_tokens part
class_kept (class.Alphic place) = refl
class_kept (class.Basic part place) = λ i. word w.BASIC ++ basic_kept part i

spec_kept : (part : ShownSpec) → said_spec (plain_spec part) ≡ said_spec part
spec_kept (OfInterrupt names place) = λ i. names_kept names i ++ word w.INTERRUPT
spec_kept (OfDation names direction class control place) =
    λ i. names_kept names i ++ word w.DATION ++ word (direction_word direction) ++ class_kept class i

param_kept : (param : ShownParam) → said_param (plain_param param) ≡ said_param param
param_kept param = λ i. names_kept param.names i ++ basic_kept param.basic i ++ flag w.IDENT param.ident

after_kept : (code : ℕ) (expr : ShownExpr) → said_after code (plain_expr expr) ≡ said_after code expr
after_kept code expr = λ i. word code ++ expr_kept expr i

maybe_after_kept : (code : ℕ) (part : Option ShownExpr) → maybe (said_after code) (option_map plain_expr part) ≡ maybe (said_after code) part
maybe_after_kept code part = maybe_same plain_expr (said_after code) (said_after code) (after_kept code) part

period_end_kept : (end : ShownPeriodEnd) → said_period_end (plain_period_end end) ≡ said_period_end end
period_end_kept (OfUntil time place) = after_kept w.UNTIL time
period_end_kept (OfDuring duration place) = after_kept w.DURING duration

period_kept : (period : ShownPeriod) → said_period (plain_period period) ≡ said_period period
period_kept period =
    λ i. after_kept w.ALL period.duration i ++
    maybe_same plain_period_end said_period_end said_period_end period_end_kept period.end i

maybe_period_kept : (part : Option ShownPeriod) → maybe said_period (option_map plain_period part) ≡ maybe said_period part
maybe_period_kept part = maybe_same plain_period said_period said_period period_kept part

start_kept : (start : ShownStart) → said_start (plain_start start) ≡ said_start start
start_kept (OfAt time period place) = λ i. after_kept w.AT time i ++ maybe_period_kept period i
start_kept (OfAfter duration period place) = λ i. after_kept w.AFTER duration i ++ maybe_period_kept period i
start_kept (OfWhen interrupt after period place) =
    λ i. word w.WHEN ++ name_tokens interrupt ++ maybe_after_kept w.AFTER after i ++ maybe_period_kept period i
start_kept (OfAll period) = period_kept period

once_kept : (once : ShownOnce) → said_once (plain_once once) ≡ said_once once
once_kept (OnceAt time place) = after_kept w.AT time
once_kept (OnceAfter duration place) = after_kept w.AFTER duration
once_kept (OnceWhen interrupt place) = refl

value_kept : (expr : ShownExpr) → said_value (plain_expr expr) ≡ said_value expr
value_kept expr = λ i. symbol s.LEFT_ROUND ++ expr_kept expr i ++ symbol s.RIGHT_ROUND

body_decl_kept : (declaration : ShownBodyDecl) → said_body_decl (plain_body_decl declaration) ≡ said_body_decl declaration
body_decl_kept declaration =
    λ i. word w.DCL ++ listed_same plain_item said_item said_item item_kept declaration.items i ++ symbol s.SEMICOLON

body_decls_kept : (declarations : List ShownBodyDecl) → flat_map said_body_decl (map plain_body_decl declarations) ≡ flat_map said_body_decl declarations
body_decls_kept declarations = each_same plain_body_decl said_body_decl said_body_decl body_decl_kept declarations

loop_kept : (control : Option Name) (begin step end condition : Option ShownExpr) →
    said_loop (option_map plain_name control) (option_map plain_expr begin) (option_map plain_expr step) (option_map plain_expr end)
    (option_map plain_expr condition) ≡ said_loop control begin step end condition
loop_kept control begin step end condition =
    λ i. maybe_same plain_name for_tokens for_tokens (λ _. refl) control i ++ maybe_after_kept w.FROM begin i ++
    maybe_after_kept w.BY step i ++ maybe_after_kept w.TO end i ++ maybe_after_kept w.WHILE condition i

by_kept : (name : Name) (formats : List Fmt) → said_by (plain_name name) (map plain_fmt formats) ≡ said_by name formats
by_kept name formats =
    λ i. name_tokens name ++ word w.BY ++ listed_same plain_fmt fmt_tokens fmt_tokens fmt_kept formats i ++ symbol s.SEMICOLON

mutual
  stmt_kept : (statement : ShownStmt) → said_stmt (plain_stmt statement) ≡ said_stmt statement
  stmt_kept (OfEmpty place) = refl
  stmt_kept (OfAssign target value place) =
      λ i. ref_kept target i ++ symbol s.BECOMES ++ expr_kept value i ++ symbol s.SEMICOLON
  stmt_kept (OfCall call name arguments place) =
      λ i. word w.CALL ++ name_tokens name ++ maybe_bracketed_same plain_expr said_expr said_expr expr_kept arguments i ++
      symbol s.SEMICOLON
  stmt_kept (OfIf condition statements otherwise place) =
      λ i. after_kept w.IF condition i ++ word w.THEN ++ stmts_kept statements i ++ otherwise_kept w.ELSE otherwise i ++
      (word w.FIN ++ symbol s.SEMICOLON)
  stmt_kept (OfCase selector alternatives otherwise place) =
      λ i. after_kept w.CASE selector i ++ alternatives_kept alternatives i ++ otherwise_kept w.OUT otherwise i ++
      (word w.FIN ++ symbol s.SEMICOLON)
  stmt_kept (OfRepeat control begin step end condition declarations statements body_place place) =
      λ i. loop_kept control begin step end condition i ++
      (word w.REPEAT ++ (body_decls_kept declarations i ++ stmts_kept statements i) ++ (word w.END ++ symbol s.SEMICOLON))
  stmt_kept (OfExit place) = refl
  stmt_kept (OfBegin declarations statements body_place place) =
      λ i. word w.BEGIN ++ (body_decls_kept declarations i ++ stmts_kept statements i) ++ (word w.END ++ symbol s.SEMICOLON)
  stmt_kept (OfReturn value place) =
      λ i. word w.RETURN ++ maybe_same plain_expr said_value said_value value_kept value i ++ symbol s.SEMICOLON
  stmt_kept (OfActivate start task priority place) =
      λ i. maybe_same plain_start said_start said_start start_kept start i ++ word w.ACTIVATE ++ name_tokens task ++
      maybe_after_kept w.PRIO priority i ++ symbol s.SEMICOLON
  stmt_kept (OfContinue once task place) =
      λ i. maybe_same plain_once said_once said_once once_kept once i ++ word w.CONTINUE ++ name_tokens task ++ symbol s.SEMICOLON
  stmt_kept (OfResume once place) = λ i. once_kept once i ++ word w.RESUME ++ symbol s.SEMICOLON
  stmt_kept (OfOnTask code task place) =
      λ i. word (task_word code) ++ maybe_same plain_name name_tokens name_tokens (λ _. refl) task i ++ symbol s.SEMICOLON
  stmt_kept (OfOnSemas code names place) =
      λ i. word (sema_word code) ++ listed_same plain_name name_tokens name_tokens (λ _. refl) names i ++ symbol s.SEMICOLON
  stmt_kept (OfOnInterrupt code name place) = refl
  stmt_kept (OfPut values dation formats place) =
      λ i. word w.PUT ++ listed_same plain_expr said_expr said_expr expr_kept values i ++ word w.TO ++ by_kept dation formats i
  stmt_kept (OfGet targets dation formats place) =
      λ i. word w.GET ++ listed_same plain_ref said_ref said_ref ref_kept targets i ++ word w.FROM ++ by_kept dation formats i
  stmt_kept (OfSend value dation place) =
      λ i. after_kept w.SEND value i ++ word w.TO ++ name_tokens dation ++ symbol s.SEMICOLON
  stmt_kept (OfTake target dation place) =
      λ i. word w.TAKE ++ ref_kept target i ++ word w.FROM ++ name_tokens dation ++ symbol s.SEMICOLON

  stmts_kept : (statements : ShownStmts) → said_stmts (plain_stmts statements) ≡ said_stmts statements
  stmts_kept NoStmts = refl
  stmts_kept (MoreStmts statement rest) = λ i. stmt_kept statement i ++ stmts_kept rest i

  alternatives_kept : (alternatives : ShownBranches) → said_alternatives (plain_branches alternatives) ≡ said_alternatives alternatives
  alternatives_kept NoBranches = refl
  alternatives_kept (MoreBranches statements place rest) =
      λ i. (word w.ALT ++ stmts_kept statements i) ++ alternatives_kept rest i

  otherwise_kept : (code : ℕ) (otherwise : ShownOtherwise) → said_otherwise code (plain_otherwise otherwise) ≡ said_otherwise code otherwise
  otherwise_kept code NoOtherwise = refl
  otherwise_kept code (OfOtherwise statements place) = λ i. word code ++ stmts_kept statements i

task_body_kept : (body : ShownBody) → said_task_body (plain_body body) ≡ said_task_body body
task_body_kept body =
    λ i. symbol s.SEMICOLON ++
    (body_decls_kept body.declarations i ++ each_same plain_stmt said_stmt said_stmt stmt_kept body.statements i) ++ word w.END ++
    symbol s.SEMICOLON

head_kept : (head : TaskHead) → head_tokens (plain_task_head head) ≡ head_tokens head
head_kept (PrioFirst prio main) = λ i. maybe_same plain_prio prio_tokens prio_tokens (λ _. refl) prio i ++ flag w.MAIN main
head_kept (MainFirst prio) = refl

returns_kept : (part : Basic) → returns_tokens (plain_basic part) ≡ returns_tokens part
returns_kept part = λ i. word w.RETURNS ++ symbol s.LEFT_ROUND ++ basic_kept part i ++ symbol s.RIGHT_ROUND

decl_kept : (declaration : ShownDecl) → said_decl (plain_decl declaration) ≡ said_decl declaration
decl_kept (OfLength sort number place) = refl
decl_kept (OfType name part place) = λ i. word w.TYPE ++ name_tokens name ++ typing_kept part i ++ symbol s.SEMICOLON
decl_kept (OfDeclare parts place) =
    λ i. word w.DCL ++ listed_same plain_declared said_declared said_declared declared_kept parts i ++ symbol s.SEMICOLON
decl_kept (OfSpecify specs place) =
    λ i. word w.SPC ++ listed_same plain_spec said_spec said_spec spec_kept specs i ++ symbol s.SEMICOLON
decl_kept (OfTask name head body place) =
    λ i. name_tokens name ++ symbol s.COLON ++ word w.TASK ++ head_kept head i ++ task_body_kept body i
decl_kept (OfProc name params returns body place) =
    λ i. name_tokens name ++ symbol s.COLON ++ word w.PROC ++
    maybe_bracketed_same plain_param said_param said_param param_kept params i ++
    maybe_same plain_basic returns_tokens returns_tokens returns_kept returns i ++ task_body_kept body i

module_name_kept : (name : ModuleName) → module_name_tokens (plain_module_name name) ≡ module_name_tokens name
module_name_kept (Bracketed name) = refl
module_name_kept (Bare name) = refl

system_kept : (devices : List Device) → said_system (map plain_device devices) ≡ said_system devices
system_kept devices =
    λ i. word w.SYSTEM ++ symbol s.SEMICOLON ++ each_same plain_device device_tokens device_tokens device_kept devices i

front_kept : (tree : ShownTree) → said_front (plain tree) ≡ said_front tree
front_kept tree =
    λ i. word w.MODULE ++ maybe_same plain_module_name module_name_tokens module_name_tokens module_name_kept tree.name i ++
    symbol s.SEMICOLON ++ maybe_same (map plain_device) said_system said_system system_kept tree.system i ++ word w.PROBLEM ++
    symbol s.SEMICOLON

tree_kept : (tree : ShownTree) → said_tree (plain tree) ≡ said_tree tree
tree_kept tree =
    λ i. front_kept tree i ++ each_same plain_decl said_decl said_decl decl_kept tree.declarations i ++ word w.MODEND ++
    symbol s.SEMICOLON

plain_tokens : (tree : Tree) → said_tree (plain (shown_tree tree)) ≡ tokens_of tree
plain_tokens tree = tree_kept (shown_tree tree) ∙ tree_same tree

pub plain_has_one_text : PlainHasOneText
plain_has_one_text tree other same = sym (plain_tokens tree) ∙ ap said_tree same ∙ plain_tokens other
