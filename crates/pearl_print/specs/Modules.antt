-- The tokens of a module.
use Rattle.std.specs.Prelude.{List, ◌++◌, Option}
use Rattle.std.specs.List.{flat_map}
use Rattle.pearl_tree.specs.declared.declaration.Device.{Device}
use Rattle.pearl_tree.specs.declared.declaration.Param.{Param}
use Rattle.pearl_tree.specs.declared.name.Name.{Name}
use Rattle.pearl_tree.specs.declared.parts.Parts.{Parts}
use Rattle.pearl_tree.specs.declared.statement.Body.{Body}
use Rattle.pearl_tree.specs.declared.typing.Basic.{Basic}
use Rattle.pearl_tree.specs.declared.tree.TaskHead.{TaskHead}
use Rattle.pearl_tree.specs.declared.tree.TaskHead.TheVariants.{PrioFirst, MainFirst}
use Rattle.pearl_tree.specs.declared.tree.Decl.{Decl}
use Rattle.pearl_tree.specs.declared.tree.Decl.TheVariants as decl
use Rattle.pearl_tree.specs.declared.tree.ModuleName.{ModuleName}
use Rattle.pearl_tree.specs.declared.tree.ModuleName.TheVariants.{Bracketed, Bare}
use Rattle.pearl_tree.specs.declared.tree.Tree.{Tree}
use Rattle.pearl_tree.specs.declared.token.What.{What}
use Rattle.pearl_tree.specs.Types.{sort_word}
use Rattle.pearl_tree.specs.declared.symbol.TheConstants as s
use Rattle.pearl_tree.specs.declared.word_code.TheConstants as w
use Rattle.pearl_print.specs.Lists.{word, symbol, name_tokens, listed, maybe_bracketed, maybe, flag, bracketed_number}
use Rattle.pearl_print.specs.Types.{basic_tokens, typing_tokens}
use Rattle.pearl_print.specs.Declarations.{device_tokens, prio_tokens, declared_tokens, spec_tokens, param_tokens}
use Rattle.pearl_print.specs.Statements.{body_tokens}

-- [ prio ] [ MAIN ], in this order
abbrev pub head_tokens : TaskHead → List What
head_tokens (PrioFirst prio main) = maybe prio_tokens prio ++ flag w.MAIN main
head_tokens (MainFirst prio) = prio_tokens prio ++ word w.MAIN

-- RETURNS "(" basic ")"
abbrev pub returns_tokens : Basic → List What
returns_tokens basic = word w.RETURNS ++ symbol s.LEFT_ROUND ++ basic_tokens basic ++ symbol s.RIGHT_ROUND

-- ";" body END ";"
abbrev pub task_body_tokens : Body → List What
task_body_tokens body = symbol s.SEMICOLON ++ body_tokens body ++ word w.END ++ symbol s.SEMICOLON

-- id ":" TASK [ prio ] [ MAIN ] ";" body END ";"
abbrev pub task_tokens : Name → TaskHead → Body → List What
task_tokens name head body = name_tokens name ++ symbol s.COLON ++ word w.TASK ++ head_tokens head ++ task_body_tokens body

-- id ":" PROC [ "(" param { "," param } ")" ] [ RETURNS "(" basic ")" ] ";" body END ";"
abbrev pub proc_tokens : Name → Parts Param → Option Basic → Body → List What
proc_tokens name params returns body =
    name_tokens name ++ symbol s.COLON ++ word w.PROC ++ maybe_bracketed param_tokens params.items.items ++
    maybe returns_tokens returns ++ task_body_tokens body

abbrev pub decl_tokens : Decl → List What
-- LENGTH ( FIXED | BIT | CHAR ) "(" number ")" ";"
decl_tokens (decl.Length sort number place) =
    word w.LENGTH ++ word (sort_word sort) ++ bracketed_number number ++ symbol s.SEMICOLON
-- TYPE id type ";"
decl_tokens (decl.Type name typing place) =
    word w.TYPE ++ name_tokens name ++ typing_tokens typing ++ symbol s.SEMICOLON
-- DCL ( item | sema ) { "," ( item | sema ) } ";"
decl_tokens (decl.Declare declared place) =
    word w.DCL ++ listed declared_tokens declared.items.items ++ symbol s.SEMICOLON
-- SPC spec { "," spec } ";"
decl_tokens (decl.Specify specs place) = word w.SPC ++ listed spec_tokens specs.items.items ++ symbol s.SEMICOLON
-- a task or a procedure
decl_tokens (decl.Task name head body place) = task_tokens name head body
decl_tokens (decl.Proc name params returns body place) = proc_tokens name params returns body

-- "(" id ")"
abbrev pub bracketed_name : Name → List What
bracketed_name name = symbol s.LEFT_ROUND ++ name_tokens name ++ symbol s.RIGHT_ROUND

abbrev pub module_name_tokens : ModuleName → List What
module_name_tokens (Bracketed name) = bracketed_name name
module_name_tokens (Bare name) = bracketed_name name

-- SYSTEM ";" { device }
abbrev pub system_tokens : Parts Device → List What
system_tokens devices = word w.SYSTEM ++ symbol s.SEMICOLON ++ flat_map device_tokens devices.items.items

-- MODULE [ "(" id ")" ] ";" [ SYSTEM ";" { device } ] PROBLEM ";"
abbrev pub front_tokens : Tree → List What
front_tokens tree =
    word w.MODULE ++ maybe module_name_tokens tree.name ++ symbol s.SEMICOLON ++ maybe system_tokens tree.system ++
    word w.PROBLEM ++ symbol s.SEMICOLON

-- module = MODULE [ "(" id ")" ] ";" [ SYSTEM ";" { device } ] PROBLEM ";" { decl } MODEND ";"
unfoldable pub tokens_of : Tree → List What
tokens_of tree = front_tokens tree ++ flat_map decl_tokens tree.declarations.items.items ++ word w.MODEND ++ symbol s.SEMICOLON
