-- The tokens of what a module says, and that they are those of the module.
use Rattle.std.proofs.Common.{◌≡◌, List, ◌++◌, refl, sym, ap, ◌∙◌}
use Rattle.std.specs.List.{flat_map}
use Rattle.pearl_tree.specs.declared.declaration.Device.{Device}
use Rattle.pearl_tree.specs.declared.statement.Body.{Body}
use Rattle.pearl_tree.specs.declared.tree.Decl.{Decl}
use Rattle.pearl_tree.specs.declared.tree.Decl.TheVariants as decl
use Rattle.pearl_tree.specs.declared.tree.Tree.{Tree}
use Rattle.pearl_tree.specs.declared.token.What.{What}
use Rattle.pearl_tree.specs.Types.{sort_word}
use Rattle.pearl_tree.specs.ShownDeclarations.{shown_declared, shown_spec, shown_param}
use Rattle.pearl_tree.specs.ShownStatements.{shown_body_decl, shown_stmt}
use Rattle.pearl_tree.specs.ShownModules.{ShownBody, shown_body, ShownDecl, OfLength, OfType, OfDeclare, OfSpecify, OfTask, OfProc, shown_decl, shown_devices, ShownTree, shown_tree}
use Rattle.pearl_tree.specs.declared.symbol.TheConstants as s
use Rattle.pearl_tree.specs.declared.word_code.TheConstants as w
use Rattle.pearl_tree.proofs.Offered.{one_tree}
use Rattle.pearl_print.specs.Lists.{word, symbol, name_tokens, listed, maybe_bracketed, maybe, bracketed_number}
use Rattle.pearl_print.specs.Declarations.{device_tokens, declared_tokens, spec_tokens, param_tokens}
use Rattle.pearl_print.specs.Statements.{body_decl_tokens, stmt_tokens}
use Rattle.pearl_print.specs.Modules.{head_tokens, returns_tokens, task_body_tokens, decl_tokens, module_name_tokens, system_tokens, front_tokens, tokens_of}
use Rattle.pearl_print.specs.ShownText.{HasOneText, SourceHasOneText}
use Rattle.pearl_print.proofs.ShownLists.{each_same, listed_same, maybe_bracketed_same, maybe_same}
use Rattle.pearl_print.proofs.ShownDeclarations.{said_typing, typing_same, said_declared, declared_same, said_spec, spec_same, said_param, param_same}
use Rattle.pearl_print.proofs.ShownStatements.{said_body_decl, body_decl_same, said_stmt, stmt_same}

abbrev pub said_task_body : ShownBody → List What
said_task_body body =
    symbol s.SEMICOLON ++ (flat_map said_body_decl body.declarations ++ flat_map said_stmt body.statements) ++ word w.END ++
    symbol s.SEMICOLON

task_body_same : (body : Body) → said_task_body (shown_body body) ≡ task_body_tokens body
task_body_same body =
    λ i. symbol s.SEMICOLON ++
    (each_same shown_body_decl said_body_decl body_decl_tokens body_decl_same body.declarations.items.items i ++
    each_same shown_stmt said_stmt stmt_tokens stmt_same body.statements.items.items i) ++ word w.END ++ symbol s.SEMICOLON

abbrev pub said_decl : ShownDecl → List What
said_decl (OfLength sort number place) = word w.LENGTH ++ word (sort_word sort) ++ bracketed_number number ++ symbol s.SEMICOLON
said_decl (OfType name part place) = word w.TYPE ++ name_tokens name ++ said_typing part ++ symbol s.SEMICOLON
said_decl (OfDeclare declared place) = word w.DCL ++ listed said_declared declared ++ symbol s.SEMICOLON
said_decl (OfSpecify specs place) = word w.SPC ++ listed said_spec specs ++ symbol s.SEMICOLON
said_decl (OfTask name head body place) =
    name_tokens name ++ symbol s.COLON ++ word w.TASK ++ head_tokens head ++ said_task_body body
said_decl (OfProc name params returns body place) =
    name_tokens name ++ symbol s.COLON ++ word w.PROC ++ maybe_bracketed said_param params ++ maybe returns_tokens returns ++
    said_task_body body

decl_same : (declaration : Decl) → said_decl (shown_decl declaration) ≡ decl_tokens declaration
decl_same (decl.Length sort number place) = refl
decl_same (decl.Type name typing place) = λ i. word w.TYPE ++ name_tokens name ++ typing_same typing i ++ symbol s.SEMICOLON
decl_same (decl.Declare declared place) =
    λ i. word w.DCL ++ listed_same shown_declared said_declared declared_tokens declared_same declared.items.items i ++ symbol s.SEMICOLON
decl_same (decl.Specify specs place) =
    λ i. word w.SPC ++ listed_same shown_spec said_spec spec_tokens spec_same specs.items.items i ++ symbol s.SEMICOLON
decl_same (decl.Task name head body place) =
    λ i. name_tokens name ++ symbol s.COLON ++ word w.TASK ++ head_tokens head ++ task_body_same body i
decl_same (decl.Proc name params returns body place) =
    λ i. name_tokens name ++ symbol s.COLON ++ word w.PROC ++
    maybe_bracketed_same shown_param said_param param_tokens param_same params.items.items i ++ maybe returns_tokens returns ++
    task_body_same body i

abbrev pub said_system : List Device → List What
said_system devices = word w.SYSTEM ++ symbol s.SEMICOLON ++ flat_map device_tokens devices

abbrev pub said_front : ShownTree → List What
said_front tree =
    word w.MODULE ++ maybe module_name_tokens tree.name ++ symbol s.SEMICOLON ++ maybe said_system tree.system ++
    word w.PROBLEM ++ symbol s.SEMICOLON

front_same : (tree : Tree) → said_front (shown_tree tree) ≡ front_tokens tree
front_same tree =
    λ i. word w.MODULE ++ maybe module_name_tokens tree.name ++ symbol s.SEMICOLON ++
    maybe_same shown_devices said_system system_tokens (λ _. refl) tree.system i ++ word w.PROBLEM ++ symbol s.SEMICOLON

abbrev pub said_tree : ShownTree → List What
said_tree tree = said_front tree ++ flat_map said_decl tree.declarations ++ word w.MODEND ++ symbol s.SEMICOLON

pub tree_same : (tree : Tree) → said_tree (shown_tree tree) ≡ tokens_of tree
unfolding tokens_of
tree_same tree =
    λ i. front_same tree i ++ each_same shown_decl said_decl decl_tokens decl_same tree.declarations.items.items i ++
    word w.MODEND ++ symbol s.SEMICOLON

pub one_text : HasOneText
one_text tree other same = sym (tree_same tree) ∙ ap said_tree same ∙ tree_same other

pub source_has_one_text : SourceHasOneText
source_has_one_text tokens tree other first second = one_text tree other (one_tree tokens tree other first second)
