-- What a module says, apart from where its parts lie in memory.
use Rattle.std.specs.Prelude.{ℕ, Bool, List, map, Option, option_map}
use Rattle.pearl_tree.specs.declared.parts.Parts.{Parts}
use Rattle.pearl_tree.specs.declared.name.Name.{Name}
use Rattle.pearl_tree.specs.declared.name.Number.{Number}
use Rattle.pearl_tree.specs.declared.typing.Sort.{Sort}
use Rattle.pearl_tree.specs.declared.typing.Basic.{Basic}
use Rattle.pearl_tree.specs.declared.declaration.Device.{Device}
use Rattle.pearl_tree.specs.declared.statement.Body.{Body}
use Rattle.pearl_tree.specs.declared.tree.TaskHead.{TaskHead}
use Rattle.pearl_tree.specs.declared.tree.Decl.{Decl}
use Rattle.pearl_tree.specs.declared.tree.Decl.TheVariants as decl
use Rattle.pearl_tree.specs.declared.tree.ModuleName.{ModuleName}
use Rattle.pearl_tree.specs.declared.tree.Tree.{Tree}
use Rattle.pearl_tree.specs.ShownDeclarations.{ShownTyping, shown_typing, ShownDeclared, shown_declared, ShownSpec, shown_spec, ShownParam, shown_param}
use Rattle.pearl_tree.specs.ShownStatements.{ShownBodyDecl, shown_body_decl, ShownStmt, shown_stmt}

pub record ShownBody : Type 0 where
  pub declarations : List ShownBodyDecl
  pub statements : List ShownStmt
  pub place : ℕ

abbrev pub shown_body : Body → ShownBody
shown_body body = record {
  declarations = map shown_body_decl body.declarations.items.items;
  statements = map shown_stmt body.statements.items.items;
  place = body.place;
}

pub data ShownDecl : Type 0 where
  OfLength : (sort : Sort) (number : Number) (place : ℕ) → ShownDecl
  OfType : (name : Name) (part : ShownTyping) (place : ℕ) → ShownDecl
  OfDeclare : (declared : List ShownDeclared) (place : ℕ) → ShownDecl
  OfSpecify : (specs : List ShownSpec) (place : ℕ) → ShownDecl
  OfTask : (name : Name) (head : TaskHead) (body : ShownBody) (place : ℕ) → ShownDecl
  OfProc : (name : Name) (params : List ShownParam) (returns : Option Basic) (body : ShownBody) (place : ℕ) → ShownDecl

abbrev pub shown_decl : Decl → ShownDecl
shown_decl (decl.Length sort number place) = OfLength sort number place
shown_decl (decl.Type name typing place) = OfType name (shown_typing typing) place
shown_decl (decl.Declare declared place) = OfDeclare (map shown_declared declared.items.items) place
shown_decl (decl.Specify specs place) = OfSpecify (map shown_spec specs.items.items) place
shown_decl (decl.Task name head body place) = OfTask name head (shown_body body) place
shown_decl (decl.Proc name params returns body place) =
    OfProc name (map shown_param params.items.items) returns (shown_body body) place

abbrev pub shown_devices : Parts Device → List Device
shown_devices devices = devices.items.items

pub record ShownTree : Type 0 where
  pub name : Option ModuleName
  pub system : Option (List Device)
  pub declarations : List ShownDecl
  pub modend : ℕ
  pub semicolon : Bool
  pub place : ℕ

abbrev pub shown_tree : Tree → ShownTree
shown_tree tree = record {
  name = tree.name;
  system = option_map shown_devices tree.system;
  declarations = map shown_decl tree.declarations.items.items;
  modend = tree.modend;
  semicolon = tree.semicolon;
  place = tree.place;
}
