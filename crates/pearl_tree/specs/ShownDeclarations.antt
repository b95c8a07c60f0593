-- What types and declarations say, apart from where their parts lie in memory.
use Rattle.std.specs.Prelude.{ℕ, Bool, List, map}
use Rattle.pearl_tree.specs.declared.name.Name.{Name}
use Rattle.pearl_tree.specs.declared.name.Number.{Number}
use Rattle.pearl_tree.specs.declared.name.Names.{Names}
use Rattle.pearl_tree.specs.declared.name.Names.TheVariants.{One, Several}
use Rattle.pearl_tree.specs.declared.typing.Bound.{Bound}
use Rattle.pearl_tree.specs.declared.typing.Basic.{Basic}
use Rattle.pearl_tree.specs.declared.typing.Typing.{Typing, Row_of-Field, end_of-Field, more_of-Field}
use Rattle.pearl_tree.specs.declared.typing.Typing as typing
use Rattle.pearl_tree.specs.declared.declaration.Item.{Item}
use Rattle.pearl_tree.specs.declared.declaration.Sema.{Sema}
use Rattle.pearl_tree.specs.declared.declaration.Declared.{Declared}
use Rattle.pearl_tree.specs.declared.declaration.Declared.TheVariants as declared
use Rattle.pearl_value.specs.declared.device.Direction.{Direction}
use Rattle.pearl_tree.specs.declared.declaration.Class.{Class}
use Rattle.pearl_tree.specs.declared.declaration.Spec.{Spec}
use Rattle.pearl_tree.specs.declared.declaration.Spec.TheVariants as spec
use Rattle.pearl_tree.specs.declared.declaration.Param.{Param}
use Rattle.pearl_tree.specs.ShownLiterals.{ShownConst, shown_const}

pub data ShownNames : Type 0 where
  OfOne : (name : Name) → ShownNames
  OfSeveral : (names : List Name) (place : ℕ) → ShownNames

abbrev pub shown_names : Names → ShownNames
shown_names (One name) = OfOne name
shown_names (Several names place) = OfSeveral names.items.items place

mutual
  pub data ShownTyping : Type 0 where
    OfBasic : (part : Basic) → ShownTyping
    OfStruct : (fields : ShownFields) (place : ℕ) → ShownTyping
    OfNamed : (name : Name) → ShownTyping

  pub data ShownFields : Type 0 where
    NoFields : ShownFields
    MoreFields : (names : ShownNames) (bounds : List Bound) (part : ShownTyping) (place : ℕ) (rest : ShownFields) → ShownFields

abbrev mutual
  pub shown_typing : Typing → ShownTyping
  shown_typing (typing.Basic part) = OfBasic part
  shown_typing (typing.Struct' _ fields place) = OfStruct (shown_fields fields) place
  shown_typing (typing.Named name) = OfNamed name

  pub shown_fields : {n : _} → Row_of-Field n → ShownFields
  shown_fields end_of-Field = NoFields
  shown_fields (more_of-Field names bounds part place rest) =
      MoreFields (shown_names names) bounds.items.items (shown_typing part) place (shown_fields rest)

pub record ShownItem : Type 0 where
  pub names : ShownNames
  pub bounds : List Bound
  pub inv : Bool
  pub part : ShownTyping
  pub init : List ShownConst
  pub place : ℕ

abbrev pub shown_item : Item → ShownItem
shown_item item = record {
  names = shown_names item.names;
  bounds = item.bounds.items.items;
  inv = item.inv;
  part = shown_typing item.typing;
  init = map shown_const item.init.items.items;
  place = item.place;
}

pub record ShownSema : Type 0 where
  pub names : ShownNames
  pub preset : List Number
  pub place : ℕ

abbrev pub shown_sema : Sema → ShownSema
shown_sema sema = record { names = shown_names sema.names; preset = sema.preset.items.items; place = sema.place }

pub data ShownDeclared : Type 0 where
  OfItem : (item : ShownItem) → ShownDeclared
  OfSema : (sema : ShownSema) → ShownDeclared

abbrev pub shown_declared : Declared → ShownDeclared
shown_declared (declared.Item item) = OfItem (shown_item item)
shown_declared (declared.Sema sema) = OfSema (shown_sema sema)

pub data ShownSpec : Type 0 where
  OfInterrupt : (names : ShownNames) (place : ℕ) → ShownSpec
  OfDation : (names : ShownNames) (direction : Direction) (class : Class) (control : Bool) (place : ℕ) → ShownSpec

abbrev pub shown_spec : Spec → ShownSpec
shown_spec (spec.Interrupt names place) = OfInterrupt (shown_names names) place
shown_spec (spec.Dation names direction class control place) = OfDation (shown_names names) direction class control place

pub record ShownParam : Type 0 where
  pub names : ShownNames
  pub basic : Basic
  pub ident : Bool
  pub place : ℕ

abbrev pub shown_param : Param → ShownParam
shown_param param = record { names = shown_names param.names; basic = param.basic; ident = param.ident; place = param.place }
