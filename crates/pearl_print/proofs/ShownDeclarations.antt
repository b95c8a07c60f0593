-- The tokens of what types and declarations say, and that they are those of the types and declarations.
use Rattle.std.proofs.Common.{◌≡◌, List, [], ◌++◌, refl}
use Rattle.pearl_tree.specs.declared.name.Names.{Names}
use Rattle.pearl_tree.specs.declared.name.Names.TheVariants.{One, Several}
use Rattle.pearl_tree.specs.declared.typing.Typing.{Typing, Row_of-Field, end_of-Field, more_of-Field}
use Rattle.pearl_tree.specs.declared.typing.Typing as typing
use Rattle.pearl_tree.specs.declared.declaration.Item.{Item}
use Rattle.pearl_tree.specs.declared.declaration.Sema.{Sema}
use Rattle.pearl_tree.specs.declared.declaration.Declared.{Declared}
use Rattle.pearl_tree.specs.declared.declaration.Declared.TheVariants as declared
use Rattle.pearl_tree.specs.declared.declaration.Spec.{Spec}
use Rattle.pearl_tree.specs.declared.declaration.Spec.TheVariants as spec
use Rattle.pearl_tree.specs.declared.declaration.Param.{Param}
use Rattle.pearl_tree.specs.declared.token.What.{What}
use Rattle.pearl_tree.specs.Declarations.{direction_word}
use Rattle.pearl_tree.specs.ShownLiterals.{ShownConst, shown_const}
use Rattle.pearl_tree.specs.ShownDeclarations.{ShownNames, OfOne, OfSeveral, shown_names, ShownTyping, OfBasic, OfStruct, OfNamed, ShownFields, NoFields, MoreFields, shown_typing, shown_fields, ShownItem, shown_item, ShownSema, shown_sema, ShownDeclared, OfItem, OfSema, shown_declared, ShownSpec, OfInterrupt, OfDation, shown_spec, ShownParam, shown_param}
use Rattle.pearl_tree.specs.declared.symbol.TheConstants as s
use Rattle.pearl_tree.specs.declared.word_code.TheConstants as w
use Rattle.pearl_print.specs.Lists.{word, symbol, name_tokens, number_tokens, bracketed, maybe_headed, maybe, flag}
use Rattle.pearl_print.specs.Expressions.{sign_tokens, literal_tokens, const_tokens}
use Rattle.pearl_print.specs.Types.{names_tokens, bounds_tokens, basic_tokens, typing_tokens, fields_tokens, more_fields_tokens}
use Rattle.pearl_print.specs.Declarations.{item_tokens, sema_tokens, declared_tokens, class_tokens, spec_tokens, param_tokens}
use Rattle.pearl_print.proofs.ShownLists.{maybe_headed_same}

abbrev pub said_names : ShownNames → List What
said_names (OfOne name) = name_tokens name
said_names (OfSeveral names place) = bracketed name_tokens names

names_same : (names : Names) → said_names (shown_names names) ≡ names_tokens names
names_same (One name) = refl
names_same (Several names place) = refl

abbrev mutual
  pub said_typing : ShownTyping → List What
  said_typing (OfBasic part) = basic_tokens part
  said_typing (OfStruct fields place) = word w.STRUCT ++ symbol s.LEFT_SQUARE ++ said_fields fields ++ symbol s.RIGHT_SQUARE
  said_typing (OfNamed name) = name_tokens name

  pub said_fields : ShownFields → List What
  said_fields NoFields = []
  said_fields (MoreFields names bounds part place rest) =
      (said_names names ++ bounds_tokens bounds ++ said_typing part) ++ more_said_fields rest

  pub more_said_fields : ShownFields → List What
  more_said_fields NoFields = []
  more_said_fields (MoreFields names bounds part place rest) =
      (symbol s.COMMA ++ said_names names ++ bounds_tokens bounds ++ said_typing part) ++ more_said_fields rest

mutual
  pub typing_same : (typing : Typing) → said_typing (shown_typing typing) ≡ typing_tokens typing
  typing_same (typing.Basic part) = refl
  typing_same (typing.Struct' _ fields place) =
      λ i. word w.STRUCT ++ symbol s.LEFT_SQUARE ++ fields_same _ fields i ++ symbol s.RIGHT_SQUARE
  typing_same (typing.Named name) = refl

  fields_same : (n : _) (row : Row_of-Field n) → said_fields (shown_fields row) ≡ fields_tokens row
  fields_same _ end_of-Field = refl
  fields_same _ (more_of-Field names bounds part place rest) =
      λ i. (names_same names i ++ bounds_tokens bounds.items.items ++ typing_same part i) ++ more_fields_same _ rest i

  more_fields_same : (n : _) (row : Row_of-Field n) → more_said_fields (shown_fields row) ≡ more_fields_tokens row
  more_fields_same _ end_of-Field = refl
  more_fields_same _ (more_of-Field names bounds part place rest) =
      λ i. (symbol s.COMMA ++ names_same names i ++ bounds_tokens bounds.items.items ++ typing_same part i) ++ more_fields_same _ rest i

abbrev pub said_const : ShownConst → List What
said_const constant = maybe sign_tokens constant.sign ++ literal_tokens constant.literal

abbrev pub said_item : ShownItem → List What
said_item item =
    said_names item.names ++ bounds_tokens item.bounds ++ flag w.INV item.inv ++ said_typing item.part ++
    maybe_headed w.INIT said_const item.init

pub item_same : (item : Item) → said_item (shown_item item) ≡ item_tokens item
item_same item =
    λ i. names_same item.names i ++ bounds_tokens item.bounds.items.items ++ flag w.INV item.inv ++
    typing_same item.typing i ++
    maybe_headed_same shown_const said_const const_tokens (λ constant. refl) w.INIT item.init.items.items i

abbrev pub said_sema : ShownSema → List What
said_sema sema = said_names sema.names ++ word w.SEMA ++ maybe_headed w.PRESET number_tokens sema.preset

sema_same : (sema : Sema) → said_sema (shown_sema sema) ≡ sema_tokens sema
sema_same sema = λ i. names_same sema.names i ++ word w.SEMA ++ maybe_headed w.PRESET number_tokens sema.preset.items.items

abbrev pub said_declared : ShownDeclared → List What
said_declared (OfItem item) = said_item item
said_declared (OfSema sema) = said_sema sema

pub declared_same : (declared : Declared) → said_declared (shown_declared declared) ≡ declared_tokens declared
declared_same (declared.Item item) = item_same item
declared_same (declared.Sema sema) = sema_same sema

abbrev pub said_spec : ShownSpec → List What
said_spec (OfInterrupt names place) = said_names names ++ word w.INTERRUPT
said_spec (OfDation names direction class control place) =
    said_names names ++ word w.DATION ++ word (direction_word direction) ++ class_tokens class

pub spec_same : (spec : Spec) → said_spec (shown_spec spec) ≡ spec_tokens spec
spec_same (spec.Interrupt names place) = λ i. names_same names i ++ word w.INTERRUPT
spec_same (spec.Dation names direction class control place) =
    λ i. names_same names i ++ word w.DATION ++ word (direction_word direction) ++ class_tokens class

abbrev pub said_param : ShownParam → List What
said_param param = said_names param.names ++ basic_tokens param.basic ++ flag w.IDENT param.ident

pub param_same : (param : Param) → said_param (shown_param param) ≡ param_tokens param
param_same param = λ i. names_same param.names i ++ basic_tokens param.basic ++ flag w.IDENT param.ident
