-- The tokens of devices, and of declarations other than those that have a body.
use Rattle.std.specs.Prelude.{List, ◌++◌}
use Rattle.pearl_tree.specs.declared.declaration.DeviceWord.{DeviceWord}
use Rattle.pearl_tree.specs.declared.declaration.DeviceWord.TheVariants as device
use Rattle.pearl_tree.specs.declared.declaration.Device.{Device}
use Rattle.pearl_tree.specs.declared.declaration.Prio.{Prio}
use Rattle.pearl_tree.specs.declared.declaration.Item.{Item}
use Rattle.pearl_tree.specs.declared.declaration.Sema.{Sema}
use Rattle.pearl_tree.specs.declared.declaration.Declared.{Declared}
use Rattle.pearl_tree.specs.declared.declaration.Declared.TheVariants as declared
use Rattle.pearl_tree.specs.declared.declaration.Class.{Class}
use Rattle.pearl_tree.specs.declared.declaration.Class.TheVariants as class
use Rattle.pearl_tree.specs.declared.declaration.Spec.{Spec}
use Rattle.pearl_tree.specs.declared.declaration.Spec.TheVariants as spec
use Rattle.pearl_tree.specs.declared.declaration.Param.{Param}
use Rattle.pearl_tree.specs.declared.token.What.{What}
use Rattle.pearl_tree.specs.Declarations.{direction_word}
use Rattle.pearl_tree.specs.declared.symbol.TheConstants as s
use Rattle.pearl_tree.specs.declared.word_code.TheConstants as w
use Rattle.pearl_print.specs.Lists.{word, symbol, name_tokens, number_tokens, maybe_headed, flag, bracketed_number}
use Rattle.pearl_print.specs.Expressions.{const_tokens}
use Rattle.pearl_print.specs.Types.{names_tokens, bounds_tokens, basic_tokens, typing_tokens}

-- id | INTERRUPT
abbrev pub device_word_tokens : DeviceWord → List What
device_word_tokens (device.Id name) = name_tokens name
device_word_tokens (device.Interrupt place) = word w.INTERRUPT

-- device = id ":" ( id | INTERRUPT ) "(" number ")" ";"
abbrev pub device_tokens : Device → List What
device_tokens device =
    name_tokens device.name ++ symbol s.COLON ++ device_word_tokens device.word ++ bracketed_number device.number ++
    symbol s.SEMICOLON

-- prio = PRIO number
abbrev pub prio_tokens : Prio → List What
prio_tokens prio = word w.PRIO ++ number_tokens prio.number

-- item = names [ bounds ] [ INV ] type [ INIT "(" const { "," const } ")" ]
abbrev pub item_tokens : Item → List What
item_tokens item =
    names_tokens item.names ++ bounds_tokens item.bounds.items.items ++ flag w.INV item.inv ++
    typing_tokens item.typing ++ maybe_headed w.INIT const_tokens item.init.items.items

-- sema = names SEMA [ PRESET "(" number { "," number } ")" ]
abbrev pub sema_tokens : Sema → List What
sema_tokens sema =
    names_tokens sema.names ++ word w.SEMA ++ maybe_headed w.PRESET number_tokens sema.preset.items.items

-- item | sema
abbrev pub declared_tokens : Declared → List What
declared_tokens (declared.Item item) = item_tokens item
declared_tokens (declared.Sema sema) = sema_tokens sema

-- ALPHIC | BASIC basic
abbrev pub class_tokens : Class → List What
class_tokens (class.Alphic place) = word w.ALPHIC
class_tokens (class.Basic basic place) = word w.BASIC ++ basic_tokens basic

-- spec = names INTERRUPT | names DATION ( IN | OUT | INOUT ) ( ALPHIC | BASIC basic ), without CONTROL
abbrev pub spec_tokens : Spec → List What
spec_tokens (spec.Interrupt names place) = names_tokens names ++ word w.INTERRUPT
spec_tokens (spec.Dation names direction class control place) =
    names_tokens names ++ word w.DATION ++ word (direction_word direction) ++ class_tokens class

-- param = names basic [ IDENT ]
abbrev pub param_tokens : Param → List What
param_tokens param = names_tokens param.names ++ basic_tokens param.basic ++ flag w.IDENT param.ident
