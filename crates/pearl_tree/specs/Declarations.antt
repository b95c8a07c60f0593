-- Which tokens devices spell, and declarations other than those that have a body.
use Rattle.std.specs.Prelude.{◌≡◌, ℕ, ◌+◌, List, Bool, true, false, codes}
use Rattle.pearl_tree.specs.declared.declaration.DeviceWord.{DeviceWord}
use Rattle.pearl_tree.specs.declared.declaration.DeviceWord.TheVariants as device
use Rattle.pearl_tree.specs.declared.declaration.Device.{Device}
use Rattle.pearl_tree.specs.declared.declaration.Prio.{Prio}
use Rattle.pearl_tree.specs.declared.declaration.Item.{Item}
use Rattle.pearl_tree.specs.declared.declaration.Sema.{Sema}
use Rattle.pearl_tree.specs.declared.declaration.Declared.{Declared}
use Rattle.pearl_tree.specs.declared.declaration.Declared.TheVariants as declared
use Rattle.pearl_value.specs.declared.device.Direction.{Direction}
use Rattle.pearl_value.specs.declared.device.Direction.TheVariants.{In, Out, InOut}
use Rattle.pearl_tree.specs.declared.declaration.Class.{Class}
use Rattle.pearl_tree.specs.declared.declaration.Class.TheVariants as class
use Rattle.pearl_tree.specs.declared.declaration.Spec.{Spec}
use Rattle.pearl_tree.specs.declared.declaration.Spec.TheVariants as spec
use Rattle.pearl_tree.specs.declared.declaration.Param.{Param}
use Rattle.pearl_tree.specs.declared.token.Token.{Token}
use Rattle.pearl_tree.specs.Standing.{Spelling, IsAt, HasWord, HasSymbol, HasId, IsName, IsNumber, SpellsNumber, SpellsFlag, SpellsMaybeHeaded}
use Rattle.pearl_tree.specs.Expressions.{SpellsConst}
use Rattle.pearl_tree.specs.Types.{SpellsNames, SpellsBounds, SpellsBasic, SpellsWholeTyping}
use Rattle.pearl_tree.specs.declared.symbol.TheConstants as s
use Rattle.pearl_tree.specs.declared.word_code.TheConstants as w

-- id | INTERRUPT
abbrev pub IsDeviceWord : List Token → ℕ → DeviceWord → Type 0
IsDeviceWord tokens k (device.Id name) = IsName tokens k name
IsDeviceWord tokens k (device.Interrupt place) = IsAt tokens k place × HasWord tokens k w.INTERRUPT

-- device = id ":" ( id | INTERRUPT ) "(" number ")" ";"
abbrev pub SpellsDevice : List Token → Spelling Device
SpellsDevice tokens from device to =
    IsAt tokens from device.place × IsName tokens from device.name × HasSymbol tokens (from + 1) s.COLON ×
    IsDeviceWord tokens (from + 2) device.word × HasSymbol tokens (from + 3) s.LEFT_ROUND ×
    IsNumber tokens (from + 4) device.number × HasSymbol tokens (from + 5) s.RIGHT_ROUND ×
    HasSymbol tokens (from + 6) s.SEMICOLON × (to ≡ from + 7)

-- prio = PRIO number
abbrev pub SpellsPrio : List Token → Spelling Prio
SpellsPrio tokens from prio to =
    IsAt tokens from prio.place × HasWord tokens from w.PRIO × IsNumber tokens (from + 1) prio.number × (to ≡ from + 2)

-- item = names [ bounds ] [ INV ] type [ INIT "(" const { "," const } ")" ]
abbrev pub SpellsItem : List Token → Spelling Item
SpellsItem tokens from item to =
    (a : ℕ) × (b : ℕ) × (c : ℕ) × (d : ℕ) × IsAt tokens from item.place × SpellsNames tokens from item.names a ×
    SpellsBounds tokens a item.bounds b × SpellsFlag tokens w.INV b item.inv c ×
    SpellsWholeTyping tokens c item.typing d ×
    SpellsMaybeHeaded tokens w.INIT (SpellsConst tokens) d item.init.items.items to

-- sema = names SEMA [ PRESET "(" number { "," number } ")" ]
abbrev pub SpellsSema : List Token → Spelling Sema
SpellsSema tokens from sema to =
    (a : ℕ) × IsAt tokens from sema.place × SpellsNames tokens from sema.names a × HasWord tokens a w.SEMA ×
    SpellsMaybeHeaded tokens w.PRESET (SpellsNumber tokens) (a + 1) sema.preset.items.items to

-- item | sema
abbrev pub SpellsDeclared : List Token → Spelling Declared
SpellsDeclared tokens from (declared.Item item) to = SpellsItem tokens from item to
SpellsDeclared tokens from (declared.Sema sema) to = SpellsSema tokens from sema to

-- IN | OUT | INOUT
abbrev pub direction_word : Direction → ℕ
direction_word In = w.IN
direction_word Out = w.OUT
direction_word InOut = w.INOUT

-- ALPHIC | BASIC basic
abbrev pub SpellsClass : List Token → Spelling Class
SpellsClass tokens from (class.Alphic place) to =
    IsAt tokens from place × HasWord tokens from w.ALPHIC × (to ≡ from + 1)
SpellsClass tokens from (class.Basic basic place) to =
    IsAt tokens from place × HasWord tokens from w.BASIC × SpellsBasic tokens (from + 1) basic to

-- [ "CONTROL" "(" ALL ")" ]
abbrev pub SpellsControl : List Token → Spelling Bool
SpellsControl tokens from false to = to ≡ from
SpellsControl tokens from true to =
    HasId tokens from (codes "CONTROL") × HasSymbol tokens (from + 1) s.LEFT_ROUND × HasWord tokens (from + 2) w.ALL ×
    HasSymbol tokens (from + 3) s.RIGHT_ROUND × (to ≡ from + 4)

-- spec = names INTERRUPT | names DATION ( IN | OUT | INOUT ) ( ALPHIC | BASIC basic ) [ "CONTROL" "(" ALL ")" ]
abbrev pub SpellsSpec : List Token → Spelling Spec
SpellsSpec tokens from (spec.Interrupt names place) to =
    (a : ℕ) × IsAt tokens from place × SpellsNames tokens from names a × HasWord tokens a w.INTERRUPT × (to ≡ a + 1)
SpellsSpec tokens from (spec.Dation names direction class control place) to =
    (a : ℕ) × (b : ℕ) × IsAt tokens from place × SpellsNames tokens from names a × HasWord tokens a w.DATION ×
    HasWord tokens (a + 1) (direction_word direction) × SpellsClass tokens (a + 2) class b ×
    SpellsControl tokens b control to

-- param = names basic [ IDENT ]
abbrev pub SpellsParam : List Token → Spelling Param
SpellsParam tokens from param to =
    (a : ℕ) × (b : ℕ) × IsAt tokens from param.place × SpellsNames tokens from param.names a ×
    SpellsBasic tokens a param.basic b × SpellsFlag tokens w.IDENT b param.ident to
