-- The productions of names, bounds, types and declarations that have no body, and how a tree holds
-- their parts.
use Rattle.std.specs.Prelude.{◌≡◌, ℕ, ◌+◌, Bool, true, false, List, codes}
use Rattle.pearl_tree.specs.declared.name.Name.{Name}
use Rattle.pearl_tree.specs.declared.name.Number.{Number}
use Rattle.pearl_tree.specs.declared.name.Names.{Names}
use Rattle.pearl_tree.specs.declared.name.Names.TheVariants as several
use Rattle.pearl_tree.specs.declared.parts.Parts.{Parts}
use Rattle.pearl_tree.specs.declared.literal.Sign as sign
use Rattle.pearl_tree.specs.declared.literal.Literal.{Literal}
use Rattle.pearl_tree.specs.declared.literal.Const.{Const}
use Rattle.pearl_tree.specs.declared.typing.Int.{Int}
use Rattle.pearl_tree.specs.declared.typing.Bound.{Bound}
use Rattle.pearl_tree.specs.declared.typing.Sort.{Sort}
use Rattle.pearl_tree.specs.declared.typing.Basic.{Basic}
use Rattle.pearl_tree.specs.declared.typing.Basic.TheVariants as basic
use Rattle.pearl_tree.specs.declared.typing.Typing.{Typing}
use Rattle.pearl_tree.specs.declared.typing.Field.{Field}
use Rattle.pearl_tree.specs.declared.declaration.DeviceWord.{DeviceWord}
use Rattle.pearl_tree.specs.declared.declaration.Device.{Device}
use Rattle.pearl_tree.specs.declared.declaration.Prio.{Prio}
use Rattle.pearl_tree.specs.declared.declaration.Item.{Item}
use Rattle.pearl_tree.specs.declared.declaration.Sema.{Sema}
use Rattle.pearl_tree.specs.declared.declaration.Declared.{Declared}
use Rattle.pearl_tree.specs.declared.declaration.Declared.TheVariants as declared
use Rattle.pearl_tree.specs.declared.declaration.Class.{Class}
use Rattle.pearl_tree.specs.declared.declaration.Class.TheVariants as class
use Rattle.pearl_tree.specs.declared.declaration.Spec.{Spec}
use Rattle.pearl_tree.specs.declared.declaration.Spec.TheVariants as spec
use Rattle.pearl_tree.specs.declared.declaration.Param.{Param}
use Rattle.pearl_value.specs.declared.device.Direction.{Direction}
use Rattle.pearl_tree.specs.declared.token.What.TheVariants as what
use Rattle.pearl_tree.specs.declared.token.Token.{Token}
use Rattle.pearl_tree.specs.Standing.{Spelling, SpellsName, SpellsNumber, SpellsBracketedNumber}
use Rattle.pearl_tree.specs.Expressions.{SpellsSign, SpellsLiteral, SpellsConst}
use Rattle.pearl_tree.specs.Types.{SpellsNames, SpellsInt, SpellsUpper, SpellsBound, SpellsBounds, SpellsBasic, SpellsTyping, SpellsWholeTyping, sort_word}
use Rattle.pearl_tree.specs.Declarations.{SpellsItem, SpellsSema, SpellsDeclared, SpellsClass, SpellsSpec, SpellsControl, IsDeviceWord, direction_word}
use Rattle.pearl_tree.specs.declared.symbol.TheConstants as s
use Rattle.pearl_tree.specs.declared.word_code.TheConstants as w
use Rattle.pearl_grammar.specs.Rules.{First, Second, Part, One, Flag, Sign, Maybe, Listed, Bracketed, MaybeBracketed, MaybeHeaded, Rule, End, Mark, Behind, Then, Or, Held, word, symbol, SpellsOneWord}

-- ---- parts

abbrev pub id : Part
id = One Name SpellsName

abbrev pub number : Part
number = One Number SpellsNumber

abbrev pub int : Part
int = One Int SpellsInt

abbrev pub literal : Part
literal = One Literal SpellsLiteral

abbrev pub constant : Part
constant = One Const SpellsConst

abbrev pub names : Part
names = One Names SpellsNames

abbrev pub bracketed_number : Part
bracketed_number = One Number SpellsBracketedNumber

abbrev pub bounds : Part
bounds = One (Parts Bound) SpellsBounds

abbrev pub plain_type : Part
plain_type = One Basic SpellsBasic

abbrev pub whole_type : Part
whole_type = One Typing SpellsWholeTyping

abbrev pub sort : Part
sort = One Sort (SpellsOneWord sort_word)

abbrev pub direction : Part
direction = One Direction (SpellsOneWord direction_word)

-- id | INTERRUPT
abbrev pub SpellsDeviceWord : List Token → Spelling DeviceWord
SpellsDeviceWord tokens from word to = IsDeviceWord tokens from word × (to ≡ from + 1)

-- ";"
abbrev pub close : Rule
close = symbol s.SEMICOLON End

-- ---- names, numbers and constants

-- names = id | "(" id { "," id } ")"
abbrev pub names_rule : Rule
names_rule = Or (Then id End) (Mark (Then (Bracketed id) End))

abbrev pub names_parts : Names → Held names_rule
names_parts (several.One name) = First (name, tt)
names_parts (several.Several names place) = Second (place, (names.items.items, tt))

-- "(" number ")"
abbrev pub bracketed_number_rule : Rule
bracketed_number_rule = symbol s.LEFT_ROUND (Then number (symbol s.RIGHT_ROUND End))

abbrev pub bracketed_number_parts : Number → Held bracketed_number_rule
bracketed_number_parts x = (x, tt)

-- const = [ "+" | "-" ] literal
abbrev pub constant_rule : Rule
constant_rule = Mark (Then (Maybe (One sign.Sign SpellsSign)) (Then literal End))

abbrev pub constant_parts : Const → Held constant_rule
constant_parts x = (x.place, (x.sign, (x.literal, tt)))

-- ---- bounds and types

-- int = [ "-" ] number
abbrev pub int_rule : Rule
int_rule = Mark (Then (Sign s.MINUS) (Then number End))

abbrev pub int_parts : Int → Held int_rule
int_parts x = (x.place, (x.minus, (x.number, tt)))

-- ":" int
abbrev pub upper_rule : Rule
upper_rule = symbol s.COLON (Then int End)

abbrev pub upper_parts : Int → Held upper_rule
upper_parts x = (x, tt)

-- bound = int [ ":" int ]
abbrev pub bound_rule : Rule
bound_rule = Mark (Then int (Then (Maybe (One Int SpellsUpper)) End))

abbrev pub bound_parts : Bound → Held bound_rule
bound_parts x = (x.place, (x.first, (x.second, tt)))

-- [ "(" bound { "," bound } ")" ]
abbrev pub bounds_rule : Rule
bounds_rule = Then (MaybeBracketed (One Bound SpellsBound)) End

abbrev pub bounds_parts : Parts Bound → Held bounds_rule
bounds_parts x = (x.items.items, tt)

-- basic = ( FIXED | BIT | CHAR ) [ "(" number ")" ] | CLOCK | DURATION
abbrev pub basic_rule : Rule
basic_rule = Or (Mark (Then sort (Then (Maybe bracketed_number) End)))
    (Or (Mark (word w.CLOCK End)) (Mark (word w.DURATION End)))

abbrev pub basic_parts : Basic → Held basic_rule
basic_parts (basic.Sized sort number place) = First (place, (sort, (number, tt)))
basic_parts (basic.Clock place) = Second (First (place, tt))
basic_parts (basic.Duration place) = Second (Second (place, tt))

-- field = names [ bounds ] type, with so many STRUCTs at most within one another
abbrev pub field_rule : ℕ → Rule
field_rule depth = Mark (Then names (Then bounds (Then (One Typing (λ tokens. SpellsTyping tokens depth)) End)))

abbrev pub field_parts : (depth : ℕ) → Field → Held (field_rule depth)
field_parts depth x = (x.place, (x.names, (x.bounds, (x.typing, tt))))

-- ---- declarations

-- item = names [ bounds ] [ INV ] type [ INIT "(" const { "," const } ")" ]
abbrev pub item_rule : Rule
item_rule = Mark (Then names (Then bounds (Then (Flag w.INV) (Then whole_type (Then (MaybeHeaded w.INIT constant) End)))))

abbrev pub item_parts : Item → Held item_rule
item_parts x = (x.place, (x.names, (x.bounds, (x.inv, (x.typing, (x.init.items.items, tt))))))

-- sema = names SEMA [ PRESET "(" number { "," number } ")" ]
abbrev pub sema_rule : Rule
sema_rule = Mark (Then names (word w.SEMA (Then (MaybeHeaded w.PRESET number) End)))

abbrev pub sema_parts : Sema → Held sema_rule
sema_parts x = (x.place, (x.names, (x.preset.items.items, tt)))

-- item | sema
abbrev pub declared_rule : Rule
declared_rule = Or (Then (One Item SpellsItem) End) (Then (One Sema SpellsSema) End)

abbrev pub declared_parts : Declared → Held declared_rule
declared_parts (declared.Item item) = First (item, tt)
declared_parts (declared.Sema sema) = Second (sema, tt)

-- ALPHIC | BASIC basic
abbrev pub class_rule : Rule
class_rule = Or (Mark (word w.ALPHIC End)) (Mark (word w.BASIC (Then plain_type End)))

abbrev pub class_parts : Class → Held class_rule
class_parts (class.Alphic place) = First (place, tt)
class_parts (class.Basic basic place) = Second (place, (basic, tt))

-- "CONTROL" "(" ALL ")", or nothing
abbrev pub control_rule : Rule
control_rule = Or (Behind (what.Id (record { items = codes "CONTROL" }))
    (symbol s.LEFT_ROUND (word w.ALL (symbol s.RIGHT_ROUND End)))) End

abbrev pub control_parts : Bool → Held control_rule
control_parts true = First tt
control_parts false = Second tt

-- spec = names ( INTERRUPT | DATION ( IN | OUT | INOUT ) ( ALPHIC | BASIC basic ) [ "CONTROL" "(" ALL ")" ] )
abbrev pub spec_rule : Rule
spec_rule = Mark (Then names (Or (word w.INTERRUPT End)
    (word w.DATION (Then direction (Then (One Class SpellsClass) (Then (One Bool SpellsControl) End))))))

abbrev pub spec_parts : Spec → Held spec_rule
spec_parts (spec.Interrupt names place) = (place, (names, First tt))
spec_parts (spec.Dation names direction class control place) =
    (place, (names, Second (direction, (class, (control, tt)))))

-- param = names basic [ IDENT ]
abbrev pub param_rule : Rule
param_rule = Mark (Then names (Then plain_type (Then (Flag w.IDENT) End)))

abbrev pub param_parts : Param → Held param_rule
param_parts x = (x.place, (x.names, (x.basic, (x.ident, tt))))

-- prio = PRIO number
abbrev pub prio_rule : Rule
prio_rule = Mark (word w.PRIO (Then number End))

abbrev pub prio_parts : Prio → Held prio_rule
prio_parts x = (x.place, (x.number, tt))

-- RETURNS "(" basic ")"
abbrev pub returns_rule : Rule
returns_rule = word w.RETURNS (symbol s.LEFT_ROUND (Then plain_type (symbol s.RIGHT_ROUND End)))

abbrev pub returns_parts : Basic → Held returns_rule
returns_parts x = (x, tt)

-- device = id ":" ( id | INTERRUPT ) "(" number ")" ";"
abbrev pub device_rule : Rule
device_rule = Mark (Then id (symbol s.COLON (Then (One DeviceWord SpellsDeviceWord) (Then bracketed_number close))))

abbrev pub device_parts : Device → Held device_rule
device_parts x = (x.place, (x.name, (x.word, (x.number, tt))))

-- LENGTH ( FIXED | BIT | CHAR ) "(" number ")" ";"
abbrev pub length_rule : Rule
length_rule = Mark (word w.LENGTH (Then sort (Then bracketed_number close)))

-- TYPE id type ";"
abbrev pub type_rule : Rule
type_rule = Mark (word w.TYPE (Then id (Then whole_type close)))

-- DCL ( item | sema ) { "," ( item | sema ) } ";"
abbrev pub declare_rule : Rule
declare_rule = Mark (word w.DCL (Then (Listed (One Declared SpellsDeclared)) close))

-- SPC spec { "," spec } ";"
abbrev pub specify_rule : Rule
specify_rule = Mark (word w.SPC (Then (Listed (One Spec SpellsSpec)) close))
