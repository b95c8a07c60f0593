-- With which tokens declarations begin, and which tokens the parts of a module spell.
use Rattle.std.specs.Prelude.{◌≡◌, ℕ, ◌+◌, ◌||◌, Bool, true, false, List, length, Option, Some, None}
use Rattle.std.proofs.Common.{ap}
use Rattle.pearl_tree.specs.declared.declaration.Device.{Device}
use Rattle.pearl_tree.specs.declared.parts.Parts.{Parts}
use Rattle.pearl_tree.specs.declared.tree.Decl.{Decl}
use Rattle.pearl_tree.specs.declared.tree.Decl.TheVariants as decl
use Rattle.pearl_tree.specs.declared.tree.ModuleName.{ModuleName}
use Rattle.pearl_tree.specs.declared.tree.Tree.{Tree}
use Rattle.pearl_tree.specs.declared.token.What.{What}
use Rattle.pearl_tree.specs.declared.token.Token.{Token}
use Rattle.pearl_tree.specs.Standing.{Spelling, what_at, HasWord, HasSymbol, SpellsSymbolFlag, SpellsMaybe}
use Rattle.pearl_tree.specs.Declarations.{SpellsDevice}
use Rattle.pearl_tree.specs.Modules.{SpellsDecl, SpellsModuleName, SpellsSystem, SpellsTree}
use Rattle.pearl_tree.specs.declared.symbol.TheConstants as s
use Rattle.pearl_tree.specs.declared.word_code.TheConstants as w
use Rattle.pearl_parse_expr.specs.Stops.{is_name, is_symbol, is_word}
use Rattle.pearl_parse.specs.Stops.{SpellsOptional}

-- an id, LENGTH, TYPE, DCL or SPC
abbrev pub begins_declaration : Option What → Bool
begins_declaration token =
    is_name token || (is_word w.LENGTH token || (is_word w.TYPE token || (is_word w.DCL token || is_word w.SPC token)))

-- a bracket or an id
abbrev pub begins_module_name : Option What → Bool
begins_module_name token = is_symbol s.LEFT_ROUND token || is_name token

-- [ "(" id ")" | id ]
abbrev pub SpellsOptionalName : List Token → Spelling (Option ModuleName)
SpellsOptionalName = SpellsOptional begins_module_name SpellsModuleName

-- [ SYSTEM ";" { device } ]
abbrev pub SpellsOptionalSystem : List Token → Spelling (Option (Parts Device))
SpellsOptionalSystem = SpellsOptional (is_word w.SYSTEM) SpellsSystem

-- MODULE [ "(" id ")" | id ] ";"
abbrev pub SpellsHead : List Token → Spelling (Option ModuleName)
SpellsHead tokens from name to =
    (m : ℕ) × HasWord tokens from w.MODULE × SpellsMaybe (SpellsModuleName tokens) (from + 1) name m ×
    HasSymbol tokens m s.SEMICOLON × (to ≡ m + 1)

-- [ SYSTEM ";" { device } ] PROBLEM ";"
abbrev pub SpellsOpening : List Token → Spelling (Option (Parts Device))
SpellsOpening tokens from system to =
    (m : ℕ) × SpellsMaybe (SpellsSystem tokens) from system m × HasWord tokens m w.PROBLEM ×
    HasSymbol tokens (m + 1) s.SEMICOLON × (to ≡ m + 2)

-- MODEND [ ";" ], and no token behind it
abbrev pub SpellsEnding : List Token → Spelling Bool
SpellsEnding tokens from semicolon to =
    HasWord tokens from w.MODEND × SpellsSymbolFlag tokens s.SEMICOLON (from + 1) semicolon to × (to ≡ length tokens)

-- MODEND [ ";" ]
abbrev pub SpellsClose : List Token → Spelling Bool
SpellsClose tokens from semicolon to =
    HasWord tokens from w.MODEND × SpellsSymbolFlag tokens s.SEMICOLON (from + 1) semicolon to

-- no token
abbrev pub is_end : Option What → Bool
is_end None = true
is_end (Some what) = false

-- a module, and no token behind it
abbrev pub SpellsSource : List Token → Spelling Tree
SpellsSource tokens from tree to = SpellsTree tokens from tree to × (to ≡ length tokens)

-- the first token of a device, and of a declaration
pub device_begins : (tokens : List Token) (from : ℕ) (x : Device) (to : ℕ) → SpellsDevice tokens from x to →
    is_name (what_at tokens from) ≡ true
device_begins tokens from x to h = ap is_name h.1.0

pub declaration_begins : (tokens : List Token) (from : ℕ) (x : Decl) (to : ℕ) → SpellsDecl tokens from x to →
    begins_declaration (what_at tokens from) ≡ true
declaration_begins tokens from (decl.Length sort number p) to h = ap begins_declaration h.1
declaration_begins tokens from (decl.Type name typing p) to h = ap begins_declaration h.2
declaration_begins tokens from (decl.Declare parts p) to h = ap begins_declaration h.2
declaration_begins tokens from (decl.Specify parts p) to h = ap begins_declaration h.2
declaration_begins tokens from (decl.Task name head body p) to h = ap begins_declaration h.2.0
declaration_begins tokens from (decl.Proc name params returns body p) to h = ap begins_declaration h.3.0
