-- Which tokens a module spells.
use Rattle.std.specs.Prelude.{◌≡◌, ℕ, ◌+◌, List, length}
use Rattle.pearl_tree.specs.declared.declaration.Device.{Device}
use Rattle.pearl_tree.specs.declared.parts.Parts.{Parts}
use Rattle.pearl_tree.specs.declared.statement.Body.{Body}
use Rattle.pearl_tree.specs.declared.typing.Basic.{Basic}
use Rattle.pearl_tree.specs.declared.tree.TaskHead.{TaskHead}
use Rattle.pearl_tree.specs.declared.tree.TaskHead.TheVariants.{PrioFirst, MainFirst}
use Rattle.pearl_tree.specs.declared.tree.Decl.{Decl}
use Rattle.pearl_tree.specs.declared.tree.Decl.TheVariants as decl
use Rattle.pearl_tree.specs.declared.tree.ModuleName.{ModuleName}
use Rattle.pearl_tree.specs.declared.tree.ModuleName.TheVariants.{Bracketed, Bare}
use Rattle.pearl_tree.specs.declared.tree.Tree.{Tree}
use Rattle.pearl_tree.specs.declared.token.Token.{Token}
use Rattle.pearl_tree.specs.Standing.{Spelling, IsAt, HasWord, HasSymbol, IsName, IsNumber, SpellsName, SpellsFlag, SpellsSymbolFlag, SpellsMaybe, SpellsEach, SpellsList, SpellsMaybeBracketed}
use Rattle.pearl_tree.specs.Types.{SpellsWholeTyping, SpellsBasic, sort_word}
use Rattle.pearl_tree.specs.Declarations.{SpellsDevice, SpellsPrio, SpellsDeclared, SpellsSpec, SpellsParam}
use Rattle.pearl_tree.specs.Statements.{SpellsWholeBody}
use Rattle.pearl_tree.specs.declared.symbol.TheConstants as s
use Rattle.pearl_tree.specs.declared.word_code.TheConstants as w

-- [ prio ] [ MAIN ] | MAIN prio
abbrev pub SpellsTaskHead : List Token → Spelling TaskHead
SpellsTaskHead tokens from (PrioFirst prio main) to =
    (m : ℕ) × SpellsMaybe (SpellsPrio tokens) from prio m × SpellsFlag tokens w.MAIN m main to
SpellsTaskHead tokens from (MainFirst prio) to = HasWord tokens from w.MAIN × SpellsPrio tokens (from + 1) prio to

-- RETURNS "(" basic ")"
abbrev pub SpellsReturns : List Token → Spelling Basic
SpellsReturns tokens from basic to =
    (m : ℕ) × HasWord tokens from w.RETURNS × HasSymbol tokens (from + 1) s.LEFT_ROUND ×
    SpellsBasic tokens (from + 2) basic m × HasSymbol tokens m s.RIGHT_ROUND × (to ≡ m + 1)

-- ";" body END ";"
abbrev pub SpellsBlock : List Token → Spelling Body
SpellsBlock tokens from body to =
    (m : ℕ) × HasSymbol tokens from s.SEMICOLON × SpellsWholeBody tokens (from + 1) body m × HasWord tokens m w.END ×
    HasSymbol tokens (m + 1) s.SEMICOLON × (to ≡ m + 2)

abbrev pub SpellsDecl : List Token → Spelling Decl
-- LENGTH ( FIXED | BIT | CHAR ) "(" number ")" ";"
SpellsDecl tokens from (decl.Length sort number place) to =
    IsAt tokens from place × HasWord tokens from w.LENGTH × HasWord tokens (from + 1) (sort_word sort) ×
    HasSymbol tokens (from + 2) s.LEFT_ROUND × IsNumber tokens (from + 3) number ×
    HasSymbol tokens (from + 4) s.RIGHT_ROUND × HasSymbol tokens (from + 5) s.SEMICOLON × (to ≡ from + 6)
-- TYPE id type ";"
SpellsDecl tokens from (decl.Type name typing place) to =
    (m : ℕ) × IsAt tokens from place × HasWord tokens from w.TYPE × IsName tokens (from + 1) name ×
    SpellsWholeTyping tokens (from + 2) typing m × HasSymbol tokens m s.SEMICOLON × (to ≡ m + 1)
-- DCL ( item | sema ) { "," ( item | sema ) } ";"
SpellsDecl tokens from (decl.Declare declared place) to =
    (m : ℕ) × IsAt tokens from place × HasWord tokens from w.DCL ×
    SpellsList tokens (SpellsDeclared tokens) (from + 1) declared.items.items m × HasSymbol tokens m s.SEMICOLON ×
    (to ≡ m + 1)
-- SPC spec { "," spec } ";"
SpellsDecl tokens from (decl.Specify specs place) to =
    (m : ℕ) × IsAt tokens from place × HasWord tokens from w.SPC ×
    SpellsList tokens (SpellsSpec tokens) (from + 1) specs.items.items m × HasSymbol tokens m s.SEMICOLON ×
    (to ≡ m + 1)
-- id ":" TASK ( [ prio ] [ MAIN ] | MAIN prio ) ";" body END ";"
SpellsDecl tokens from (decl.Task name head body place) to =
    (m : ℕ) × IsAt tokens from place × IsName tokens from name × HasSymbol tokens (from + 1) s.COLON ×
    HasWord tokens (from + 2) w.TASK × SpellsTaskHead tokens (from + 3) head m × SpellsBlock tokens m body to
-- id ":" PROC [ "(" param { "," param } ")" ] [ RETURNS "(" basic ")" ] ";" body END ";"
SpellsDecl tokens from (decl.Proc name params returns body place) to =
    (a : ℕ) × (b : ℕ) × IsAt tokens from place × IsName tokens from name × HasSymbol tokens (from + 1) s.COLON ×
    HasWord tokens (from + 2) w.PROC ×
    SpellsMaybeBracketed tokens (SpellsParam tokens) (from + 3) params.items.items a ×
    SpellsMaybe (SpellsReturns tokens) a returns b × SpellsBlock tokens b body to

-- "(" id ")" | id
abbrev pub SpellsModuleName : List Token → Spelling ModuleName
SpellsModuleName tokens from (Bracketed name) to =
    HasSymbol tokens from s.LEFT_ROUND × IsName tokens (from + 1) name × HasSymbol tokens (from + 2) s.RIGHT_ROUND ×
    (to ≡ from + 3)
SpellsModuleName tokens from (Bare name) to = SpellsName tokens from name to

-- SYSTEM ";" { device }
abbrev pub SpellsSystem : List Token → Spelling (Parts Device)
SpellsSystem tokens from devices to =
    HasWord tokens from w.SYSTEM × HasSymbol tokens (from + 1) s.SEMICOLON ×
    SpellsEach (SpellsDevice tokens) (from + 2) devices.items.items to

-- module = MODULE [ "(" id ")" | id ] ";" [ SYSTEM ";" { device } ] PROBLEM ";" { decl } MODEND [ ";" ]
abbrev pub SpellsTree : List Token → Spelling Tree
SpellsTree tokens from tree to =
    (a : ℕ) × (b : ℕ) × (c : ℕ) × IsAt tokens from tree.place × HasWord tokens from w.MODULE ×
    SpellsMaybe (SpellsModuleName tokens) (from + 1) tree.name a × HasSymbol tokens a s.SEMICOLON ×
    SpellsMaybe (SpellsSystem tokens) (a + 1) tree.system b × HasWord tokens b w.PROBLEM ×
    HasSymbol tokens (b + 1) s.SEMICOLON × SpellsEach (SpellsDecl tokens) (b + 2) tree.declarations.items.items c ×
    HasWord tokens c w.MODEND × IsAt tokens c tree.modend × SpellsSymbolFlag tokens s.SEMICOLON (c + 1) tree.semicolon to

-- the tree spells these tokens and no others
pub record Spells (tree : Tree) (tokens : List Token) : Type 0 where
  pub spells : SpellsTree tokens 0 tree (length tokens)
