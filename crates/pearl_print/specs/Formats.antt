-- The tokens of the items of a format.
use Rattle.std.specs.Prelude.{List, ◌++◌}
use Rattle.pearl_tree.specs.declared.parts.Parts.{Parts}
use Rattle.pearl_tree.specs.declared.name.Name.{Name}
use Rattle.pearl_tree.specs.declared.format.Fmt.{Fmt}
use Rattle.pearl_tree.specs.declared.format.Fmt.TheVariants.{Free, Wide}
use Rattle.pearl_tree.specs.declared.token.What.{What}
use Rattle.pearl_tree.specs.Formats.{free_text, wide_text}
use Rattle.pearl_tree.specs.declared.symbol.TheConstants as s
use Rattle.pearl_tree.specs.declared.word_code.TheConstants as w
use Rattle.pearl_print.specs.Lists.{word, symbol, id, name_tokens, listed, maybe, bracketed_number}

-- fmt = ( "A" | "B" | "B1" | "B2" | "B3" | "B4" | "X" | "SKIP" ) [ "(" number ")" ] | ( "F" | "T" | "D" ) "(" number ")"
abbrev pub fmt_tokens : Fmt → List What
fmt_tokens (Free code width place) = id (free_text code) ++ maybe bracketed_number width
fmt_tokens (Wide code width place) = id (wide_text code) ++ bracketed_number width

-- id BY fmt { "," fmt } ";"
abbrev pub by_tokens : Name → Parts Fmt → List What
by_tokens name formats = name_tokens name ++ word w.BY ++ listed fmt_tokens formats.items.items ++ symbol s.SEMICOLON
