-- Which tokens the items of a format spell.
use Rattle.std.specs.Prelude.{ℕ, ◌+◌, List, codes}
use Rattle.pearl_tree.specs.declared.format.FreeCode.{FreeCode}
use Rattle.pearl_tree.specs.declared.format.FreeCode.TheVariants.{A, B, B1, B2, B3, B4, X, Skip}
use Rattle.pearl_tree.specs.declared.format.WideCode.{WideCode}
use Rattle.pearl_tree.specs.declared.format.WideCode.TheVariants.{F, T, D}
use Rattle.pearl_tree.specs.declared.format.Fmt.{Fmt}
use Rattle.pearl_tree.specs.declared.format.Fmt.TheVariants.{Free, Wide}
use Rattle.pearl_tree.specs.declared.token.Token.{Token}
use Rattle.pearl_tree.specs.Standing.{Spelling, IsAt, HasId, SpellsMaybe, SpellsBracketedNumber}

abbrev pub free_text : FreeCode → List ℕ
free_text A = codes "A"
free_text B = codes "B"
free_text B1 = codes "B1"
free_text B2 = codes "B2"
free_text B3 = codes "B3"
free_text B4 = codes "B4"
free_text X = codes "X"
free_text Skip = codes "SKIP"

abbrev pub wide_text : WideCode → List ℕ
wide_text F = codes "F"
wide_text T = codes "T"
wide_text D = codes "D"

-- fmt = ( "A" | "B" | "B1" | "B2" | "B3" | "B4" | "X" | "SKIP" ) [ "(" number ")" ] | ( "F" | "T" | "D" ) "(" number ")"
abbrev pub SpellsFmt : List Token → Spelling Fmt
SpellsFmt tokens from (Free code width place) to =
    IsAt tokens from place × HasId tokens from (free_text code) ×
    SpellsMaybe (SpellsBracketedNumber tokens) (from + 1) width to
SpellsFmt tokens from (Wide code width place) to =
    IsAt tokens from place × HasId tokens from (wide_text code) × SpellsBracketedNumber tokens (from + 1) width to
