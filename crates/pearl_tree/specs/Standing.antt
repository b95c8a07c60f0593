-- What stands at a token, counted from 0, and the forms that the rules of the grammar share: a list of parts, a list with
-- commas, and a part that may be missing.
use Rattle.std.specs.Prelude.{◌≡◌, ℕ, ◌+◌, Bool, true, false, List, [], ◌∷◌, Option, Some, None, slice_get}
use Rattle.std.specs.Option.{option_map}
use Rattle.pearl_tree.specs.declared.name.Name.{Name}
use Rattle.pearl_tree.specs.declared.name.Number.{Number}
use Rattle.pearl_tree.specs.declared.token.What.{What}
use Rattle.pearl_tree.specs.declared.token.What.TheVariants as what
use Rattle.pearl_tree.specs.declared.token.Token.{Token}
use Rattle.pearl_tree.specs.declared.symbol.TheConstants as s

-- what the token is; none past the end
abbrev pub what_at : List Token → ℕ → Option What
what_at tokens k = option_map (λ token. token.what) (slice_get tokens k)

-- where the token stands
abbrev pub place_at : List Token → ℕ → Option ℕ
place_at tokens k = option_map (λ token. token.place) (slice_get tokens k)

abbrev pub IsAt : List Token → ℕ → ℕ → Type 0
IsAt tokens k place = place_at tokens k ≡ Some place

abbrev pub HasWord : List Token → ℕ → ℕ → Type 0
HasWord tokens k code = what_at tokens k ≡ Some (what.Word code)

abbrev pub HasSymbol : List Token → ℕ → ℕ → Type 0
HasSymbol tokens k symbol = what_at tokens k ≡ Some (what.Symbol symbol)

abbrev pub HasId : List Token → ℕ → List ℕ → Type 0
HasId tokens k text = what_at tokens k ≡ Some (what.Id (record { items = text }))

abbrev pub IsName : List Token → ℕ → Name → Type 0
IsName tokens k name = (what_at tokens k ≡ Some (what.Id name.text)) × IsAt tokens k name.place

abbrev pub IsNumber : List Token → ℕ → Number → Type 0
IsNumber tokens k number = (what_at tokens k ≡ Some (what.Number number.value)) × IsAt tokens k number.place

-- a relation between a first token, a part, and the token after the part
abbrev pub Spelling : Type 0 → Type 1
Spelling X = ℕ → X → ℕ → Type 0

-- { part }
abbrev pub SpellsEach : {X : Type 0} → Spelling X → Spelling (List X)
SpellsEach spells from [] to = to ≡ from
SpellsEach spells from (x ∷ xs) to = (m : ℕ) × spells from x m × SpellsEach spells m xs to

-- part { part }
abbrev pub SpellsSome : {X : Type 0} → Spelling X → Spelling (List X)
SpellsSome spells from [] to = ⊥
SpellsSome spells from (x ∷ xs) to = (m : ℕ) × spells from x m × SpellsEach spells m xs to

-- { "," part }
abbrev pub SpellsMore : {X : Type 0} → List Token → Spelling X → Spelling (List X)
SpellsMore tokens spells from [] to = to ≡ from
SpellsMore tokens spells from (x ∷ xs) to =
    (m : ℕ) × HasSymbol tokens from s.COMMA × spells (from + 1) x m × SpellsMore tokens spells m xs to

-- part { "," part }
abbrev pub SpellsList : {X : Type 0} → List Token → Spelling X → Spelling (List X)
SpellsList tokens spells from [] to = ⊥
SpellsList tokens spells from (x ∷ xs) to = (m : ℕ) × spells from x m × SpellsMore tokens spells m xs to

-- "(" part { "," part } ")"
abbrev pub SpellsBracketed : {X : Type 0} → List Token → Spelling X → Spelling (List X)
SpellsBracketed tokens spells from xs to =
    (m : ℕ) × HasSymbol tokens from s.LEFT_ROUND × SpellsList tokens spells (from + 1) xs m ×
    HasSymbol tokens m s.RIGHT_ROUND × (to ≡ m + 1)

-- [ "(" part { "," part } ")" ]: an empty list where it is missing
abbrev pub SpellsMaybeBracketed : {X : Type 0} → List Token → Spelling X → Spelling (List X)
SpellsMaybeBracketed tokens spells from [] to = to ≡ from
SpellsMaybeBracketed tokens spells from (x ∷ xs) to = SpellsBracketed tokens spells from (x ∷ xs) to

-- [ word "(" part { "," part } ")" ]: an empty list where it is missing
abbrev pub SpellsMaybeHeaded : {X : Type 0} → List Token → ℕ → Spelling X → Spelling (List X)
SpellsMaybeHeaded tokens word spells from [] to = to ≡ from
SpellsMaybeHeaded tokens word spells from (x ∷ xs) to =
    HasWord tokens from word × SpellsBracketed tokens spells (from + 1) (x ∷ xs) to

-- [ part ]
abbrev pub SpellsMaybe : {X : Type 0} → Spelling X → Spelling (Option X)
SpellsMaybe spells from None to = to ≡ from
SpellsMaybe spells from (Some x) to = spells from x to

-- [ word ]
abbrev pub SpellsFlag : List Token → ℕ → Spelling Bool
SpellsFlag tokens word from false to = to ≡ from
SpellsFlag tokens word from true to = HasWord tokens from word × (to ≡ from + 1)

-- [ symbol ]
abbrev pub SpellsSymbolFlag : List Token → ℕ → Spelling Bool
SpellsSymbolFlag tokens symbol from false to = to ≡ from
SpellsSymbolFlag tokens symbol from true to = HasSymbol tokens from symbol × (to ≡ from + 1)

-- one id
abbrev pub SpellsName : List Token → Spelling Name
SpellsName tokens from name to = IsName tokens from name × (to ≡ from + 1)

-- one number
abbrev pub SpellsNumber : List Token → Spelling Number
SpellsNumber tokens from number to = IsNumber tokens from number × (to ≡ from + 1)

-- "(" number ")"
abbrev pub SpellsBracketedNumber : List Token → Spelling Number
SpellsBracketedNumber tokens from number to =
    HasSymbol tokens from s.LEFT_ROUND × IsNumber tokens (from + 1) number × HasSymbol tokens (from + 2) s.RIGHT_ROUND ×
    (to ≡ from + 3)
