-- What the spelling of a token allows, and what makes a list of tokens lawful.
use Rattle.std.specs.Prelude.{◌≡◌, ◌≢◌, ℕ, ◌+◌, ◌-◌, ◌*◌, ◌^◌, ◌<◌, ◌≤◌, ◌⊎◌, List, [], ◌∷◌, length, All}
use Rattle.pearl_tree.specs.declared.token.What.{What}
use Rattle.pearl_tree.specs.declared.token.What.TheVariants as what
use Rattle.pearl_tree.specs.declared.token.Token.{Token}
use Rattle.pearl_tree.specs.Symbols.{symbol_count}
use Rattle.pearl_tree.specs.Words.{code_count, words}

-- a letter A to Z or a to z
abbrev pub IsLetter : ℕ → Type 0
IsLetter b = ((65 ≤ b) × (b ≤ 90)) ⊎ ((97 ≤ b) × (b ≤ 122))

abbrev pub IsDigit : ℕ → Type 0
IsDigit b = (48 ≤ b) × (b ≤ 57)

-- what may stand in an id behind its first letter: a letter, a digit or `_`
abbrev pub IsIdByte : ℕ → Type 0
IsIdByte b = IsLetter b ⊎ (IsDigit b ⊎ (b ≡ 95))

abbrev pub BeginsWithLetter : List ℕ → Type 0
BeginsWithLetter [] = ⊥
BeginsWithLetter (b ∷ _) = IsLetter b

-- a letter, then letters, digits and `_`; at most 63 bytes; not a word
pub record IsId (text : List ℕ) : Type 0 where
  pub begins : BeginsWithLetter text
  pub bytes : All IsIdByte text
  pub length : length text ≤ 63
  pub no_word : All (λ row. row.0 ≢ text) words

-- the value of a number, and of the whole part of a decimal
abbrev pub IsNumberValue : ℕ → Type 0
IsNumberValue value = value < 2 ^ 63

-- hours at most 23, minutes and seconds at most 59, and three decimals of a second
abbrev pub IsClock : ℕ → Type 0
IsClock milliseconds = milliseconds < 24 * 60 * 60 * 1000

-- 1 to 64 bits, as the number that they spell
abbrev pub IsBits : ℕ → ℕ → Type 0
IsBits len value = (1 ≤ len) × (len ≤ 64) × (value < 2 ^ len)

-- 1 to 255 characters, each a byte from 32 to 126
abbrev pub IsText : List ℕ → Type 0
IsText text = (1 ≤ length text) × (length text ≤ 255) × All (λ b. (32 ≤ b) × (b ≤ 126)) text

-- some spelling of a token means this
abbrev pub IsLawfulWhat : What → Type 0
IsLawfulWhat (what.Word code) = code < code_count
IsLawfulWhat (what.Id text) = IsId text.items
IsLawfulWhat (what.Number value) = IsNumberValue value
IsLawfulWhat (what.Decimal whole thousandths) = IsNumberValue whole × (thousandths < 1000)
IsLawfulWhat (what.Clock milliseconds) = IsClock milliseconds
IsLawfulWhat (what.Bits len value) = IsBits len value
IsLawfulWhat (what.Text text) = IsText text.items
IsLawfulWhat (what.Symbol symbol) = symbol < symbol_count

-- each place is above the one before it, the first one at least `least`, and all are below `limit`
abbrev pub PlacesRise : ℕ → ℕ → List Token → Type 0
PlacesRise least limit [] = Unit {0}
PlacesRise least limit (token ∷ rest) = (least ≤ token.place) × (token.place < limit) × PlacesRise (token.place + 1) limit rest

-- what each call that takes tokens asks of them
pub record AreLawful (tokens : List Token) : Type 0 where
  pub spelled : All (λ token. IsLawfulWhat token.what) tokens
  pub placed : PlacesRise 0 (2 ^ 32 - 1) tokens
