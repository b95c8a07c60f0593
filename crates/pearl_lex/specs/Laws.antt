-- The definitions determine the answer, and what they take is what the language spells.
use Rattle.std.specs.Prelude.{◌≡◌, ◌↔◌, ◌<◌, ◌-◌, ◌*◌, ◌^◌, ℕ, Bool, List, length, take, Some, None, All}
use Rattle.std.specs.List.{flat_map}
use Rattle.pearl_tree.specs.declared.token.Token.{Token}
use Rattle.pearl_tree.specs.Tokens.{AreLawful}
use Rattle.pearl_tree.specs.declared.token.What.{What}
use Rattle.pearl_tree.specs.declared.token.What.TheVariants as what
use Rattle.pearl_value.specs.BitLists.{bits_of}
use Rattle.pearl_lex.specs.declared.front.Front.{Front}
use Rattle.pearl_lex.specs.Front.{front}
use Rattle.pearl_lex.specs.Lexes.{Lexes, IsStuck}
use Rattle.pearl_lex.specs.Quoted.{digit_value, bits_value}
use Rattle.pearl_lex.specs.Spaces.{BeginsSpace}
use Rattle.pearl_lex.specs.Spelling.{space_len}
use Rattle.pearl_lex.specs.Spells.{SpellsBits, BeginsToken, IsLongest, IsNoToken}

-- a source has at most one list of tokens
abbrev pub HasOneReading : Type 0
HasOneReading = (bytes : List ℕ) (tokens others : List Token) → Lexes bytes tokens → Lexes bytes others → tokens ≡ others

-- a source has no tokens at one place at most
abbrev pub HasOnePlace : Type 0
HasOnePlace = (bytes : List ℕ) (place other : ℕ) → IsStuck bytes place → IsStuck bytes other → place ≡ other

-- no source both has tokens and is refused
abbrev pub IsNeverBoth : Type 0
IsNeverBoth = (bytes : List ℕ) (tokens : List Token) (place : ℕ) → Lexes bytes tokens → ¬ IsStuck bytes place

-- the tokens of a source that is not too long are lawful
abbrev pub HasLawfulTokens : Type 0
HasLawfulTokens = (bytes : List ℕ) (tokens : List Token) → Lexes bytes tokens → length bytes < 2 ^ 32 - 1 → AreLawful tokens

-- what is taken is the longest token that begins the bytes, unless they begin a form that is no token
abbrev pub TakesTheLongest : Type 0
TakesTheLongest = (bytes : List ℕ) (f : Front) → front bytes ≡ Some f ↔ (IsLongest bytes f × ¬ IsNoToken bytes)

-- nothing is taken exactly where no token begins the bytes, or where they begin a form that is no token
abbrev pub TakesNone : Type 0
TakesNone = (bytes : List ℕ) → front bytes ≡ None ↔ ((token : What) (size : ℕ) → BeginsToken bytes token size → IsNoToken bytes)

-- what is passed over is a blank or a comment that begins the bytes, where one does
abbrev pub PassesSpaces : Type 0
PassesSpaces = (bytes : List ℕ) (size : ℕ) → ((0 < size) × (space_len bytes ≡ size)) ↔ BeginsSpace bytes size

-- the truth values of digits of so many bits, the first digit's first
abbrev pub digit_bits : ℕ → List ℕ → List Bool
digit_bits width digits = flat_map (λ digit. bits_of width (digit_value digit)) digits

-- the number that digits spell has the truth values of the digits, in their order
abbrev pub BitsAreTheirDigits : Type 0
BitsAreTheirDigits =
    (width : ℕ) (digits : List ℕ) → All (λ digit. digit_value digit < 2 ^ width) digits
    → bits_of (length digits * width) (bits_value width digits) ≡ digit_bits width digits

-- bits that are taken have the truth values of the digits that spell them, in their order
abbrev pub TakesBitsInOrder : Type 0
TakesBitsInOrder =
    (bytes : List ℕ) (len value size : ℕ) → front bytes ≡ Some (record { what = what.Bits len value; size = size })
    → (spelled : SpellsBits (take size bytes) len value) × (bits_of len value ≡ digit_bits spelled.width spelled.digits)
