-- How each class of token is spelled, and which token begins some bytes: the longest one.
use Rattle.std.specs.Prelude.{◌≡◌, ℕ, ◌+◌, ◌-◌, ◌*◌, ◌^◌, ◌<◌, ◌≤◌, ◌⊎◌, ◌==◌, if◌then◌else◌, List, [], ◌∷◌, ◌++◌, length, codes, All}
use Rattle.std.specs.List.{flat_map}
use Rattle.pearl_tree.specs.declared.token.What.{What}
use Rattle.pearl_tree.specs.declared.token.What.TheVariants as what
use Rattle.pearl_tree.specs.Tokens.{IsDigit, IsIdByte, IsId, BeginsWithLetter, IsText}
use Rattle.pearl_tree.specs.Symbols.{symbol_count, symbol_text}
use Rattle.pearl_tree.specs.Words.{IsWord}
use Rattle.pearl_lex.specs.declared.front.Front.{Front}
use Rattle.pearl_lex.specs.Literals.{value_of}
use Rattle.pearl_lex.specs.Quoted.{digit_value, bits_value}

-- one or more digits
abbrev pub AreDigits : List ℕ → Type 0
AreDigits digits = (1 ≤ length digits) × All IsDigit digits

-- one to three digits behind a period, as thousandths
abbrev pub AreDecimals : List ℕ → ℕ → Type 0
AreDecimals digits thousandths = AreDigits digits × (length digits ≤ 3) × (thousandths ≡ value_of digits * 10 ^ (3 - length digits))

-- digits, with a value below 2^63
pub record SpellsNumber (text : List ℕ) (value : ℕ) : Type 0 where
  pub digits : AreDigits text
  pub value_is : value ≡ value_of text
  pub range : value < 2 ^ 63

-- a number, a period, and one to three digits
pub record SpellsDecimal (text : List ℕ) (whole : ℕ) (thousandths : ℕ) : Type 0 where
  pub digits : List ℕ
  pub decimals : List ℕ
  pub written : text ≡ digits ++ (codes "." ++ decimals)
  pub number : SpellsNumber digits whole
  pub part : AreDecimals decimals thousandths

-- nothing, or a period and one to three digits
abbrev pub SpellsPart : List ℕ → ℕ → Type 0
SpellsPart text thousandths =
    ((text ≡ []) × (thousandths ≡ 0)) ⊎ ((decimals : List ℕ) × (text ≡ codes "." ++ decimals) × AreDecimals decimals thousandths)

-- hours up to 23, minutes and seconds up to 59, with colons between them, and perhaps decimals of a second
pub record SpellsClock (text : List ℕ) (milliseconds : ℕ) : Type 0 where
  pub hours : List ℕ
  pub minutes : List ℕ
  pub seconds : List ℕ
  pub decimals : List ℕ
  pub thousandths : ℕ
  pub written : text ≡ hours ++ (codes ":" ++ (minutes ++ (codes ":" ++ (seconds ++ decimals))))
  pub digits : AreDigits hours × AreDigits minutes × AreDigits seconds
  pub range : (value_of hours ≤ 23) × (value_of minutes ≤ 59) × (value_of seconds ≤ 59)
  pub part : SpellsPart decimals thousandths
  pub value_is : milliseconds ≡ ((value_of hours * 60 + value_of minutes) * 60 + value_of seconds) * 1000 + thousandths

-- how many bits each digit has is written behind the closing apostrophe: B or B1, B2, B3 or B4
abbrev pub SpellsWidth : List ℕ → ℕ → Type 0
SpellsWidth text width =
    ((text ≡ codes "B") × (width ≡ 1)) ⊎ ((text ≡ codes "B" ++ (48 + width) ∷ []) × (1 ≤ width) × (width ≤ 4))

-- digits of so many bits between apostrophes, 1 to 64 bits in all, the first bit highest
pub record SpellsBits (text : List ℕ) (len : ℕ) (value : ℕ) : Type 0 where
  pub digits : List ℕ
  pub ending : List ℕ
  pub width : ℕ
  pub written : text ≡ codes "'" ++ (digits ++ (codes "'" ++ ending))
  pub width_is : SpellsWidth ending width
  pub each : All (λ digit. digit_value digit < 2 ^ width) digits
  pub some : 1 ≤ len
  pub few : len ≤ 64
  pub len_is : len ≡ length digits * width
  pub value_is : value ≡ bits_value width digits

-- a text with each apostrophe written twice
abbrev pub doubled : List ℕ → List ℕ
doubled text = flat_map (λ byte. if byte == 39 then byte ∷ byte ∷ [] else byte ∷ []) text

-- the text spells the token
abbrev pub Spells : List ℕ → What → Type 0
Spells text (what.Word code) = IsWord text code
Spells text (what.Id name) = IsId text × (name.items ≡ text)
Spells text (what.Number value) = SpellsNumber text value
Spells text (what.Decimal whole thousandths) = SpellsDecimal text whole thousandths
Spells text (what.Clock milliseconds) = SpellsClock text milliseconds
Spells text (what.Bits len value) = SpellsBits text len value
Spells text (what.Text characters) = IsText characters.items × (text ≡ codes "'" ++ (doubled characters.items ++ codes "'"))
Spells text (what.Symbol symbol) = (symbol < symbol_count) × (text ≡ symbol_text symbol)

abbrev pub BeginsWith : (ℕ → Type 0) → List ℕ → Type 0
BeginsWith P [] = ⊥
BeginsWith P (byte ∷ _) = P byte

-- a width, and then no letter, digit or `_`
pub record MakesBits (rest : List ℕ) : Type 0 where
  pub ending : List ℕ
  pub tail : List ℕ
  pub width : ℕ
  pub written : rest ≡ ending ++ tail
  pub width_is : SpellsWidth ending width
  pub ends : ¬ BeginsWith IsIdByte tail

-- what may follow a token. What stands between apostrophes is bits where a width ends it, and else a text; an apostrophe
-- that another one follows closes neither
abbrev pub MayFollow : What → List ℕ → Type 0
MayFollow (what.Bits _ _) rest = ¬ BeginsWith IsIdByte rest
MayFollow (what.Text _) rest = (¬ BeginsWith (λ byte. byte ≡ 39) rest) × (¬ MakesBits rest)
MayFollow _ rest = Unit {0}

-- the first `size` of the bytes spell the token
pub record BeginsToken (bytes : List ℕ) (token : What) (size : ℕ) : Type 0 where
  pub text : List ℕ
  pub rest : List ℕ
  pub written : bytes ≡ text ++ rest
  pub size_is : size ≡ length text
  pub spells : Spells text token
  pub follows : MayFollow token rest

-- a letter, digits and `_`, more than 63 in all
pub record IsLongName (bytes : List ℕ) : Type 0 where
  pub text : List ℕ
  pub rest : List ℕ
  pub written : bytes ≡ text ++ rest
  pub begins : BeginsWithLetter text
  pub each : All IsIdByte text
  pub long : 63 < length text

-- digits with a value of 2^63 or more
pub record IsLargeNumber (bytes : List ℕ) : Type 0 where
  pub digits : List ℕ
  pub rest : List ℕ
  pub written : bytes ≡ digits ++ rest
  pub each : AreDigits digits
  pub large : 2 ^ 63 ≤ value_of digits

-- a period and more than three digits
pub record HasFineDecimals (bytes : List ℕ) : Type 0 where
  pub decimals : List ℕ
  pub rest : List ℕ
  pub written : bytes ≡ codes "." ++ (decimals ++ rest)
  pub each : All IsDigit decimals
  pub fine : 3 < length decimals

-- digits with more than three decimals
pub record IsFineDecimal (bytes : List ℕ) : Type 0 where
  pub digits : List ℕ
  pub rest : List ℕ
  pub written : bytes ≡ digits ++ rest
  pub each : AreDigits digits
  pub fine : HasFineDecimals rest

-- a time of day that does not come, or one with more than three decimals
pub record IsNoTime (bytes : List ℕ) : Type 0 where
  pub hours : List ℕ
  pub minutes : List ℕ
  pub seconds : List ℕ
  pub rest : List ℕ
  pub written : bytes ≡ hours ++ (codes ":" ++ (minutes ++ (codes ":" ++ (seconds ++ rest))))
  pub digits : AreDigits hours × AreDigits minutes × AreDigits seconds
  pub wrong : (23 < value_of hours) ⊎ ((59 < value_of minutes) ⊎ ((59 < value_of seconds) ⊎ HasFineDecimals rest))

-- the bytes begin a form that is no token, though some of its bytes may spell one
abbrev pub IsNoToken : List ℕ → Type 0
IsNoToken bytes = IsLongName bytes ⊎ (IsLargeNumber bytes ⊎ (IsFineDecimal bytes ⊎ IsNoTime bytes))

-- the token begins the bytes, and so does none of more bytes
pub record IsLongest (bytes : List ℕ) (front : Front) : Type 0 where
  pub begins : BeginsToken bytes front.what front.size
  pub longest : (token : What) (size : ℕ) → BeginsToken bytes token size → size ≤ front.size
