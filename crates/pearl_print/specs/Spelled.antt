-- How each token is written, and the text of a list of tokens.
use Rattle.std.specs.Prelude.{ℕ, zero, suc, ◌+◌, ◌/◌, ◌%◌, ◌^◌, ◌==◌, if◌then◌else◌, List, [], ◌∷◌, ◌++◌, codes}
use Rattle.std.specs.Fmt.{decimal}
use Rattle.std.specs.List.{flat_map}
use Rattle.pearl_tree.specs.declared.token.What.{What}
use Rattle.pearl_tree.specs.declared.token.What.TheVariants as what
use Rattle.pearl_tree.specs.declared.symbol.TheConstants as s
use Rattle.pearl_tree.specs.Symbols.{symbol_text}
use Rattle.pearl_tree.specs.Words.{word_text}
use Rattle.pearl_lex.specs.Spells.{doubled}

-- the last digit of a number
abbrev pub digit : ℕ → ℕ
digit n = 48 + n % 10

abbrev pub two_digits : ℕ → List ℕ
two_digits n = digit (n / 10) ∷ digit n ∷ []

abbrev pub three_digits : ℕ → List ℕ
three_digits n = digit (n / 100) ∷ two_digits n

-- a period and the thousandths where there are some
abbrev pub fraction : ℕ → List ℕ
fraction thousandths = if thousandths == 0 then [] else codes "." ++ three_digits thousandths

-- hours, minutes and seconds, and the thousandths where there are some
abbrev pub clock_text : ℕ → List ℕ
clock_text ms =
    two_digits (ms / 3600000) ++ codes ":" ++ two_digits (ms / 60000 % 60) ++ codes ":" ++
    two_digits (ms / 1000 % 60) ++ fraction (ms % 1000)

-- so many bits of a number, the highest first
abbrev pub binary : ℕ → ℕ → List ℕ
binary zero value = []
binary (suc n) value = (48 + value / 2 ^ n % 2) ∷ binary n value

-- a token without what follows it
unfoldable pub spelled : What → List ℕ
spelled (what.Word code) = word_text code
spelled (what.Id text) = text.items
spelled (what.Number value) = decimal value
spelled (what.Decimal whole thousandths) = decimal whole ++ codes "." ++ three_digits thousandths
spelled (what.Clock milliseconds) = clock_text milliseconds
spelled (what.Bits len value) = codes "'" ++ binary len value ++ codes "'B"
spelled (what.Text text) = codes "'" ++ doubled text.items ++ codes "'"
spelled (what.Symbol symbol) = symbol_text symbol

-- what follows a token: a line end after `;`, and a blank after any other
abbrev pub gap : What → List ℕ
gap (what.Symbol symbol) = if symbol == s.SEMICOLON then codes "\n" else codes " "
gap _ = codes " "

-- the text of tokens in order
unfoldable pub text_of_tokens : List What → List ℕ
text_of_tokens tokens = flat_map (λ token. spelled token ++ gap token) tokens
