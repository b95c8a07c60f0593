-- What the text of tokens is read as, and in which order it has bits.
use Rattle.std.specs.Prelude.{◌≡◌, ℕ, ◌/◌, if◌then◌else◌, List, ◌++◌, length, map, Some, All, codes}
use Rattle.pearl_tree.specs.declared.token.What.{What}
use Rattle.pearl_tree.specs.declared.token.What.TheVariants as what
use Rattle.pearl_tree.specs.declared.literal.Literal.{Literal}
use Rattle.pearl_tree.specs.declared.literal.Literal.TheVariants as literal
use Rattle.pearl_tree.specs.declared.token.Token.{Token}
use Rattle.pearl_tree.specs.declared.tree.Tree.{Tree}
use Rattle.pearl_tree.specs.Durations.{milliseconds_of}
use Rattle.pearl_tree.specs.Tokens.{IsNumberValue, IsLawfulWhat}
use Rattle.pearl_tree.specs.Lawful.{IsLawful}
use Rattle.pearl_value.specs.BitLists.{bits_of}
use Rattle.pearl_lex.specs.Spelling.{space_len}
use Rattle.pearl_lex.specs.Front.{front}
use Rattle.pearl_lex.specs.Lexes.{Lexes}
use Rattle.pearl_print.specs.Spelled.{spelled, gap, text_of_tokens}
use Rattle.pearl_print.specs.Modules.{tokens_of}
use Rattle.pearl_print.specs.Literals.{EachLiteral}

-- whatever comes behind the byte that follows it, the token begins the text, and is no blank or comment
pub record IsReadBack (what : What) : Type 0 where
  pub begins : (rest : List ℕ) → front (spelled what ++ gap what ++ rest) ≡ Some (record { what = what; size = length (spelled what) })
  pub no_space : (rest : List ℕ) → space_len (spelled what ++ gap what ++ rest) ≡ 0

-- a text has exactly these tokens, at some places
pub record Reads (text : List ℕ) (whats : List What) : Type 0 where
  pub tokens : List Token
  pub lexes : Lexes text tokens
  pub are : map (λ token. token.what) tokens ≡ whats

-- where each token is read back by itself, the text of tokens has exactly these tokens
abbrev pub TextReads : Type 0
TextReads = (whats : List What) → All IsReadBack whats → Reads (text_of_tokens whats) whats

-- the text of lawful tokens has exactly these tokens
abbrev pub LawfulTextReads : Type 0
LawfulTextReads = (whats : List What) → All IsLawfulWhat whats → Reads (text_of_tokens whats) whats

-- a duration has less than 2^63 hours, once its minutes and seconds are carried into them
abbrev pub HasFittingHours : Literal → Type 0
HasFittingHours (literal.Duration duration) = IsNumberValue (milliseconds_of duration.value / 3600000)
HasFittingHours _ = Unit {0}

-- so has each duration of a tree
abbrev pub FitsHours : Tree → Type 0
FitsHours tree = EachLiteral HasFittingHours tree

-- the tokens of a lawful tree are lawful where its hours fit
abbrev pub LawfulTokens : Type 0
LawfulTokens = (tree : Tree) → IsLawful tree → FitsHours tree → All IsLawfulWhat (tokens_of tree)

-- bits are written as their truth values in order, 1 for true and 0 for false
abbrev pub DigitsAreTheBits : Type 0
DigitsAreTheBits =
    (len value : ℕ) → spelled (what.Bits len value) ≡ codes "'" ++ map (λ bit. if bit then 49 else 48) (bits_of len value) ++ codes "'B"
