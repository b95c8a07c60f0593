-- Which tokens a source has, and where a source has none.
use Rattle.std.specs.Prelude.{◌≡◌, ℕ, ◌+◌, ◌<◌, List, [], ◌∷◌, length, drop, Some, None}
use Rattle.pearl_tree.specs.declared.token.Token.{Token}
use Rattle.pearl_lex.specs.declared.fault.LexFault.{LexFault}
use Rattle.pearl_lex.specs.declared.fault.LexFault.TheVariants.{Refused, NoMemory}
use Rattle.pearl_lex.specs.Spelling.{space_len}
use Rattle.pearl_lex.specs.Front.{front}

-- blanks and comments of these sizes follow one another from `from` up to `to`
abbrev pub AreSpaces : List ℕ → ℕ → List ℕ → ℕ → Type 0
AreSpaces bytes from [] to = from ≡ to
AreSpaces bytes from (size ∷ sizes) to = (0 < size) × (space_len (drop from bytes) ≡ size) × AreSpaces bytes (from + size) sizes to

-- nothing but blanks and comments stands from `from` up to `to`
pub record IsSpace (bytes : List ℕ) (from : ℕ) (to : ℕ) : Type 0 where
  pub sizes : List ℕ
  pub are : AreSpaces bytes from sizes to

-- after blanks and comments, and where no further one begins, the token begins the bytes at its place, and ends at `to`
pub record IsToken (bytes : List ℕ) (from : ℕ) (token : Token) (to : ℕ) : Type 0 where
  pub size : ℕ
  pub place : IsSpace bytes from token.place
  pub no_space : space_len (drop token.place bytes) ≡ 0
  pub begins : front (drop token.place bytes) ≡ Some (record { what = token.what; size = size })
  pub end : to ≡ token.place + size

-- these tokens follow one another from `from` on, and the last ends at `to`
abbrev pub AreTokens : List ℕ → ℕ → List Token → ℕ → Type 0
AreTokens bytes from [] to = from ≡ to
AreTokens bytes from (token ∷ tokens) to = (next : ℕ) × IsToken bytes from token next × AreTokens bytes next tokens to

-- these are all tokens of the source, with nothing but blanks and comments after them
pub record Lexes (bytes : List ℕ) (tokens : List Token) : Type 0 where
  pub end : ℕ
  pub tokens_are : AreTokens bytes 0 tokens end
  pub rest : IsSpace bytes end (length bytes)

-- after some tokens, blanks and comments, neither a blank nor a comment nor a token begins at this place
pub record IsStuck (bytes : List ℕ) (place : ℕ) : Type 0 where
  pub before : List Token
  pub end : ℕ
  pub tokens_are : AreTokens bytes 0 before end
  pub here : IsSpace bytes end place
  pub inside : place < length bytes
  pub no_space : space_len (drop place bytes) ≡ 0
  pub none : front (drop place bytes) ≡ None

-- the fault names the place at which the source has no token, or it is want of memory
abbrev pub IsRefusedAt : List ℕ → LexFault → Type 0
IsRefusedAt bytes (Refused place) = IsStuck bytes place
IsRefusedAt bytes NoMemory = Unit {0}
