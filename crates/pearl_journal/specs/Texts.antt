-- Which texts stand between apostrophes.
use Rattle.std.specs.Prelude.{ℕ, Bool, ◌&&◌, ◌==◌, nat_le, if◌then◌else◌, List, [], ◌∷◌, length, Option, Some, None, option_map}
use Rattle.pearl_journal.specs.declared.limits.TheConstants.{TEXT_LIMIT}

abbrev pub is_apostrophe : ℕ → Bool
is_apostrophe byte = byte == 39

-- a byte from 32 to 126
abbrev pub is_letter : ℕ → Bool
is_letter byte = nat_le 32 byte && nat_le byte 126

-- the characters up to an apostrophe that is the last byte; an apostrophe among them is written twice
abbrev pub characters : List ℕ → Option (List ℕ)
characters [] = None
characters (byte ∷ []) = if is_apostrophe byte then Some [] else None
characters (byte ∷ next ∷ rest) =
    if is_apostrophe byte
    then (if is_apostrophe next then option_map (λ text. 39 ∷ text) (characters rest) else None)
    else (if is_letter byte then option_map (λ text. byte ∷ text) (characters (next ∷ rest)) else None)

-- no more characters than the limit
abbrev pub limited_text : Option (List ℕ) → Option (List ℕ)
limited_text None = None
limited_text (Some text) = if nat_le (length text) TEXT_LIMIT then Some text else None

-- characters between apostrophes, perhaps none
abbrev pub quoted : List ℕ → Option (List ℕ)
quoted [] = None
quoted (byte ∷ rest) = if is_apostrophe byte then limited_text (characters rest) else None

abbrev pub if_some : Option (List ℕ) → Option (List ℕ)
if_some None = None
if_some (Some []) = None
if_some (Some (byte ∷ text)) = Some (byte ∷ text)

-- the same with at least one character: a text
abbrev pub text_literal : List ℕ → Option (List ℕ)
text_literal text = if_some (quoted text)
