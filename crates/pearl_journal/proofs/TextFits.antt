-- Texts of lines have bytes from 32 to 126, and 255 of them at most.
use Rattle.std.proofs.Common.{◌≡◌, ◌<◌, ◌≤◌, ℕ, List, [], ◌∷◌, Bool, true, false, ◌&&◌, length, refl, arith, nat_le}
use Rattle.std.proofs.lemmas.Bool.{false≢true, leb-true}
use Rattle.std.specs.Prelude.{Option, Some, None, IfSome, option_map, if◌then◌else◌}
use Rattle.std.specs.List.{AllByRecursion}
use Rattle.pearl_rules.specs.Entries.{IsPrinted}
use Rattle.pearl_journal.specs.declared.limits.TheConstants.{TEXT_LIMIT}
use Rattle.pearl_journal.specs.Texts.{is_apostrophe, is_letter, characters, limited_text, quoted, if_some, text_literal}

abbrev pub Printed : List ℕ → Type 0
Printed text = AllByRecursion IsPrinted text

letter_printed : (byte : ℕ) → is_letter byte ≡ true → IsPrinted byte
letter_printed byte h = by (nat_le 32 byte) (nat_le byte 126) refl refl h
  where
    by : (low high : Bool) → nat_le 32 byte ≡ low → nat_le byte 126 ≡ high → low && high ≡ true → IsPrinted byte
    by true true l h e = (leb-true 32 byte l, leb-true byte 126 h)
    by true false l h e = absurd (false≢true e)
    by false high l h e = absurd (false≢true e)

one_more : (byte : ℕ) (o : Option (List ℕ)) → IsPrinted byte → IfSome o Printed → IfSome (option_map (λ text. byte ∷ text) o) Printed
one_more byte None is h = tt
one_more byte (Some text) is h = (is, h)

characters-printed : (bytes : List ℕ) → IfSome (characters bytes) Printed
characters-printed [] = tt
characters-printed (byte ∷ []) = by (is_apostrophe byte)
  where
    by : (closes : Bool) → IfSome (if closes then Some [] else None) Printed
    by true = tt
    by false = tt
characters-printed (byte ∷ next ∷ rest) =
    by (is_apostrophe byte) (is_apostrophe next) (is_letter byte) refl (characters-printed rest) (characters-printed (next ∷ rest))
  where
    by : (first second letter : Bool) → is_letter byte ≡ letter → IfSome (characters rest) Printed → IfSome (characters (next ∷ rest)) Printed →
        IfSome (if first then (if second then option_map (λ text. 39 ∷ text) (characters rest) else None)
        else (if letter then option_map (λ text. byte ∷ text) (characters (next ∷ rest)) else None)) Printed
    by true true letter is h k = one_more 39 (characters rest) (omega arith, omega arith) h
    by true false letter is h k = tt
    by false second true is h k = one_more byte (characters (next ∷ rest)) (letter_printed byte is) k
    by false second false is h k = tt

-- a text of the limit's length
pub record IsShort (text : List ℕ) : Type 0 where
  pub printed : Printed text
  pub short : length text ≤ 255

limited_text-short : (o : Option (List ℕ)) → IfSome o Printed → IfSome (limited_text o) IsShort
limited_text-short None h = tt
limited_text-short (Some text) h = by (nat_le (length text) TEXT_LIMIT) refl
  where
    by : (within : Bool) → nat_le (length text) TEXT_LIMIT ≡ within → IfSome (if within then Some text else None) IsShort
    by true e = record { printed = h; short = leb-true (length text) TEXT_LIMIT e }
    by false e = tt

pub quoted-short : (text : List ℕ) → IfSome (quoted text) IsShort
quoted-short [] = tt
quoted-short (byte ∷ rest) = by (is_apostrophe byte)
  where
    by : (begins : Bool) → IfSome (if begins then limited_text (characters rest) else None) IsShort
    by true = limited_text-short (characters rest) (characters-printed rest)
    by false = tt

-- a text with at least one character
pub record IsText (text : List ℕ) : Type 0 where
  pub is_short : IsShort text
  pub some : 0 < length text

if_some-text : (o : Option (List ℕ)) → IfSome o IsShort → IfSome (if_some o) IsText
if_some-text None h = tt
if_some-text (Some []) h = tt
if_some-text (Some (byte ∷ text)) h = record { is_short = h; some = omega arith }

pub text_literal-text : (text : List ℕ) → IfSome (text_literal text) IsText
text_literal-text text = if_some-text (quoted text) (quoted-short text)

-- the same, as to the bytes alone
printed_of : (o : Option (List ℕ)) → IfSome o IsShort → IfSome o Printed
printed_of None h = tt
printed_of (Some text) h = h.printed

printed_of_text : (o : Option (List ℕ)) → IfSome o IsText → IfSome o Printed
printed_of_text None h = tt
printed_of_text (Some text) h = h.is_short.printed

pub quoted-printed : (text : List ℕ) → IfSome (quoted text) Printed
quoted-printed text = printed_of (quoted text) (quoted-short text)

pub text_literal-printed : (text : List ℕ) → IfSome (text_literal text) Printed
text_literal-printed text = printed_of_text (text_literal text) (text_literal-text text)
