-- How texts are written.
use Rattle.std.proofs.Common.{◌≡◌, ◌≢◌, ◌≤◌, ℕ, List, [], ◌∷◌, ◌++◌, Bool, true, false, length, refl, ap, sym, ◌∙◌, nat_le, ◌==◌}
use Rattle.std.proofs.lemmas.Bool.{le-leb, eqb-true}
use Rattle.std.specs.Prelude.{Option, Some, None, option_map, if◌then◌else◌}
use Rattle.std.specs.List.{AllByRecursion}
use Rattle.pearl_rules.specs.Entries.{IsPrinted}
use Rattle.pearl_journal.specs.declared.limits.TheConstants.{TEXT_LIMIT}
use Rattle.pearl_journal.specs.Texts.{is_apostrophe, is_letter, characters, limited_text, quoted}
use Rattle.pearl_journal.specs.Laws.{doubled, in_apostrophes}

-- READ

letter_is : (byte : ℕ) → IsPrinted byte → is_letter byte ≡ true
letter_is byte h = rw (le-leb 32 byte h.0, le-leb byte 126 h.1) refl

-- a letter before more bytes
letter_more : (byte : ℕ) (bytes : List ℕ) → is_apostrophe byte ≡ false → is_letter byte ≡ true → bytes ≢ [] →
    characters (byte ∷ bytes) ≡ option_map (λ text. byte ∷ text) (characters bytes)
letter_more byte [] other letter some = absurd (some refl)
letter_more byte (next ∷ rest) other letter some = rw (other, letter) refl

some_end : (text : List ℕ) → text ++ 39 ∷ [] ≢ []
some_end [] e = cc
some_end (byte ∷ text) e = cc

characters_read : (text : List ℕ) → AllByRecursion IsPrinted text → characters (doubled text ++ 39 ∷ []) ≡ Some text
characters_read [] h = refl
characters_read (byte ∷ text) h = by (byte == 39) refl (characters_read text h.1)
  where
    by : (is : Bool) → (byte == 39) ≡ is → characters (doubled text ++ 39 ∷ []) ≡ Some text →
        characters ((if is then 39 ∷ 39 ∷ doubled text else byte ∷ doubled text) ++ 39 ∷ []) ≡ Some (byte ∷ text)
    by true e later = rw (later) (ap (λ b. Some (b ∷ text)) (sym (eqb-true byte 39 e)))
    by false e later = letter_more byte (doubled text ++ 39 ∷ []) e (letter_is byte h.0) (some_end (doubled text)) ∙ ap (option_map (λ t. byte ∷ t)) later

pub quoted_read : (text : List ℕ) → AllByRecursion IsPrinted text → length text ≤ TEXT_LIMIT → quoted (in_apostrophes text) ≡ Some text
quoted_read text h few = ap limited_text (characters_read text h) ∙ rw (le-leb (length text) TEXT_LIMIT few) refl

-- ONLY

-- what is one character longer
longer : (byte : ℕ) (o : Option (List ℕ)) (text : List ℕ) → option_map (λ t. byte ∷ t) o ≡ Some text →
    (rest : List ℕ) × (o ≡ Some rest) × (text ≡ byte ∷ rest)
longer byte None text e = cc
longer byte (Some rest) text e = (rest, refl, cc)

other_doubled : (byte : ℕ) (text : List ℕ) → is_apostrophe byte ≡ false → doubled (byte ∷ text) ≡ byte ∷ doubled text
other_doubled byte text e = rw (e) refl

characters_only : (bytes text : List ℕ) → characters bytes ≡ Some text → bytes ≡ doubled text ++ 39 ∷ []
characters_only [] text e = cc
characters_only (byte ∷ []) text e = by (is_apostrophe byte) refl e
  where
    by : (ends : Bool) → is_apostrophe byte ≡ ends → (if ends then Some [] else None) ≡ Some text → byte ∷ [] ≡ doubled text ++ 39 ∷ []
    by true is e = let empty : text ≡ [] = cc in rw (empty, eqb-true byte 39 is) refl
    by false is e = cc
characters_only (byte ∷ next ∷ rest) text e =
    by (is_apostrophe byte) (is_apostrophe next) (is_letter byte) refl refl e (characters_only rest) (characters_only (next ∷ rest))
  where
    by : (first second letter : Bool) → is_apostrophe byte ≡ first → is_apostrophe next ≡ second →
        (if first then (if second then option_map (λ t. 39 ∷ t) (characters rest) else None)
        else (if letter then option_map (λ t. byte ∷ t) (characters (next ∷ rest)) else None)) ≡ Some text →
        ((t : List ℕ) → characters rest ≡ Some t → rest ≡ doubled t ++ 39 ∷ []) →
        ((t : List ℕ) → characters (next ∷ rest) ≡ Some t → next ∷ rest ≡ doubled t ++ 39 ∷ []) → byte ∷ next ∷ rest ≡ doubled text ++ 39 ∷ []
    by true true letter is again e far near =
        let l = longer 39 (characters rest) text e in
        let later : rest ≡ doubled l.0 ++ 39 ∷ [] = far l.0 l.1 in
        rw (l.2, eqb-true byte 39 is, eqb-true next 39 again) (ap (λ bytes. 39 ∷ 39 ∷ bytes) later)
    by true false letter is again e far near = cc
    by false second true is again e far near =
        let l = longer byte (characters (next ∷ rest)) text e in
        let later : next ∷ rest ≡ doubled l.0 ++ 39 ∷ [] = near l.0 l.1 in
        ap (λ bytes. byte ∷ bytes) later ∙ ap (λ bytes. bytes ++ 39 ∷ []) (sym (other_doubled byte l.0 is)) ∙ ap (λ t. doubled t ++ 39 ∷ []) (sym l.2)
    by false second false is again e far near = cc

limited_only : (o : Option (List ℕ)) (text : List ℕ) → limited_text o ≡ Some text → o ≡ Some text
limited_only None text e = cc
limited_only (Some t) text e = by (nat_le (length t) TEXT_LIMIT) e
  where
    by : (few : Bool) → (if few then Some t else None) ≡ Some text → Some t ≡ Some text
    by true e = e
    by false e = cc

pub quoted_only : (bytes text : List ℕ) → quoted bytes ≡ Some text → bytes ≡ in_apostrophes text
quoted_only [] text e = cc
quoted_only (byte ∷ rest) text e = by (is_apostrophe byte) refl e
  where
    by : (begins : Bool) → is_apostrophe byte ≡ begins → (if begins then limited_text (characters rest) else None) ≡ Some text →
        byte ∷ rest ≡ in_apostrophes text
    by true is e = rw (eqb-true byte 39 is) (ap (λ bytes. 39 ∷ bytes) (characters_only rest text (limited_only (characters rest) text e)))
    by false is e = cc
