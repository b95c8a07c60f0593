-- Blanks at the ends of texts and between words.
use Rattle.std.proofs.Common.{◌≡◌, ◌≢◌, ◌≤◌, ℕ, ◌+◌, ◌-◌, List, [], ◌∷◌, ◌++◌, Bool, true, false, length, take, drop, reverse, cond, ◌⊎◌, inl, inr, refl, ap, sym, ◌∙◌, arith, add-one}
use Rattle.std.proofs.lemmas.List.{append_assoc, append-nil, reverse-append, length-reverse, take_all, take-append-le}
use Rattle.std.specs.List.{AllByRecursion, after_first, before_first, position_or_len, prefix_len, suffix_len}
use Rattle.pearl_journal.specs.Words.{is_blank, behind_blanks, before_blanks}
use Rattle.pearl_journal.specs.Laws.{IsGap}

drop-more : (n byte : ℕ) (bytes : List ℕ) → drop (1 + n) (byte ∷ bytes) ≡ drop n bytes
drop-more n byte bytes = let e : 1 + n ≡ n + 1 = omega arith in rw (e, add-one n) refl

take-more : (n byte : ℕ) (bytes : List ℕ) → take (1 + n) (byte ∷ bytes) ≡ byte ∷ take n bytes
take-more n byte bytes = let e : 1 + n ≡ n + 1 = omega arith in rw (e, add-one n) refl

-- FRONTS

pub behind_blanks-gap : (gap text : List ℕ) → IsGap gap → behind_blanks (gap ++ text) ≡ behind_blanks text
behind_blanks-gap [] text h = refl
behind_blanks-gap (byte ∷ gap) text h =
    rw (h.0) (drop-more (prefix_len is_blank (gap ++ text)) byte (gap ++ text) ∙ behind_blanks-gap gap text h.1)

pub behind_blanks-bare : (text : List ℕ) → ((byte : ℕ) (rest : List ℕ) → text ≡ byte ∷ rest → is_blank byte ≡ false) → behind_blanks text ≡ text
behind_blanks-bare [] h = refl
behind_blanks-bare (byte ∷ rest) h = rw (h byte rest refl) refl

-- ENDS

suffix_len-last : (bytes : List ℕ) (byte : ℕ) → suffix_len is_blank (bytes ++ byte ∷ []) ≡ prefix_len is_blank (byte ∷ reverse bytes)
suffix_len-last bytes byte = ap (prefix_len is_blank) (reverse-append bytes (byte ∷ []))

length-last : (bytes : List ℕ) (byte : ℕ) → length (bytes ++ byte ∷ []) ≡ length bytes + 1
length-last [] byte = refl
length-last (b ∷ bytes) byte = let e = length-last bytes byte in omega arith

before_blanks-blank : (bytes : List ℕ) (byte : ℕ) → is_blank byte ≡ true → before_blanks (bytes ++ byte ∷ []) ≡ before_blanks bytes
before_blanks-blank bytes byte h =
    let more : prefix_len is_blank (byte ∷ reverse bytes) ≡ 1 + suffix_len is_blank bytes = rw (h) refl in
    let count : suffix_len is_blank (bytes ++ byte ∷ []) ≡ 1 + suffix_len is_blank bytes = suffix_len-last bytes byte ∙ more in
    let left : length (bytes ++ byte ∷ []) - suffix_len is_blank (bytes ++ byte ∷ []) ≡ length bytes - suffix_len is_blank bytes = omega (arith, length-last bytes byte, count) in
    ap (λ n. take n (bytes ++ byte ∷ [])) left
    ∙ take-append-le (length bytes - suffix_len is_blank bytes) bytes (byte ∷ []) (omega arith)

before_blanks-solid : (bytes : List ℕ) (byte : ℕ) → is_blank byte ≡ false → before_blanks (bytes ++ byte ∷ []) ≡ bytes ++ byte ∷ []
before_blanks-solid bytes byte h =
    let none : prefix_len is_blank (byte ∷ reverse bytes) ≡ 0 = rw (h) refl in
    let count : suffix_len is_blank (bytes ++ byte ∷ []) ≡ 0 = suffix_len-last bytes byte ∙ none in
    take_all (length (bytes ++ byte ∷ []) - suffix_len is_blank (bytes ++ byte ∷ [])) (bytes ++ byte ∷ []) (omega (arith, count))

pub before_blanks-gap : (text gap : List ℕ) → IsGap gap → before_blanks (text ++ gap) ≡ before_blanks text
before_blanks-gap text [] h = ap before_blanks (append-nil text)
before_blanks-gap text (byte ∷ gap) h =
    ap before_blanks (sym (append_assoc text (byte ∷ []) gap)) ∙ before_blanks-gap (text ++ byte ∷ []) gap h.1 ∙ before_blanks-blank text byte h.0

-- the last byte of a text, if it has one
has_last : (text : List ℕ) → (text ≡ []) ⊎ ((front : List ℕ) × (last : ℕ) × (text ≡ front ++ last ∷ []))
has_last [] = inl refl
has_last (byte ∷ rest) = elim (has_last rest) [
  | inl e ↦ inr ([], byte, ap (λ bytes. byte ∷ bytes) e)
  | inr h ↦ inr (byte ∷ h.0, h.1, ap (λ bytes. byte ∷ bytes) h.2)
]

pub before_blanks-bare : (text : List ℕ) → ((front : List ℕ) (byte : ℕ) → text ≡ front ++ byte ∷ [] → is_blank byte ≡ false) → before_blanks text ≡ text
before_blanks-bare text h = elim (has_last text) [
  | inl e ↦ ap before_blanks e ∙ sym e
  | inr l ↦ ap before_blanks l.2 ∙ before_blanks-solid l.0 l.1 (h l.0 l.1 l.2) ∙ sym l.2
]

-- WORDS

abbrev pub IsSolid : List ℕ → Type 0
IsSolid word = AllByRecursion (λ byte. is_blank byte ≡ false) word

-- nothing, or a blank and more
abbrev pub StopsWord : List ℕ → Type 0
StopsWord rest = (byte : ℕ) (more : List ℕ) → rest ≡ byte ∷ more → is_blank byte ≡ true

word_stops : (rest : List ℕ) → StopsWord rest → position_or_len is_blank rest ≡ 0
word_stops [] h = refl
word_stops (byte ∷ more) h = rw (h byte more refl) refl

pub before_first-word : (word rest : List ℕ) → IsSolid word → StopsWord rest → before_first is_blank (word ++ rest) ≡ word
before_first-word [] rest solid stops = ap (λ n. take n rest) (word_stops rest stops)
before_first-word (byte ∷ word) rest solid stops =
    rw (solid.0) (take-more (position_or_len is_blank (word ++ rest)) byte (word ++ rest) ∙ ap (λ bytes. byte ∷ bytes) (before_first-word word rest solid.1 stops))

pub after_first-word : (word rest : List ℕ) → IsSolid word → StopsWord rest → after_first is_blank (word ++ rest) ≡ drop 1 rest
after_first-word [] rest solid stops = ap (λ n. drop (n + 1) rest) (word_stops rest stops)
after_first-word (byte ∷ word) rest solid stops =
    let n = position_or_len is_blank (word ++ rest) in
    let e : 1 + n + 1 ≡ 1 + (n + 1) = omega arith in
    rw (solid.0) (ap (λ k. drop k (byte ∷ word ++ rest)) e ∙ drop-more (n + 1) byte (word ++ rest) ∙ after_first-word word rest solid.1 stops)

-- TEXTS BEHIND OTHERS

pub before_blanks-behind : (before text : List ℕ) → text ≢ [] → ((front : List ℕ) (byte : ℕ) → text ≡ front ++ byte ∷ [] → is_blank byte ≡ false) →
    before_blanks (before ++ text) ≡ before ++ text
before_blanks-behind before text some ends = elim (has_last text) [
  | inl e ↦ absurd (some e)
  | inr l ↦ let whole : before ++ text ≡ before ++ l.0 ++ l.1 ∷ [] = ap (λ bytes. before ++ bytes) l.2 ∙ sym (append_assoc before l.0 (l.1 ∷ [])) in
      ap before_blanks whole ∙ before_blanks-solid (before ++ l.0) l.1 (ends l.0 l.1 l.2) ∙ sym whole
]

pub solid_last : (front : List ℕ) (byte : ℕ) → IsSolid (front ++ byte ∷ []) → is_blank byte ≡ false
solid_last [] byte solid = solid.0
solid_last (b ∷ front) byte solid = solid_last front byte solid.1

pub solid_begins : (word rest : List ℕ) → IsSolid word → word ≢ [] → (byte : ℕ) (more : List ℕ) → word ++ rest ≡ byte ∷ more → is_blank byte ≡ false
solid_begins [] rest solid some byte more e = absurd (some refl)
solid_begins (b ∷ word) rest solid some byte more e = cc (e, solid.0)

-- the blanks behind a byte that is none end before it
stops_before : (bytes : List ℕ) (byte : ℕ) → is_blank byte ≡ false → prefix_len is_blank (bytes ++ byte ∷ []) ≤ length bytes
stops_before [] byte h = rw (h) (omega arith)
stops_before (b ∷ bytes) byte h =
    let less : cond (is_blank b) (1 + prefix_len is_blank (bytes ++ byte ∷ [])) 0 ≤ length bytes + 1 =
    at_most (is_blank b) (prefix_len is_blank (bytes ++ byte ∷ [])) (length bytes) (stops_before bytes byte h) in omega (arith, less)
  where
    at_most : (test : Bool) (m n : ℕ) → m ≤ n → cond test (1 + m) 0 ≤ n + 1
    at_most true m n le = omega arith
    at_most false m n le = omega arith

pub before_blanks-first : (byte : ℕ) (rest : List ℕ) → is_blank byte ≡ false → (more : List ℕ) × (before_blanks (byte ∷ rest) ≡ byte ∷ more)
before_blanks-first byte rest h =
    let few : prefix_len is_blank (reverse rest ++ byte ∷ []) ≤ length (reverse rest) = stops_before (reverse rest) byte h in
    let count : suffix_len is_blank (byte ∷ rest) ≡ prefix_len is_blank (reverse rest ++ byte ∷ []) = ap (prefix_len is_blank) (reverse-append (byte ∷ []) rest) in
    let left = length rest - suffix_len is_blank (byte ∷ rest) in
    let e : length (byte ∷ rest) - suffix_len is_blank (byte ∷ rest) ≡ 1 + left = omega (arith, few, count, length-reverse rest) in
    (take left rest, ap (λ n. take n (byte ∷ rest)) e ∙ take-more left byte rest)
