-- A line without the blanks at its ends: its first word, and what stands behind that.
use Rattle.std.proofs.Common.{◌≡◌, ◌+◌, ◌-◌, ℕ, List, [], ◌∷◌, ◌++◌, true, drop, length, reverse, take, refl, ap, sym, ◌∙◌, subst, arith}
use Rattle.std.proofs.lemmas.List.{append_assoc, append-nil, reverse-append, take-append-le}
use Rattle.std.specs.List.{prefix_len, suffix_len}
use Rattle.pearl_journal.specs.Laws.{IsGap, IsWord, SaysWordAndText}
use Rattle.pearl_journal.specs.Words.{before_blanks, behind_blanks, behind_word, first_word, is_blank}
use Rattle.pearl_journal.proofs.Offered.{StopsWord, after_first-word, before_blanks-bare, before_first-word}
use Rattle.pearl_journal.proofs.Offered.{behind_blanks-bare, behind_blanks-gap}
use Rattle.pearl_journal_laws.proofs.Parting.{Backed, Begins, Ends, Fronted, Worded, backed, ends_of, fronted, worded}

-- BLANKS AT THE END

last_length : (bytes : List ℕ) (byte : ℕ) → length (bytes ++ byte ∷ []) ≡ length bytes + 1
last_length [] byte = refl
last_length (b ∷ bytes) byte = let e = last_length bytes byte in omega arith

blank_free : (text : List ℕ) (byte : ℕ) → is_blank byte ≡ true → before_blanks (text ++ byte ∷ []) ≡ before_blanks text
blank_free text byte blank =
    let one_more : prefix_len is_blank (byte ∷ reverse text) ≡ 1 + suffix_len is_blank text = rw (blank) refl in
    let count : suffix_len is_blank (text ++ byte ∷ []) ≡ 1 + suffix_len is_blank text =
    ap (prefix_len is_blank) (reverse-append text (byte ∷ [])) ∙ one_more in
    let left : length (text ++ byte ∷ []) - suffix_len is_blank (text ++ byte ∷ [])
    ≡ length text - suffix_len is_blank text =
    omega (arith, last_length text byte, count) in
    ap (λ n. take n (text ++ byte ∷ [])) left
    ∙ take-append-le (length text - suffix_len is_blank text) text (byte ∷ []) (omega arith)

back_free : (text back : List ℕ) → IsGap back → before_blanks (text ++ back) ≡ before_blanks text
back_free text [] is = ap before_blanks (append-nil text)
back_free text (byte ∷ back) is =
    ap before_blanks (sym (append_assoc text (byte ∷ []) back)) ∙ back_free (text ++ byte ∷ []) back is.1
    ∙ blank_free text byte is.0

-- WORDS

stops : (gap text : List ℕ) → IsGap gap → (gap ≡ [] → text ≡ []) → StopsWord (gap ++ text)
stops [] text is parted byte more e = let none = parted refl in cc (e, none)
stops (b ∷ gap) text is parted byte more e = cc (e, is.0)

text_behind : (gap text : List ℕ) → IsGap gap → (gap ≡ [] → text ≡ []) → Begins text →
    behind_blanks (drop 1 (gap ++ text)) ≡ text
text_behind [] text is parted begins =
    let none = parted refl in ap (λ t. behind_blanks (drop 1 t)) none ∙ sym none
text_behind (b ∷ gap) text is parted begins = behind_blanks-gap gap text is.1 ∙ behind_blanks-bare text begins

module _ (text : List ℕ) (w : Worded text) where
  pub word_is : first_word text ≡ w.word
  word_is =
      ap first_word w.spelled
      ∙ before_first-word w.word (w.gap ++ w.text) w.solid (stops w.gap w.text w.is_gap w.parted)

  pub behind_is : behind_word text ≡ w.text
  behind_is =
      ap behind_word w.spelled
      ∙ ap behind_blanks
      (after_first-word w.word (w.gap ++ w.text) w.solid (stops w.gap w.text w.is_gap w.parted))
      ∙ text_behind w.gap w.text w.is_gap w.parted w.begins

-- LINES

-- what is left of a line without the blanks at its ends
abbrev pub trimmed : List ℕ → List ℕ
trimmed line = before_blanks (behind_blanks line)

-- if its first word begins no comment, the line says this and what stands behind it
pub record Said (line : List ℕ) : Type 0 where
  pub word : List ℕ
  pub text : List ℕ
  pub first : first_word (trimmed line) ≡ word
  pub behind : behind_word (trimmed line) ≡ text
  pub says : IsWord word → SaysWordAndText line word text

pub said : (line : List ℕ) → Said line
said line = let f = fronted line in by f (backed f.rest)
  where
    by : (f : Fronted line) → Backed f.rest → Said line
    by f b =
        let w = worded b.text in
        let left : trimmed line ≡ b.text =
        ap before_blanks
        (ap behind_blanks f.spelled ∙ behind_blanks-gap f.gap f.rest f.is_gap ∙ behind_blanks-bare f.rest f.begins
        ∙ b.spelled)
        ∙ back_free b.text b.back b.is_gap ∙ before_blanks-bare b.text b.ends in
        let whole : b.text ≡ w.word ++ (w.gap ++ w.text) = w.spelled in
        let text_ends : Ends w.text =
        ends_of w.gap w.text (ends_of w.word (w.gap ++ w.text) (subst Ends whole b.ends)) in
        record {
          word = w.word;
          text = w.text;
          first = ap first_word left ∙ word_is b.text w;
          behind = ap behind_word left ∙ behind_is b.text w;
          says = λ is. record {
            front = f.gap;
            gap = w.gap;
            back = b.back;
            spelled = f.spelled
                ∙ ap (λ t. f.gap ++ t) (b.spelled ∙ ap (λ t. t ++ b.back) whole
                ∙ append_assoc w.word (w.gap ++ w.text) b.back
                ∙ ap (λ t. w.word ++ t) (append_assoc w.gap w.text b.back));
            front_is_gap = f.is_gap;
            gap_is_gap = w.is_gap;
            back_is_gap = b.is_gap;
            is_word = is;
            is_bare = record { begins = w.begins; ends = text_ends };
            parted = w.parted;
          };
        }
