-- Amounts of a unit: what is read as one is one, and each is read.
use Rattle.std.proofs.Common.{◌≡◌, ◌+◌, ◌-◌, ◌*◌, ◌^◌, ℕ, zero, suc, List, [], ◌∷◌, ◌++◌, Bool, true, false, cond, ◌||◌, ◌==◌, length, drop, take, bytes_eq, Option, Some, None, option_map, refl, ap, ap₂, ◌∙◌, subst, arith, le-leb}
use Rattle.std.proofs.lemmas.Bool.{eqb-true, false≢true}
use Rattle.std.proofs.lemmas.Slice.Eq.{bytes_eq-Decides}
use Rattle.std.specs.Prelude.{if◌then◌else◌}
use Rattle.std.specs.Char.{is_ascii_digit}
use Rattle.std.specs.List.{AllByRecursion, prefix_len}
use Rattle.pearl_rules.specs.Literals.{Amount, behind_digits, front_digits, number_literal, whole_amount, worded}
use Rattle.pearl_journal.specs.Laws.{IsGap}
use Rattle.pearl_journal.specs.Words.{behind_blanks, is_blank}
use Rattle.pearl_journal.proofs.Offered.{behind_blanks-bare, behind_blanks-gap}
use Rattle.pearl_journal_laws.specs.Durations.{IsAmount}
use Rattle.pearl_journal_laws.specs.Says.{IsDigit}
use Rattle.pearl_journal_laws.proofs.Numbers.{was_limit}
use Rattle.pearl_journal_laws.proofs.Signs.{parted, read_number}

-- DIGITS AT THE FRONT

-- no digit comes first
abbrev pub StopsDigits : List ℕ → Type 0
StopsDigits tail = prefix_len is_ascii_digit tail ≡ 0

digit_is : (byte : ℕ) → IsDigit byte → is_ascii_digit byte ≡ true
digit_is byte is = rw (le-leb 48 byte is.0, le-leb byte 57 is.1) refl

front_length : (digits tail : List ℕ) → AllByRecursion IsDigit digits → StopsDigits tail →
    prefix_len is_ascii_digit (digits ++ tail) ≡ length digits
front_length [] tail are stops = stops
front_length (byte ∷ digits) tail are stops =
    let later = front_length digits tail are.1 stops in
    let more : 1 + prefix_len is_ascii_digit (digits ++ tail) ≡ length (byte ∷ digits) = omega (arith, later) in
    ap (λ b. cond b (1 + prefix_len is_ascii_digit (digits ++ tail)) 0) (digit_is byte are.0) ∙ more

take_front : (front tail : List ℕ) → take (length front) (front ++ tail) ≡ front
take_front [] tail = refl
take_front (b ∷ front) tail = ap (λ t. b ∷ t) (take_front front tail)

drop_front : (front tail : List ℕ) → drop (length front) (front ++ tail) ≡ tail
drop_front [] tail = refl
drop_front (b ∷ front) tail = drop_front front tail

pub front_is : (digits tail : List ℕ) → AllByRecursion IsDigit digits → StopsDigits tail →
    front_digits (digits ++ tail) ≡ digits
front_is digits tail are stops =
    ap (λ n. take n (digits ++ tail)) (front_length digits tail are stops) ∙ take_front digits tail

pub behind_is : (digits tail : List ℕ) → AllByRecursion IsDigit digits → StopsDigits tail →
    behind_digits (digits ++ tail) ≡ tail
behind_is digits tail are stops =
    ap (λ n. drop n (digits ++ tail)) (front_length digits tail are stops) ∙ drop_front digits tail

take_drop : (n : ℕ) (bytes : List ℕ) → bytes ≡ take n bytes ++ drop n bytes
take_drop zero bytes = refl
take_drop (suc n) [] = refl
take_drop (suc n) (b ∷ bytes) = ap (λ t. b ∷ t) (take_drop n bytes)

pub front_and_behind : (text : List ℕ) → text ≡ front_digits text ++ behind_digits text
front_and_behind text = take_drop (prefix_len is_ascii_digit text) text

blank_no_digit : (byte : ℕ) → is_blank byte ≡ true → is_ascii_digit byte ≡ false
blank_no_digit byte e = by (byte == 32) (byte == 9) refl refl e
  where
    by : (blank tab : Bool) → (byte == 32) ≡ blank → (byte == 9) ≡ tab → blank || tab ≡ true →
        is_ascii_digit byte ≡ false
    by true tab b t e = ap is_ascii_digit (eqb-true byte 32 b)
    by false true b t e = ap is_ascii_digit (eqb-true byte 9 t)
    by false false b t e = absurd (false≢true e)

pub gap_stops : (gap : List ℕ) (letter : ℕ) (more : List ℕ) → IsGap gap → is_ascii_digit letter ≡ false →
    StopsDigits (gap ++ letter ∷ more)
gap_stops [] letter more is other = ap (λ b. cond b (1 + prefix_len is_ascii_digit more) 0) other
gap_stops (b ∷ gap) letter more is other =
    ap (λ t. cond t (1 + prefix_len is_ascii_digit (gap ++ letter ∷ more)) 0) (blank_no_digit b is.0)

-- WORDS OF UNITS

behind_gap : (gap : List ℕ) (letter : ℕ) (more : List ℕ) → IsGap gap → is_blank letter ≡ false →
    behind_blanks (gap ++ letter ∷ more) ≡ letter ∷ more
behind_gap gap letter more is other =
    behind_blanks-gap gap (letter ∷ more) is
    ∙ behind_blanks-bare (letter ∷ more) (λ byte rest e. let same : letter ≡ byte =
    cc in subst (λ b. is_blank b ≡ false) same other)

abbrev pub amount : ℕ → List ℕ → Amount
amount n behind = record { milliseconds = n; rest = behind }

-- what comes of the text that stands where the word is to stand
abbrev word_or : (word : List ℕ) → ℕ → (here : List ℕ) → Option Amount
word_or word n here =
    if bytes_eq (take (length word) here) word then Some (amount n (drop (length word) here)) else None

pub word_read : (letter : ℕ) (word gap behind : List ℕ) (n : ℕ) → IsGap gap → is_blank letter ≡ false →
    worded is_blank (letter ∷ word) (Some n) (gap ++ (letter ∷ word ++ behind)) ≡ Some (amount n behind)
word_read letter word gap behind n is other =
    let whole = letter ∷ word in
    ap (word_or whole n) (behind_gap gap letter (word ++ behind) is other)
    ∙ ap (λ t. if bytes_eq t whole then Some (amount n (drop (length whole) (whole ++ behind))) else None)
    (take_front whole behind)
    ∙ ap (λ b. if b then Some (amount n (drop (length whole) (whole ++ behind))) else None)
    ((bytes_eq-Decides whole whole).1 refl)
    ∙ ap (λ t. Some (amount n t)) (drop_front whole behind)

pub other_word : (letter : ℕ) (word gap : List ℕ) (o : Option ℕ) (other : ℕ) (more : List ℕ) → IsGap gap →
    is_blank other ≡ false →
    (other == letter) ≡ false → worded is_blank (letter ∷ word) o (gap ++ other ∷ more) ≡ None
other_word letter word gap None other more is solid differs = refl
other_word letter word gap (Some n) other more is solid differs =
    ap (word_or (letter ∷ word) n) (behind_gap gap other more is solid) ∙ rw (differs) refl

-- what is worded is a gap, the word and what is behind it
pub record WasWorded (word : List ℕ) (o : Option ℕ) (rest : List ℕ) (x : Amount) : Type 0 where
  pub gap : List ℕ
  pub is_gap : IsGap gap
  pub spelled : rest ≡ gap ++ (word ++ x.rest)
  pub number : o ≡ Some x.milliseconds

pub was_worded : (word : List ℕ) (o : Option ℕ) (rest : List ℕ) (x : Amount) → worded is_blank word o rest ≡ Some x →
    WasWorded word o rest x
was_worded word None rest x e = let no : ⊥ = cc in absurd no
was_worded word (Some n) rest x e = by (bytes_eq (take (length word) here) word) refl e
  where
    here : List ℕ
    here = behind_blanks rest

    by : (is : Bool) → bytes_eq (take (length word) here) word ≡ is →
        (if is then Some (amount n (drop (length word) here)) else None) ≡ Some x → WasWorded word (Some n) rest x
    by false b e = let no : ⊥ = cc in absurd no
    by true b e =
        let same : amount n (drop (length word) here) ≡ x = cc in
        let word_is : take (length word) here ≡ word = (bytes_eq-Decides (take (length word) here) word).0 b in
        let p = parted rest in
        let whole : here ≡ word ++ x.rest =
        take_drop (length word) here ∙ ap₂ (λ a b. a ++ b) word_is (ap (λ (a : Amount). a.rest) same) in
        record {
          gap = p.0;
          is_gap = p.1;
          spelled = p.2 ∙ ap (λ t. p.0 ++ t) whole;
          number = ap (λ (a : Amount). Some a.milliseconds) same;
        }

-- AMOUNTS

module _ (letter : ℕ) (word : List ℕ) (unit : ℕ) (no_digit : is_ascii_digit letter ≡ false)
    (no_blank : is_blank letter ≡ false) where
  pub amount_read : (bytes : List ℕ) (n : ℕ) (behind : List ℕ) → IsAmount bytes (letter ∷ word) n behind →
      whole_amount is_blank (letter ∷ word) unit bytes ≡ Some (amount (n * unit) behind)
  amount_read bytes n behind is =
      let tail = is.gap ++ (letter ∷ word ++ behind) in
      let stops = gap_stops is.gap letter (word ++ behind) is.is_gap no_digit in
      ap (whole_amount is_blank (letter ∷ word) unit) is.spelled
      ∙ ap₂ (λ a b. worded is_blank (letter ∷ word) (option_map (λ n. n * unit) (number_literal a)) b)
      (front_is is.digits tail is.is_number.are_digits stops) (behind_is is.digits tail is.is_number.are_digits stops)
      ∙ ap (λ o. worded is_blank (letter ∷ word) (option_map (λ n. n * unit) o) tail)
      (read_number is.digits n is.is_number)
      ∙ word_read letter word is.gap behind (n * unit) is.is_gap no_blank

-- what was read as an amount
pub record WasAmount (bytes word : List ℕ) (unit : ℕ) (x : Amount) : Type 0 where
  pub n : ℕ
  pub is_amount : IsAmount bytes word n x.rest
  pub value : x.milliseconds ≡ n * unit

was_unit : (unit : ℕ) (o : Option ℕ) (m : ℕ) → option_map (λ n. n * unit) o ≡ Some m →
    (n : ℕ) × (o ≡ Some n) × (m ≡ n * unit)
was_unit unit None m e = let no : ⊥ = cc in absurd no
was_unit unit (Some n) m e = (n, refl, cc)

pub was_amount : (word : List ℕ) (unit : ℕ) (bytes : List ℕ) (x : Amount) →
    whole_amount is_blank word unit bytes ≡ Some x →
    WasAmount bytes word unit x
was_amount word unit bytes x e =
    let w = was_worded word (option_map (λ n. n * unit) (number_literal (front_digits bytes)))
    (behind_digits bytes) x e in
    let u = was_unit unit (number_literal (front_digits bytes)) x.milliseconds w.number in
    record {
      n = u.0;
      is_amount = record {
        digits = front_digits bytes;
        gap = w.gap;
        spelled = front_and_behind bytes ∙ ap (λ t. front_digits bytes ++ t) w.spelled;
        is_gap = w.is_gap;
        is_number = (was_limit (2 ^ 63 - 1) (front_digits bytes) u.0 (omega arith) u.1).0;
      };
      value = u.2;
    }
