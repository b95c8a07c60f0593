-- Numbers, times, texts and literals end in no byte 13.
use Rattle.std.proofs.Common.{◌≡◌, ◌≢◌, ℕ, ℤ, List, [], ◌∷◌, ◌++◌, inl, inr, Bool, true, false, not, ◌&&◌, ◌==◌, length, nat_le, codes, refl, ap, sym, ◌∙◌, subst, arith}
use Rattle.std.proofs.lemmas.Bool.{false≢true}
use Rattle.std.proofs.lemmas.List.{append-nil}
use Rattle.std.specs.Prelude.{slice_index}
use Rattle.std.specs.Char.{is_ascii_alphabetic}
use Rattle.std.specs.List.{AllByRecursion, list_all}
use Rattle.pearl_value.specs.declared.cell.Cell.{Cell}
use Rattle.pearl_value.specs.declared.cell.Cell.TheVariants.{Fixed, Bits, Chars, Clock, Span, Ref}
use Rattle.pearl_value.specs.Names.{is_id, is_name_byte}
use Rattle.pearl_journal.specs.Laws.{EndsInNoReturn, doubled}
use Rattle.pearl_journal_laws.specs.Durations.{Begins, IsAmount, IsHours, IsLengthOfTime, IsMinutes, IsSeconds}
use Rattle.pearl_journal_laws.specs.Literals.{AreBits, IsLiteral, IsSigned, SaysGroup, Spells}
use Rattle.pearl_journal_laws.specs.Says.{IsDigit, IsNumber, IsText}
use Rattle.pearl_journal_laws.specs.Times.{IsTimeOfDay}
use Rattle.pearl_journal_laws.proofs.Writing.{ends_behind}

-- a text of one byte or more, the last of which is not 13
abbrev pub EndsWell : List ℕ → Type 0
EndsWell text = (text ≢ []) × EndsInNoReturn text

pub behind : (before text : List ℕ) → EndsWell text → EndsWell (before ++ text)
behind before text well = (some before, ends_behind before text well.0 well.1)
  where
    some : (before : List ℕ) → before ++ text ≢ []
    some [] = well.0
    some (b ∷ before) = λ e. cc

pub both_true : (a b : Bool) → not a && b ≡ true → (a ≡ false) × (b ≡ true)
both_true false b e = (refl, e)
both_true true b e = absurd (false≢true e)

pub no_return_by : (text : List ℕ) → list_all (λ byte. not (byte == 13)) text ≡ true → EndsInNoReturn text
no_return_by text all [] e =
    let same = subst (λ t. list_all (λ byte. not (byte == 13)) t ≡ true) e all in false≢true same
no_return_by [] all (b ∷ front) e = cc
no_return_by (byte ∷ text) all (b ∷ front) e =
    let others : text ≡ front ++ 13 ∷ [] = cc in
    no_return_by text (both_true (byte == 13) (list_all (λ byte. not (byte == 13)) text) all).1 front others

well_by : (text : List ℕ) → text ≢ [] → list_all (λ byte. not (byte == 13)) text ≡ true → EndsWell text
well_by text some all = (some, no_return_by text all)

-- NUMBERS, TIMES AND TEXTS

no_digit : (front : List ℕ) → AllByRecursion IsDigit (front ++ 13 ∷ []) → ⊥
no_digit [] are = let low = are.0.0 in omega (arith, low)
no_digit (byte ∷ front) are = no_digit front are.1

digits_end : (digits : List ℕ) → digits ≢ [] → AllByRecursion IsDigit digits → EndsWell digits
digits_end digits some are = (some, λ front e. no_digit front (subst (AllByRecursion IsDigit) e are))

pub number_ends : (bytes : List ℕ) (n : ℕ) → IsNumber bytes n → EndsWell bytes
number_ends bytes n is = digits_end bytes is.some is.are_digits

pub text_ends : (bytes text : List ℕ) → IsText bytes text → EndsWell bytes
text_ends bytes text is =
    subst EndsWell (sym is.written) (behind (39 ∷ doubled text) (39 ∷ []) (well_by (39 ∷ []) (λ e. cc) refl))

pub time_ends : (bytes : List ℕ) (time : ℕ) → IsTimeOfDay bytes time → EndsWell bytes
time_ends bytes time is =
    let seconds = is.second_digits ++ is.fraction in
    let seconds_end : EndsWell seconds = elim is.fraction_is [
      | inl none ↦
          subst EndsWell (sym (ap (λ t. is.second_digits ++ t) none.0 ∙ append-nil is.second_digits))
          (number_ends is.second_digits is.seconds is.seconds_are.0)
      | inr some ↦
          subst (λ t. EndsWell (is.second_digits ++ t)) (sym some.1)
          (behind is.second_digits (46 ∷ some.0)
          (behind (46 ∷ []) some.0 (digits_end some.0 some.2.some some.2.are_digits)))
    ] in
    subst EndsWell (sym is.spelled)
    (behind is.hour_digits (58 ∷ (is.minute_digits ++ 58 ∷ seconds))
    (behind (58 ∷ []) (is.minute_digits ++ 58 ∷ seconds)
    (behind is.minute_digits (58 ∷ seconds) (behind (58 ∷ []) seconds seconds_end))))

-- LENGTHS OF TIME

amount_ends : (bytes word : List ℕ) (n : ℕ) (rest : List ℕ) → EndsWell (word ++ rest) → IsAmount bytes word n rest →
    EndsWell bytes
amount_ends bytes word n rest well is =
    subst EndsWell (sym is.spelled)
    (behind is.digits (is.gap ++ (word ++ rest)) (behind is.gap (word ++ rest) well))

begins_end : (word : List ℕ) (unit : ℕ) (Later : List ℕ → ℕ → Type 0) → EndsWell word →
    ((bytes : List ℕ) (time : ℕ) → Later bytes time → EndsWell bytes) →
    (bytes : List ℕ) (time : ℕ) → Begins word unit Later bytes time → EndsWell bytes
begins_end word unit Later well later bytes time is =
    let rest : EndsWell (word ++ is.behind) = elim is.behind_is [
      | inl none ↦ subst EndsWell (sym (ap (λ t. word ++ t) none.0 ∙ append-nil word)) well
      | inr more ↦
          behind word is.behind (subst EndsWell (sym more.spelled)
          (behind more.gap more.rest (later more.rest is.rest more.later)))
    ] in
    amount_ends bytes word is.n is.behind rest is.is_amount

sec_ends : EndsWell (codes "SEC")
sec_ends = well_by (codes "SEC") (λ e. cc) refl

seconds_end : (bytes : List ℕ) (time : ℕ) → IsSeconds bytes time → EndsWell bytes
seconds_end bytes time (inl is) = amount_ends bytes (codes "SEC") is.0 [] sec_ends is.1
seconds_end bytes time (inr is) =
    subst EndsWell (sym is.spelled)
    (behind is.digits (46 ∷ (is.part ++ (is.gap ++ codes "SEC")))
    (behind (46 ∷ []) (is.part ++ (is.gap ++ codes "SEC"))
    (behind is.part (is.gap ++ codes "SEC") (behind is.gap (codes "SEC") sec_ends))))

minutes_end : (bytes : List ℕ) (time : ℕ) → IsMinutes bytes time → EndsWell bytes
minutes_end bytes time (inl is) =
    begins_end (codes "MIN") 60000 IsSeconds (well_by (codes "MIN") (λ e. cc) refl) seconds_end bytes time is
minutes_end bytes time (inr is) = seconds_end bytes time is

hours_end : (bytes : List ℕ) (time : ℕ) → IsHours bytes time → EndsWell bytes
hours_end bytes time (inl is) =
    begins_end (codes "HRS") 3600000 IsMinutes (well_by (codes "HRS") (λ e. cc) refl) minutes_end bytes time is
hours_end bytes time (inr is) = minutes_end bytes time is

length_ends : (bytes : List ℕ) (time : ℤ) → IsLengthOfTime bytes time → EndsWell bytes
length_ends bytes time (inl is) = hours_end bytes is.0 is.1
length_ends bytes time (inr is) =
    subst EndsWell (sym is.1.spelled)
    (behind (45 ∷ []) (is.1.gap ++ is.1.rest) (behind is.1.gap is.1.rest (hours_end is.1.rest is.0 is.1.is_length)))

-- LITERALS

signed_ends : (bytes : List ℕ) (value : ℤ) → IsSigned bytes value → EndsWell bytes
signed_ends bytes value (inl is) = number_ends bytes is.0 is.1
signed_ends bytes value (inr is) =
    subst EndsWell (sym is.1.spelled)
    (behind (45 ∷ []) (is.1.gap ++ is.1.digits)
    (behind is.1.gap is.1.digits (number_ends is.1.digits is.0 is.1.is_number)))

group_ends : (word : List ℕ) (group : ℕ) → SaysGroup word group → EndsWell word
group_ends word group (inl is) = subst EndsWell (sym is.0) (well_by (codes "B") (λ e. cc) refl)
group_ends word group (inr (inl is)) = subst EndsWell (sym is.0) (well_by (codes "B1") (λ e. cc) refl)
group_ends word group (inr (inr (inl is))) = subst EndsWell (sym is.0) (well_by (codes "B2") (λ e. cc) refl)
group_ends word group (inr (inr (inr (inl is)))) = subst EndsWell (sym is.0) (well_by (codes "B3") (λ e. cc) refl)
group_ends word group (inr (inr (inr (inr is)))) = subst EndsWell (sym is.0) (well_by (codes "B4") (λ e. cc) refl)

bits_end : (bytes : List ℕ) (len value : ℕ) → AreBits bytes len value → EndsWell bytes
bits_end bytes len value are =
    subst EndsWell (sym are.spelled)
    (behind (39 ∷ []) (are.digits ++ 39 ∷ are.word)
    (behind are.digits (39 ∷ are.word)
    (behind (39 ∷ []) are.word (group_ends are.word are.group are.says_group))))

value_ends : (bytes : List ℕ) (x : Cell) → Spells bytes x → EndsWell bytes
value_ends bytes (Fixed len value) is = signed_ends bytes value is.0
value_ends bytes (Bits len value) is = bits_end bytes len value is
value_ends bytes (Chars text) is = text_ends bytes text.items is.0
value_ends bytes (Clock time) is = time_ends bytes time is
value_ends bytes (Span time) is = length_ends bytes time is.0
value_ends bytes (Ref to place) is = absurd is

pub literal_ends : (bytes : List ℕ) → IsLiteral bytes → EndsWell bytes
literal_ends bytes (inl is) = value_ends bytes is.0 is.1
literal_ends bytes (inr is) = length_ends bytes is.0 is.1

-- NAMES

name_ends : (front : List ℕ) → list_all is_name_byte (front ++ 13 ∷ []) ≡ false
name_ends [] = refl
name_ends (byte ∷ front) = by (is_name_byte byte) (name_ends front)
  where
    by : (is : Bool) → list_all is_name_byte (front ++ 13 ∷ []) ≡ false →
        is && list_all is_name_byte (front ++ 13 ∷ []) ≡ false
    by true e = e
    by false e = refl

pub id_ends : (front : List ℕ) → is_id (front ++ 13 ∷ []) ≡ false
id_ends front =
    by (is_ascii_alphabetic (slice_index (front ++ 13 ∷ []) 0)) (nat_le (length (front ++ 13 ∷ [])) 63)
    (list_all is_name_byte (front ++ 13 ∷ [])) (name_ends front)
  where
    by : (first short all : Bool) → all ≡ false → first && all && short ≡ false
    by true short false e = refl
    by false short false e = refl
    by first short true e = absurd (false≢true (sym e))
