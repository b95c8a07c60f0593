-- What is read as a length of time is one, and each is read.
use Rattle.std.proofs.Common.{◌≡◌, ◌≢◌, ◌≤◌, ◌+◌, ◌-◌, ◌*◌, ◌^◌, ℕ, ℤ, pos, List, [], ◌∷◌, ◌++◌, ◌⊎◌, inl, inr, Bool, true, false, cond, ◌==◌, drop, codes, Option, Some, None, option_map, refl, ap, ap₂, sym, ◌∙◌, subst, arith}
use Rattle.std.proofs.lemmas.Bool.{eqb-true, false≢true, ne_eqb}
use Rattle.std.specs.Prelude.{slice_index, if◌then◌else◌}
use Rattle.std.specs.Char.{is_ascii_digit}
use Rattle.pearl_rules.specs.Literals.{Amount, behind_amount, behind_digits, decimal_amount, decimal_value, from_amount, from_hours, from_minutes, from_seconds, front_digits, minus, number_literal, seconds_amount, span_literal, thousandths, whole_amount, worded}
use Rattle.pearl_journal.specs.Laws.{IsGap}
use Rattle.pearl_journal.specs.Words.{behind_blanks, is_blank}
use Rattle.pearl_journal.proofs.Offered.{behind_blanks-bare, behind_blanks-gap}
use Rattle.pearl_journal_laws.specs.Durations.{Begins, IsAmount, IsDecimal, IsHours, IsLengthOfTime, IsMinutes, IsParted, IsSeconds}
use Rattle.pearl_journal_laws.specs.Says.{IsNumber}
use Rattle.pearl_journal_laws.proofs.Amounts.{amount, amount_read, behind_is, front_and_behind, front_is, gap_stops, other_word, was_amount, was_worded, word_read}
use Rattle.pearl_journal_laws.proofs.Numbers.{was_limit}
use Rattle.pearl_journal_laws.proofs.Signs.{parted, read_number, was_some}
use Rattle.pearl_journal_laws.proofs.TimesOfDay.{thousandths_are, were_thousandths}

-- FIRST BYTES

-- a number comes first
record HasNumber (bytes : List ℕ) : Type 0 where
  digits : List ℕ
  more : List ℕ
  n : ℕ
  spelled : bytes ≡ digits ++ more
  is_number : IsNumber digits n

amount_first : (bytes word : List ℕ) (n : ℕ) (behind : List ℕ) → IsAmount bytes word n behind → HasNumber bytes
amount_first bytes word n behind is =
    record {
      digits = is.digits;
      more = is.gap ++ (word ++ behind);
      n = n;
      spelled = is.spelled;
      is_number =
          is.is_number;
    }

seconds_first : (bytes : List ℕ) (time : ℕ) → IsSeconds bytes time → HasNumber bytes
seconds_first bytes time (inl is) = amount_first bytes (codes "SEC") is.0 [] is.1
seconds_first bytes time (inr is) =
    record {
      digits = is.digits;
      more = 46 ∷ (is.part ++ (is.gap ++ codes "SEC"));
      n = is.seconds;
      spelled = is.spelled;
      is_number = is.is_number;
    }

minutes_first : (bytes : List ℕ) (time : ℕ) → IsMinutes bytes time → HasNumber bytes
minutes_first bytes time (inl is) = amount_first bytes (codes "MIN") is.n is.behind is.is_amount
minutes_first bytes time (inr is) = seconds_first bytes time is

hours_first : (bytes : List ℕ) (time : ℕ) → IsHours bytes time → HasNumber bytes
hours_first bytes time (inl is) = amount_first bytes (codes "HRS") is.n is.behind is.is_amount
hours_first bytes time (inr is) = minutes_first bytes time is

first_high : (bytes : List ℕ) → HasNumber bytes → (byte : ℕ) (rest : List ℕ) → bytes ≡ byte ∷ rest → 48 ≤ byte
first_high bytes h byte rest e = by h.digits h.is_number (sym h.spelled ∙ e)
  where
    by : (digits : List ℕ) → IsNumber digits h.n → digits ++ h.more ≡ byte ∷ rest → 48 ≤ byte
    by [] is same = absurd (is.some refl)
    by (b ∷ digits) is same = let e : b ≡ byte = cc in subst (λ c. 48 ≤ c) e is.are_digits.0.0

no_blank_first : (bytes : List ℕ) → HasNumber bytes → (byte : ℕ) (rest : List ℕ) → bytes ≡ byte ∷ rest →
    is_blank byte ≡ false
no_blank_first bytes h byte rest e =
    let high = first_high bytes h byte rest e in
    rw (ne_eqb byte 32 (λ e. omega (arith, e, high)), ne_eqb byte 9 (λ e. omega (arith, e, high))) refl

no_minus_first : (bytes : List ℕ) → HasNumber bytes → (slice_index bytes 0 == 45) ≡ false
no_minus_first [] h = refl
no_minus_first (byte ∷ rest) h =
    let high = first_high (byte ∷ rest) h byte rest refl in ne_eqb byte 45 (λ e. omega (arith, e, high))

behind_gap : (gap rest : List ℕ) → IsGap gap → HasNumber rest → behind_blanks (gap ++ rest) ≡ rest
behind_gap gap rest is h = behind_blanks-gap gap rest is ∙ behind_blanks-bare rest (no_blank_first rest h)

gap_no_point : (gap : List ℕ) (letter : ℕ) (more : List ℕ) → IsGap gap → (letter == 46) ≡ false →
    (slice_index (gap ++ letter ∷ more) 0 == 46) ≡ false
gap_no_point [] letter more is other = other
gap_no_point (b ∷ gap) letter more is other = by (b == 46) refl
  where
    by : (point : Bool) → (b == 46) ≡ point → point ≡ false
    by true e = absurd (false≢true (sym (ap is_blank (eqb-true b 46 e)) ∙ is.0))
    by false e = refl

-- OTHER UNITS

other_amount : (letter other : ℕ) (word more : List ℕ) (unit : ℕ) (bytes : List ℕ) (n : ℕ) (behind : List ℕ) →
    is_ascii_digit other ≡ false → is_blank other ≡ false → (other == letter) ≡ false →
    IsAmount bytes (other ∷ more) n behind → whole_amount is_blank (letter ∷ word) unit bytes ≡ None
other_amount letter other word more unit bytes n behind no_digit no_blank differs is =
    let tail = is.gap ++ (other ∷ more ++ behind) in
    let stops = gap_stops is.gap other (more ++ behind) is.is_gap no_digit in
    let amounts = option_map (λ n. n * unit) (number_literal (front_digits (is.digits ++ tail))) in
    ap (whole_amount is_blank (letter ∷ word) unit) is.spelled
    ∙ ap (worded is_blank (letter ∷ word) amounts) (behind_is is.digits tail is.is_number.are_digits stops)
    ∙ other_word letter word is.gap amounts other (more ++ behind) is.is_gap no_blank differs

point_amount : (letter : ℕ) (word : List ℕ) (unit : ℕ) (bytes : List ℕ) (time : ℕ) → (46 == letter) ≡ false →
    IsDecimal bytes time → whole_amount is_blank (letter ∷ word) unit bytes ≡ None
point_amount letter word unit bytes time differs is =
    let more = is.part ++ (is.gap ++ codes "SEC") in
    let amounts = option_map (λ n. n * unit) (number_literal (front_digits (is.digits ++ 46 ∷ more))) in
    ap (whole_amount is_blank (letter ∷ word) unit) is.spelled
    ∙ ap (worded is_blank (letter ∷ word) amounts) (behind_is is.digits (46 ∷ more) is.is_number.are_digits refl)
    ∙ other_word letter word [] amounts 46 more tt refl differs

-- EACH IS READ

-- seconds by the digits at the front and what is behind them
abbrev seconds_of : (front behind text : List ℕ) → Option Amount
seconds_of front behind text =
    if slice_index behind 0 == 46 then decimal_amount is_blank front (drop 1 behind)
    else whole_amount is_blank (codes "SEC") 1000 text

seconds_amount_read : (bytes : List ℕ) (time : ℕ) → IsSeconds bytes time →
    seconds_amount is_blank bytes ≡ Some (amount time [])
seconds_amount_read bytes time (inl is) =
    let a = is.1 in
    let stops = gap_stops a.gap 83 (codes "EC") a.is_gap refl in
    let behind : behind_digits bytes ≡ a.gap ++ codes "SEC" =
    ap behind_digits a.spelled ∙ behind_is a.digits (a.gap ++ codes "SEC") a.is_number.are_digits stops in
    let whole : (slice_index (behind_digits bytes) 0 == 46) ≡ false =
    ap (λ t. slice_index t 0 == 46) behind ∙ gap_no_point a.gap 83 (codes "EC") a.is_gap refl in
    ap (λ b. if b then decimal_amount is_blank (front_digits bytes) (drop 1 (behind_digits bytes))
    else whole_amount is_blank (codes "SEC") 1000 bytes) whole
    ∙ amount_read 83 (codes "EC") 1000 refl refl bytes is.0 [] a ∙ ap (λ t. Some (amount t [])) (sym is.2)
seconds_amount_read bytes time (inr is) =
    let tail = is.gap ++ codes "SEC" in
    let more = is.part ++ tail in
    let part = is.are_thousandths.are_digits in
    let stops = gap_stops is.gap 83 (codes "EC") is.is_gap refl in
    let front : front_digits bytes ≡ is.digits =
    ap front_digits is.spelled ∙ front_is is.digits (46 ∷ more) is.is_number.are_digits refl in
    let behind : behind_digits bytes ≡ 46 ∷ more =
    ap behind_digits is.spelled ∙ behind_is is.digits (46 ∷ more) is.is_number.are_digits refl in
    ap₂ (λ a b. seconds_of a b bytes) front behind
    ∙ ap₂ (λ a b. worded is_blank (codes "SEC") (decimal_value (number_literal is.digits) (thousandths a)) b)
    (front_is is.part tail part stops) (behind_is is.part tail part stops)
    ∙ ap₂ (λ a b. worded is_blank (codes "SEC") (decimal_value a b) tail)
    (read_number is.digits is.seconds is.is_number) (thousandths_are is.part is.milliseconds is.are_thousandths)
    ∙ word_read 83 (codes "EC") is.gap [] (is.seconds * 1000 + is.milliseconds) is.is_gap refl
    ∙ ap (λ t. Some (amount t [])) (sym is.value)

nothing_more : (n : ℕ) → Some (n + 0) ≡ Some n
nothing_more n = let e : n + 0 ≡ n = omega arith in ap Some e

seconds_read : (bytes : List ℕ) (time : ℕ) → IsSeconds bytes time → from_seconds is_blank bytes ≡ Some time
seconds_read bytes time is =
    ap (from_amount is_blank (λ rest. None) bytes) (seconds_amount_read bytes time is) ∙ nothing_more time

module _ (later : List ℕ → Option ℕ) (Later : List ℕ → ℕ → Type 0)
    (reads : (bytes : List ℕ) (time : ℕ) → Later bytes time → later bytes ≡ Some time)
    (first : (bytes : List ℕ) (time : ℕ) → Later bytes time → HasNumber bytes) where
  parted_read : (gap rest : List ℕ) (time : ℕ) → IsGap gap → gap ≢ [] → Later rest time →
      behind_amount is_blank later (gap ++ rest) ≡ Some time
  parted_read [] rest time is some l = absurd (some refl)
  parted_read (b ∷ gap) rest time is some l =
      ap (λ t. if t then later (behind_blanks (gap ++ rest)) else None) is.0
      ∙ ap later (behind_gap gap rest is.1 (first rest time l)) ∙ reads rest time l

  behind_read : (behind : List ℕ) (rest : ℕ) → ((behind ≡ []) × (rest ≡ 0)) ⊎ IsParted Later behind rest →
      behind_amount is_blank later behind ≡ Some rest
  behind_read behind rest (inl none) = ap (behind_amount is_blank later) none.0 ∙ ap Some (sym none.1)
  behind_read behind rest (inr is) =
      ap (behind_amount is_blank later) is.spelled ∙ parted_read is.gap is.rest rest is.is_gap is.some is.later

  begins_read : (letter : ℕ) (word : List ℕ) (unit : ℕ) (bytes : List ℕ) (time : ℕ) → is_ascii_digit letter ≡ false →
      is_blank letter ≡ false → Begins (letter ∷ word) unit Later bytes time →
      from_amount is_blank later bytes (whole_amount is_blank (letter ∷ word) unit bytes) ≡ Some time
  begins_read letter word unit bytes time no_digit no_blank is =
      ap (from_amount is_blank later bytes) (amount_read letter word unit no_digit no_blank bytes is.n is.behind
      is.is_amount)
      ∙ ap (option_map (λ k. is.n * unit + k)) (behind_read is.behind is.rest is.behind_is) ∙ ap Some (sym is.value)

no_minutes : (bytes : List ℕ) (time : ℕ) → IsSeconds bytes time → whole_amount is_blank (codes "MIN") 60000 bytes ≡ None
no_minutes bytes time (inl is) = other_amount 77 83 (codes "IN") (codes "EC") 60000 bytes is.0 [] refl refl refl is.1
no_minutes bytes time (inr is) = point_amount 77 (codes "IN") 60000 bytes time refl is

minutes_read : (bytes : List ℕ) (time : ℕ) → IsMinutes bytes time → from_minutes is_blank bytes ≡ Some time
minutes_read bytes time (inl is) =
    begins_read (from_seconds is_blank) IsSeconds seconds_read seconds_first 77
    (codes "IN") 60000 bytes time refl refl is
minutes_read bytes time (inr is) =
    ap (from_amount is_blank (from_seconds is_blank) bytes) (no_minutes bytes time is) ∙ seconds_read bytes time is

no_hours : (bytes : List ℕ) (time : ℕ) → IsMinutes bytes time → whole_amount is_blank (codes "HRS") 3600000 bytes ≡ None
no_hours bytes time (inl is) =
    other_amount 72 77 (codes "RS") (codes "IN") 3600000 bytes is.n is.behind refl refl refl is.is_amount
no_hours bytes time (inr (inl is)) =
    other_amount 72 83 (codes "RS") (codes "EC") 3600000 bytes is.0 [] refl refl refl is.1
no_hours bytes time (inr (inr is)) = point_amount 72 (codes "RS") 3600000 bytes time refl is

hours_read : (bytes : List ℕ) (time : ℕ) → IsHours bytes time → from_hours is_blank bytes ≡ Some time
hours_read bytes time (inl is) =
    begins_read (from_minutes is_blank) IsMinutes minutes_read minutes_first 72
    (codes "RS") 3600000 bytes time refl refl is
hours_read bytes time (inr is) =
    ap (from_amount is_blank (from_minutes is_blank) bytes) (no_hours bytes time is) ∙ minutes_read bytes time is

pub reads_length : (bytes : List ℕ) (time : ℤ) → IsLengthOfTime bytes time → span_literal is_blank bytes ≡ Some time
unfolding span_literal
reads_length bytes time (inl is) =
    let other = no_minus_first bytes (hours_first bytes is.0 is.1) in
    rw (other) (ap (option_map pos) (hours_read bytes is.0 is.1) ∙ ap Some (sym is.2))
reads_length bytes time (inr is) =
    let back = is.1 in
    ap (span_literal is_blank) back.spelled
    ∙ ap (λ t. option_map minus (from_hours is_blank t))
    (behind_gap back.gap back.rest back.is_gap (hours_first back.rest is.0 back.is_length))
    ∙ ap (option_map minus) (hours_read back.rest is.0 back.is_length) ∙ ap Some (sym is.2)

-- WHAT IS READ IS ONE

was_sum : (m : ℕ) (o : Option ℕ) (time : ℕ) → option_map (λ n. m + n) o ≡ Some time →
    (n : ℕ) × (o ≡ Some n) × (time ≡ m + n)
was_sum m None time e = let no : ⊥ = cc in absurd no
was_sum m (Some n) time e = (n, refl, cc)

-- nothing behind seconds
was_end : (behind : List ℕ) (n : ℕ) → behind_amount is_blank (λ rest. None) behind ≡ Some n → (behind ≡ []) × (n ≡ 0)
was_end [] n e = (refl, cc)
was_end (b ∷ behind) n e = by (is_blank b) e
  where
    by : (blank : Bool) → cond {A = Option ℕ} blank None None ≡ Some n → (b ∷ behind ≡ []) × (n ≡ 0)
    by true e = let no : ⊥ = cc in absurd no
    by false e = let no : ⊥ = cc in absurd no

was_decimal_value : (a b : Option ℕ) (m : ℕ) → decimal_value a b ≡ Some m →
    (s : ℕ) × (k : ℕ) × (a ≡ Some s) × (b ≡ Some k) × (m ≡ s * 1000 + k)
was_decimal_value (Some s) (Some k) m e = (s, k, refl, refl, cc)
was_decimal_value (Some s) None m e = let no : ⊥ = cc in absurd no
was_decimal_value None b m e = let no : ⊥ = cc in absurd no

was_point : (behind : List ℕ) → (slice_index behind 0 == 46) ≡ true → behind ≡ 46 ∷ drop 1 behind
was_point [] e = let no : ⊥ = cc in absurd no
was_point (b ∷ behind) e = ap (λ c. c ∷ behind) (eqb-true b 46 e)

was_seconds_amount : (bytes : List ℕ) (x : Amount) → seconds_amount is_blank bytes ≡ Some x → x.rest ≡ [] →
    IsSeconds bytes x.milliseconds
was_seconds_amount bytes x e end = by (slice_index (behind_digits bytes) 0 == 46) refl e
  where
    by : (point : Bool) → (slice_index (behind_digits bytes) 0 == 46) ≡ point →
        (if point then decimal_amount is_blank (front_digits bytes) (drop 1 (behind_digits bytes))
        else whole_amount is_blank (codes "SEC") 1000 bytes) ≡ Some x → IsSeconds bytes x.milliseconds
    by false p e =
        let w = was_amount (codes "SEC") 1000 bytes x e in
        inl (w.n, subst (λ t. IsAmount bytes (codes "SEC") w.n t) end w.is_amount, w.value)
    by true p e =
        let more = drop 1 (behind_digits bytes) in
        let value = decimal_value (number_literal (front_digits bytes)) (thousandths (front_digits more)) in
        let w = was_worded (codes "SEC") value (behind_digits more) x e in
        let v = was_decimal_value (number_literal (front_digits bytes)) (thousandths
        (front_digits more)) x.milliseconds w.number in
        let tail : behind_digits more ≡ w.gap ++ codes "SEC" =
        w.spelled ∙ ap (λ t. w.gap ++ (codes "SEC" ++ t)) end in
        inr (record {
          digits = front_digits bytes;
          part = front_digits more;
          gap = w.gap;
          seconds = v.0;
          milliseconds = v.1;
          spelled = front_and_behind bytes
              ∙ ap (λ t. front_digits bytes ++ t)
              (was_point (behind_digits bytes) p
              ∙ ap (λ t. 46 ∷ t) (front_and_behind more ∙ ap (λ t. front_digits more ++ t) tail));
          is_gap = w.is_gap;
          is_number = (was_limit (2 ^ 63 - 1) (front_digits bytes) v.0 (omega arith) v.2).0;
          are_thousandths = were_thousandths (front_digits more) v.1 v.3;
          value = v.4;
        })

was_seconds : (bytes : List ℕ) (time : ℕ) → from_seconds is_blank bytes ≡ Some time → IsSeconds bytes time
was_seconds bytes time e = by (seconds_amount is_blank bytes) refl e
  where
    by : (o : Option Amount) → seconds_amount is_blank bytes ≡ o →
        from_amount is_blank (λ rest. None) bytes o ≡ Some time →
        IsSeconds bytes time
    by None a e = let no : ⊥ = cc in absurd no
    by (Some x) a e =
        let s = was_sum x.milliseconds (behind_amount is_blank (λ rest. None) x.rest) time e in
        let end = was_end x.rest s.0 s.1 in
        let none = end.1 in
        let sum = s.2 in
        let same : x.milliseconds ≡ time = omega (arith, none, sum) in
        subst (IsSeconds bytes) same (was_seconds_amount bytes x a end.0)

module _ (later : List ℕ → Option ℕ) (Later : List ℕ → ℕ → Type 0)
    (was : (bytes : List ℕ) (time : ℕ) → later bytes ≡ Some time → Later bytes time) where
  was_behind : (behind : List ℕ) (n : ℕ) → behind_amount is_blank later behind ≡ Some n →
      ((behind ≡ []) × (n ≡ 0)) ⊎ IsParted Later behind n
  was_behind [] n e = inl (refl, cc)
  was_behind (b ∷ behind) n e = by (is_blank b) refl e
    where
      by : (blank : Bool) → is_blank b ≡ blank → (if blank then later (behind_blanks behind) else None) ≡ Some n →
          ((b ∷ behind ≡ []) × (n ≡ 0)) ⊎ IsParted Later (b ∷ behind) n
      by true blank e =
          let p = parted behind in
          inr (record {
            gap = b ∷ p.0;
            rest = behind_blanks behind;
            spelled = ap (λ t. b ∷ t) p.2;
            is_gap = (blank, p.1);
            some = λ e. cc;
            later = was (behind_blanks behind) n e;
          })
      by false blank e = let no : ⊥ = cc in absurd no

  was_either : (word : List ℕ) (unit : ℕ) (bytes : List ℕ) (time : ℕ) →
      from_amount is_blank later bytes (whole_amount is_blank word unit bytes) ≡ Some time →
      Begins word unit Later bytes time ⊎ Later bytes time
  was_either word unit bytes time e = by (whole_amount is_blank word unit bytes) refl e
    where
      by : (o : Option Amount) → whole_amount is_blank word unit bytes ≡ o →
          from_amount is_blank later bytes o ≡ Some time →
          Begins word unit Later bytes time ⊎ Later bytes time
      by None a e = inr (was bytes time e)
      by (Some x) a e =
          let w = was_amount word unit bytes x a in
          let s = was_sum x.milliseconds (behind_amount is_blank later x.rest) time e in
          inl (record {
            n = w.n;
            behind = x.rest;
            rest = s.0;
            is_amount = w.is_amount;
            behind_is = was_behind x.rest s.0 s.1;
            value = s.2 ∙ ap (λ m. m + s.0) w.value;
          })

was_minutes : (bytes : List ℕ) (time : ℕ) → from_minutes is_blank bytes ≡ Some time → IsMinutes bytes time
was_minutes bytes time e = was_either (from_seconds is_blank) IsSeconds was_seconds (codes "MIN") 60000 bytes time e

was_hours : (bytes : List ℕ) (time : ℕ) → from_hours is_blank bytes ≡ Some time → IsHours bytes time
was_hours bytes time e = was_either (from_minutes is_blank) IsMinutes was_minutes (codes "HRS") 3600000 bytes time e

pub was_length : (bytes : List ℕ) (time : ℤ) → span_literal is_blank bytes ≡ Some time → IsLengthOfTime bytes time
unfolding span_literal
was_length bytes time e = by bytes (slice_index bytes 0 == 45) refl e
  where
    by : (b : List ℕ) (negative : Bool) → (slice_index b 0 == 45) ≡ negative →
        (if negative then option_map minus (from_hours is_blank (behind_blanks (drop 1 b)))
        else option_map pos (from_hours is_blank b)) ≡ Some time → IsLengthOfTime b time
    by b false s e =
        let h = was_some pos (from_hours is_blank b) time e in inl (h.0, was_hours b h.0 h.1, h.2)
    by [] true s e = let no : ⊥ = cc in absurd no
    by (byte ∷ rest) true s e =
        let h = was_some minus (from_hours is_blank (behind_blanks rest)) time e in
        let p = parted rest in
        inr (
          h.0,
          record {
            gap = p.0;
            rest = behind_blanks rest;
            spelled = ap (λ b. b ∷ rest) (eqb-true byte 45 s) ∙ ap (λ t. 45 ∷ t) p.2;
            is_gap = p.1;
            is_length = was_hours (behind_blanks rest) h.0 h.1;
          },
          h.2,
        )
