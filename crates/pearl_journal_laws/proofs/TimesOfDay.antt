-- What is read as a time of day is one, and each is read.
use Rattle.std.proofs.Common.{◌≡◌, ◌≢◌, ◌≤◌, ◌+◌, ◌-◌, ◌*◌, ◌^◌, ℕ, zero, suc, List, [], ◌∷◌, ◌++◌, ◌⊎◌, inl, inr, Bool, true, false, cond, ◌==◌, nat_le, length, replicate, Option, Some, None, refl, ap, ap₂, sym, ◌∙◌, subst, arith, le-leb}
use Rattle.std.proofs.lemmas.Bool.{eq-eqb, eqb-true, leb-true, ne_eqb}
use Rattle.std.proofs.lemmas.List.{append-nil}
use Rattle.std.proofs.lemmas.List.Elements.{All-from_recursion}
use Rattle.std.proofs.lemmas.List.Splits.{slice_split_at, slice_split_none}
use Rattle.std.specs.Prelude.{if◌then◌else◌}
use Rattle.std.specs.List.{AllByRecursion, onto_first, slice_split}
use Rattle.std.specs.Str.{all_ascii_digits}
use Rattle.std.specs.Str.Parse.{digits_value, digits_value_after}
use Rattle.pearl_rules.specs.Literals.{clock_literal, clock_of, clock_value, decimal_number, number_up_to, thousandths, with_colons, with_point}
use Rattle.pearl_journal_laws.specs.Says.{IsDigit}
use Rattle.pearl_journal_laws.specs.Times.{AreThousandths, IsFraction, IsTimeOfDay}
use Rattle.pearl_journal_laws.proofs.Numbers.{are_digits, digits_are, limit_is, was_limit}

-- BYTES

front_all : (P : ℕ → Type 0) (a b : List ℕ) → AllByRecursion P (a ++ b) → AllByRecursion P a
front_all P [] b all = tt
front_all P (x ∷ a) b all = (all.0, front_all P a b all.1)

both_all : (P : ℕ → Type 0) (a b : List ℕ) → AllByRecursion P a → AllByRecursion P b → AllByRecursion P (a ++ b)
both_all P [] b all others = others
both_all P (x ∷ a) b all others = (all.0, both_all P a b all.1 others)

-- NUMBERS

-- digits with a zero for each place up to the third that has none
abbrev filled : List ℕ → List ℕ
filled digits = digits ++ replicate (3 - length digits) 48

zeros_are : (count : ℕ) → AllByRecursion IsDigit (replicate count 48)
zeros_are zero = tt
zeros_are (suc count) = ((omega arith, omega arith), zeros_are count)

one_zero : (n : ℕ) → digits_value_after 10 n (48 ∷ []) ≡ n * 10 ^ 1
one_zero n = omega arith

two_zeros : (n : ℕ) → digits_value_after 10 n (48 ∷ 48 ∷ []) ≡ n * 10 ^ 2
two_zeros n = omega arith

filled_value : (digits : List ℕ) → digits ≢ [] → length digits ≤ 3 →
    digits_value 10 (filled digits) ≡ digits_value 10 digits * 10 ^ (3 - length digits)
filled_value [] some few = absurd (some refl)
filled_value (a ∷ []) some few = two_zeros (digits_value 10 (a ∷ []))
filled_value (a ∷ b ∷ []) some few = one_zero (digits_value 10 (a ∷ b ∷ []))
filled_value (a ∷ b ∷ c ∷ []) some few = no_zero (digits_value 10 (a ∷ b ∷ c ∷ []))
  where
    no_zero : (n : ℕ) → n ≡ n * 10 ^ 0
    no_zero n = omega arith
filled_value (a ∷ b ∷ c ∷ d ∷ more) some few = absurd (omega (arith, few))

pub thousandths_are : (digits : List ℕ) (n : ℕ) → AreThousandths digits n → thousandths digits ≡ Some n
thousandths_are [] n are = absurd (are.some refl)
thousandths_are (byte ∷ bytes) n are =
    let digits = byte ∷ bytes in
    let all = both_all IsDigit digits (replicate (3 - length digits) 48) are.are_digits
    (zeros_are (3 - length digits)) in
    ap (λ b. if b then decimal_number (filled digits) else None) (le-leb (length digits) 3 are.few)
    ∙ ap (λ b. if b then Some (digits_value 10 (filled digits)) else None) (digits_are (filled digits) all)
    ∙ ap Some (filled_value digits are.some are.few ∙ sym are.value)

pub were_thousandths : (digits : List ℕ) (n : ℕ) → thousandths digits ≡ Some n → AreThousandths digits n
were_thousandths [] n e = let no : ⊥ = cc in absurd no
were_thousandths (byte ∷ bytes) n e = by (nat_le (length digits) 3) (all_ascii_digits (filled digits)) refl refl e
  where
    digits : List ℕ
    digits = byte ∷ bytes

    by : (few are : Bool) → nat_le (length digits) 3 ≡ few → all_ascii_digits (filled digits) ≡ are →
        (if few then (if are then Some (digits_value 10 (filled digits)) else None) else None) ≡ Some n →
        AreThousandths digits n
    by true true f a e =
        let short = leb-true (length digits) 3 f in
        let some : digits ≢ [] = λ e. cc in
        let same : n ≡ digits_value 10 (filled digits) = cc in
        record {
          some = some;
          few = short;
          are_digits = front_all IsDigit digits (replicate (3 - length digits) 48) (are_digits (filled digits) a);
          value = same ∙ filled_value digits some short;
        }
    by true false f a e = let no : ⊥ = cc in absurd no
    by false are f a e = let no : ⊥ = cc in absurd no

-- PARTS

abbrev is_mark : ℕ → ℕ → Bool
is_mark mark byte = byte == mark

-- the first part, and what stands behind its mark
record Cut (mark : ℕ) (bytes : List ℕ) : Type 0 where
  first : List ℕ
  others : List (List ℕ)
  parts : slice_split (is_mark mark) bytes ≡ first ∷ others
  whole : ((others ≡ []) × (bytes ≡ first))
      ⊎ ((rest : List ℕ) × (bytes ≡ first ++ mark ∷ rest) × (others ≡ slice_split (is_mark mark) rest))

cut : (mark : ℕ) (bytes : List ℕ) → Cut mark bytes
cut mark [] = record { first = []; others = []; parts = refl; whole = inl (refl, refl) }
cut mark (byte ∷ bytes) = by (is_mark mark byte) refl (cut mark bytes)
  where
    longer : (c : Cut mark bytes) → ((c.others ≡ []) × (bytes ≡ c.first))
        ⊎ ((rest : List ℕ) × (bytes ≡ c.first ++ mark ∷ rest) × (c.others ≡ slice_split (is_mark mark) rest)) →
        ((c.others ≡ []) × (byte ∷ bytes ≡ byte ∷ c.first))
        ⊎ ((rest : List ℕ) × (byte ∷ bytes ≡ byte ∷ c.first ++ mark ∷ rest)
        × (c.others ≡ slice_split (is_mark mark) rest))
    longer c (inl none) = inl (none.0, ap (λ b. byte ∷ b) none.1)
    longer c (inr more) = inr (more.0, ap (λ b. byte ∷ b) more.1, more.2)

    by : (is : Bool) → is_mark mark byte ≡ is → Cut mark bytes → Cut mark (byte ∷ bytes)
    by true e c =
        record {
          first = [];
          others = slice_split (is_mark mark) bytes;
          parts = ap
              (λ b. cond b ([] ∷ slice_split (is_mark mark) bytes)
              (onto_first byte (slice_split (is_mark mark) bytes))) e;
          whole = inr (bytes, ap (λ b. b ∷ bytes) (eqb-true byte mark e), refl);
        }
    by false e c =
        record {
          first = byte ∷ c.first;
          others = c.others;
          parts = ap
              (λ b. cond b ([] ∷ slice_split (is_mark mark) bytes)
              (onto_first byte (slice_split (is_mark mark) bytes))) e
              ∙ ap (onto_first byte) c.parts;
          whole = longer c c.whole;
        }

-- EACH IS READ

plain : (mark : ℕ) → (IsDigit mark → ⊥) → (digits : List ℕ) → AllByRecursion IsDigit digits →
    AllByRecursion (λ byte. is_mark mark byte ≡ false) digits
plain mark other [] are = tt
plain mark other (byte ∷ digits) are =
    (ne_eqb byte mark (λ e. other (subst IsDigit e are.0)), plain mark other digits are.1)

no_colon : IsDigit 58 → ⊥
no_colon is = let high = is.1 in omega (arith, high)

no_point : IsDigit 46 → ⊥
no_point is = let low = is.0 in omega (arith, low)

split_behind : (mark : ℕ) → (IsDigit mark → ⊥) → (digits rest : List ℕ) → AllByRecursion IsDigit digits →
    slice_split (is_mark mark) (digits ++ mark ∷ rest) ≡ digits ∷ slice_split (is_mark mark) rest
split_behind mark other digits rest are =
    slice_split_at (is_mark mark) digits mark rest
    (All-from_recursion (λ byte. is_mark mark byte ≡ false) digits (plain mark other digits are)) (same mark)
  where
    same : (n : ℕ) → (n == n) ≡ true
    same n = eq-eqb n n refl

split_none : (mark : ℕ) (bytes : List ℕ) → AllByRecursion (λ byte. is_mark mark byte ≡ false) bytes →
    slice_split (is_mark mark) bytes ≡ bytes ∷ []
split_none mark bytes all =
    slice_split_none (is_mark mark) bytes (All-from_recursion (λ byte. is_mark mark byte ≡ false) bytes all)

module _ (bytes : List ℕ) (time : ℕ) (is : IsTimeOfDay bytes time) where
  hour_is : number_up_to 23 is.hour_digits ≡ Some is.hours
  hour_is = limit_is 23 is.hour_digits is.hours is.hours_are.0 is.hours_are.1

  minute_is : number_up_to 59 is.minute_digits ≡ Some is.minutes
  minute_is = limit_is 59 is.minute_digits is.minutes is.minutes_are.0 is.minutes_are.1

  second_is : number_up_to 59 is.second_digits ≡ Some is.seconds
  second_is = limit_is 59 is.second_digits is.seconds is.seconds_are.0 is.seconds_are.1

  parts_say : (o : Option ℕ) → o ≡ Some is.milliseconds →
      clock_of is.hour_digits is.minute_digits is.second_digits o ≡ Some time
  parts_say o milliseconds =
      let hour = hour_is in
      let minute = minute_is in
      let second = second_is in
      rw (hour, minute, second, milliseconds) (ap Some (sym is.value))

  seconds_say : IsFraction is.fraction is.milliseconds →
      (AllByRecursion (λ byte. is_mark 58 byte ≡ false) (is.second_digits ++ is.fraction))
      × (with_point is.hour_digits is.minute_digits (slice_split (is_mark 46) (is.second_digits ++ is.fraction))
      ≡ Some time)
  seconds_say (inl none) =
      let seconds = is.seconds_are.0.are_digits in
      let alone : is.second_digits ++ is.fraction ≡ is.second_digits =
      ap (λ t. is.second_digits ++ t) none.0 ∙ append-nil is.second_digits in (
        subst (AllByRecursion (λ byte. is_mark 58 byte ≡ false)) (sym alone)
            (plain 58 no_colon is.second_digits seconds),
        ap (λ t. with_point is.hour_digits is.minute_digits (slice_split (is_mark 46) t)) alone
            ∙ ap (with_point is.hour_digits is.minute_digits) (split_none 46 is.second_digits
            (plain 46 no_point is.second_digits seconds))
            ∙ parts_say (Some 0) (ap Some (sym none.1)),
      )
  seconds_say (inr more) =
      let seconds = is.seconds_are.0.are_digits in
      let digits = more.2.are_digits in
      let all : AllByRecursion (λ byte. is_mark 58 byte ≡ false) (is.second_digits ++ 46 ∷ more.0) =
      both_all (λ byte. is_mark 58 byte ≡ false) is.second_digits (46 ∷ more.0)
      (plain 58 no_colon is.second_digits seconds)
      (refl, plain 58 no_colon more.0 digits) in
      let whole : is.second_digits ++ is.fraction ≡ is.second_digits ++ 46 ∷ more.0 =
      ap (λ t. is.second_digits ++ t) more.1 in (
        subst (AllByRecursion (λ byte. is_mark 58 byte ≡ false)) (sym whole) all,
        ap (λ t. with_point is.hour_digits is.minute_digits (slice_split (is_mark 46) t)) whole
            ∙ ap (with_point is.hour_digits is.minute_digits)
            (split_behind 46 no_point is.second_digits more.0 seconds
            ∙ ap (λ t. is.second_digits ∷ t) (split_none 46 more.0 (plain 46 no_point more.0 digits)))
            ∙ parts_say (thousandths more.0) (thousandths_are more.0 is.milliseconds more.2),
      )

  pub reads_time : clock_literal bytes ≡ Some time
  unfolding clock_literal
  reads_time =
      let hours = is.hours_are.0.are_digits in
      let minutes = is.minutes_are.0.are_digits in
      let seconds = seconds_say is.fraction_is in
      let rest = is.second_digits ++ is.fraction in
      let parts : slice_split (is_mark 58) bytes ≡ is.hour_digits ∷ is.minute_digits ∷ rest ∷ [] =
      ap (slice_split (is_mark 58)) is.spelled
      ∙ split_behind 58 no_colon is.hour_digits (is.minute_digits ++ 58 ∷ rest) hours
      ∙ ap (λ t. is.hour_digits ∷ t) (split_behind 58 no_colon is.minute_digits rest minutes)
      ∙ ap (λ t. is.hour_digits ∷ is.minute_digits ∷ t) (split_none 58 rest seconds.0) in
      ap with_colons parts ∙ seconds.1

-- WHAT IS READ IS ONE

record Read (a b c d : Option ℕ) (time : ℕ) : Type 0 where
  hours : ℕ
  minutes : ℕ
  seconds : ℕ
  milliseconds : ℕ
  hour : a ≡ Some hours
  minute : b ≡ Some minutes
  second : c ≡ Some seconds
  rest : d ≡ Some milliseconds
  value : time ≡ ((hours * 60 + minutes) * 60 + seconds) * 1000 + milliseconds

was_read : (a b c d : Option ℕ) (time : ℕ) → clock_value a b c d ≡ Some time → Read a b c d time
was_read (Some h) (Some m) (Some s) (Some n) time e =
    record {
      hours = h;
      minutes = m;
      seconds = s;
      milliseconds = n;
      hour = refl;
      minute = refl;
      second = refl;
      rest = refl;
      value = cc;
    }
was_read (Some h) (Some m) (Some s) None time e = let no : ⊥ = cc in absurd no
was_read (Some h) (Some m) None d time e = let no : ⊥ = cc in absurd no
was_read (Some h) None c d time e = let no : ⊥ = cc in absurd no
was_read None b c d time e = let no : ⊥ = cc in absurd no

-- the parts are those of a time
was_parts : (bytes hours minutes seconds fraction : List ℕ) (o : Option ℕ) (time : ℕ) →
    bytes ≡ hours ++ 58 ∷ (minutes ++ 58 ∷ (seconds ++ fraction)) →
    ((n : ℕ) → o ≡ Some n → IsFraction fraction n) → clock_of hours minutes seconds o ≡ Some time →
    IsTimeOfDay bytes time
was_parts bytes hours minutes seconds fraction o time spelled fractions e =
    let r = was_read (number_up_to 23 hours) (number_up_to 59 minutes) (number_up_to 59 seconds) o time e in
    record {
      hour_digits = hours;
      minute_digits = minutes;
      second_digits = seconds;
      fraction = fraction;
      hours = r.hours;
      minutes = r.minutes;
      seconds = r.seconds;
      milliseconds = r.milliseconds;
      spelled = spelled;
      hours_are = was_limit 23 hours r.hours (omega arith) r.hour;
      minutes_are = was_limit 59 minutes r.minutes (omega arith) r.minute;
      seconds_are = was_limit 59 seconds r.seconds (omega arith) r.second;
      fraction_is = fractions r.milliseconds r.rest;
      value = r.value;
    }

some_parts : (mark : ℕ) (bytes : List ℕ) → slice_split (is_mark mark) bytes ≡ [] → ⊥
some_parts mark bytes e = let c = cut mark bytes in let parts = c.parts in cc

-- at most three parts are read
three_parts : (a b c : List ℕ) (others : List (List ℕ)) (time : ℕ) → with_colons (a ∷ b ∷ c ∷ others) ≡ Some time →
    others ≡ []
three_parts a b c [] time e = refl
three_parts a b c (d ∷ others) time e = let no : ⊥ = cc in absurd no

two_parts : (a b c d : List ℕ) (others : List (List ℕ)) (time : ℕ) → with_point a b (c ∷ d ∷ others) ≡ Some time →
    others ≡ []
two_parts a b c d [] time e = refl
two_parts a b c d (f ∷ others) time e = let no : ⊥ = cc in absurd no

-- where nothing is left behind a part, it is the whole
whole_part : (mark : ℕ) (bytes : List ℕ) (c : Cut mark bytes) → c.others ≡ [] → bytes ≡ c.first
whole_part mark bytes c none = by c.whole
  where
    by : ((c.others ≡ []) × (bytes ≡ c.first))
        ⊎ ((rest : List ℕ) × (bytes ≡ c.first ++ mark ∷ rest) × (c.others ≡ slice_split (is_mark mark) rest)) →
        bytes ≡ c.first
    by (inl alone) = alone.1
    by (inr more) = absurd (some_parts mark more.0 (sym more.2 ∙ none))

none-some : (time : ℕ) → None ≡ Some time → ⊥
none-some time e = cc

module _ (bytes hours minutes : List ℕ) (time : ℕ) where
  -- the last part is seconds, perhaps with a fraction
  was_seconds : (last : List ℕ) → bytes ≡ hours ++ 58 ∷ (minutes ++ 58 ∷ last) →
      with_point hours minutes (slice_split (is_mark 46) last) ≡ Some time → IsTimeOfDay bytes time
  was_seconds last spelled e = by (cut 46 last)
    where
      by : Cut 46 last → IsTimeOfDay bytes time
      by c = elim c.whole [
        | inl alone ↦
            let parts : slice_split (is_mark 46) last ≡ c.first ∷ [] = c.parts ∙ ap (λ o. c.first ∷ o) alone.0 in
            let whole : last ≡ c.first ++ [] = alone.1 ∙ sym (append-nil c.first) in
            was_parts bytes hours minutes c.first [] (Some 0) time
            (spelled ∙ ap (λ t. hours ++ 58 ∷ (minutes ++ 58 ∷ t)) whole) (λ n e. inl (refl, cc))
            (sym (ap (with_point hours minutes) parts) ∙ e)
        | inr more ↦
            let d = cut 46 more.0 in
            let parts : slice_split (is_mark 46) last ≡ c.first ∷ d.first ∷ d.others =
            c.parts ∙ ap (λ o. c.first ∷ o) (more.2 ∙ d.parts) in
            let two : d.others ≡ [] =
            two_parts hours minutes c.first d.first d.others time (sym (ap (with_point hours minutes) parts) ∙ e) in
            let digits : more.0 ≡ d.first = whole_part 46 more.0 d two in
            let read : clock_of hours minutes c.first (thousandths d.first) ≡ Some time =
            sym (ap (with_point hours minutes) (parts ∙ ap (λ o. c.first ∷ d.first ∷ o) two)) ∙ e in
            was_parts bytes hours minutes c.first (46 ∷ d.first) (thousandths d.first) time
            (spelled ∙ ap (λ t. hours ++ 58 ∷ (minutes ++ 58 ∷ t)) (more.1 ∙ ap (λ t. c.first ++ 46 ∷ t) digits))
            (λ n e. inr (d.first, refl, were_thousandths d.first n e)) read
      ]

  -- behind the first colon
  was_minutes : (first rest : List ℕ) (others : List (List ℕ)) → hours ≡ first → bytes ≡ first ++ 58 ∷ rest →
      others ≡ slice_split (is_mark 58) rest →
      with_colons (first ∷ others) ≡ Some time → (c : Cut 58 rest) → minutes ≡ c.first → IsTimeOfDay bytes time
  was_minutes first rest others h spelled is e c m = elim c.whole [
    | inl alone ↦
        let parts : others ≡ c.first ∷ [] = is ∙ c.parts ∙ ap (λ o. c.first ∷ o) alone.0 in
        absurd (none-some time (sym (ap (λ o. with_colons (first ∷ o)) parts) ∙ e))
    | inr more ↦
        let d = cut 58 more.0 in
        let parts : others ≡ c.first ∷ d.first ∷ d.others = is ∙ c.parts ∙ ap (λ o. c.first ∷ o) (more.2 ∙ d.parts) in
        let three : d.others ≡ [] =
        three_parts first c.first d.first d.others time (sym (ap (λ o. with_colons (first ∷ o)) parts) ∙ e) in
        let last : more.0 ≡ d.first = whole_part 58 more.0 d three in
        let read : with_point first c.first (slice_split (is_mark 46) d.first) ≡ Some time =
        sym (ap (λ o. with_colons (first ∷ o)) (parts ∙ ap (λ o. c.first ∷ d.first ∷ o) three)) ∙ e in
        was_seconds d.first
        (spelled ∙ ap (λ t. first ++ 58 ∷ t) (more.1 ∙ ap (λ t. c.first ++ 58 ∷ t) last)
        ∙ ap₂ (λ a b. a ++ 58 ∷ (b ++ 58 ∷ d.first)) (sym h) (sym m))
        (ap₂ (λ a b. with_point a b (slice_split (is_mark 46) d.first)) h m ∙ read)
  ]

pub was_time : (bytes : List ℕ) (time : ℕ) → clock_literal bytes ≡ Some time → IsTimeOfDay bytes time
unfolding clock_literal
was_time bytes time e = by (cut 58 bytes)
  where
    by : Cut 58 bytes → IsTimeOfDay bytes time
    by c = elim c.whole [
      | inl alone ↦
          let parts : slice_split (is_mark 58) bytes ≡ c.first ∷ [] = c.parts ∙ ap (λ o. c.first ∷ o) alone.0 in
          absurd (none-some time (sym (ap with_colons parts) ∙ e))
      | inr more ↦
          let d = cut 58 more.0 in
          was_minutes bytes c.first d.first time c.first more.0 c.others refl more.1 more.2
          (sym (ap with_colons c.parts) ∙ e) d refl
    ]
