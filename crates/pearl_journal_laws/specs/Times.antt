-- Which texts are times of day.
use Rattle.std.specs.Prelude.{◌≡◌, ◌≢◌, ◌⊎◌, ℕ, ◌+◌, ◌-◌, ◌*◌, ◌^◌, ◌≤◌, List, [], ◌∷◌, ◌++◌, length}
use Rattle.std.specs.List.{AllByRecursion}
use Rattle.std.specs.Str.Parse.{digits_value}
use Rattle.pearl_journal_laws.specs.Says.{IsDigit, IsNumber}

-- one to three digits say so many tenths, hundredths or thousandths: n thousandths
pub record AreThousandths (digits : List ℕ) (n : ℕ) : Type 0 where
  pub some : digits ≢ []
  pub few : length digits ≤ 3
  pub are_digits : AllByRecursion IsDigit digits
  pub value : n ≡ digits_value 10 digits * 10 ^ (3 - length digits)

-- nothing, or a point and one to three digits
abbrev pub IsFraction : (bytes : List ℕ) (thousandths : ℕ) → Type 0
IsFraction bytes thousandths =
    ((bytes ≡ []) × (thousandths ≡ 0))
    ⊎ ((digits : List ℕ) × (bytes ≡ 46 ∷ digits) × AreThousandths digits thousandths)

-- hours up to 23, a colon, minutes up to 59, a colon, seconds up to 59, each in any number of digits, and perhaps a
-- point and one to three digits; in milliseconds since midnight
pub record IsTimeOfDay (bytes : List ℕ) (time : ℕ) : Type 0 where
  pub hour_digits : List ℕ
  pub minute_digits : List ℕ
  pub second_digits : List ℕ
  pub fraction : List ℕ
  pub hours : ℕ
  pub minutes : ℕ
  pub seconds : ℕ
  pub milliseconds : ℕ
  pub spelled : bytes ≡ hour_digits ++ 58 ∷ (minute_digits ++ 58 ∷ (second_digits ++ fraction))
  pub hours_are : IsNumber hour_digits hours × (hours ≤ 23)
  pub minutes_are : IsNumber minute_digits minutes × (minutes ≤ 59)
  pub seconds_are : IsNumber second_digits seconds × (seconds ≤ 59)
  pub fraction_is : IsFraction fraction milliseconds
  pub value : time ≡ ((hours * 60 + minutes) * 60 + seconds) * 1000 + milliseconds
