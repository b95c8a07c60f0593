-- Which texts are lengths of time.
use Rattle.std.specs.Prelude.{◌≡◌, ◌≢◌, ◌⊎◌, ℕ, ◌+◌, ◌*◌, ℤ, pos, neg_ℤ, List, [], ◌∷◌, ◌++◌, codes}
use Rattle.pearl_journal.specs.Laws.{IsGap}
use Rattle.pearl_journal_laws.specs.Says.{IsNumber}
use Rattle.pearl_journal_laws.specs.Times.{AreThousandths}

-- a number, perhaps blanks and tabs, the word of its unit, and what stands behind it
pub record IsAmount (bytes word : List ℕ) (n : ℕ) (behind : List ℕ) : Type 0 where
  pub digits : List ℕ
  pub gap : List ℕ
  pub spelled : bytes ≡ digits ++ (gap ++ (word ++ behind))
  pub is_gap : IsGap gap
  pub is_number : IsNumber digits n

-- a number with one to three digits behind a point, perhaps blanks and tabs, and SEC
pub record IsDecimal (bytes : List ℕ) (time : ℕ) : Type 0 where
  pub digits : List ℕ
  pub part : List ℕ
  pub gap : List ℕ
  pub seconds : ℕ
  pub milliseconds : ℕ
  pub spelled : bytes ≡ digits ++ 46 ∷ (part ++ (gap ++ codes "SEC"))
  pub is_gap : IsGap gap
  pub is_number : IsNumber digits seconds
  pub are_thousandths : AreThousandths part milliseconds
  pub value : time ≡ seconds * 1000 + milliseconds

-- one or more blanks and tabs, and behind them a later length
pub record IsParted (Later : List ℕ → ℕ → Type 0) (bytes : List ℕ) (time : ℕ) : Type 0 where
  pub gap : List ℕ
  pub rest : List ℕ
  pub spelled : bytes ≡ gap ++ rest
  pub is_gap : IsGap gap
  pub some : gap ≢ []
  pub later : Later rest time

-- an amount, and behind it nothing or a later length
pub record Begins (word : List ℕ) (unit : ℕ) (Later : List ℕ → ℕ → Type 0) (bytes : List ℕ) (time : ℕ) : Type 0 where
  pub n : ℕ
  pub behind : List ℕ
  pub rest : ℕ
  pub is_amount : IsAmount bytes word n behind
  pub behind_is : ((behind ≡ []) × (rest ≡ 0)) ⊎ IsParted Later behind rest
  pub value : time ≡ n * unit + rest

abbrev pub IsSeconds : List ℕ → ℕ → Type 0
IsSeconds bytes time = ((n : ℕ) × IsAmount bytes (codes "SEC") n [] × (time ≡ n * 1000)) ⊎ IsDecimal bytes time

-- minutes and perhaps seconds, or seconds alone
abbrev pub IsMinutes : List ℕ → ℕ → Type 0
IsMinutes bytes time = Begins (codes "MIN") 60000 IsSeconds bytes time ⊎ IsSeconds bytes time

-- hours and perhaps minutes and seconds, or these alone
abbrev pub IsHours : List ℕ → ℕ → Type 0
IsHours bytes time = Begins (codes "HRS") 3600000 IsMinutes bytes time ⊎ IsMinutes bytes time

-- `-`, perhaps blanks and tabs, and a length
pub record IsBack (bytes : List ℕ) (time : ℕ) : Type 0 where
  pub gap : List ℕ
  pub rest : List ℕ
  pub spelled : bytes ≡ 45 ∷ (gap ++ rest)
  pub is_gap : IsGap gap
  pub is_length : IsHours rest time

-- hours, minutes and seconds in this order, not all of which are missing, perhaps with `-` in front; in milliseconds
abbrev pub IsLengthOfTime : List ℕ → ℤ → Type 0
IsLengthOfTime bytes time =
    ((n : ℕ) × IsHours bytes n × (time ≡ pos n)) ⊎ ((n : ℕ) × IsBack bytes n × (time ≡ neg_ℤ (pos n)))
