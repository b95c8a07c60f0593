-- What lines say that are written otherwise, which lines are skipped, and how texts are written.
use Rattle.std.specs.Prelude.{◌≡◌, ◌≢◌, ◌⊎◌, ℕ, List, [], ◌∷◌, ◌++◌, true, false, codes, map, ◌==◌, if◌then◌else◌}
use Rattle.std.specs.List.{AllByRecursion}
use Rattle.pearl_value.specs.declared.kind.Kind.TheVariants as kind
use Rattle.pearl_value.specs.declared.device.Device.{Device}
use Rattle.pearl_value.specs.declared.device.Device.TheVariants as device
use Rattle.pearl_rules.specs.declared.setup.Setup.{Setup}
use Rattle.pearl_journal.specs.Words.{is_blank}

-- nothing but blanks and tabs
abbrev pub IsGap : List ℕ → Type 0
IsGap bytes = AllByRecursion (λ byte. is_blank byte ≡ true) bytes

-- a byte 13 is not the last
abbrev pub EndsInNoReturn : List ℕ → Type 0
EndsInNoReturn line = (front : List ℕ) → line ≢ front ++ 13 ∷ []

-- bytes without blanks, the first of which is no `#`
pub record IsWord (word : List ℕ) : Type 0 where
  pub some : word ≢ []
  pub solid : AllByRecursion (λ byte. is_blank byte ≡ false) word
  pub no_comment : (rest : List ℕ) → word ≢ 35 ∷ rest

-- a text, or nothing, with no blank at its ends
pub record IsBare (text : List ℕ) : Type 0 where
  pub begins : (byte : ℕ) (rest : List ℕ) → text ≡ byte ∷ rest → is_blank byte ≡ false
  pub ends : (front : List ℕ) (byte : ℕ) → text ≡ front ++ byte ∷ [] → is_blank byte ≡ false

-- a line of a word and a text: blanks and tabs may stand at both ends, and part the two
pub record SaysWordAndText (line word text : List ℕ) : Type 0 where
  pub front : List ℕ
  pub gap : List ℕ
  pub back : List ℕ
  pub spelled : line ≡ front ++ (word ++ (gap ++ (text ++ back)))
  pub front_is_gap : IsGap front
  pub gap_is_gap : IsGap gap
  pub back_is_gap : IsGap back
  pub is_word : IsWord word
  pub is_bare : IsBare text
  pub parted : gap ≡ [] → text ≡ []

-- a line of a word, a second one and a text, which may be written with more blanks and tabs or fewer between all of
-- them
pub record SaysThreeParts (line word second text : List ℕ) : Type 0 where
  pub gap : List ℕ
  pub says : SaysWordAndText line word (second ++ (gap ++ text))
  pub is_gap : IsGap gap
  pub parted : gap ≢ []
  pub solid : AllByRecursion (λ byte. is_blank byte ≡ false) second

-- the words behind which a line has two parts
abbrev pub TakesTwoParts : List ℕ → Type 0
TakesTwoParts word =
    (word ≡ codes "pass") ⊎ ((word ≡ codes "chars") ⊎ ((word ≡ codes "line") ⊎ (word ≡ codes "value")))

-- a line whose first byte but blanks is `#`
pub record IsComment (line : List ℕ) : Type 0 where
  pub front : List ℕ
  pub rest : List ℕ
  pub spelled : line ≡ front ++ 35 ∷ rest
  pub is_gap : IsGap front

-- a text with each apostrophe written twice
abbrev pub doubled : List ℕ → List ℕ
doubled [] = []
doubled (byte ∷ text) = if byte == 39 then 39 ∷ 39 ∷ doubled text else byte ∷ doubled text

-- the text between apostrophes
abbrev pub in_apostrophes : List ℕ → List ℕ
in_apostrophes text = 39 ∷ (doubled text ++ 39 ∷ [])

-- the device with a kind that all inputs have alike
abbrev pub of_any_kind : Device → Device
of_any_kind (device.Input number own) = device.Input number kind.Clock
of_any_kind other = other

-- the same tasks, and the same devices but for the kinds of inputs
pub record NamesAlike (setup other : Setup) : Type 0 where
  pub tasks : setup.tasks ≡ other.tasks
  pub devices : map of_any_kind setup.devices ≡ map of_any_kind other.devices
