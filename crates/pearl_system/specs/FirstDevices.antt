-- What the maps over the system part hold: where the first device of each name stands, and which words stand with which numbers.
use Rattle.std.specs.Prelude.{◌≡◌, ℕ, suc, ◌&&◌, ◌||◌, ◌==◌, Bool, if◌then◌else◌, List, [], ◌∷◌, Option, Some, None, option_map}
use Rattle.std.specs.List.{list_any}
use Rattle.std.specs.Map.{lookup}
use Rattle.std.specs.Option.{option_or}
use Rattle.std.specs.Str.{bytes_eq}
use Rattle.arrayvec.specs.ArrayVec.{ArrayVec}
use Rattle.pearl_tree.specs.declared.declaration.Device.{Device}
use Rattle.pearl_system.specs.Devices.{spelling}

-- where the first of these devices with this name stands
abbrev pub first_index : List Device → List ℕ → Option ℕ
first_index [] text = None
first_index (device ∷ rest) text =
    if bytes_eq text device.name.text.items then Some 0 else option_map suc (first_index rest text)

-- the number that a map from texts has at a text
abbrev pub number_at : List (ArrayVec ℕ × ℕ) → List ℕ → Option ℕ
number_at entries text = lookup (λ key. bytes_eq text key.items) entries

-- a text is put into a map where it is not there
abbrev pub HasNoted : List (ArrayVec ℕ × ℕ) → List ℕ → ℕ → List (ArrayVec ℕ × ℕ) → Type 0
HasNoted old text number new =
    (q : List ℕ) → number_at new q ≡ option_or (number_at old q) (if bytes_eq q text then Some number else None)

-- a map from names to the first devices that have them
abbrev pub IsIndex : List Device → List (ArrayVec ℕ × ℕ) → Type 0
IsIndex devices entries = (text : List ℕ) → number_at entries text ≡ first_index devices text

-- whether a set of words with numbers has this one
abbrev pub has_pair : List (ArrayVec ℕ × ℕ) → List ℕ → ℕ → Bool
has_pair keys word number = list_any (λ key. bytes_eq word key.0.items && (number == key.1)) keys

-- a word with its number is put into a set
abbrev pub HasAdded : List (ArrayVec ℕ × ℕ) → List ℕ → ℕ → List (ArrayVec ℕ × ℕ) → Type 0
HasAdded old word number new =
    (q : List ℕ) (n : ℕ) → has_pair new q n ≡ ((bytes_eq word q && (number == n)) || has_pair old q n)

-- a set of the words and numbers of these devices
abbrev pub HoldsTwins : List Device → List (ArrayVec ℕ × ℕ) → Type 0
HoldsTwins devices keys =
    (word : List ℕ) (number : ℕ) → has_pair keys word number ≡ list_any (λ device. bytes_eq word (spelling device.word) && (number == device.number.value)) devices
