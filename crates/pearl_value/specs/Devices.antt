-- Which lists of devices are lawful: numbers from 1 to 99, in one order, none twice.
use Rattle.std.specs.Prelude.{◌≡◌, ◌⊎◌, ℕ, ◌<◌, ◌≤◌, List, [], ◌∷◌}
use Rattle.pearl_value.specs.declared.device.Device.{Device}
use Rattle.pearl_value.specs.declared.device.Device.TheVariants.{Interrupt, Terminal, Input, Output}
use Rattle.pearl_value.specs.Kinds.{IsKind}

-- INTERRUPT comes before TERMINAL, then come INPUT and OUTPUT
abbrev pub sort_rank : Device → ℕ
sort_rank (Interrupt number) = 0
sort_rank (Terminal number direction) = 1
sort_rank (Input number kind) = 2
sort_rank (Output number kind) = 3

abbrev pub own_number : Device → ℕ
own_number (Interrupt number) = number
own_number (Terminal number direction) = number
own_number (Input number kind) = number
own_number (Output number kind) = number

-- a kind of values has its length in range
abbrev pub HasKindOfValues : Device → Type 0
HasKindOfValues (Interrupt number) = Unit {0}
HasKindOfValues (Terminal number direction) = Unit {0}
HasKindOfValues (Input number kind) = IsKind kind
HasKindOfValues (Output number kind) = IsKind kind

abbrev pub IsDevice : Device → Type 0
IsDevice device = (0 < own_number device) × (own_number device ≤ 99) × HasKindOfValues device

-- by sort, and then by number
abbrev pub IsBefore : Device → Device → Type 0
IsBefore a b = (sort_rank a < sort_rank b) ⊎ ((sort_rank a ≡ sort_rank b) × (own_number a < own_number b))

-- each device comes before the next, so none stands twice
abbrev pub AreRising : List Device → Type 0
AreRising [] = Unit {0}
AreRising (device ∷ []) = Unit {0}
AreRising (device ∷ next ∷ devices) = IsBefore device next × AreRising (next ∷ devices)
