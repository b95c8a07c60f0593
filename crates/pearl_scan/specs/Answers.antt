-- What an answer of a scan tells.
use Rattle.std.specs.Prelude.{◌≡◌, ℕ, ◌<◌, ◌≤◌, [], ◌∷◌}
use Rattle.pearl_format.specs.declared.item.ItemCode.{ItemCode}
use Rattle.pearl_format.specs.Items.{data_here}
use Rattle.pearl_rules.specs.Scan as spec
use Rattle.pearl_scan.specs.declared.scan.Scanned.{Scanned}
use Rattle.pearl_scan.specs.declared.scan.Scanned.TheVariants.{Short, Bad, Got}
use Rattle.pearl_scan.specs.declared.item.Found.{Found}
use Rattle.pearl_scan.specs.declared.item.Found.TheVariants as item

abbrev pub told : Scanned → spec.Scanned
told Short = spec.Short
told (Bad used) = spec.Bad used
told (Got used values) = spec.Got used values.items

-- the same of what one item finds
abbrev pub found : Found → spec.Scanned
found item.Short = spec.Short
found (item.Bad used) = spec.Bad used
found (item.Passed used) = spec.Got used []
found (item.Value used value) = spec.Got used (value ∷ [])

-- an item uses no more bytes than there are, and finds a value where it takes one, for a target that is left
abbrev pub HasRoom : ItemCode → (targets bytes : ℕ) → Found → Type 0
HasRoom code targets bytes item.Short = Unit {0}
HasRoom code targets bytes (item.Bad used) = used ≤ bytes
HasRoom code targets bytes (item.Passed used) = (used ≤ bytes) × (data_here code ≡ 0)
HasRoom code targets bytes (item.Value used value) = (used ≤ bytes) × (data_here code ≡ 1) × (0 < targets)
