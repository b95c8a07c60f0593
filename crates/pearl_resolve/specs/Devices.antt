-- The place of a device among the others.
use Rattle.std.specs.Prelude.{ℕ, ◌+◌, if◌then◌else◌, List, [], ◌∷◌}
use Rattle.std.specs.Str.{bytes_eq}
use Rattle.pearl_system.specs.declared.device.SpecifiedDevice.{SpecifiedDevice}

-- how many devices stand before the one of this name
abbrev pub before_device : List SpecifiedDevice → List ℕ → ℕ
before_device [] text = 0
before_device (device ∷ rest) text = if bytes_eq text device.text.items then 0 else 1 + before_device rest text
