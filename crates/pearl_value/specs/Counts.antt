-- What a semaphore may count.
use Rattle.std.specs.Prelude.{ℕ, ◌<◌, ◌^◌}

-- a first count
abbrev pub IsPreset : ℕ → Type 0
IsPreset count = count < 2 ^ 31
