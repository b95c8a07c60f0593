-- Which bytes a text may have.
use Rattle.std.specs.Prelude.{◌≡◌, ℕ, ◌≤◌, ◌⊎◌}

-- a line end, or a byte from 32 to 126
abbrev pub IsTextByte : ℕ → Type 0
IsTextByte byte = (byte ≡ 10) ⊎ ((32 ≤ byte) × (byte ≤ 126))
