-- How lists are spelled whose members know nothing of each other, and numbers that may be missing.
use Rattle.std.specs.Prelude.{ℕ, zero, suc, ◌+◌, ◌%◌, ◌^◌, true, List, Option, Some, None}
use Rattle.pearl_fields.specs.Codec.{Codec, byte, number, shaped, counted}
use Rattle.pearl_snap.specs.declared.states.Free.{Free}

abbrev pub free : Free
free = record {}

abbrev pub each_in : {X : Type 0} → ℕ → ℕ → Codec X → Codec (List X)
each_in low high c = counted low high c.bytes (λ (s : Free). c) (λ s x. s) free

abbrev pub any_byte : Codec ℕ
any_byte = byte (λ b. true)

-- one more than the number, or 0 where there is none; 2^64 - 1 has no room for one more, and no spelling of its own
abbrev pub next_or_zero : Option ℕ → ℕ
next_or_zero None = 0
next_or_zero (Some n) = (n + 1) % 2 ^ 64

abbrev pub before : ℕ → Option ℕ
before zero = None
before (suc n) = Some n

unfoldable pub maybe_number : Codec (Option ℕ)
maybe_number = shaped next_or_zero before number
