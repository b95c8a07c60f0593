-- How a list is spelled whose members know nothing of each other.
use Rattle.std.specs.Prelude.{ℕ, ◌-◌, ◌^◌, List}
use Rattle.pearl_fields.specs.Codec.{Codec, counted}
use Rattle.pearl_object.specs.declared.states.Alone.{Alone}

abbrev pub alone : Alone
alone = record {}

abbrev pub each_in : {X : Type 0} → ℕ → ℕ → Codec X → Codec (List X)
each_in low high c = counted low high c.bytes (λ (s : Alone). c) (λ s x. s) alone

abbrev pub each : {X : Type 0} → Codec X → Codec (List X)
each c = each_in 0 (2 ^ 64 - 1) c
