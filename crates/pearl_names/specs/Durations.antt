-- Which duration literals are too long.
use Rattle.std.specs.Prelude.{◌^◌, Bool, nat_lt}
use Rattle.pearl_tree.specs.declared.literal.Duration.{Duration}
use Rattle.pearl_tree.specs.Durations.{milliseconds_of}

-- above 2^40 milliseconds
abbrev pub is_too_long : Duration → Bool
is_too_long duration = nat_lt (2 ^ 40) (milliseconds_of duration)
