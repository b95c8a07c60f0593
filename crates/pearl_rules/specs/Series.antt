-- When a series fires. Moments are in milliseconds since the start.
use Rattle.std.specs.Prelude.{ℕ, zero, suc, ◌-◌, ◌%◌, Bool, false, ◌&&◌, Option, Some, None, IsTrue, nat_le, nat_eq}
use Rattle.pearl_rules.specs.declared.series.Series.{Series}

-- whether so much time is a whole number of periods; without a period, which is 0, whether it is no time
abbrev pub comes_round : ℕ → ℕ → Bool
comes_round zero time = nat_eq time 0
comes_round (suc n) time = nat_eq (time % suc n) 0

-- whether a series fires at t: t is at least its first moment, whole periods after it, and at most its last one
abbrev pub fires : Series → ℕ → Bool
fires series t = nat_le series.first t && comes_round series.period (t - series.first) && nat_le t series.last

abbrev pub FiresAt : Series → ℕ → Type 0
FiresAt series t = IsTrue (fires series t)

-- no series fires never
abbrev pub fires_if : Option Series → ℕ → Bool
fires_if None t = false
fires_if (Some series) t = fires series t
