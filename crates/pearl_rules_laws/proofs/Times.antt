-- The next moment at which it is a time of day, and how the time of day goes on.
use Rattle.std.proofs.Common.{◌≡◌, ℕ, ◌+◌, ◌<◌, arith}
use Rattle.pearl_rules.specs.Core.{Core}
use Rattle.pearl_rules.specs.Plans.{time_at, next_at}
use Rattle.pearl_rules_laws.specs.Plans.{IsNextTime}

pub next_time : (core : Core) (time moment : ℕ) → time < 86400000 → IsNextTime core time moment (next_at core time moment)
next_time core time moment small = record {
  right = omega (arith, small);
  later = omega arith;
  least = λ u from is. omega (arith, small, from, is);
}

pub time_starts : (core : Core) → core.clock < 86400000 → time_at core 0 ≡ core.clock
time_starts core small = omega (arith, small)

pub time_goes_on : (core : Core) (moment : ℕ) → time_at core moment < 86399999 → time_at core (moment + 1) ≡ time_at core moment + 1
time_goes_on core moment less = omega (arith, less)

pub time_turns : (core : Core) (moment : ℕ) → time_at core moment ≡ 86399999 → time_at core (moment + 1) ≡ 0
time_turns core moment last = omega (arith, last)

pub time_within : (core : Core) (moment : ℕ) → time_at core moment < 86400000
time_within core moment = omega arith
