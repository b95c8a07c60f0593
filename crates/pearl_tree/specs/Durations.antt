-- How many milliseconds a duration literal has.
use Rattle.std.specs.Prelude.{ℕ, ◌+◌, ◌*◌, Option, Some, None}
use Rattle.pearl_tree.specs.declared.name.Number.{Number}
use Rattle.pearl_tree.specs.declared.literal.Secs.{Secs}
use Rattle.pearl_tree.specs.declared.literal.Secs.TheVariants as secs
use Rattle.pearl_tree.specs.declared.literal.Duration.{Duration}
use Rattle.pearl_tree.specs.declared.literal.Duration.TheVariants.{Hours, Minutes, Seconds}

abbrev pub milliseconds_of_secs : Secs → ℕ
milliseconds_of_secs (secs.Number number) = 1000 * number.value
milliseconds_of_secs (secs.Decimal whole thousandths place) = 1000 * whole + thousandths

abbrev pub milliseconds_of_seconds : Option Secs → ℕ
milliseconds_of_seconds None = 0
milliseconds_of_seconds (Some seconds) = milliseconds_of_secs seconds

abbrev pub milliseconds_of_minutes : Option Number → ℕ
milliseconds_of_minutes None = 0
milliseconds_of_minutes (Some minutes) = 60000 * minutes.value

abbrev pub milliseconds_of : Duration → ℕ
milliseconds_of (Hours hours minutes seconds place) =
    3600000 * hours.value + milliseconds_of_minutes minutes + milliseconds_of_seconds seconds
milliseconds_of (Minutes minutes seconds place) = 60000 * minutes.value + milliseconds_of_seconds seconds
milliseconds_of (Seconds seconds place) = milliseconds_of_secs seconds

-- where it begins
abbrev pub place_of_duration : Duration → ℕ
place_of_duration (Hours hours minutes seconds place) = place
place_of_duration (Minutes minutes seconds place) = place
place_of_duration (Seconds seconds place) = place
