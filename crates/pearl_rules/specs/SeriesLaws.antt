-- When a series fires, in other words.
use Rattle.std.specs.Prelude.{◌≡◌, ◌↔◌, ℕ, ◌+◌, ◌-◌, ◌*◌, ◌^◌, ◌<◌, ◌≤◌}
use Rattle.pearl_rules.specs.declared.series.Series.{Series}
use Rattle.pearl_rules.specs.Series.{FiresAt}

-- a moment is a whole number of periods after another, perhaps none
abbrev pub IsAfter : ℕ → ℕ → ℕ → Type 0
IsAfter period earlier later = (times : ℕ) × (later ≡ earlier + times * period)

-- a series fires exactly at the moments that are whole periods after its first one and at most its last one
abbrev pub FiresAsSaid : Type 0
FiresAsSaid = (series : Series) (t : ℕ) → FiresAt series t ↔ (IsAfter series.period series.first t × (t ≤ series.last))

-- it fires at its first moment, where that is at most its last one
abbrev pub FiresFirst : Type 0
FiresFirst = (series : Series) → series.first ≤ series.last → FiresAt series series.first

-- of two moments at which it fires the later one is whole periods after the other
abbrev pub FiresPeriodsApart : Type 0
FiresPeriodsApart =
    (series : Series) (t u : ℕ) → FiresAt series t → FiresAt series u → t ≤ u → IsAfter series.period t u

-- without a period it fires at one moment at most
abbrev pub FiresOnce : Type 0
FiresOnce = (series : Series) (t u : ℕ) → series.period ≡ 0 → FiresAt series t → FiresAt series u → t ≡ u

-- the greatest moment as the last one is none: it fires at each moment that is whole periods after its first one
abbrev pub FiresForever : Type 0
FiresForever = (series : Series) (t : ℕ) → series.last ≡ 2 ^ 64 - 1 → t < 2 ^ 64 →
    IsAfter series.period series.first t → FiresAt series t
