-- How plans are spelled.
use Rattle.std.specs.Prelude.{ℕ, List, [], ◌∷◌, Option, Some, None}
use Rattle.pearl_fields.specs.Codec.{Codec, number, nothing, shaped, pair, tagged}
use Rattle.pearl_records.specs.declared.record.EndRecord.{EndRecord}
use Rattle.pearl_records.specs.declared.record.EndRecord.TheVariants.{Never, Until, During}
use Rattle.pearl_records.specs.declared.record.SeriesRecord.{SeriesRecord}
use Rattle.pearl_records.specs.declared.record.PlanRecord.{PlanRecord}
use Rattle.pearl_records.specs.declared.record.ActivationRecord.{ActivationRecord}
use Rattle.pearl_snap.specs.Lists.{any_byte, maybe_number}

-- ---- ends

abbrev pub end_tag : EndRecord → ℕ
end_tag Never = 0
end_tag (Until time) = 1
end_tag (During time) = 2

abbrev pub end_time : EndRecord → ℕ
end_time Never = 0
end_time (Until time) = time
end_time (During time) = time

abbrev pub end_arms : List (Codec EndRecord)
end_arms = nothing Never ∷ shaped end_time Until number ∷ shaped end_time During number ∷ []

unfoldable pub end : Codec EndRecord
end = tagged 0 end_tag end_arms

-- ---- series

abbrev pub series_fields : SeriesRecord → ℕ × (ℕ × Option ℕ)
series_fields s = (s.first, (s.period, s.last))

abbrev pub made_series : ℕ × (ℕ × Option ℕ) → SeriesRecord
made_series p = record { first = p.0; period = p.1.0; last = p.1.1 }

unfoldable pub series : Codec SeriesRecord
series = shaped series_fields made_series (pair number (λ first. pair number (λ period. maybe_number)))

-- ---- what may be missing: byte 0, or byte 1 and itself

abbrev pub maybe_tag : {X : Type 0} → Option X → ℕ
maybe_tag None = 0
maybe_tag (Some x) = 1

abbrev pub or_else : {X : Type 0} → X → Option X → X
or_else x None = x
or_else x (Some y) = y

abbrev pub maybe_arms : {X : Type 0} → X → Codec X → List (Codec (Option X))
maybe_arms x c = nothing None ∷ shaped (or_else x) Some c ∷ []

abbrev pub maybe : {X : Type 0} → X → Codec X → Codec (Option X)
maybe x c = tagged 0 maybe_tag (maybe_arms x c)

abbrev pub no_series : SeriesRecord
no_series = record { first = 0; period = 0; last = None }

unfoldable pub maybe_series : Codec (Option SeriesRecord)
maybe_series = maybe no_series series

-- ---- plans

abbrev pub Written : Type 0
Written = Option ℕ × (ℕ × (ℕ × (EndRecord × Option SeriesRecord)))

abbrev pub plan_fields : PlanRecord → Written
plan_fields p = (p.when, (p.after, (p.period, (p.end, p.series))))

abbrev pub made_plan : Written → PlanRecord
made_plan p = record { when = p.0; after = p.1.0; period = p.1.1.0; end = p.1.1.1.0; series = p.1.1.1.1 }

unfoldable pub plan : Codec PlanRecord
plan =
    shaped plan_fields made_plan
    (pair maybe_number (λ when. pair number (λ after. pair number (λ period. pair end (λ at. maybe_series)))))

abbrev pub no_plan : PlanRecord
no_plan = record { when = None; after = 0; period = 0; end = Never; series = None }

unfoldable pub continuation : Codec (Option PlanRecord)
continuation = maybe no_plan plan

unfoldable pub started : Codec ActivationRecord
started = shaped (λ a. (a.plan, a.priority)) (λ p. record { plan = p.0; priority = p.1 }) (pair plan (λ p. any_byte))

abbrev pub no_start : ActivationRecord
no_start = record { plan = no_plan; priority = 0 }

unfoldable pub activation : Codec (Option ActivationRecord)
activation = maybe no_start started
