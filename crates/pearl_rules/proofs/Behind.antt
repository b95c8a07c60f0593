-- How a task stands behind its end, and what is told then: it is dormant, or active anew with the oldest start that it kept.
use Rattle.std.proofs.Common.{◌≡◌, ◌≢◌, ℕ, ◌+◌, ◌<◌, List, [], ◌∷◌, ◌++◌, false, Option, Some, None, length, refl, sym, ap, ◌∙◌, append-nil, append_assoc, arith}
use Rattle.pearl_rules.specs.declared.event.Event.{Event}
use Rattle.pearl_rules.specs.declared.event.Event.TheVariants as event
use Rattle.pearl_rules.specs.declared.row.Kept.{Kept}
use Rattle.pearl_rules.specs.declared.row.Kept.TheVariants as kept
use Rattle.pearl_rules.specs.declared.row.Mode.TheVariants.{Dormant, Active}
use Rattle.pearl_rules.specs.declared.row.TaskRow.{TaskRow}
use Rattle.pearl_rules.specs.Core.{Core, note, row_of, with_row, mode_of_row, mode_of}
use Rattle.pearl_rules.specs.Plans.{on_row, changed_row, priorities, and_one, oldest, kept_in, kept_of, continuation_in, continuation_of, activation_in, activation_of}
use Rattle.pearl_rules.specs.Effect.{finished, again_by, ended_with}
use Rattle.pearl_rules.specs.Laws.{happened_at, mode_behind, kept_behind, events_behind, row_behind}
use Rattle.pearl_rules.proofs.Places.{set-same, set-other}

-- ROWS THAT CHANGE

-- another task's row stays as it is
pub changed-other : (core : Core) (t u : ℕ) (change : TaskRow → TaskRow) → u ≢ t → row_of (changed_row core t change) u ≡ row_of core u
changed-other core t u change differ = by_row (row_of core t)
  where
    by_row : (row : Option TaskRow) → row_of (on_row row core (λ r. with_row core t (change r))) u ≡ row_of core u
    by_row None = refl
    by_row (Some row) = set-other core.tasks t u (change row) differ

-- that of a task that is there is changed
pub changed-here : (core : Core) (t : ℕ) (change : TaskRow → TaskRow) (row : TaskRow) → row_of core t ≡ Some row →
    row_of (changed_row core t change) t ≡ Some (change row)
changed-here core t change row at =
    ap (λ r. row_of (on_row r core (λ x. with_row core t (change x))) t) at ∙ set-same core.tasks t row (change row) at

-- and nothing where there is none
pub changed-none : (core : Core) (t : ℕ) (change : TaskRow → TaskRow) → row_of core t ≡ None → changed_row core t change ≡ core
changed-none core t change none = ap (λ r. on_row r core (λ x. with_row core t (change x))) none

-- a task's row is all that changes
pub row_alone : (core : Core) (t : ℕ) (change : TaskRow → TaskRow) → changed_row core t change ≡ record core { tasks = (changed_row core t change).tasks }
row_alone core t change = by_row (row_of core t)
  where
    by_row : (row : Option TaskRow) → on_row row core (λ r. with_row core t (change r))
        ≡ record core { tasks = (on_row row core (λ r. with_row core t (change r))).tasks }
    by_row None = refl
    by_row (Some row) = refl

-- BEHIND AN END

-- the row then, if there is one
abbrev pub behind : Option TaskRow → Option TaskRow
behind None = None
behind (Some row) = Some (row_behind (oldest row.kept) row)

-- an end
abbrev pub ends_row : TaskRow → TaskRow
ends_row row = record row { mode = Dormant; kept = kept.Nothing; continuation = None }

-- a start behind it
abbrev starts_row : ℕ → Kept → TaskRow → TaskRow
starts_row first others row = record row { mode = Active first false; kept = others }

-- the row of the task that ends
pub ended-here : (core : Core) (t : ℕ) (e : Event) → row_of (ended_with core t e) t ≡ behind (row_of core t)
ended-here core t e = by_row (row_of core t) refl
  where
    by_next : (next : Option (ℕ × Kept)) (row : TaskRow) → row_of (finished core t) t ≡ Some (ends_row row) →
        row_of (again_by next (note (finished core t) e) t) t ≡ Some (row_behind next row)
    by_next None row at = at
    by_next (Some (first, others)) row at = changed-here (note (finished core t) e) t (starts_row first others) (ends_row row) at

    by_row : (row : Option TaskRow) → row_of core t ≡ row → row_of (ended_with core t e) t ≡ behind row
    by_row None at =
        ap (λ r. row_of (again_by (oldest (kept_in r)) (note (finished core t) e) t) t) at
        ∙ ap (λ c. row_of c t) (changed-none core t ends_row at)
        ∙ at
    by_row (Some row) at =
        ap (λ r. row_of (again_by (oldest (kept_in r)) (note (finished core t) e) t) t) at
        ∙ by_next (oldest row.kept) row (changed-here core t ends_row row at)

-- the row of another
again-other : (next : Option (ℕ × Kept)) (core : Core) (t u : ℕ) → u ≢ t → row_of (again_by next core t) u ≡ row_of core u
again-other None core t u differ = refl
again-other (Some (first, others)) core t u differ = changed-other core t u (starts_row first others) differ

pub ended-other : (core : Core) (t u : ℕ) (e : Event) → u ≢ t → row_of (ended_with core t e) u ≡ row_of core u
ended-other core t u e differ =
    again-other (oldest (kept_of core t)) (note (finished core t) e) t u differ ∙ changed-other core t u ends_row differ

-- how it stands
pub ended-mode : (core : Core) (t : ℕ) (e : Event) → mode_of (ended_with core t e) t ≡ mode_behind (oldest (kept_of core t))
ended-mode core t e = ap mode_of_row (ended-here core t e) ∙ by_row (row_of core t)
  where
    by_row : (row : Option TaskRow) → mode_of_row (behind row) ≡ mode_behind (oldest (kept_in row))
    by_row None = refl
    by_row (Some row) = refl

-- what it keeps
pub ended-kept : (core : Core) (t : ℕ) (e : Event) → kept_of (ended_with core t e) t ≡ kept_behind (oldest (kept_of core t))
ended-kept core t e = ap kept_in (ended-here core t e) ∙ by_row (row_of core t)
  where
    by_row : (row : Option TaskRow) → kept_in (behind row) ≡ kept_behind (oldest (kept_in row))
    by_row None = refl
    by_row (Some row) = refl

-- it goes on by no plan
pub ended-goes_on : (core : Core) (t : ℕ) (e : Event) → continuation_of (ended_with core t e) t ≡ None
ended-goes_on core t e = ap continuation_in (ended-here core t e) ∙ by_row (row_of core t)
  where
    by_row : (row : Option TaskRow) → continuation_in (behind row) ≡ None
    by_row None = refl
    by_row (Some row) = refl

-- and the plan by which it is started stays
pub ended-starts : (core : Core) (t : ℕ) (e : Event) → activation_of (ended_with core t e) t ≡ activation_of core t
ended-starts core t e = ap activation_in (ended-here core t e) ∙ by_row (row_of core t)
  where
    by_row : (row : Option TaskRow) → activation_in (behind row) ≡ activation_in row
    by_row None = refl
    by_row (Some row) = refl

-- WHAT IS TOLD

-- the core with these rows, and this told now behind all that was told
abbrev telling : List TaskRow → List Event → Core → Core
telling rows events core = record core { tasks = rows; told = core.told ++ happened_at core.moment events }

again-rest : (next : Option (ℕ × Kept)) (core : Core) (t : ℕ) →
    again_by next core t ≡ telling (again_by next core t).tasks (events_behind t next) core
again-rest None core t = ap (λ told. let c : Core = record core { told = told } in c) (sym (append-nil core.told))
again-rest (Some (first, others)) core t = ap (λ c. note c (event.Start t first)) (row_alone core t (starts_row first others))

pub ended-rest : (core : Core) (t : ℕ) (e : Event) →
    ended_with core t e ≡ telling (ended_with core t e).tasks (e ∷ events_behind t (oldest (kept_of core t))) core
ended-rest core t e =
    let next = oldest (kept_of core t) in
    let rows = (ended_with core t e).tasks in
    again-rest next (note (finished core t) e) t
    ∙ ap (λ c. telling rows (events_behind t next) (note c e)) (row_alone core t ends_row)
    ∙ ap (λ told. let c : Core = record core { tasks = rows; told = told } in c)
    (append_assoc core.told (happened_at core.moment (e ∷ [])) (happened_at core.moment (events_behind t next)))

-- WHAT IS KEPT

-- the oldest start that is kept, and the others
pub oldest-is : (kept : Kept) (first : ℕ) (others : List ℕ) → priorities kept ≡ first ∷ others →
    (rest : Kept) × (oldest kept ≡ Some (first, rest)) × (priorities rest ≡ others)
oldest-is kept.Nothing first others is = let never : ⊥ = cc in absurd never
oldest-is (kept.One a) first others is =
    let same : a ≡ first = cc in let rest : [] ≡ others = cc in (kept.Nothing, ap (λ x. Some (x, kept.Nothing)) same, rest)
oldest-is (kept.Two a b) first others is =
    let same : a ≡ first = cc in let rest : b ∷ [] ≡ others = cc in (kept.One b, ap (λ x. Some (x, kept.One b)) same, rest)
oldest-is (kept.Three a b c) first others is =
    let same : a ≡ first = cc in let rest : b ∷ c ∷ [] ≡ others = cc in (kept.Two b c, ap (λ x. Some (x, kept.Two b c)) same, rest)

-- there is room for one more
pub one_more : (kept : Kept) (priority : ℕ) → length (priorities kept) < 3 →
    (more : Kept) × (and_one kept priority ≡ Some more) × (priorities more ≡ priorities kept ++ priority ∷ [])
    × (length (priorities more) ≡ length (priorities kept) + 1)
one_more kept.Nothing priority room = (kept.One priority, refl, refl, refl)
one_more (kept.One a) priority room = (kept.Two a priority, refl, refl, refl)
one_more (kept.Two a b) priority room = (kept.Three a b priority, refl, refl, refl)
one_more (kept.Three a b c) priority room = let never : ⊥ = omega (arith, room) in absurd never

-- or none
pub no_room : (kept : Kept) (priority : ℕ) → length (priorities kept) ≡ 3 → and_one kept priority ≡ None
no_room kept.Nothing priority three = let never : ⊥ = omega (arith, three) in absurd never
no_room (kept.One a) priority three = let never : ⊥ = omega (arith, three) in absurd never
no_room (kept.Two a b) priority three = let never : ⊥ = omega (arith, three) in absurd never
no_room (kept.Three a b c) priority three = refl
