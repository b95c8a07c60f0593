-- What an action does to a task of which it changes the mode or what it keeps.
use Rattle.std.proofs.Common.{◌≡◌, ℕ, ◌<◌, [], ◌∷◌, Bool, true, false, Option, Some, None, unwrap_or, length, sym, ap, subst, ◌∙◌}
use Rattle.pearl_rules.specs.declared.action.Action.TheVariants as action
use Rattle.pearl_rules.specs.declared.action.Start.TheVariants.{Free}
use Rattle.pearl_rules.specs.declared.action.Repeat.TheVariants.{Once}
use Rattle.pearl_rules.specs.declared.action.Answer.TheVariants.{Nothing}
use Rattle.pearl_rules.specs.declared.event.Event.TheVariants as event
use Rattle.pearl_rules.specs.declared.row.Kept.{Kept}
use Rattle.pearl_rules.specs.declared.row.Kept.TheVariants as kept
use Rattle.pearl_rules.specs.declared.row.Mode.{Mode}
use Rattle.pearl_rules.specs.declared.row.Mode.TheVariants.{Dormant, Active}
use Rattle.pearl_rules.specs.declared.row.TaskRow.{TaskRow}
use Rattle.pearl_rules.specs.Core.{Core, row_of, with_row, mode_of_row}
use Rattle.pearl_rules.specs.Plans.{priorities, and_one, marked_mode, with_mark}
use Rattle.pearl_rules.specs.Effect.{answering, effect, declared_or_zero, priority_or_declared, stopped_by, stopped_tasks}
use Rattle.pearl_rules.proofs.Offered.{one_more, no_room}
use Rattle.pearl_rules_laws.specs.Plans.{ChangesRow, KeepsOneMore, mode_after, kept_after, late_event, start_events}
use Rattle.pearl_rules_laws.proofs.Steps.{same_row, began, mark_is, started_is}
use Rattle.pearl_rules_laws.proofs.Planning.{acted, changes_by, changes_silently}

module _ (core : Core) (own t : ℕ) (row : TaskRow) (at : row_of core t ≡ Some row) where
  -- a start now, with this priority
  start_is : (named : Option ℕ) →
      ChangesRow (acted core own) (effect core own (action.Activate t Free Once named)).core t
      (began (Some (priority_or_declared core t named)) row)
      (start_events t (Some (priority_or_declared core t named)) row.mode row.kept)
  unfolding effect
  start_is named =
      let priority = priority_or_declared core t named in
      changes_by (acted core own) _ t row (began (Some priority) row)
      (start_events t (Some priority) row.mode row.kept) at (started_is (acted core own) t row at priority)

  -- in this mode
  start_in : (mode : Mode) (named : Option ℕ) → row.mode ≡ mode →
      ChangesRow (acted core own) (effect core own (action.Activate t Free Once named)).core t (record row {
        mode = mode_after false (Some (priority_or_declared core t named)) mode;
        kept = kept_after (Some (priority_or_declared core t named)) mode row.kept;
      }) (start_events t (Some (priority_or_declared core t named)) mode row.kept)
  start_in mode named is =
      subst (λ mode. ChangesRow (acted core own) (effect core own (action.Activate t Free Once named)).core t (record row {
        mode = mode_after false (Some (priority_or_declared core t named)) mode;
        kept = kept_after (Some (priority_or_declared core t named)) mode row.kept;
      }) (start_events t (Some (priority_or_declared core t named)) mode row.kept)) is (start_is named)

  start_dormant : (named : Option ℕ) → row.mode ≡ Dormant →
      ChangesRow (acted core own) (effect core own (action.Activate t Free Once named)).core t
      (record row { mode = Active (priority_or_declared core t named) false; kept = kept.Nothing })
      (event.Start t (priority_or_declared core t named) ∷ [])
  start_dormant named dormant = start_in Dormant named dormant

  pub start_named : (priority : ℕ) → row.mode ≡ Dormant →
      ChangesRow (acted core own) (effect core own (action.Activate t Free Once (Some priority))).core t
      (record row { mode = Active priority false; kept = kept.Nothing }) (event.Start t priority ∷ [])
  start_named priority dormant = start_dormant (Some priority) dormant

  pub start_declared : row.mode ≡ Dormant →
      ChangesRow (acted core own) (effect core own (action.Activate t Free Once None)).core t
      (record row { mode = Active row.declared false; kept = kept.Nothing }) (event.Start t row.declared ∷ [])
  start_declared dormant =
      subst (λ found. ChangesRow (acted core own) (effect core own (action.Activate t Free Once None)).core t
      (record row { mode = Active (declared_or_zero found) false; kept = kept.Nothing }) (event.Start t (declared_or_zero found) ∷ [])) at
      (start_dormant None dormant)

  -- a start of an active task, where this is what it keeps then
  start_late : (named : Option ℕ) (priority : ℕ) (suspended : Bool) → row.mode ≡ Active priority suspended →
      (more : Option Kept) → and_one row.kept (priority_or_declared core t named) ≡ more →
      ChangesRow (acted core own) (effect core own (action.Activate t Free Once named)).core t
      (record row { kept = unwrap_or more row.kept }) (late_event t more ∷ [])
  start_late named priority suspended active more is =
      subst (λ held. ChangesRow (acted core own) (effect core own (action.Activate t Free Once named)).core t
      (record row { kept = unwrap_or held row.kept }) (late_event t held ∷ [])) is
      (subst (λ mode. ChangesRow (acted core own) (effect core own (action.Activate t Free Once named)).core t
      (record row { mode = mode; kept = unwrap_or (and_one row.kept (priority_or_declared core t named)) row.kept })
      (late_event t (and_one row.kept (priority_or_declared core t named)) ∷ [])) (sym active)
      (start_in (Active priority suspended) named active))

  pub start_overruns : (named : Option ℕ) (priority : ℕ) (suspended : Bool) → row.mode ≡ Active priority suspended →
      length (priorities row.kept) ≡ 3 →
      ChangesRow (acted core own) (effect core own (action.Activate t Free Once named)).core t row
      (event.Overrun t ∷ [])
  start_overruns named priority suspended active three =
      start_late named priority suspended active None (no_room row.kept (priority_or_declared core t named) three)

  pub start_kept : (named : Option ℕ) (priority : ℕ) (suspended : Bool) → row.mode ≡ Active priority suspended →
      length (priorities row.kept) < 3 →
      KeepsOneMore (acted core own) (effect core own (action.Activate t Free Once named)).core t row (priority_or_declared core t named)
  start_kept named priority suspended active room =
      let more = one_more row.kept (priority_or_declared core t named) room in
      record { more = more.0; last = more.2; changes = start_late named priority suspended active (Some more.0) more.1 }

  -- an active task's mark
  marked_is : (priority : ℕ) (before suspended : Bool) → row.mode ≡ Active priority before →
      ChangesRow (acted core own) (with_mark (acted core own) t suspended) t (record row {
        mode =
            Active priority suspended;
      }) []
  marked_is priority before suspended active =
      changes_silently (acted core own) (with_mark (acted core own) t suspended) t row (record row {
        mode =
            Active priority suspended;
      }) at
      (mark_is (acted core own) t row at suspended
      ∙ ap (λ mode. with_row (acted core own) t (record row { mode = marked_mode suspended mode })) active)

  -- a dormant task has none
  marked_none : (suspended : Bool) → row.mode ≡ Dormant → with_mark (acted core own) t suspended ≡ acted core own
  marked_none suspended dormant =
      mark_is (acted core own) t row at suspended
      ∙ ap (λ mode. with_row (acted core own) t (record row { mode = marked_mode suspended mode })) dormant
      ∙ ap (λ mode. with_row (acted core own) t (record row { mode = mode })) (sym dormant)
      ∙ same_row (acted core own) t row at

  pub suspend_marks : (priority : ℕ) (before : Bool) → row.mode ≡ Active priority before →
      ChangesRow (acted core own) (effect core own (action.Suspend t)).core t (record row {
        mode =
            Active priority true;
      }) []
  unfolding effect
  suspend_marks priority before active = marked_is priority before true active

  pub continue_marks : (priority : ℕ) (before : Bool) → row.mode ≡ Active priority before →
      ChangesRow (acted core own) (effect core own (action.Continue t Free)).core t (record row {
        mode =
            Active priority false;
      }) []
  unfolding effect
  continue_marks priority before active = marked_is priority before false active

  pub suspend_dormant : row.mode ≡ Dormant → effect core own (action.Suspend t) ≡ answering (acted core own) Nothing
  unfolding effect
  suspend_dormant dormant = ap (λ c. answering c Nothing) (marked_none true dormant)

  pub continue_dormant : row.mode ≡ Dormant →
      effect core own (action.Continue t Free) ≡ answering (acted core own) Nothing
  unfolding effect
  continue_dormant dormant = ap (λ c. answering c Nothing) (marked_none false dormant)

  pub terminate_dormant : row.mode ≡ Dormant → (effect core own (action.Terminate t)).core ≡ acted core own
  unfolding effect
  terminate_dormant dormant = ap (λ mode. stopped_by mode (acted core own) t) (ap mode_of_row at ∙ dormant)

  pub terminate_none : row.mode ≡ Dormant → (effect core own (action.Terminate t)).ended ≡ []
  unfolding effect
  terminate_none dormant = ap (λ mode. stopped_tasks mode t) (ap mode_of_row at ∙ dormant)
