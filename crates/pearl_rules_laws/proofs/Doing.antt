-- What starts and variables come to.
use Rattle.std.proofs.Common.{◌≡◌, ℕ, ◌<◌, [], ◌∷◌, ◌++◌, false, Some, None, length, slice_get, refl, ap, subst, ◌∙◌}
use Rattle.std.proofs.lemmas.Option.{slice_get_within}
use Rattle.arrayvec.specs.ArrayVec.{ArrayVec}
use Rattle.pearl_value.specs.declared.cell.Cell.{Cell}
use Rattle.pearl_rules.specs.declared.action.Action.TheVariants as action
use Rattle.pearl_rules.specs.declared.action.Start.TheVariants.{Free}
use Rattle.pearl_rules.specs.declared.action.Repeat.TheVariants.{Once}
use Rattle.pearl_rules.specs.declared.action.Answer.TheVariants.{Nothing, One}
use Rattle.pearl_rules.specs.declared.event.Event.TheVariants as event
use Rattle.pearl_rules.specs.declared.row.Mode.TheVariants.{Dormant, Active}
use Rattle.pearl_rules.specs.declared.row.TaskRow.{TaskRow}
use Rattle.pearl_rules.specs.Core.{Core, Happened, cell_or_zero, row_of, mode_of_row, mode_of}
use Rattle.pearl_rules.specs.Effect.{Hears, answering, declared_or_zero, effect}
use Rattle.pearl_rules.specs.Laws.{ChangesTask}
use Rattle.pearl_rules.proofs.Offered.{set-same, set-other, there_at, start_starts}
use Rattle.pearl_rules_laws.specs.Laws.{ChangesSlot}

-- a start that names a priority
pub starts_named : (core : Core) (own t priority : ℕ) → t < length core.tasks → mode_of core t ≡ Dormant →
    ChangesTask core own t (Active priority false) (event.Start t priority ∷ []) (Hears Nothing)
    (effect core own (action.Activate t Free Once (Some priority)))
starts_named core own t priority less dormant = start_starts core own t (Some priority) less dormant

-- and one that names none
pub starts_declared : (core : Core) (own t : ℕ) (row : TaskRow) → row_of core t ≡ Some row → row.mode ≡ Dormant →
    ChangesTask core own t (Active row.declared false) (event.Start t row.declared ∷ []) (Hears Nothing)
    (effect core own (action.Activate t Free Once None))
starts_declared core own t row at dormant =
    subst (λ r. ChangesTask core own t (Active (declared_or_zero r) false) (event.Start t (declared_or_zero r) ∷ [])
    (Hears Nothing) (effect core own (action.Activate t Free Once None))) at
    (start_starts core own t None (slice_get_within core.tasks t row at) (ap mode_of_row at ∙ dormant))

pub write_changes : (core : Core) (own slot : ℕ) (value : Cell) → slot < length core.slots →
    ChangesSlot core own slot value (effect core own (action.Write slot value))
unfolding effect
write_changes core own slot value less =
    let at = there_at core.slots slot less in
    record {
      named = set-same core.slots slot at.0 value at.1;
      others = λ other differ. set-other core.slots slot other value differ;
      rest = refl;
    }

pub read_answers : (core : Core) (own slot : ℕ) (value : Cell) → slice_get core.slots slot ≡ Some value →
    effect core own (action.Read slot) ≡ answering (record core { last = Some own }) (One value)
unfolding effect
read_answers core own slot value at = ap (λ o. answering (record core { last = Some own }) (One (cell_or_zero o))) at

pub put_tells : (core : Core) (own device : ℕ) (text : ArrayVec ℕ) → effect core own (action.Put device text)
    ≡ answering
    (record core { last = Some own; told = core.told ++ (core.moment, Happened (event.Out device text)) ∷ [] }) Nothing
unfolding effect
put_tells core own device text = refl

pub turn_changes_nothing : (core : Core) (own : ℕ) →
    effect core own action.Turn ≡ answering (record core { last = Some own }) Nothing
unfolding effect
turn_changes_nothing core own = refl

pub enter_changes_nothing : (core : Core) (own : ℕ) →
    effect core own action.Enter ≡ answering (record core { last = Some own }) Nothing
unfolding effect
enter_changes_nothing core own = refl
