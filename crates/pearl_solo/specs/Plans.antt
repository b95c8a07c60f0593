-- When a plan begins, by the value that lies for it.
use Rattle.std.specs.Prelude.{ℕ, ◌<◌, ◌^◌, ℤ, pos, int_le, unsigned_abs, Bool, true, false, ◌&&◌, if◌then◌else◌, List, ◌∷◌, Option, Some, None, Result, Ok, Err, length, drop}
use Rattle.pearl_value.specs.declared.cell.Cell.{Cell}
use Rattle.pearl_value.specs.declared.cell.Cell.TheVariants.{Fixed, Clock, Span}
use Rattle.pearl_value.specs.declared.trap.Trap.{Trap}
use Rattle.pearl_value.specs.declared.trap.Trap.TheVariants.{Range}
use Rattle.pearl_rules.specs.declared.action.Action.{Action}
use Rattle.pearl_rules.specs.declared.action.Action.TheVariants as action
use Rattle.pearl_rules.specs.declared.action.Repeat.{Repeat}
use Rattle.pearl_rules.specs.declared.action.Repeat.TheVariants as repeat
use Rattle.pearl_rules.specs.declared.action.Start.{Start}
use Rattle.pearl_rules.specs.declared.action.Start.TheVariants as start
use Rattle.pearl_stack.specs.Frames.{Frame}
use Rattle.pearl_instructions.specs.declared.schedule.StartForm.{StartForm}
use Rattle.pearl_instructions.specs.declared.schedule.StartForm.TheVariants as form
use Rattle.pearl_instructions.specs.declared.instr.Activation.{Activation}
use Rattle.pearl_instructions.specs.declared.schedule.RepeatForm.{RepeatForm}
use Rattle.pearl_instructions.specs.declared.schedule.RepeatForm.TheVariants as again
use Rattle.pearl_instructions.specs.Offers.{start_kinds, repeat_kinds, started}
use Rattle.pearl_instructions.specs.Steps.{Step, taken, acts}
use Rattle.pearl_silent.specs.Steps.{on_top}

-- a length of time that isn't negative, else Range is trapped
abbrev pub if_lasting : ℤ → Start → Result Start Trap
if_lasting time when = if int_le (pos 0) time then Ok when else Err Range

-- none where the value that is needed isn't on top
abbrev pub begins_with : StartForm → List Cell → Option (Result Start Trap)
begins_with form.Free values = Some (Ok start.Free)
begins_with form.At (Clock time ∷ values) = Some (Ok (start.At time))
begins_with form.After (Span time ∷ values) = Some (if_lasting time (start.After time))
begins_with (form.When device) values = Some (Ok (start.When device))
begins_with (form.WhenAfter device) (Span time ∷ values) = Some (if_lasting time (start.WhenAfter device time))
begins_with when values = None

-- the device that a plan names has a small number
abbrev pub NamesSmall : StartForm → Type 0
NamesSmall (form.When device) = device < 2 ^ 32
NamesSmall (form.WhenAfter device) = device < 2 ^ 32
NamesSmall when = Unit {0}

-- an action at a planned time takes the values of its plan off
abbrev pub planned_on : (Start → Action) → StartForm → List Frame → Step
planned_on act form frames = on_top (λ f lower. taken (length (start_kinds form)) f.operands (λ values left.
    started form values f lower (λ when rest. acts (act when) f lower left))) frames

-- a length of time, and a time of day
abbrev pub span_of : Cell → Option ℤ
span_of (Span time) = Some time
span_of x = None

abbrev pub clock_of : Cell → Option ℕ
clock_of (Clock time) = Some time
clock_of x = None

-- how a plan goes on, by the values that lie for it
abbrev pub repeats_with : RepeatForm → List Cell → Option (Result Repeat Trap)
repeats_with again.Once values = Some (Ok repeat.Once)
repeats_with again.All (Span period ∷ values) = Some (if int_le (pos 1) period then Ok (repeat.All period) else Err Range)
repeats_with again.Until (Span period ∷ Clock end ∷ values) = Some (if int_le (pos 1) period then Ok (repeat.Until period end) else Err Range)
repeats_with again.During (Span period ∷ Span time ∷ values) =
    Some (if int_le (pos 1) period && int_le (pos 0) time then Ok (repeat.During period time) else Err Range)
repeats_with form values = None

-- a priority from 1 to 255, where one is given
abbrev pub urgent_with : Bool → List Cell → Option (Result (Option ℕ) Trap)
urgent_with false values = Some (Ok None)
urgent_with true (Fixed len value ∷ values) =
    Some (if int_le (pos 1) value && int_le value (pos 255) then Ok (Some (unsigned_abs value)) else Err Range)
urgent_with true values = None

-- what comes of a value, or the trap before it
abbrev pub then_told : {A B : Type 0} → Option (Result A Trap) → (A → Option (Result B Trap)) → Option (Result B Trap)
then_told None go = None
then_told (Some (Ok x)) go = go x
then_told (Some (Err trap)) go = Some (Err trap)

-- what ACTIVATE offers, by the values that lie for it
abbrev pub activation_of : Activation → List Cell → Option (Result Action Trap)
activation_of a values =
    then_told (begins_with a.start values) (λ when.
    then_told (repeats_with a.repeat (drop (length (start_kinds a.start)) values)) (λ how.
    then_told (urgent_with a.priority (drop (length (repeat_kinds a.repeat)) (drop (length (start_kinds a.start)) values))) (λ priority.
    Some (Ok (action.Activate a.task when how priority)))))
