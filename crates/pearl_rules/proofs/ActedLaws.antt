-- Whoever acted last is a task.
use Rattle.std.proofs.Common.{◌≡◌, ℕ, ◌<◌, ◌++◌, ◌∷◌, [], List, Bool, true, false, Option, Some, None, IfSome, Result, Ok, Err, length, nat_le, nat_lt, refl, sym, subst}
use Rattle.std.proofs.lemmas.Bool.{and_parts, false≢true}
use Rattle.std.proofs.lemmas.Option.{slice_get_within}
use Rattle.pearl_value.specs.declared.cell.Cell.{Cell}
use Rattle.pearl_value.specs.declared.kind.Kind.{Kind}
use Rattle.pearl_value.specs.declared.trap.Trap.{Trap}
use Rattle.pearl_value.specs.Conversions.{converted}
use Rattle.pearl_rules.specs.declared.action.Action.{Action}
use Rattle.pearl_rules.specs.declared.action.Action.TheVariants as action
use Rattle.pearl_rules.specs.declared.entry.Entry.{Entry}
use Rattle.pearl_rules.specs.declared.entry.Entry.TheVariants as entry
use Rattle.pearl_rules.specs.declared.event.Event.TheVariants as event
use Rattle.pearl_rules.specs.declared.row.TaskRow.{TaskRow}
use Rattle.pearl_rules.specs.Core.{Core, Channel, Switch, Bytes, Values, Outward, note, row_of}
use Rattle.pearl_rules.specs.Plans.{millisecond}
use Rattle.pearl_rules.specs.Devices.{channel_of, with_channel, bytes_at, terminal_room, input_room, joined, with_bytes, with_value_by, without_value_by, arrived}
use Rattle.pearl_rules.specs.Effect.{effect}
use Rattle.pearl_rules.specs.Pick.{Offered, is_possible, is_ready_row, is_as_urgent, is_eligible, pick, can_turn, last_if, turned}
use Rattle.pearl_rules.specs.Slots.{HasLast}
use Rattle.pearl_rules.proofs.Serving.{Closed, ClosedAtEnds, KeepsValues, either, effect-kept, millisecond-kept, interrupted-kept}
use Rattle.pearl_rules.proofs.EffectLaws.{AnyPriority, AnyPlan, any_continuation, any_activation, any_kept, any_brings, effect-length, millisecond-length, arrived-length}

-- this one acted last, or nobody
module _ (acted : Option ℕ) where
  abbrev IsLast : Core → Type 0
  IsLast core = core.last ≡ acted

  last_closed : Closed AnyPriority AnyPlan IsLast
  last_closed = record {
    told = λ core e is. is;
    stands = λ core t row mode kept at stays keeps is. is;
    goes_on = λ core t row plan at lawful is. is;
    starts = λ core t row plan at lawful is. is;
    going = λ core t row at is. any_continuation row.continuation;
    starting = λ core t row at is. any_activation row.activation;
    keeping = λ core t row at is. any_kept row.kept;
    begins = λ core plan lawful. tt;
  }

  last_at_ends : ClosedAtEnds IsLast
  last_at_ends = record { ends = λ core t row at is. is; prevents = λ core t row at is. is }

  last_values : (core : Core) (asked : Action) → IsLast core → KeepsValues IsLast core asked
  last_values core (action.Write slot value) is = is
  last_values core (action.Request list) is = is
  last_values core (action.Release list) is = λ below. is
  last_values core (action.Try s) is = is
  last_values core (action.Enable device) is = is
  last_values core (action.Disable device) is = is
  last_values core (action.Get device format kinds) is = λ used. is
  last_values core (action.Take device) is = by_channel (channel_of core device)
    where
      by_channel : (channel : Option Channel) → IsLast (without_value_by channel core device)
      by_channel (Some (Values kind pending)) = is
      by_channel (Some (Switch enabled)) = is
      by_channel (Some (Bytes pending)) = is
      by_channel (Some Outward) = is
      by_channel None = is
  last_values core other is = tt

  last_bytes : (core : Core) (device : ℕ) (text : List ℕ) → IsLast core → IsLast (with_bytes core device text)
  last_bytes core device text is =
      either IsLast (nat_le (length (bytes_at core device ++ text)) terminal_room)
      (with_channel core device (Bytes (bytes_at core device ++ text))) (note core (event.Lost device)) is is

  last_joined : (core : Core) (device : ℕ) (kind : Kind) (pending : List Cell) (value : Result Cell Trap) →
      IsLast core →
      IsLast (joined core device kind pending value)
  last_joined core device kind pending (Err trap) is = is
  last_joined core device kind pending (Ok x) is = is

  last_arrived : (core : Core) (come : Entry) → IsLast core → IsLast (arrived core come)
  last_arrived core (entry.Irpt device) is = interrupted-kept AnyPriority AnyPlan IsLast last_closed core device is
  last_arrived core (entry.Chars device text) is = last_bytes core device text.items is
  last_arrived core (entry.Line device text) is = last_bytes core device (text.items ++ 10 ∷ []) is
  last_arrived core (entry.Value device x) is = by_channel (channel_of core device)
    where
      by_channel : (channel : Option Channel) → IsLast (with_value_by channel core device x)
      by_channel (Some (Values kind pending)) =
          either IsLast (nat_lt (length pending) input_room) (joined core device kind pending (converted x kind))
          (note core (event.Lost device))
          (last_joined core device kind pending (converted x kind) is) is
      by_channel (Some (Switch enabled)) = is
      by_channel (Some (Bytes pending)) = is
      by_channel (Some Outward) = is
      by_channel None = is
  last_arrived core (entry.Clock time) is = is
  last_arrived core other is = is

-- one that is a task among as many tasks
last_among : (core other : Core) → other.last ≡ core.last → length other.tasks ≡ length core.tasks → HasLast core →
    HasLast other
last_among core other last size has =
    subst (λ n. IfSome other.last (λ t. t < n)) (sym size)
    (subst (λ o. IfSome o (λ t. t < length core.tasks)) (sym last) has)

-- every action
pub effect-last : (core : Core) (own : ℕ) (action : Action) → own < length core.tasks →
    HasLast (effect core own action).core
effect-last core own asked there =
    let acted : Core = record core { last = Some own } in
    last_among acted (effect core own asked).core
    (effect-kept AnyPriority AnyPlan (IsLast (Some own)) (last_closed (Some own))
    (last_at_ends (Some own)) core own asked (any_brings core asked)
    (last_values (Some own) acted asked refl) refl) (effect-length core own asked) there

-- every turn, every millisecond and whatever comes in
pub turned-last : (core : Core) (offers : Offered) (t : ℕ) → HasLast core → HasLast (turned core offers t)
turned-last core offers t has = by_test (can_turn core offers t) refl
  where
    eligible : can_turn core offers t ≡ true → is_eligible core offers t ≡ true
    eligible is = (and_parts (is_eligible core offers t) (is_as_urgent core (pick core offers) t) is).0

    by_row : (row : Option TaskRow) → row_of core t ≡ row → is_ready_row row (is_possible core (offers t)) ≡ true →
        t < length core.tasks
    by_row None at ready = absurd (false≢true ready)
    by_row (Some row) at ready = slice_get_within core.tasks t row at

    by_test : (able : Bool) → can_turn core offers t ≡ able → HasLast (last_if able core t)
    by_test true is = by_row (row_of core t) refl (eligible is)
    by_test false is = has

pub millisecond-last : (core : Core) → HasLast core → HasLast (millisecond core)
millisecond-last core has =
    last_among core (millisecond core) (millisecond-kept AnyPriority AnyPlan (IsLast core.last)
    (last_closed core.last) core refl)
    (millisecond-length core) has

pub arrived-last : (core : Core) (come : Entry) → HasLast core → HasLast (arrived core come)
arrived-last core come has =
    last_among core (arrived core come) (last_arrived core.last core come refl) (arrived-length core come) has
