-- What an offered action is by the tables, and what an answer is by the object.
use Rattle.std.proofs.Common.{◌≡◌, ◌<◌, ◌≤◌, ℕ, List, Option, Some, None, length, slice_get, refl, sym, subst, arith}
use Rattle.std.specs.Prelude.{option_and_then}
use Rattle.std.proofs.lemmas.List.{length-map}
use Rattle.std.proofs.lemmas.Option.{same_Some}
use Rattle.pearl_value.specs.declared.cell.Cell.{Cell}
use Rattle.pearl_value.specs.declared.kind.Kind.{Kind}
use Rattle.pearl_value.specs.WellFormed.{IsValueOf}
use Rattle.pearl_rules.specs.declared.action.Action.{Action}
use Rattle.pearl_rules.specs.declared.action.Action.TheVariants as action
use Rattle.pearl_rules.specs.declared.action.Start.{Start}
use Rattle.pearl_rules.specs.declared.action.Start.TheVariants as start
use Rattle.pearl_value.specs.declared.device.Device.{Device}
use Rattle.pearl_value.specs.declared.device.Device.TheVariants as device
use Rattle.pearl_rules.specs.Tables.{input_kind, output_kind, items_or_none}
use Rattle.pearl_format.specs.declared.item.Item.{Item}
use Rattle.pearl_format.specs.Items.{Suits, FitsSome}
use Rattle.pearl_value.specs.declared.kind.Kind.TheVariants as kind
use Rattle.pearl_rules.specs.declared.action.Answer.{Answer}
use Rattle.pearl_rules.specs.declared.action.Answer.TheVariants.{One}
use Rattle.pearl_rules.specs.Slots as rules
use Rattle.pearl_instructions.specs.declared.object.Parts.{Parts as Object}
use Rattle.pearl_instructions.specs.Actions.{IsOf, IsOffered, IsStart, IsOnce, IsLater}
use Rattle.pearl_instructions.specs.Lawful.{IsObject}
use Rattle.pearl_instructions.specs.Objects.{slot_kind}
use Rattle.pearl_instructions.specs.Kinds.{plain_kind, kind_taken}
use Rattle.pearl_instructions.specs.Stacks.{IsOneOf, AreOf}
use Rattle.pearl_instructions.specs.Setups.{entry_of, setup_of}
use Rattle.pearl_instructions.specs.RunLaws.{HearsWhatSuits}
use Rattle.pearl_instructions.proofs.Slots.{all_long}
use Rattle.pearl_instructions.proofs.Tables.{knows_slots}

value_of : (known : Option Kind) (of : Kind) (x : Cell) → known ≡ Some of → IsOf known x → IsValueOf of x
value_of None of x e is = cc
value_of (Some kind) of x e is = subst (λ k. IsValueOf k x) (same_Some kind of e) is

-- the tables have as many tasks as the object
task_there : (o : Object) (task : ℕ) → task < length o.tasks → task < length (setup_of o).tasks
task_there o task less = let count = length-map o.tasks entry_of in omega (arith, less, count)

-- starts that fit the object fit the tables
start_fits : (o : Object) (when : Start) → IsStart o when → rules.IsStart (setup_of o) when
start_fits o start.Free is = tt
start_fits o (start.At time) is = is
start_fits o (start.After time) is = is
start_fits o (start.When interrupt) is = is
start_fits o (start.WhenAfter interrupt time) is = is

once_fits : (o : Object) (when : Start) → IsOnce o when → rules.IsOnce (setup_of o) when
once_fits o start.Free is = tt
once_fits o (start.At time) is = is
once_fits o (start.After time) is = is
once_fits o (start.When interrupt) is = is
once_fits o (start.WhenAfter interrupt time) is = absurd is

later_fits : (o : Object) (when : Start) → IsLater o when → rules.IsLater (setup_of o) when
later_fits o start.Free is = absurd is
later_fits o (start.At time) is = is
later_fits o (start.After time) is = is
later_fits o (start.When interrupt) is = is
later_fits o (start.WhenAfter interrupt time) is = absurd is

-- the items of a format that is there
format_fits : (known : Option (List Item)) (kinds : List Kind) → FitsSome known kinds → Suits (items_or_none known) kinds × (length kinds ≤ 64)
format_fits None kinds is = absurd is
format_fits (Some items) kinds is = (is.suits, is.few)

sent_fits : (known : Option Kind) (value : Cell) → IsOf known value → rules.IsSent known value
sent_fits None value is = absurd is
sent_fits (Some kind) value is = is

pub fits : (o : Object) (action : Action) → IsObject o → IsOffered o action → rules.Fits (setup_of o) action
fits o (action.Read slot) is offered = let long = all_long o.leaves is.leaves in omega (arith, offered, long)
fits o (action.Write slot value) is offered =
    let long = all_long o.leaves is.leaves in
    (omega (arith, offered.0, long), value_of (slot_kind o.leaves slot) (rules.slot_kind (setup_of o) slot) value (knows_slots o slot is offered.0) offered.1)
fits o action.Turn is offered = tt
fits o action.Enter is offered = tt
fits o action.Now is offered = tt
fits o (action.Request semaphores) is offered = record { there = offered.there; distinct = offered.distinct }
fits o (action.Release semaphores) is offered = record { there = offered.there; distinct = offered.distinct }
fits o (action.Try semaphore) is offered = offered
fits o (action.Activate task when how priority) is offered =
    (task_there o task offered.0, start_fits o when offered.1, offered.2, offered.3)
fits o (action.Continue task when) is offered = (task_there o task offered.0, once_fits o when offered.1)
fits o (action.Resume when) is offered = later_fits o when offered
fits o (action.Suspend task) is offered = task_there o task offered
fits o (action.Terminate task) is offered = task_there o task offered
fits o (action.Prevent task) is offered = task_there o task offered
fits o (action.Enable device) is offered = offered
fits o (action.Disable device) is offered = offered
fits o (action.Trigger device) is offered = offered
fits o (action.Put device text) is offered = (offered.takes, offered.printable)
fits o (action.Get device format kinds) is offered =
    let items = format_fits (slice_get o.formats format) kinds.items offered.fits in
    record { gives = offered.gives; are = offered.are; suits = items.0; few = items.1 }
fits o (action.Take device) is offered = offered
fits o (action.Send device value) is offered = sent_fits (output_kind (slice_get o.devices device)) value offered
fits o action.End is offered = tt
fits o (action.Trap trap) is offered = tt

one_of : (known : Option Kind) (of : Kind) (answer : Answer) (x : Cell) → known ≡ Some of → answer ≡ One x → IsValueOf of x → IsOneOf known answer
one_of known of answer x e is value = subst (λ k. IsOneOf k answer) (sym e) (subst (IsOneOf (Some of)) (sym is) value)

-- a value of an input's kind, as the code knows it
taken_of : (known : Option Device) (answer : Answer) → rules.IsOneOf (input_kind known) answer →
    IsOneOf (option_and_then plain_kind (kind_taken known)) answer
taken_of (Some (device.Input number kind)) answer heard = one_of (Some kind) kind answer heard.0 refl heard.1 heard.2
taken_of None answer heard = absurd heard
taken_of (Some (device.Interrupt number)) answer heard = absurd heard
taken_of (Some (device.Terminal number direction)) answer heard = absurd heard
taken_of (Some (device.Output number kind)) answer heard = absurd heard

pub suits : HearsWhatSuits
suits o t (action.Read slot) answer is offered heard =
    one_of (slot_kind o.leaves slot) (rules.slot_kind (setup_of o) slot) answer heard.0 (knows_slots o slot is offered) heard.1 heard.2
suits o t action.Now answer is offered heard = one_of (Some kind.Clock) kind.Clock answer heard.0 refl heard.1 heard.2
suits o t (action.Try semaphore) answer is offered heard = one_of (Some (kind.Bits 1)) (kind.Bits 1) answer heard.0 refl heard.1 heard.2
suits o t (action.Terminate task) answer is offered heard = heard
suits o t (action.Get device format kinds) answer is offered heard =
    subst (AreOf kinds.items) (sym heard.1) heard.2
suits o t (action.Take device) answer is offered heard = taken_of (slice_get o.devices device) answer heard
suits o t action.End answer is offered heard = absurd heard
suits o t (action.Trap trap) answer is offered heard = absurd heard
suits o t action answer is offered heard = heard
