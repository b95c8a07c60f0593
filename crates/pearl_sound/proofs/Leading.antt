-- Where each thing that a name means is there, names lead to what is there.
use Rattle.std.specs.Prelude.{◌≡◌, ℕ, ◌<◌, Bool, true, false, List, [], ◌∷◌, ℤ, Option, Some, None, option_map, unwrap_or, slice_get}
use Rattle.std.specs.Option.{option_and_then}
use Rattle.std.proofs.Common.{ap, sym, subst, true≢false}
use Rattle.std.proofs.lemmas.Option.{none-some}
use Rattle.pearl_value.specs.declared.kind.Kind.{Kind}
use Rattle.pearl_tree.specs.declared.name.Name.{Name}
use Rattle.pearl_tree.specs.Names.{name_text}
use Rattle.pearl_names.specs.declared.meaning.Found.{Found}
use Rattle.pearl_names.specs.declared.scope.View.{View}
use Rattle.pearl_names.specs.Found.{found_from}
use Rattle.pearl_names.specs.Shapes.{Shape, OfKind}
use Rattle.pearl_names.specs.Tables.{Variable, Control, OwnParameter, NewType, Semaphore, Interrupt, AlphicDation, BasicDation, Task, Procedure, Sense, sense_at, sense_from}
use Rattle.pearl_check_expr.specs.Standings.{Standing, Broken, Open, variable_start}
use Rattle.pearl_program.specs.declared.expression.Target.{Target}
use Rattle.pearl_program.specs.Typing.{Around}
use Rattle.pearl_program.specs.SoundStatements.{IsIf, IsTaskNumber, IsInterrupt}
use Rattle.pearl_resolve.specs.Expressions.{Numbered, Meant, meant, meant_at, number_at, number_of, begun, walk_of, walk_from}
use Rattle.pearl_sound.specs.SoundNames.{IsThere, Follows, Reaches, IsCallee, IsTerminal, IsChannel, is_control, LeadNames}
use Rattle.pearl_sound.proofs.SoundParts.{some_one}

-- what a name means is there
abbrev pub Leads : Around → Meant → Type 0
Leads around thing = by thing.sense
  where
    by : Sense → Type 0
    by (Variable None inv) = Unit {0}
    by (Variable (Some form) inv) = Reaches around false (walk_of thing)
    by (Control kind) = Reaches around true (walk_of thing)
    by (OwnParameter parameter) = Reaches around false (walk_of thing)
    by NewType = Unit {0}
    by Semaphore = thing.number < around.semaphores
    by Interrupt = IsInterrupt around thing.number
    by (AlphicDation direction) = IsTerminal direction (slice_get around.devices thing.number)
    by (BasicDation direction None) = Unit {0}
    by (BasicDation direction (Some kind)) = IsChannel direction kind (slice_get around.devices thing.number)
    by Task = IsTaskNumber around thing.number
    by (Procedure parameters result) = IsCallee around thing.number parameters result

abbrev pub thing_of : Sense → (scope number : ℕ) → Meant
thing_of sense scope number = record { sense = sense; scope = scope; number = number }

abbrev number_if : Option Meant → ℕ
number_if thing = unwrap_or (option_map (λ (thing : Meant). thing.number) thing) 0

led_thing : (around : Around) (scope number : ℕ) (here : Option Sense) (sense : Sense) →
    IsIf (Leads around) (option_map (λ s. thing_of s scope number) here) → here ≡ Some sense →
    (at : ℕ) × Leads around (thing_of sense at (number_if (option_map (λ s. thing_of s scope number) here)))
led_thing around scope number None sense leads is = absurd (none-some sense is)
led_thing around scope number (Some here) sense leads is =
    (scope, subst (λ s. Leads around (thing_of s scope number)) (some_one is) leads)

led_found : (numbered : Numbered) (around : Around) (found : Option Found) (sense : Sense) →
    IsIf (Leads around) (option_and_then (meant_at numbered) found) → option_and_then (sense_at numbered.table.senses) found ≡ Some sense →
    (at : ℕ) × Leads around (thing_of sense at (number_if (option_and_then (meant_at numbered) found)))
led_found numbered around None sense leads is = absurd (none-some sense is)
led_found numbered around (Some found) sense leads is =
    led_thing around found.scope (number_at numbered.numbers found) (sense_at numbered.table.senses found) sense leads is

abbrev is_open : Standing → Bool
is_open Broken = false
is_open (Open dimensions shape) = true

closed : {X : Type 0} {dimensions : ℕ} {shape : Shape} → Broken ≡ Open dimensions shape → X
closed is = absurd (true≢false (sym (ap is_open is)))

variable_thing : (around : Around) (name : Name) (scope number dimensions : ℕ) (shape : Shape) (here : Option Sense) →
    IsIf (Leads around) (option_map (λ s. thing_of s scope number) here) → (variable_start name here).standing ≡ Open dimensions shape →
    Reaches around (is_control here) (walk_from (option_map (λ s. thing_of s scope number) here))
variable_thing around name scope number dimensions shape (Some (Variable (Some form) inv)) leads is = leads
variable_thing around name scope number dimensions shape (Some (Control kind)) leads is = leads
variable_thing around name scope number dimensions shape (Some (OwnParameter parameter)) leads is = leads
variable_thing around name scope number dimensions shape other leads is = closed is

variable_found : (numbered : Numbered) (around : Around) (name : Name) (dimensions : ℕ) (shape : Shape) (found : Option Found) →
    IsIf (Leads around) (option_and_then (meant_at numbered) found) →
    (variable_start name (option_and_then (sense_at numbered.table.senses) found)).standing ≡ Open dimensions shape →
    Reaches around (is_control (option_and_then (sense_at numbered.table.senses) found))
    (walk_from (option_and_then (meant_at numbered) found))
variable_found numbered around name dimensions shape None leads is = closed is
variable_found numbered around name dimensions shape (Some found) leads is =
    variable_thing around name found.scope (number_at numbered.numbers found) dimensions shape (sense_at numbered.table.senses found) leads is

pub lead_all : (numbered : Numbered) (view : View) (around : Around) →
    ((name : Name) → IsIf (Leads around) (meant numbered view name)) → LeadNames numbered view around
lead_all numbered view around leads = record {
  values = record {
    variables = λ name dimensions shape is.
        variable_found numbered around name dimensions shape (found_from numbered.table.names view (name_text name)) (leads name) is;
    semaphores = λ name is. (led name Semaphore is).1;
    procedures = λ name parameters result is. (led name (Procedure parameters result) is).1;
  };
  tasks = λ name is. (led name Task is).1;
  interrupts = λ name is. (led name Interrupt is).1;
  terminals = λ name direction is. (led name (AlphicDation direction) is).1;
  channels = λ name direction kind is. (led name (BasicDation direction (Some kind)) is).1;
}
  where
    led : (name : Name) (sense : Sense) → sense_from numbered.table view (name_text name) ≡ Some sense →
        (at : ℕ) × Leads around (thing_of sense at (number_of numbered view name))
    led name sense is = led_found numbered around (found_from numbered.table.names view (name_text name)) sense (leads name) is

-- a variable of a kind has no components
pub reaches : (around : Around) (control : Bool) (target : Target) (bounds : List (ℤ × ℤ)) (kind : Kind) →
    IsThere around control (begun target bounds (OfKind kind)) → (path : List Name) →
    Follows around control (begun target bounds (OfKind kind)) path
reaches around control target bounds kind there [] = there
reaches around control target bounds kind there (name ∷ path) = reaches around control target bounds kind there path
